-- A base is read chunk after chunk.
use Rattle.std.proofs.Common.{◌≡◌, ℕ, ◌+◌, ◌/◌, ◌%◌, ◌^◌, true, false, nat_eq, ◌<◌, ◌≤◌, List, [], ◌∷◌, ◌++◌, length, get_or, drop, refl, sym, ap, subst, ◌∙◌, arith}
use Rattle.std.specs.Int.{to_le_bytes, w16}
use Rattle.std.specs.Cmp.{nat_eq_equiv}
use Rattle.std.proofs.lemmas.Bool.{and_from, and_parts, eqb-true, true≢false}
use Rattle.std.proofs.lemmas.List.{append-nil, append_assoc, drop_all, drop_more}
use Rattle.operations.specs.Operation.{Operation}
use Rattle.chunks.specs.Chunks.{IsChunkOf, IsNoChunk, Placed, operations_of}
use Rattle.chunks.proofs.OneChunk.{one_chunk}
use Rattle.note_laws.specs.Note.{Saying}
use Rattle.note_entries.specs.Branches.{is_same_hash}
use Rattle.note_hashes.specs.Hashes.{copied_by}
use Rattle.note.specs.Editing.{last_hash}
use Rattle.vialshoal_c.specs.History.{framed}
use Rattle.vialshoal_c.specs.NoteBeginning.{AddsChunk, AreBaseChunks, BeginsWithChunk, IsBaseOf, copied_after}
use Rattle.vialshoal_c.proofs.Framing.{same_chunk}

-- two hashes are one where their halves are, and there alone
pub same_halves : (a b : ℕ) → is_same_hash a b ≡ true → a ≡ b
same_halves a b e =
    let (high, low) = and_parts (nat_eq (a / 2 ^ 128) (b / 2 ^ 128)) _ e in
    let highs = eqb-true (a / 2 ^ 128) (b / 2 ^ 128) high in
    let lows = eqb-true (a % 2 ^ 128) (b % 2 ^ 128) low in
    omega arith

same_itself : (a : ℕ) → is_same_hash a a ≡ true
same_itself a = and_from _ _ (nat_eq_equiv.refl (a / 2 ^ 128)) (nat_eq_equiv.refl (a % 2 ^ 128))

pub other_halves : (a b : ℕ) → is_same_hash a b ≡ false → a ≡ b → ⊥
other_halves a b e same =
    true≢false (sym (same_itself a) ∙ ap (is_same_hash a) same ∙ e)

-- the hash of the last of all is that of the last of the later ones
hash_on : (before : ℕ) (xs ys : List Saying) → last_hash before (xs ++ ys) ≡ last_hash (last_hash before xs) ys
hash_on before [] ys = refl
hash_on before (s ∷ xs) ys = hash_on s.hash xs ys

-- the messages of all are those of the first ones, and those of the later ones after them
copied_on : (key : List ℕ) (before : ℕ) (xs ys : List Operation) → copied_after key before (xs ++ ys)
    ≡ copied_after key before xs ++ copied_after key (last_hash before (copied_after key before xs)) ys
copied_on key before [] ys = refl
copied_on key before (op ∷ xs) ys =
    ap (λ (l : List Saying). copied_by key 0 before op ∷ l) (copied_on key (copied_by key 0 before op).hash xs ys)

-- ---- the messages of a chunk

-- these were added so far, and the last one has this hash; those from this index on are to come
pub record AreAdded (key : List ℕ) (before : ℕ) (ops : List Operation) (old new : List Saying) (last i : ℕ) : Type 0 where
  pub added : new ++ copied_after key last (drop i ops) ≡ old ++ copied_after key before ops
  pub last_is : last_hash last (copied_after key last (drop i ops)) ≡ last_hash before (copied_after key before ops)

pub none_added : (key : List ℕ) (before : ℕ) (ops : List Operation) (old : List Saying) → AreAdded key before ops old old before 0
none_added key before ops old = record { added = refl; last_is = refl }

pub one_added : (key : List ℕ) (before : ℕ) (ops : List Operation) (old new : List Saying) (last i : ℕ) (d : Operation)
    → i < length ops → AreAdded key before ops old new last i
    → AreAdded key before ops old (new ++ copied_by key 0 last (get_or ops i d) ∷ []) (copied_by key 0 last (get_or ops i d)).hash (i + 1)
one_added key before ops old new last i d lt so =
    let s = copied_by key 0 last (get_or ops i d) in
    let next : copied_after key last (drop i ops) ≡ s ∷ copied_after key s.hash (drop (i + 1) ops) =
    ap (copied_after key last) (drop_more ops i d lt) in
    record {
      added =
          append_assoc new (s ∷ []) (copied_after key s.hash (drop (i + 1) ops))
          ∙ ap (λ (l : List Saying). new ++ l) (sym next) ∙ so.added;
      last_is = ap (last_hash last) (sym next) ∙ so.last_is;
    }

pub all_added : (key : List ℕ) (before : ℕ) (ops : List Operation) (old new : List Saying) (last i : ℕ) → length ops ≤ i
    → AreAdded key before ops old new last i
    → (new ≡ old ++ copied_after key before ops) × (last ≡ last_hash before (copied_after key before ops))
all_added key before ops old new last i end so =
    let none : copied_after key last (drop i ops) ≡ [] = ap (copied_after key last) (drop_all i ops end) in (
      sym (append-nil new) ∙ ap (λ (l : List Saying). new ++ l) (sym none) ∙ so.added,
      ap (last_hash last) (sym none) ∙ so.last_is,
    )

-- ---- chunks

-- the first of these chunks, and the bytes after it
pub record BeginsBase (rest : List ℕ) (chunks : List (List ℕ)) (ops : List Operation) : Type 0 where
  pub chunk : List ℕ
  pub others : List (List ℕ)
  pub text : ℕ
  pub ps : List Placed
  pub more : List Operation
  pub is : IsChunkOf text ps chunk
  pub few : length chunk < 2 ^ 16
  pub cut : rest ≡ to_le_bytes w16 (length chunk) ++ chunk ++ framed others
  pub ops_are : ops ≡ operations_of ps ++ more
  pub others_are : AreBaseChunks others more

begins : (rest : List ℕ) (chunks : List (List ℕ)) (ops : List Operation) → 0 < length rest → rest ≡ framed chunks
    → AreBaseChunks chunks ops → BeginsBase rest chunks ops
begins rest [] ops some is are = let none : length rest ≡ 0 = ap (λ (l : List ℕ). length l) is in absurd (omega arith)
begins rest (chunk ∷ others) ops some is are =
    let (text, ps, more, here, split, after) = are in
    record {
      chunk = chunk;
      others = others;
      text = text;
      ps = ps;
      more = more;
      is = here;
      few = omega (arith, here.short);
      cut = is;
      ops_are = split;
      others_are = after;
    }

none_left : (chunks : List (List ℕ)) (ops : List Operation) → [] ≡ framed chunks → AreBaseChunks chunks ops → ops ≡ []
none_left [] ops is are = are
none_left (chunk ∷ others) ops is are = absurd cc

-- so much of a base was read: these messages, of which the last one has this hash, and these bytes are left
pub record IsReadSoFar (key bytes : List ℕ) (base : List Saying) (last : ℕ) (rest : List ℕ) : Type 0 where
  pub done : List Operation
  pub said : base ≡ copied_after key 0 done
  pub last_is : last ≡ last_hash 0 base
  pub whole : (chunks : List (List ℕ)) (ops : List Operation) → rest ≡ framed chunks → AreBaseChunks chunks ops
      → (all : List (List ℕ)) × (bytes ≡ framed all) × AreBaseChunks all (done ++ ops)
  pub only : (all : List (List ℕ)) (ops : List Operation) → bytes ≡ framed all → AreBaseChunks all ops
      → (chunks : List (List ℕ)) × (more : List Operation) × (rest ≡ framed chunks) × AreBaseChunks chunks more
      × (ops ≡ done ++ more)

pub none_read : (key bytes : List ℕ) → IsReadSoFar key bytes [] 0 bytes
none_read key bytes = record {
  done = [];
  said = refl;
  last_is = refl;
  whole = λ chunks ops is are. (chunks, is, are);
  only = λ all ops is are. (all, ops, is, are, refl);
}

module _ (key bytes : List ℕ) (base : List Saying) (last : ℕ) where
  module _ (rest : List ℕ) (so : IsReadSoFar key bytes base last rest) where
    -- whatever base they are of, this chunk is next in it
    same_begin : (chunks : List (List ℕ)) (more : List Operation) (chunk after : List ℕ) → length chunk < 2 ^ 16
        → rest ≡ to_le_bytes w16 (length chunk) ++ chunk ++ after → (b : BeginsBase rest chunks more)
        → (b.chunk ≡ chunk) × (framed b.others ≡ after)
    same_begin chunks more chunk after few cut b = same_chunk b.chunk chunk (framed b.others) after b.few few (sym b.cut ∙ cut)

    pub one_read : (new : List Saying) (next : ℕ) (chunk after : List ℕ) → 0 < length rest → length chunk < 2 ^ 16
        → rest ≡ to_le_bytes w16 (length chunk) ++ chunk ++ after → AddsChunk key last chunk base new next
        → IsReadSoFar key bytes new next after
    one_read new next chunk after some few cut adds =
        let ops = operations_of adds.ps in
        let before : last ≡ last_hash 0 (copied_after key 0 so.done) = so.last_is ∙ ap (last_hash 0) so.said in
        let ends : next ≡ last_hash 0 new =
        adds.last_is ∙ ap (λ (n : ℕ). last_hash n (copied_after key last ops)) so.last_is
        ∙ sym (hash_on 0 base (copied_after key last ops)) ∙ ap (last_hash 0) (sym adds.added) in
        let all_said : new ≡ copied_after key 0 (so.done ++ ops) =
        adds.added ∙ ap (λ (l : List Saying). l ++ copied_after key last ops) so.said
        ∙ ap (λ (n : ℕ). copied_after key 0 so.done ++ copied_after key n ops) before ∙ sym (copied_on key 0 so.done ops) in
        record {
          done = so.done ++ ops;
          said = all_said;
          last_is = ends;
          whole = λ chunks more is are.
              let w = so.whole (chunk ∷ chunks) (ops ++ more)
              (cut ∙ ap (λ (l : List ℕ). to_le_bytes w16 (length chunk) ++ chunk ++ l) is)
              (adds.text, adds.ps, more, adds.is, refl, are) in
              (w.0, w.1, subst (λ (l : List Operation). AreBaseChunks w.0 l) (sym (append_assoc so.done ops more)) w.2);
          only = λ all every is are.
              let w = so.only all every is are in
              let b = begins rest w.0 w.1 some w.2 w.3 in
              let same = same_begin w.0 w.1 chunk after few cut b in
              let one = one_chunk chunk b.text adds.text b.ps adds.ps (subst (λ (c : List ℕ). IsChunkOf b.text b.ps c) same.0 b.is) adds.is in (
                b.others,
                b.more,
                sym same.1,
                b.others_are,
                w.4 ∙ ap (λ (l : List Operation). so.done ++ l) (b.ops_are ∙ ap (λ (ps : List Placed). operations_of ps ++ b.more) one.1)
                    ∙ sym (append_assoc so.done ops b.more),
              );
        }

    -- bytes that don't begin with a chunk's length and so many bytes are no base's
    pub not_cut : (root : ℕ) (other : List Saying) → 0 < length rest
        → ((chunk after : List ℕ) → BeginsWithChunk rest chunk after → ⊥) → IsBaseOf key root bytes other → ⊥
    not_cut root other some never is =
        let w = so.only is.chunks is.ops is.framed_so is.are in
        let b = begins rest w.0 w.1 some w.2 w.3 in
        never b.chunk (framed b.others) (b.few, b.cut)

    -- nor are those of which a part is no chunk
    pub no_chunk : (root : ℕ) (other : List Saying) (chunk after : List ℕ) → 0 < length rest → length chunk < 2 ^ 16
        → rest ≡ to_le_bytes w16 (length chunk) ++ chunk ++ after → IsNoChunk chunk → IsBaseOf key root bytes other → ⊥
    no_chunk root other chunk after some few cut never is =
        let w = so.only is.chunks is.ops is.framed_so is.are in
        let b = begins rest w.0 w.1 some w.2 w.3 in
        let same = same_begin w.0 w.1 chunk after few cut b in
        never b.text b.ps (subst (λ (c : List ℕ). IsChunkOf b.text b.ps c) same.0 b.is)

  module _ (so : IsReadSoFar key bytes base last []) where
    nothing_more : copied_after key 0 so.done ≡ copied_after key 0 (so.done ++ [])
    nothing_more = ap (copied_after key 0) (sym (append-nil so.done))

    pub all_read : (root : ℕ) → last ≡ root → IsBaseOf key root bytes base
    all_read root ends =
        let w = so.whole [] [] refl refl in
        record {
          chunks = w.0;
          ops = so.done ++ [];
          framed_so = w.1;
          are = w.2;
          said = so.said ∙ nothing_more;
          last = sym so.last_is ∙ ends;
        }

    -- nor are those whose last message has another hash
    pub ends_otherwise : (root : ℕ) (other : List Saying) → (last ≡ root → ⊥) → IsBaseOf key root bytes other → ⊥
    ends_otherwise root other not is =
        let w = so.only is.chunks is.ops is.framed_so is.are in
        let none : w.1 ≡ [] = none_left w.0 w.1 w.2 w.3 in
        let same : is.ops ≡ so.done ++ [] = w.4 ∙ ap (λ (l : List Operation). so.done ++ l) none in
        let said : other ≡ base = is.said ∙ ap (copied_after key 0) same ∙ sym nothing_more ∙ sym so.said in
        not (so.last_is ∙ ap (last_hash 0) (sym said) ∙ is.last)
