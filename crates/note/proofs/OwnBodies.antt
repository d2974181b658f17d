-- A site's own messages, one after the other, can come in a chunk, and are what an entry with their head has.
use Rattle.std.proofs.Common.{◌≡◌, ℕ, suc, ◌+◌, ◌≤◌, inl, inr, true, List, [], ◌∷◌, ◌++◌, length, take, All, Some, Contains, sym, ap, subst, ◌∙◌, arith, eq-eqb}
use Rattle.std.specs.Prelude.{◌==◌, nat_lt, option_map, slice_get}
use Rattle.std.proofs.lemmas.Bool.{and_from, and_parts, cases_Bool, eqb-true}
use Rattle.std.proofs.lemmas.List.Elements.{All-contains, filter_passes}
use Rattle.std.proofs.lemmas.Option.{get_or_from_slice_get, slice_get-map, slice_get_within}
use Rattle.char_files.specs.declared.TheConstants.{MAX_FILE}
use Rattle.operations.specs.Operation.{Operation, appended_len}
use Rattle.operations.specs.Spelling.{HasSpelling}
use Rattle.tree_order.specs.Good.{file_before}
use Rattle.set_laws.specs.Fronts.{front_of}
use Rattle.set_laws.specs.Sets.{AreIdentified}
use Rattle.set_laws.proofs.Lengths.{appended_by}
use Rattle.packed.specs.declared.expected.Expected.{Expected}
use Rattle.packed.specs.Told.{IsNext, Told, expected, has_begun}
use Rattle.chunks.specs.Chunks.{CanCome, Placed, begun, told_by}
use Rattle.chunks.proofs.Agreeing.{expected_here}
use Rattle.chunks.proofs.Opening.{begun_first, begun_here, expected_begun}
use Rattle.note_laws.specs.Note.{Saying}
use Rattle.note_laws.specs.Chains.{operations}
use Rattle.note_bodies.specs.Bodies.{AreOfHead, AreSaidInTurn}
use Rattle.note_bodies.specs.declared.messages.Head.{Head}
use Rattle.note.specs.Editing.{is_own_left, last_hash}
use Rattle.note.specs.Own.{HaveSaid, len_in, placed_in}
use Rattle.note.specs.Texts.{NoteText}
use Rattle.note.specs.declared.own_entry.Turn.{Turn}

-- an own operation is of the text's site
pub own_site : (t : NoteText) (op : Operation) → is_own_left t op ≡ true → op.site ≡ t.replica.site
own_site t op own =
    eqb-true op.site t.replica.site
    (and_parts (op.site == t.replica.site) (nat_lt (front_of t.admission.ops t.replica.site) op.seq) own).0

-- ---- the chunk of a body

-- where the site has begun, its file is told to be as long as before its operation of this seq
abbrev pub TellsLen : NoteText → (seq : ℕ) → Told → Type 0
TellsLen t seq told =
    has_begun told t.replica.site ≡ true
    → (expected told t.replica.site).len ≡ file_before t.replica.operations t.replica.site seq

module _ (t : NoteText) (op : Operation) (seq : ℕ) (own : op.site ≡ t.replica.site) (at : op.seq ≡ seq) (told : Told) where
  -- its operation of this seq can come next
  pub can_come : HasSpelling op → op.text ≡ t.replica.text → len_in t op ≤ MAX_FILE → TellsLen t seq told
      → IsNext (begun told (placed_in t op)) op → CanCome told t.replica.text (placed_in t op)
  can_come spelled on_text in_file tells next = record {
    next = record { next = next; spelled = spelled; on_text = on_text };
    len = len;
    in_file = in_file;
  }
    where
      p : Placed
      p = placed_in t op

      len : len_in t op ≡ (expected (begun told p) op.site).len
      len = elim (cases_Bool (has_begun told op.site)) [
        | inl h ↦
            let here : has_begun told t.replica.site ≡ true = subst (λ (s : ℕ). has_begun told s ≡ true) own h in
            ap (file_before t.replica.operations op.site) at
            ∙ ap (λ (s : ℕ). file_before t.replica.operations s seq) own
            ∙ sym (tells here)
            ∙ ap (λ (s : ℕ). (expected told s).len) (sym own)
            ∙ ap (λ (u : Told). (expected u op.site).len) (sym (begun_here told p h))
        | inr none ↦
            sym (ap (λ (u : Told). (expected u op.site).len) (begun_first told p none)
            ∙ ap (λ (e : Expected). e.len) (expected_begun told p))
      ]

  -- then its file is as long as before its next one
  pub tells_on : AreIdentified t.replica.operations → Contains t.replica.operations op
      → CanCome told t.replica.text (placed_in t op) → TellsLen t (seq + 1) (told_by told (placed_in t op))
  tells_on known held come = λ _.
      let p : Placed = placed_in t op in
      let here = expected_here (begun told p) op t.replica.site (eq-eqb op.site t.replica.site own) in
      let more = appended_by t.replica.operations known op held in
      let next : suc op.seq ≡ seq + 1 = omega (arith, at) in
      ap (λ (e : Expected). e.len) here
      ∙ ap (λ (n : ℕ). n + appended_len op.kind) (sym come.len)
      ∙ ap (λ (n : ℕ). len_in t op + n) (sym more)
      ∙ ap (file_before t.replica.operations op.site) next
      ∙ ap (λ (s : ℕ). file_before t.replica.operations s (seq + 1)) own

-- ---- the head of an entry

-- what stands behind others
get_behind : (xs ys : List Saying) (n : ℕ) (y : Saying) → slice_get ys n ≡ Some y → slice_get (xs ++ ys) (length xs + n) ≡ Some y
get_behind [] ys n y at =
    let none : n ≡ 0 + n = omega arith in subst (λ (k : ℕ). slice_get ys k ≡ Some y) none at
get_behind (x ∷ xs) ys n y at =
    let more : suc (length xs + n) ≡ length (x ∷ xs) + n = omega arith in
    subst (λ (k : ℕ). slice_get (x ∷ xs ++ ys) k ≡ Some y) more (get_behind xs ys n y at)

-- those behind others are said after the last of these
in_turn_behind : (key : List ℕ) (author before : ℕ) (xs ys : List Saying) → AreSaidInTurn key author before (xs ++ ys)
    → AreSaidInTurn key author (last_hash before xs) ys
in_turn_behind key author before [] ys in_turn = in_turn
in_turn_behind key author before (x ∷ xs) ys in_turn = in_turn_behind key author x.hash xs ys in_turn.1

module _ (key : List ℕ) (author : ℕ) (t : NoteText) (last : ℕ) (now : Turn) (said more : List Saying)
    (have : HaveSaid key author t last now (said ++ more)) where
  own_said : (n : ℕ) (s : Saying) → slice_get (said ++ more) n ≡ Some s → s.op.site ≡ t.replica.site
  own_said n s at =
      let all : List Saying = said ++ more in
      let owns : All (λ o. is_own_left t o ≡ true) (operations all) =
      subst (λ (l : List Operation). All (λ o. is_own_left t o ≡ true) l) (sym have.are)
      (filter_passes (λ o. is_own_left t o) (take now.place t.replica.operations)) in
      let here : slice_get (operations all) n ≡ Some s.op =
      slice_get-map (λ (x : Saying). x.op) all n ∙ ap (option_map (λ (x : Saying). x.op)) at in
      own_site t s.op (All-contains (λ (o : Operation). is_own_left t o ≡ true) (operations all) s.op owns (
        n,
        slice_get_within (operations all) n s.op here,
        get_or_from_slice_get (operations all) n s.op s.op here,
      ))

  -- the last of them are what an entry has that begins with their first one
  pub of_head : (head : Head) → head.author ≡ author → head.site ≡ t.replica.site
      → head.first ≡ front_of t.admission.ops t.replica.site + length said + 1 → head.before ≡ last_hash last said
      → head.count ≡ length more → AreOfHead key head more
  of_head head author_is site_is first before count = record {
    in_turn = subst (λ (a : ℕ). AreSaidInTurn key a head.before more) (sym author_is)
        (subst (λ (b : ℕ). AreSaidInTurn key author b more) (sym before)
        (in_turn_behind key author last said more have.in_turn));
    numbered = λ n s at.
        let behind = get_behind said more n s at in
        let seq = have.numbered (length said + n) s behind in
        and_from (s.op.site == head.site) (s.op.seq == head.first + n)
        (eq-eqb s.op.site head.site (own_said (length said + n) s behind ∙ sym site_is))
        (eq-eqb s.op.seq (head.first + n) (omega (arith, seq, first)));
    many = sym count;
  }
