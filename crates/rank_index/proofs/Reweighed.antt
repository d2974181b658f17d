-- Chunks, a member of which has another weight.
use Rattle.std.proofs.Common.{◌≡◌, ℕ, ◌+◌, ◌<◌, ◌==◌, cond, List, [], ◌∷◌, ◌++◌, length, inl, inr, take, drop, suc}
use Rattle.std.proofs.Common.{refl, sym, ap, subst, ◌∙◌, arith, length-append, slice_get, Some}
use Rattle.std.specs.List.{AllByRecursion, IsDistinct}
use Rattle.std.proofs.Math.ListN.{set, get_or}
use Rattle.std.proofs.lemmas.List.{map-append, length-map}
use Rattle.piece_raw.specs.Ring.{HasTag, AreTags, tags, with_value}
use Rattle.rank_index.specs.Chunks.{ChunkSeen, members_of, AreEnteredUnder, AreTied}
use Rattle.rank_index.specs.Ranked.{weight_of}
use Rattle.rank_index.proofs.Inserted.{half_full}
use Rattle.rank_index.proofs.Pieces.{all_parts, all_whole, cut_read, seam_at}
use Rattle.rank_index.proofs.Stretches.{IsReadFor, members_of-seam, apart_here, not_earlier, not_after}
use Rattle.rank_index.proofs.Tagged.{Members, HasTag-cons, HasTag-first, HasTag-right}
use Rattle.rank_index.proofs.Tagged.{with_value-elsewhere, AreApart}
use Rattle.rank_index.proofs.Weights.{weight_at}

tags-with_value : (tag w : ℕ) (xs : Members) → tags (with_value tag w xs) ≡ tags xs
tags-with_value tag w [] = refl
tags-with_value tag w (x ∷ xs) = ap (λ (l : List ℕ). x.0 ∷ l) (tags-with_value tag w xs)

pub length-with_value : (tag w : ℕ) (xs : Members) → length (with_value tag w xs) ≡ length xs
length-with_value tag w xs = length-map xs (λ (m : ℕ × ℕ). (m.0, cond (m.0 == tag) w m.1))

AreTags-with_value : (tag w : ℕ) (xs : Members) → AreTags xs → AreTags (with_value tag w xs)
AreTags-with_value tag w xs are =
    let P : List ℕ → ℕ → Type 0 = λ (ks : List ℕ) (n : ℕ). IsDistinct ◌==◌ ks × AllByRecursion (λ k. k < n) ks in
    subst (λ (n : ℕ). P (tags (with_value tag w xs)) n) (sym (length-with_value tag w xs))
    (subst (λ (ks : List ℕ). P ks (length xs)) (sym (tags-with_value tag w xs)) are)

-- other weights, the same tags
tag_stays : (tag w : ℕ) (xs : Members) (t : ℕ) → HasTag (with_value tag w xs) t → HasTag xs t
tag_stays tag w [] t h = h
tag_stays tag w (x ∷ xs) t h = elim (HasTag-cons (x.0, cond (x.0 == tag) w x.1) (with_value tag w xs) t h) [
  | inl e ↦ HasTag-first x xs t e
  | inr rest ↦ HasTag-right (x ∷ []) xs t (tag_stays tag w xs t rest)
]

module _ (before : List ChunkSeen) (c d : ChunkSeen) (after : List ChunkSeen) (tag w : ℕ)
    (is : d.members ≡ with_value tag w c.members)
  where
    pub reweighed_in_all : AreTags (members_of (before ++ c ∷ after)) → HasTag c.members tag
        → members_of (before ++ d ∷ after) ≡ with_value tag w (members_of (before ++ c ∷ after))
    reweighed_in_all are here =
        let change : ℕ × ℕ → ℕ × ℕ = λ (m : ℕ × ℕ). (m.0, cond (m.0 == tag) w m.1) in
        let left : with_value tag w (members_of before) ≡ members_of before =
        with_value-elsewhere tag w (members_of before) (not_earlier before c after tag are.0 here) in
        let right : with_value tag w (members_of after) ≡ members_of after =
        with_value-elsewhere tag w (members_of after) (not_after before c after tag are.0 here) in
        let whole : with_value tag w (members_of (before ++ c ∷ after))
        ≡ with_value tag w (members_of before)
        ++ (with_value tag w c.members ++ with_value tag w (members_of after)) =
        ap (with_value tag w) (members_of-seam before c after)
        ∙ map-append change (members_of before) (c.members ++ members_of after)
        ∙ ap (λ (l : Members). with_value tag w (members_of before) ++ l)
        (map-append change c.members (members_of after)) in
        members_of-seam before d after
        ∙ (λ i. sym left i ++ (is i ++ sym right i))
        ∙ sym whole

    pub tied_reweighed : (homes : List ℕ) → d.home ≡ c.home → HasTag c.members tag
        → AreTied homes (before ++ c ∷ after) → AreTied homes (before ++ d ∷ after)
    tied_reweighed homes same here tied =
        let P : ChunkSeen → Type 0 = λ (e : ChunkSeen). AreEnteredUnder homes e.home e.members in
        let (left, entered, right) = all_parts P before c after tied.entered in
        let all : members_of (before ++ d ∷ after) ≡ with_value tag w (members_of (before ++ c ∷ after)) =
        reweighed_in_all tied.tags here in
        let entered' : P d = λ (t : ℕ) (has : HasTag d.members t).
        subst (λ (n : ℕ). slice_get homes t ≡ Some n) (sym same)
        (entered t (tag_stays tag w c.members t (subst (λ (l : Members). HasTag l t) is has))) in
        record {
          tags = subst AreTags (sym all) (AreTags-with_value tag w (members_of (before ++ c ∷ after)) tied.tags);
          counted = tied.counted ∙ sym (ap length all
              ∙ length-with_value tag w (members_of (before ++ c ∷ after)));
          entered = all_whole P before d after left entered' right;
          halves = half_full before c d after (omega (arith, ap length is, length-with_value tag w c.members))
              tied.halves;
          some = omega (arith, length-append before (d ∷ after));
        }

-- the members of the chunk that the code reads stand apart
pub apart_read : (chunks : List ChunkSeen) (slot : ℕ) (c : ChunkSeen) → slot < length chunks
    → c ≡ get_or chunks slot c → AreApart (members_of chunks) → AreApart c.members
apart_read chunks slot c lt is_read apart =
    apart_here (take slot chunks) c (drop (suc slot) chunks)
    (subst (λ (l : List ChunkSeen). AreApart (members_of l)) (cut_read chunks slot c lt is_read) apart)

-- what the members weigh and will weigh: those of the one chunk, and the rest
pub record Weighs (chunks : List ChunkSeen) (c : ChunkSeen) (tag w : ℕ) : Type 0 where
  pub rest : ℕ
  pub was : weight_of (members_of chunks) ≡ weight_of c.members + rest
  pub is : weight_of (with_value tag w (members_of chunks)) ≡ weight_of (with_value tag w c.members) + rest

-- the same of the chunk that the code reads at a slot and changes there
module _ (chunks : List ChunkSeen) (slot tag : ℕ) (c : ChunkSeen) (read : IsReadFor chunks slot tag c) (d : ChunkSeen)
    (w : ℕ) (is : d.members ≡ with_value tag w c.members)
  where
    pub reweighed_here : AreTags (members_of chunks)
        → members_of (set chunks slot d) ≡ with_value tag w (members_of chunks)
    reweighed_here are =
        let (before, after, cut, at, changed) = seam_at chunks slot c read.within read.is in
        let old : List ChunkSeen → Members = λ (l : List ChunkSeen). with_value tag w (members_of l) in
        ap members_of (changed d)
        ∙ reweighed_in_all before c d after tag w is
        (subst (λ (l : List ChunkSeen). AreTags (members_of l)) cut are) read.here
        ∙ ap old (sym cut)

    pub tied_reweighed_here : (homes : List ℕ) → d.home ≡ c.home → AreTied homes chunks
        → AreTied homes (set chunks slot d)
    tied_reweighed_here homes same tied =
        let (before, after, cut, at, changed) = seam_at chunks slot c read.within read.is in
        subst (AreTied homes) (sym (changed d))
        (tied_reweighed before c d after tag w is homes same read.here (subst (AreTied homes) cut tied))

-- what it weighs beside the other chunks
pub weighs_here : (chunks : List ChunkSeen) (slot tag : ℕ) (c : ChunkSeen) → IsReadFor chunks slot tag c → (w : ℕ)
    → AreTags (members_of chunks) → Weighs chunks c tag w
weighs_here chunks slot tag c read w are =
    let d : ChunkSeen = record { members = with_value tag w c.members; home = c.home; least = c.least } in
    let (rest, was, changed) = weight_at chunks slot c read.within read.is in
    record {
      rest = rest;
      was = was;
      is = sym (ap weight_of (reweighed_here chunks slot tag c read d w refl are)) ∙ changed d;
    }
