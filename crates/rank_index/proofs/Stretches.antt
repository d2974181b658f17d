-- The members of chunks, and the chunk of one of them.
use Rattle.std.proofs.Common.{◌≡◌, ℕ, suc, ◌<◌, List, [], ◌∷◌, ◌++◌, length}
use Rattle.std.proofs.Common.{get_or, inl, inr, refl, sym, subst}
use Rattle.std.proofs.lemmas.Grind.{flat_map-append}
use Rattle.std.proofs.lemmas.Option.{slice_get_within}
use Rattle.piece_raw.specs.Ring.{HasTag}
use Rattle.rank_index.specs.Chunks.{ChunkSeen, members_of, IsSlotOf}
use Rattle.rank_index.proofs.Pieces.{is_read}
use Rattle.rank_index.proofs.Tagged.{HasTag-nil, HasTag-append, HasTag-left, AreApart}
use Rattle.rank_index.proofs.Tagged.{no_tag_twice, apart_left, apart_right}

pub members_of-append : (xs ys : List ChunkSeen) → members_of (xs ++ ys) ≡ members_of xs ++ members_of ys
members_of-append xs ys = flat_map-append (λ (c : ChunkSeen). c.members) xs ys

pub members_of-seam : (before : List ChunkSeen) (c : ChunkSeen) (after : List ChunkSeen)
    → members_of (before ++ c ∷ after) ≡ members_of before ++ (c.members ++ members_of after)
members_of-seam before c after = members_of-append before (c ∷ after)

-- each member is in some chunk
pub chunk_with : (chunks : List ChunkSeen) (tag : ℕ) → HasTag (members_of chunks) tag
    → (slot : ℕ) × IsSlotOf chunks slot tag
chunk_with [] tag h = absurd (HasTag-nil tag h)
chunk_with (c ∷ chunks) tag h = elim (HasTag-append c.members (members_of chunks) tag h) [
  | inl here ↦ (0, (c, refl, here))
  | inr rest ↦ let (slot, (d, at, has)) = chunk_with chunks tag rest in (suc slot, (d, at, has))
]

-- the chunk that the code reads at a member's slot
module _ (chunks : List ChunkSeen) (slot tag : ℕ) (found : IsSlotOf chunks slot tag) where
  pub is_within : slot < length chunks
  is_within = slice_get_within chunks slot found.0 found.1

  has_here : (c : ChunkSeen) → c ≡ get_or chunks slot c → HasTag c.members tag
  has_here c is =
      subst (λ (d : ChunkSeen). HasTag d.members tag) (sym (is_read chunks slot found.0 c found.1 is)) found.2

-- the chunk at this slot is read, and has the member of this tag
pub record IsReadFor (chunks : List ChunkSeen) (slot tag : ℕ) (c : ChunkSeen) : Type 0 where
  pub within : slot < length chunks
  pub is : c ≡ get_or chunks slot c
  pub here : HasTag c.members tag

-- so is the chunk at the slot that the tables tell, of the chunks that were seen there
pub read_for : (seen chunks : List ChunkSeen) (slot tag : ℕ) (c : ChunkSeen) → seen ≡ chunks
    → IsSlotOf seen slot tag → c ≡ get_or chunks slot c → IsReadFor chunks slot tag c
read_for seen chunks slot tag c same told is =
    let found : IsSlotOf chunks slot tag = subst (λ (l : List ChunkSeen). IsSlotOf l slot tag) same told in
    record {
      within = is_within chunks slot tag found;
      is = is;
      here = has_here chunks slot tag found c is;
    }

-- the members of one chunk stand apart from the others
pub apart_here : (before : List ChunkSeen) (c : ChunkSeen) (after : List ChunkSeen)
    → AreApart (members_of (before ++ c ∷ after)) → AreApart c.members
apart_here before c after d =
    apart_left c.members (members_of after)
    (apart_right (members_of before) (c.members ++ members_of after)
    (subst AreApart (members_of-seam before c after) d))

pub not_earlier : (before : List ChunkSeen) (c : ChunkSeen) (after : List ChunkSeen) (tag : ℕ)
    → AreApart (members_of (before ++ c ∷ after)) → HasTag c.members tag → HasTag (members_of before) tag → ⊥
not_earlier before c after tag d here other =
    no_tag_twice (members_of before) (c.members ++ members_of after) tag
    (subst AreApart (members_of-seam before c after) d) other
    (HasTag-left c.members (members_of after) tag here)

pub not_after : (before : List ChunkSeen) (c : ChunkSeen) (after : List ChunkSeen) (tag : ℕ)
    → AreApart (members_of (before ++ c ∷ after)) → HasTag c.members tag → HasTag (members_of after) tag → ⊥
not_after before c after tag d here other =
    no_tag_twice c.members (members_of after) tag
    (apart_right (members_of before) (c.members ++ members_of after)
    (subst AreApart (members_of-seam before c after) d)) here other
