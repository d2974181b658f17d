-- Sums of weights, and what is found by them.
use Rattle.std.proofs.Common.{◌≡◌, ℕ, ◌+◌, ◌<◌, ◌≤◌, List, [], ◌∷◌, ◌++◌, length, get_or, take, drop, suc}
use Rattle.std.proofs.Common.{sym, ap, subst, ◌∙◌, arith, append_assoc, append-nil}
use Rattle.std.proofs.lemmas.List.{take-append-drop}
use Rattle.rank_index.specs.Chunks.{ChunkSeen, members_of}
use Rattle.rank_index.specs.Groups.{weight_to}
use Rattle.rank_index.specs.Ranked.{weight_of, IsRank, IsFound}
use Rattle.std.proofs.Math.ListN.{set}
use Rattle.rank_index.proofs.ChunkRank.{weight_of-append}
use Rattle.rank_index.proofs.Pieces.{cut_read, seam_at}
use Rattle.rank_index.proofs.Stretches.{members_of-append, members_of-seam}
use Rattle.rank_index.proofs.Tagged.{Members}

pub weight_of-seam : (before : List ChunkSeen) (c : ChunkSeen) (after : List ChunkSeen)
    → weight_of (members_of (before ++ c ∷ after))
    ≡ weight_of (members_of before) + (weight_of c.members + weight_of (members_of after))
weight_of-seam before c after =
    ap weight_of (members_of-seam before c after)
    ∙ weight_of-append (members_of before) (c.members ++ members_of after)
    ∙ ap (λ (n : ℕ). weight_of (members_of before) + n) (weight_of-append c.members (members_of after))

-- the first chunks and the others
pub weight_parts : (chunks : List ChunkSeen) (n : ℕ)
    → weight_of (members_of chunks) ≡ weight_to chunks n + weight_of (members_of (drop n chunks))
weight_parts chunks n =
    ap (λ (l : List ChunkSeen). weight_of (members_of l)) (sym (take-append-drop n chunks))
    ∙ ap weight_of (members_of-append (take n chunks) (drop n chunks))
    ∙ weight_of-append (members_of (take n chunks)) (members_of (drop n chunks))

-- the chunks before weigh no more than all
pub weight_to-most : (chunks : List ChunkSeen) (n : ℕ) → weight_to chunks n ≤ weight_of (members_of chunks)
weight_to-most chunks n = omega (arith, weight_parts chunks n)

pub rank_within : (items : Members) (tag n : ℕ) → IsRank items tag n → n ≤ weight_of items
rank_within items tag n (us, vs, weight, e, is) =
    omega (arith, is, ap weight_of e, weight_of-append us ((tag, weight) ∷ vs))

-- and what is passed is a part of the whole
pub weight_within : (chunks : List ChunkSeen) (k : ℕ) (c : ChunkSeen) → k < length chunks → c ≡ get_or chunks k c
    → weight_to chunks k + weight_of c.members ≤ weight_of (members_of chunks)
weight_within chunks k c lt is =
    let all : weight_of (members_of chunks) ≡ weight_of (members_of (take k chunks ++ c ∷ drop (suc k) chunks)) =
    ap (λ (l : List ChunkSeen). weight_of (members_of l)) (cut_read chunks k c lt is) in
    omega (arith, all, weight_of-seam (take k chunks) c (drop (suc k) chunks))

-- a chunk's weight in the whole, also when it changes
pub weight_at : (chunks : List ChunkSeen) (k : ℕ) (c : ChunkSeen) → k < length chunks → c ≡ get_or chunks k c
    → (rest : ℕ) × (weight_of (members_of chunks) ≡ weight_of c.members + rest)
    × ((d : ChunkSeen) → weight_of (members_of (set chunks k d)) ≡ weight_of d.members + rest)
weight_at chunks k c lt is =
    let (before, after, cut, at, changed) = seam_at chunks k c lt is in
    let weight : List ChunkSeen → ℕ = λ (l : List ChunkSeen). weight_of (members_of l) in (
      weight before + weight after,
      omega (arith, ap weight cut, weight_of-seam before c after),
      λ (d : ChunkSeen). omega (arith, ap weight (changed d), weight_of-seam before d after),
    )

-- what is found among some members is found among others too, with what stands before them
around : (front us : Members) (m : ℕ × ℕ) (vs back : Members)
    → front ++ ((us ++ m ∷ vs) ++ back) ≡ (front ++ us) ++ m ∷ (vs ++ back)
around front us m vs back =
    ap (λ (l : Members). front ++ l) (append_assoc us (m ∷ vs) back) ∙ sym (append_assoc front us (m ∷ (vs ++ back)))

found_among : (front items back : Members) (pos left tag within : ℕ) → pos ≡ weight_of front + left
    → IsFound items left tag within → IsFound (front ++ (items ++ back)) pos tag within
found_among front items back pos left tag within at (us, vs, weight, e, is, lt) = (
  front ++ us,
  vs ++ back,
  weight,
  ap (λ (l : Members). front ++ (l ++ back)) e ∙ around front us (tag, weight) vs back,
  omega (arith, at, is, weight_of-append front us),
  lt,
)

pub found_after : (chunks : List ChunkSeen) (n pos left tag within : ℕ) → pos ≡ weight_to chunks n + left
    → IsFound (members_of (drop n chunks)) left tag within → IsFound (members_of chunks) pos tag within
found_after chunks n pos left tag within at found =
    let first : Members = members_of (take n chunks) in
    let rest : Members = members_of (drop n chunks) in
    let parts : first ++ (rest ++ []) ≡ members_of chunks =
    ap (λ (l : Members). first ++ l) (append-nil rest) ∙ sym (members_of-append (take n chunks) (drop n chunks))
    ∙ ap members_of (take-append-drop n chunks) in
    subst (λ (l : Members). IsFound l pos tag within) parts (found_among first rest [] pos left tag within at found)

-- where a member stands in a chunk tells where it stands in the whole
module _ (before : List ChunkSeen) (c : ChunkSeen) (after : List ChunkSeen) where
  pub placed : (us vs : Members) (m : ℕ × ℕ) → c.members ≡ us ++ m ∷ vs
      → members_of (before ++ c ∷ after) ≡ (members_of before ++ us) ++ m ∷ (vs ++ members_of after)
  placed us vs m e =
      members_of-seam before c after
      ∙ ap (λ (l : Members). members_of before ++ (l ++ members_of after)) e
      ∙ around (members_of before) us m vs (members_of after)

  pub rank_in_all : (tag n : ℕ) → IsRank c.members tag n
      → IsRank (members_of (before ++ c ∷ after)) tag (weight_of (members_of before) + n)
  rank_in_all tag n (us, vs, weight, e, is) = (
    members_of before ++ us,
    vs ++ members_of after,
    weight,
    placed us vs (tag, weight) e,
    ap (λ (k : ℕ). weight_of (members_of before) + k) is ∙ sym (weight_of-append (members_of before) us),
  )

  pub found_in_all : (pos left tag within : ℕ) → pos ≡ weight_of (members_of before) + left
      → IsFound c.members left tag within → IsFound (members_of (before ++ c ∷ after)) pos tag within
  found_in_all pos left tag within at found =
      subst (λ (l : Members). IsFound l pos tag within) (sym (members_of-seam before c after))
      (found_among (members_of before) c.members (members_of after) pos left tag within at found)

-- the same of the chunk that the code reads at a slot
module _ (chunks : List ChunkSeen) (k : ℕ) (c : ChunkSeen) (lt : k < length chunks) (is : c ≡ get_or chunks k c) where
  pub rank_here : (tag n : ℕ) → IsRank c.members tag n
      → IsRank (members_of chunks) tag (weight_to chunks k + n)
  rank_here tag n rank =
      subst (λ (l : List ChunkSeen). IsRank (members_of l) tag (weight_to chunks k + n))
      (sym (cut_read chunks k c lt is)) (rank_in_all (take k chunks) c (drop (suc k) chunks) tag n rank)

  pub found_here : (pos left tag within : ℕ) → pos ≡ weight_to chunks k + left
      → IsFound c.members left tag within → IsFound (members_of chunks) pos tag within
  found_here pos left tag within at found =
      subst (λ (l : List ChunkSeen). IsFound (members_of l) pos tag within) (sym (cut_read chunks k c lt is))
      (found_in_all (take k chunks) c (drop (suc k) chunks) pos left tag within at found)
