-- What the first chunks weigh, and the sums of groups of them.
use Rattle.std.proofs.Common.{◌≡◌, ℕ, ◌+◌, ◌-◌, ◌*◌, ◌/◌, ◌<◌, ◌≤◌, List, [], ◌∷◌, ◌++◌, length, get_or}
use Rattle.std.proofs.Common.{take, drop, min, inl, inr, sym, ap, ◌∙◌, arith, drop-set-lt, take-add}
use Rattle.std.proofs.Common.{eq-or-lt_of_le}
use Rattle.std.proofs.Math.ListN.{set}
use Rattle.std.proofs.lemmas.Bool.{cases_lt}
use Rattle.std.proofs.lemmas.List.{take_all, take_min, take-set-le, length-drop, length-set}
use Rattle.std.proofs.lemmas.List.{length-append, get_or_append_left, get_or_push, get_or-set_same, get_or-set_other}
use Rattle.rank_index.specs.declared.groups.TheConstants.{GROUP}
use Rattle.rank_index.specs.Chunks.{ChunkSeen, members_of}
use Rattle.rank_index.specs.Groups.{AreGroups, AreSums, weight_to}
use Rattle.rank_index.specs.Ranked.{weight_of}
use Rattle.rank_index.proofs.ChunkRank.{weight_of-append}
use Rattle.rank_index.proofs.Stretches.{members_of-append}
use Rattle.rank_index.proofs.Tagged.{Members}
use Rattle.rank_index.proofs.Weights.{weight_at, weight_parts, weight_to-most}

-- so many chunks more
pub weight_to-more : (chunks : List ChunkSeen) (n k : ℕ)
    → weight_to chunks (n + k) ≡ weight_to chunks n + weight_of (members_of (take k (drop n chunks)))
weight_to-more chunks n k =
    ap (λ (l : List ChunkSeen). weight_of (members_of l)) (take-add n k chunks)
    ∙ ap weight_of (members_of-append (take n chunks) (take k (drop n chunks)))
    ∙ weight_of-append (members_of (take n chunks)) (members_of (take k (drop n chunks)))

-- all of them
pub weight_to-all : (chunks : List ChunkSeen) (n : ℕ) → length chunks ≤ n
    → weight_to chunks n ≡ weight_of (members_of chunks)
weight_to-all chunks n le = ap (λ (l : List ChunkSeen). weight_of (members_of l)) (take_all n chunks le)

-- a group more has its sum
pub group_more : (groups : List ℕ) (chunks : List ChunkSeen) (n s : ℕ)
    → AreSums groups chunks
    → n ≡ min GROUP (length chunks - GROUP * length groups)
    → s ≡ weight_of (members_of (take n (drop (GROUP * length groups) chunks)))
    → AreSums (groups ++ s ∷ []) chunks
group_more groups chunks n s sums capped is k lt =
    let within : k ≤ length groups = omega (arith, lt, length-append groups (s ∷ [])) in
    let done : ℕ = GROUP * length groups in
    elim (eq-or-lt_of_le within) [
      | inl last ↦
          let rest : List ChunkSeen = drop done chunks in
          let count : n ≡ min GROUP (length rest) =
          capped ∙ ap (min GROUP) (sym (length-drop done chunks)) in
          let sum : s ≡ weight_of (members_of (take GROUP rest)) =
          is ∙ ap (λ (l : List ChunkSeen). weight_of (members_of l))
          (ap (λ (m : ℕ). take m rest) count ∙ take_min GROUP rest) in
          let next : GROUP * (k + 1) ≡ done + GROUP = omega (arith, last) in
          omega (
            arith,
            ap (λ (m : ℕ). weight_to chunks (GROUP * m)) last,
            get_or_push groups s 0 k (sym last),
            sum,
            ap (weight_to chunks) next,
            weight_to-more chunks done GROUP,
          )
      | inr before ↦ omega (arith, sums k before, get_or_append_left groups (s ∷ []) 0 k before)
    ]

-- a chunk with other members
weight_to-set : (chunks : List ChunkSeen) (slot n : ℕ) (c d : ChunkSeen) → slot < length chunks
    → c ≡ get_or chunks slot c → slot < n
    → weight_to (set chunks slot d) n + weight_of c.members ≡ weight_to chunks n + weight_of d.members
weight_to-set chunks slot n c d lt is past =
    let (rest, was, changed) = weight_at chunks slot c lt is in
    omega (
      arith,
      was,
      changed d,
      weight_parts chunks n,
      weight_parts (set chunks slot d) n,
      ap (λ (l : List ChunkSeen). weight_of (members_of l)) (drop-set-lt n chunks slot d past),
    )

-- the sum of its group goes with it, and the others stay
pub groups_set : (groups : List ℕ) (chunks : List ChunkSeen) (slot : ℕ) (c d : ChunkSeen) (s : ℕ)
    → slot < length chunks → c ≡ get_or chunks slot c → AreGroups groups chunks
    → s + weight_of c.members ≡ get_or groups (slot / GROUP) 0 + weight_of d.members
    → AreGroups (set groups (slot / GROUP) s) (set chunks slot d)
groups_set groups chunks slot c d s lt is are told =
    let g : ℕ = slot / GROUP in
    let within : g < length groups = omega (arith, lt, are.all) in
    let weight : List ChunkSeen → ℕ = λ (l : List ChunkSeen). weight_of (members_of l) in
    let low : (n : ℕ) → n ≤ slot → weight_to (set chunks slot d) n ≡ weight_to chunks n =
    λ (n : ℕ) (le : n ≤ slot). ap weight (take-set-le n chunks slot d le) in
    let high : (n : ℕ) → slot < n
    → weight_to (set chunks slot d) n + weight_of c.members ≡ weight_to chunks n + weight_of d.members =
    λ (n : ℕ) (past : slot < n). weight_to-set chunks slot n c d lt is past in
    record {
      sums = λ (k : ℕ) (among : k < length (set groups g s)).
          let old : k < length groups = omega (arith, among, length-set groups g s) in
          elim (cases_lt k g) [
            | inl before ↦ omega (
              arith,
              are.sums k old,
              low (GROUP * k) (omega (arith, before)),
              low (GROUP * (k + 1)) (omega (arith, before)),
              get_or-set_other groups g k s 0 (λ (e : k ≡ g). absurd (omega (arith, e, before))),
            )
            | inr rest ↦ elim (eq-or-lt_of_le rest) [
              | inl here ↦ omega (
                arith,
                are.sums k old,
                low (GROUP * k) (omega (arith, here)),
                high (GROUP * (k + 1)) (omega (arith, here)),
                ap (λ (j : ℕ). get_or (set groups g s) j 0) (sym here),
                ap (λ (j : ℕ). get_or groups j 0) (sym here),
                get_or-set_same groups g s 0 within,
                told,
              )
              | inr after ↦ omega (
                arith,
                are.sums k old,
                high (GROUP * k) (omega (arith, after)),
                high (GROUP * (k + 1)) (omega (arith, after)),
                get_or-set_other groups g k s 0 (λ (e : k ≡ g). absurd (omega (arith, e, after))),
              )
            ]
          ];
      all = omega (arith, are.all, length-set groups g s, length-set chunks slot d);
    }

-- a sum tells of no more than all chunks, and of no less than one of its own
pub group_among : (groups : List ℕ) (chunks : List ChunkSeen) (k : ℕ) → AreGroups groups chunks → k < length groups
    → get_or groups k 0 ≤ weight_of (members_of chunks)
group_among groups chunks k are lt =
    omega (arith, are.sums k lt, weight_to-most chunks (GROUP * (k + 1)))

pub in_group : (groups : List ℕ) (chunks : List ChunkSeen) (slot : ℕ) (c : ChunkSeen) → slot < length chunks
    → c ≡ get_or chunks slot c → AreGroups groups chunks
    → weight_of c.members ≤ get_or groups (slot / GROUP) 0
in_group groups chunks slot c lt is are =
    let g : ℕ = slot / GROUP in
    let none : ChunkSeen = record { members = []; home = 0; least = 0 } in
    let next : GROUP * (g + 1) ≡ GROUP * g + GROUP = omega arith in
    omega (
      arith,
      are.sums g (omega (arith, lt, are.all)),
      ap (λ (l : List ChunkSeen). weight_of (members_of l)) (take-set-le (GROUP * g) chunks slot none (omega arith)),
      weight_to-set chunks slot (GROUP * (g + 1)) c none lt is (omega arith),
      ap (weight_to (set chunks slot none)) next,
      weight_to-more (set chunks slot none) (GROUP * g) GROUP,
    )

-- a single chunk without members
pub groups_alone : (c : ChunkSeen) → c.members ≡ [] → AreGroups (0 ∷ []) (c ∷ [])
groups_alone c none =
    let chunks : List ChunkSeen = c ∷ [] in
    let weightless : weight_of (members_of chunks) ≡ 0 = ap (λ (l : Members). weight_of (l ++ [])) none in
    record {
      sums = λ (k : ℕ) (lt : k < 1).
          let first : k ≡ 0 = omega (arith, lt) in
          omega (
            arith,
            ap (λ (j : ℕ). weight_to chunks (GROUP * j)) first,
            ap {B = ℕ} (λ (j : ℕ). get_or (0 ∷ []) j 0) first,
            weight_to-all chunks (GROUP * (k + 1)) (omega arith),
            weightless,
          );
      all = omega arith;
    }
