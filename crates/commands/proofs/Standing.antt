-- Where bytes stand in others, told byte by byte.
use Rattle.std.proofs.Common.{◌≡◌, ℕ, ◌+◌, ◌≤◌, ◌<◌, List, length, take, drop, ◌++◌, ap, ◌∙◌, sym, get_or, arith, subst, ⊎_elim}
use Rattle.std.proofs.Common.{length-take, length-drop, length-append}
use Rattle.std.proofs.lemmas.List.{append_assoc, ext_get_or, get_or-append-add, get_or-drop, get_or-take}
use Rattle.std.proofs.lemmas.List.{get_or_append_left, take-append-drop}
use Rattle.std.proofs.Math.Nat.{eq-or-lt_of_le}
use Rattle.machine.specs.Tasks.{StandsAt}

-- the text goes on so far
pub stands_within : (bytes text : List ℕ) (q : ℕ) → StandsAt bytes text q → q + length bytes ≤ length text
stands_within bytes text q stands =
    omega (
      arith,
      ap length stands.2,
      stands.3,
      length-append (stands.0 ++ bytes) stands.1,
      length-append stands.0 bytes,
    )

-- each byte is the one in its place
pub each_stands : (bytes text : List ℕ) (q : ℕ) → StandsAt bytes text q → (k : ℕ) → k < length bytes
    → get_or text (q + k) 0 ≡ get_or bytes k 0
each_stands bytes text q stands k at =
    ap (λ (all : List ℕ). get_or all (q + k) 0) stands.2
    ∙ ap (λ (n : ℕ). get_or (stands.0 ++ bytes ++ stands.1) (n + k) 0) (sym stands.3)
    ∙ get_or_append_left (stands.0 ++ bytes) stands.1 0 (length stands.0 + k)
    (omega (arith, at, length-append stands.0 bytes))
    ∙ get_or-append-add stands.0 bytes k 0

-- where each byte is the one in its place, they stand
pub stands_by_each : (bytes text : List ℕ) (q : ℕ) → q + length bytes ≤ length text
    → ((k : ℕ) → k < length bytes → get_or text (q + k) 0 ≡ get_or bytes k 0) → StandsAt bytes text q
stands_by_each bytes text q within each =
    let from : List ℕ = drop q text in
    let size : length (take (length bytes) from) ≡ length bytes =
    omega (arith, length-take (length bytes) from, length-drop q text, within) in
    let here : take (length bytes) from ≡ bytes =
    ext_get_or 0 (take (length bytes) from) bytes size (λ (k : ℕ) at.
    get_or-take (length bytes) from k 0 (omega (arith, at, size)) ∙ get_or-drop q text k 0
    ∙ each k (omega (arith, at, size))) in
    let parted : take q text ++ bytes ++ drop (length bytes) from ≡ text =
    append_assoc (take q text) bytes (drop (length bytes) from)
    ∙ ap (λ (l : List ℕ). take q text ++ (l ++ drop (length bytes) from)) (sym here)
    ∙ ap (λ (l : List ℕ). take q text ++ l) (take-append-drop (length bytes) from) ∙ take-append-drop q text in
    (take q text, drop (length bytes) from, sym parted, omega (arith, length-take q text, within))

-- where they stand nowhere up to a position, nor at it, they stand nowhere up to the next
pub none_further : (bytes text : List ℕ) (from pos : ℕ)
    → ((q : ℕ) → from ≤ q → q < pos → StandsAt bytes text q → ⊥) → (StandsAt bytes text pos → ⊥)
    → (q : ℕ) → from ≤ q → q < pos + 1 → StandsAt bytes text q → ⊥
none_further bytes text from pos before here q later earlier stands =
    ⊎_elim (λ (same : q ≡ pos). here (subst (λ (n : ℕ). StandsAt bytes text n) same stands))
    (λ (less : q < pos). before q later less stands) (eq-or-lt_of_le (omega (arith, earlier)))

-- where they stand nowhere up to the last position that has room for them, they stand nowhere
pub none_past : (bytes text : List ℕ) (from pos : ℕ)
    → ((q : ℕ) → from ≤ q → q < pos → StandsAt bytes text q → ⊥) → length text < pos + length bytes
    → (q : ℕ) → from ≤ q → StandsAt bytes text q → ⊥
none_past bytes text from pos before past q later stands =
    before q later (omega (arith, past, stands_within bytes text q stands)) stands
