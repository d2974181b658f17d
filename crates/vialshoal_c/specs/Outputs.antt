-- What is written into memory that C owns.
use Rattle.std.specs.Prelude.{◌≡◌, ℕ, List, ◌++◌, length, drop, nat_le, MatchBool}
use Rattle.vialshoal_c.specs.declared.numbers.TheConstants.{TOO_SHORT}

-- All of this is put at the beginning of the room, and the rest of the room stays as it was; or the room is too short
-- for it, and stays as it was. How long it is, is answered both times.
abbrev pub Puts : {X : Type 0} → (what old : List X) → (number need : ℕ) → (new : List X) → Type 0
Puts what old number need new =
    (need ≡ length what)
    × MatchBool (nat_le (length what) (length old)) ((number ≡ 0) × (new ≡ what ++ drop (length what) old))
    ((number ≡ TOO_SHORT) × (new ≡ old))

-- nothing is put there
abbrev pub PutsNone : {X : Type 0} → ℕ → (old : List X) → (number need : ℕ) → (new : List X) → Type 0
PutsNone why old number need new = (number ≡ why) × (need ≡ 0) × (new ≡ old)
