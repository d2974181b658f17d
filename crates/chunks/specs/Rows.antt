-- Rows of letters, as a chunk's operations are read.
use Rattle.std.specs.Prelude.{◌≡◌, ◌⊎◌, ℕ, zero, suc, ◌+◌, ◌++◌, true, List, [], ◌∷◌}
use Rattle.char_files.specs.declared.name.Anchor.{Anchor}
use Rattle.char_files.specs.declared.name.Anchor.TheVariants.{At}
use Rattle.operations.specs.Letters.{letters}
use Rattle.operations.specs.Operation.{Operation}
use Rattle.operations.specs.declared.typing.Typing.{Typing}
use Rattle.packed.specs.Letters.{AreTypedNext}
use Rattle.packed.specs.Told.{Told, has_begun, told_after}
use Rattle.chunks.specs.Parts.{ReadsFirst}

-- what the letter hangs on after so many
abbrev pub cause_at : Typing → ℕ → Anchor
cause_at t zero = t.cause
cause_at t (suc k) = At (record { site = t.site; off = t.at + k })

-- where the site types after so many letters
abbrev pub typed_at : Typing → ℕ → Typing
typed_at t k = record t { seq = t.seq + k; stamp = t.stamp + k; at = t.at + k; cause = cause_at t k }

-- a row of letters was read so, of a site that has begun, and this is told after it
pub record ReadsRow (told new : Told) (text : ℕ) (bytes : List ℕ) (before after : List Operation) (rest : List ℕ) : Type 0 where
  pub typing : Typing
  pub typed : List ℕ
  pub begun : has_begun told typing.site ≡ true
  pub next : AreTypedNext told text typing typed
  pub parts : bytes ≡ typed ++ rest
  pub are : after ≡ before ++ letters typing typed
  pub tells : new ≡ told_after told (letters typing typed)

-- a row was, or one operation
abbrev pub ReadsSome : (told new : Told) (text : ℕ) (bytes : List ℕ) (before after : List Operation) (rest : List ℕ) → Type 0
ReadsSome told new text bytes before after rest =
    ReadsRow told new text bytes before after rest
    ⊎ ((op : Operation) × (after ≡ before ++ op ∷ []) × ReadsFirst told new text bytes op rest)
