-- Letters that operations begin with, and operations of which some were handed in.
use Rattle.std.specs.Prelude.{◌≡◌, ℕ, ◌+◌, ◌*◌, ◌^◌, ◌<◌, ◌≤◌, Bool, List, ◌++◌, length, All, Result, Err}
use Rattle.operations.specs.Letters.{letters}
use Rattle.operations.specs.Operation.{Operation}
use Rattle.operations.specs.Spelling.{HasSpelling}
use Rattle.operations.specs.declared.kind.TheConstants.{MAX_INSERT}
use Rattle.operations.specs.declared.typing.Typing.{Typing}
use Rattle.chunks.specs.declared.TheConstants.{MAX_CHUNK}
use Rattle.texts.specs.TextState.{TextState}
use Rattle.text_chunks.specs.Unpacking.{HandsIn, HandsInAll}
use Rattle.text_chunks.specs.declared.unpacked.UnpackRefusal.{UnpackRefusal}
use Rattle.text_chunks.specs.declared.unpacked.Unpacked.{Unpacked}

-- operations begin with letters that a site types one after the other, and these follow
pub record AreTypedFirst (ops : List Operation) (typing : Typing) (bytes : List ℕ) (rest : List Operation) : Type 0 where
  pub some : 0 < length bytes
  pub few : length bytes ≤ MAX_INSERT
  pub spelled : All HasSpelling (letters typing bytes)
  pub parts : ops ≡ letters typing bytes ++ rest

-- so many operations were handed in, of which this became, and so many are left
pub record CountsAreLow (done : ℕ) (c : Unpacked) (left : ℕ) : Type 0 where
  pub few : done + left ≤ MAX_CHUNK
  pub taken : c.taken ≤ done * 2 ^ 32
  pub known : c.known ≤ done
  pub waiting : c.waiting ≤ done

-- the same, and these are left; what they do from here on all do from the start
pub record AreHandedIn (start : TextState) (ops : List Operation) (done : ℕ) (c : Unpacked) (now : TextState)
    (left : List Operation) : Type 0 where
  pub was : Bool
  pub counted : done + length left ≡ length ops
  pub taken : c.taken ≤ done * 2 ^ 32
  pub known : c.known ≤ done
  pub waiting : c.waiting ≤ done
  pub on : (short : Bool) (result : Result Unpacked UnpackRefusal) (new : TextState)
      → HandsIn done c was now left short result new → HandsInAll start ops short result new

-- what was handed in goes on so
abbrev pub GoesOnTo : (done : ℕ) → Unpacked → TextState → List Operation
    → (done' : ℕ) → Unpacked → TextState → List Operation → Type 0
GoesOnTo done c t left done' c' t' left' =
    (start : TextState) (ops : List Operation) → AreHandedIn start ops done c t left → AreHandedIn start ops done' c' t' left'

-- and ends so, for this reason
abbrev pub EndsRefused : (done : ℕ) → Unpacked → TextState → List Operation → UnpackRefusal → TextState → Type 0
EndsRefused done c t left why t' =
    (start : TextState) (ops : List Operation) → AreHandedIn start ops done c t left
    → (short : Bool) × HandsInAll start ops short (Err why) t'
