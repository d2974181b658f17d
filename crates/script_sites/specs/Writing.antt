-- What was written, whole or up to a fault.
use Rattle.std.specs.Prelude.{◌≡◌, List, ℕ, ◌++◌, Bool, IsTrue, Option, Result, Ok, Err}
use Rattle.std.specs.Io.KnownBytes.{Appends}
use Rattle.looks.specs.declared.refusal.Refusal.{Refusal}
use Rattle.looks.specs.declared.refusal.Refusal.TheVariants.{WriteFault}
use Rattle.script_io.specs.Wires.{OutputState}

-- known bytes grow by a prefix of these: by none, some or all of them
abbrev pub AppendsPrefix : (old new : Option (List ℕ)) → List ℕ → Type 0
AppendsPrefix old new bytes =
    (written missing : List ℕ) × (bytes ≡ written ++ missing) × Appends old new written

-- What writing these bytes does: at `Ok` all of them were appended; the only error is `WriteFault`, which
-- comes only where the writer failed, and then a prefix of them was.
abbrev pub WritesBytes : Result (Unit {0}) Refusal → (failed : Bool) → (old new : Option (List ℕ)) → List ℕ
    → Type 0
WritesBytes (Ok done) failed old new bytes = Appends old new bytes
WritesBytes (Err why) failed old new bytes = (why ≡ WriteFault) × IsTrue failed × AppendsPrefix old new bytes

-- the same of an output
abbrev pub PutsToOutput : Result (Unit {0}) Refusal → (old new : OutputState) → List ℕ → Type 0
PutsToOutput result old new bytes = WritesBytes result new.failed old.contents new.contents bytes
