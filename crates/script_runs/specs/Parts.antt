-- What private calls alone need.
use Rattle.std.specs.Prelude.{◌≡◌, ℕ, ◌⊎◌, List, Bool, IsTrue, Option, Result, Ok, Err}
use Rattle.std.specs.Io.KnownBytes.{Appends}
use Rattle.looks.specs.declared.refusal.Refusal.{Refusal}
use Rattle.looks.specs.declared.refusal.Refusal.TheVariants.{ReadFault, WriteFault}
use Rattle.script_sites.specs.Answers.{refused_line}
use Rattle.script_sites.specs.Writing.{AppendsPrefix}

-- breaking off writes the refusal and answers it; or the writer failed, and a prefix of the refusal was
-- written
abbrev pub BreaksOff : (failed : Bool) → Option (List ℕ) → Option (List ℕ) → Result (Unit {0}) Refusal
    → Type 0
BreaksOff failed old new (Ok done) = ⊥
BreaksOff failed old new (Err why) =
    ((why ≡ ReadFault) × Appends old new (refused_line ReadFault))
    ⊎ ((why ≡ WriteFault) × IsTrue failed × AppendsPrefix old new (refused_line ReadFault))
