-- The fate that the code gives, and what a verdict says of it.
use Rattle.std.specs.Prelude.{Bool, true, false}
use Rattle.waiting_room.specs.declared.judging.Verdict.{Verdict}
use Rattle.waiting_room.specs.declared.judging.Verdict.TheVariants.{Wait, Misfit, LowStamp, Ready}
use Rattle.note_laws.specs.Admission as defined
use Rattle.note_admission.specs.declared.fate.Fate.{Fate}
use Rattle.note_admission.specs.declared.fate.Fate.TheVariants.{Counts, Wrong, HeldBack, Lacks, OnOthers}

-- a fate of the code, as the definition has it
abbrev pub fate_of : Fate → defined.Fate
fate_of Counts = defined.counts
fate_of Wrong = defined.wrong
fate_of HeldBack = defined.held_back
fate_of Lacks = defined.lacks
fate_of OnOthers = defined.on_others

-- whether a verdict says that an operation fits its site's file
abbrev pub is_fit : Verdict → Bool
is_fit Wait = true
is_fit Misfit = false
is_fit LowStamp = true
is_fit Ready = true

-- and that the characters of others are here
abbrev pub lacks_none : Verdict → Bool
lacks_none Wait = false
lacks_none Misfit = false
lacks_none LowStamp = true
lacks_none Ready = true

-- and that its stamp is above its causes'
abbrev pub is_ready : Verdict → Bool
is_ready Wait = false
is_ready Misfit = false
is_ready LowStamp = false
is_ready Ready = true
