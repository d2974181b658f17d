use Rattle.std.proofs.Common.{ℕ, List, ◌++◌, Option, Result, codes, append_assoc, subst}
use Rattle.std.specs.Prelude.{Bool}
use Rattle.std.specs.Fmt.{decimal}
use Rattle.looks.specs.declared.refusal.Refusal.{Refusal}
use Rattle.script_sites.specs.Answers.{counts_line}
use Rattle.script_sites.specs.Writing.{WritesBytes}
use Rattle.script_sites.proofs.WriteLemmas.{writes_stopped}
use Rattle.script_sites.proofs.answers.put_unpacked_whole.Goals as goal

-- three parts, the former two written together
parted : (result : Result (Unit {0}) Refusal) (failed : Bool) (old new : Option (List ℕ)) (a b c : List ℕ) → WritesBytes result failed old new ((a ++ b) ++ c) → WritesBytes result failed old new (a ++ (b ++ c))
parted result failed old new a b c w = subst (WritesBytes result failed old new) (append_assoc a b c) w

pub returns-in_err-put_numbered : goal.returns-in_err-put_numbered
returns-in_err-put_numbered g c =
    let counts = c.args.counts in
    parted _ _ _ _ (codes "unpacked ") (decimal counts.taken) (counts_line (codes " ") counts.known counts.waiting counts.stopped) (writes_stopped _ _ _ _ _ _ _ c.from_residual.ensures.1 c.in_err-put_numbered.ensures)
