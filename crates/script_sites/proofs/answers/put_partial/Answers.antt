use Rattle.std.proofs.Common.{◌∷◌, ◌++◌, [], codes}
use Rattle.std.specs.Fmt.{decimal}
use Rattle.script_sites.proofs.WriteLemmas.{writes_after, writes_stopped, writes_regrouped}
use Rattle.script_sites.proofs.answers.put_partial.Goals as goal

pub returns-in_err-put_numbered : goal.returns-in_err-put_numbered
returns-in_err-put_numbered g c =
    writes_regrouped _ _ _ _ (codes "partial " ++ decimal c.args.done) (32 ∷ decimal c.args.number) (10 ∷ []) (writes_stopped _ _ _ _ _ _ _ c.from_residual.ensures.1 c.in_err-put_numbered.ensures)

pub returns-in_err-put_numbered-2 : goal.returns-in_err-put_numbered-2
returns-in_err-put_numbered-2 g c =
    let done = c.in_ok-put_numbered.ensures in
    let stopped = rw c.from.ensures at c.in_err-put_numbered-2.ensures in
    writes_regrouped _ _ _ _ (codes "partial " ++ decimal c.args.done) (32 ∷ decimal c.args.number) (10 ∷ [])
    (writes_after _ _ _ _ _ _ _ done (writes_stopped _ _ _ _ _ _ _ c.from_residual-in_err-put_numbered-2.ensures.1 stopped))

pub returns : goal.returns
returns g c =
    let done = c.in_ok-put_numbered.ensures in
    let number = rw c.from.ensures at c.in_ok-put_numbered-2.ensures in
    writes_regrouped _ _ _ _ (codes "partial " ++ decimal c.args.done) (32 ∷ decimal c.args.number) (10 ∷ []) (writes_after _ _ _ _ _ _ _ done (writes_after _ _ _ _ _ _ _ number c.put.ensures))
