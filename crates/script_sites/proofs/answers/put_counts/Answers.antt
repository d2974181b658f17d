use Rattle.std.proofs.Common.{ℕ, List, [], ◌∷◌, ◌++◌, Bool, Option, Result, codes}
use Rattle.std.specs.Prelude.{if◌then◌else◌}
use Rattle.std.specs.Fmt.{decimal}
use Rattle.looks.specs.declared.refusal.Refusal.{Refusal}
use Rattle.script_sites.specs.Writing.{WritesBytes}
use Rattle.script_sites.proofs.WriteLemmas.{writes_after, writes_stopped, writes_regrouped}
use Rattle.script_sites.proofs.answers.put_counts.Goals as goal

-- four parts, the latter ones taken together
regrouped : (result : Result (Unit {0}) Refusal) (failed : Bool) (old new : Option (List ℕ)) (a b c d : List ℕ) → WritesBytes result failed old new (a ++ (b ++ (c ++ d))) → WritesBytes result failed old new (((a ++ b) ++ c) ++ d)
regrouped result failed old new a b c d w = writes_regrouped result failed old new (a ++ b) c d (writes_regrouped result failed old new a b (c ++ d) w)

pub returns-in_err-put_numbered : goal.returns-in_err-put_numbered
returns-in_err-put_numbered g c =
    let stopped = c.in_err-put_numbered.ensures in
    regrouped _ _ _ _ (c.args.word.now ++ decimal c.args.first) (32 ∷ decimal c.args.second) (if c.args.stopped then codes " stopped" else []) (10 ∷ []) (writes_stopped _ _ _ _ _ _ _ c.from_residual.ensures.1 stopped)

pub returns-in_err-put_numbered-2 : goal.returns-in_err-put_numbered-2
returns-in_err-put_numbered-2 g c =
    let first = c.in_ok-put_numbered.ensures in
    let stopped = c.in_err-put_numbered-2.ensures in
    regrouped _ _ _ _ (c.args.word.now ++ decimal c.args.first) (32 ∷ decimal c.args.second) (if c.args.stopped then codes " stopped" else []) (10 ∷ [])
    (writes_after _ _ _ _ _ _ _ first (writes_stopped _ _ _ _ _ _ _ c.from_residual-in_err-put_numbered-2.ensures.1 stopped))

pub returns-then-stopped : goal.returns-then-stopped
returns-then-stopped g c =
    let first = c.in_ok-put_numbered.ensures in
    let second = c.in_ok-put_numbered-2.ensures in
    rw c.if-stopped.true (regrouped _ _ _ _ (c.args.word.now ++ decimal c.args.first) (32 ∷ decimal c.args.second) (codes " stopped") (10 ∷ []) (writes_after _ _ _ _ _ _ _ first (writes_after _ _ _ _ _ _ _ second c.put.ensures)))

pub returns-else-stopped : goal.returns-else-stopped
returns-else-stopped g c =
    let first = c.in_ok-put_numbered.ensures in
    let second = c.in_ok-put_numbered-2.ensures in
    rw c.if-stopped.false (regrouped _ _ _ _ (c.args.word.now ++ decimal c.args.first) (32 ∷ decimal c.args.second) [] (10 ∷ []) (writes_after _ _ _ _ _ _ _ first (writes_after _ _ _ _ _ _ _ second c.put-else-stopped.ensures)))
