use Rattle.std.proofs.Common.{◌≡◌, ◌≢◌, ◌+◌, [], ◌∷◌, ◌++◌, subst, true, false}
use Rattle.looks.specs.declared.looks.Looks.{Looks}
use Rattle.desk_texts.specs.RunSoFar.{HasRunsSoFar}
use Rattle.desk_texts.proofs.CountingRuns.{IsCounted-same, IsCounted-other}
use Rattle.desk_texts.proofs.runs.go_on.Goals as goal

pub returns-then-are_same : goal.returns-then-are_same
returns-then-are_same c = λ items byte so_far.
    let run = c.args.run.now in
    let is : run.looks ≡ c.args.looks.now = c.are_same.ensures.0 c.if-are_same.true in
    subst (λ (looks : Looks). HasRunsSoFar (items ++ (byte, looks) ∷ []) c.args.out.now.items run.looks (run.len + 1)) is (IsCounted-same byte so_far)

pub returns : goal.returns
returns c = λ items byte so_far.
    let run = c.args.run.now in
    let apart : run.looks ≢ c.args.looks.now = λ e. (let is : c.are_same.result ≡ true = c.are_same.ensures.1 e in let not : c.are_same.result ≡ false = c.if-are_same.false in cc) in
    rw (c.copy.ensures, c.in_ok-put_ended.ensures) (IsCounted-other c.args.looks.now byte apart so_far)
