use Rattle.std.proofs.Common.{◌≡◌, [], ◌∷◌, ◌++◌, false, codes, subst, sym, ◌∙◌, arith}
use Rattle.std.specs.Fmt.{decimal}
use Rattle.std.proofs.lemmas.Fmt.{decimal_digit}
use Rattle.script_sites.specs.Answers.{counts_line}
use Rattle.script_sites.specs.Writing.{PutsToOutput}
use Rattle.script_sites.proofs.answers.put_drained.Goals as goal

-- the line of two counts of 0, spelled out
at_hand : codes "taken 0 0" ++ 10 ∷ [] ≡ counts_line (codes "taken ") 0 0 false
at_hand =
    let zero : 48 ∷ [] ≡ decimal 0 = sym (decimal_digit 0 (omega arith)) in
    λ k. (codes "taken " ++ zero k ++ 32 ∷ zero k ++ []) ++ 10 ∷ []

pub returns-then-not-stopped : goal.returns-then-not-stopped
returns-then-not-stopped g c =
    let none : c.args.drained ≡ 0 = c.if-drained-eq0.true in
    let kept : c.args.dropped ≡ 0 = c.if-dropped-eq0.true in
    let on : c.args.stopped ≡ false = c.if-not-stopped.true in
    let same : counts_line (codes "taken ") 0 0 false ≡ counts_line (codes "taken ") c.args.drained c.args.dropped c.args.stopped =
    λ k. counts_line (codes "taken ") (sym none k) (sym kept k) (sym on k) in
    subst (PutsToOutput c.put.result c.args.output.now c.put.new.output) (at_hand ∙ same) c.put.ensures
