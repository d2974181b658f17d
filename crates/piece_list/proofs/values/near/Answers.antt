use Rattle.std.proofs.Common.{◌≡◌, ◌-◌, length, Some, refl, ap, sym, ◌∙◌, arith}
use Rattle.std.proofs.lemmas.Option.{slice_get_read}
use Rattle.looks.specs.declared.looks.Looks.{Looks}
use Rattle.piece_list.proofs.Recorded.{same_looks}
use Rattle.piece_list.proofs.values.near.Goals as goal

pub returns-then-eq : goal.returns-then-eq
returns-then-eq c =
    let found : Looks = c.index-entered-at.result in
    let same : found ≡ c.args.looks.now = same_looks found c.args.looks.now (sym c.eq.ensures ∙ c.if-eq.true) in
    slice_get_read c.args.entered.now (length c.args.entered.now) (c.loop-at.at - 1) found refl
    (omega (arith, c.loop-at.invariant, c.loop-at-test.true)) c.index-entered-at.is
    ∙ ap (λ (l : Looks). Some l) same
