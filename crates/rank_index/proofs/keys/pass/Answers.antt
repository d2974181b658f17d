use Rattle.std.proofs.Common.{◌≡◌, take, ap, subst, ◌∙◌, arith}
use Rattle.std.proofs.lemmas.List.{take_all}
use Rattle.rank_index.specs.Keyed.{AreAbove, last_tag_from}
use Rattle.rank_index.proofs.Keyed.{passed_here}
use Rattle.rank_index.proofs.keys.pass.Goals as goal

pub returns-then-n-members-clause-stops : goal.returns-then-n-members-clause-stops
returns-then-n-members-clause-stops c = λ stops more.
    passed_here c.args.keys.now c.args.key c.args.members.now more c.count_above-n.result c.args.tag c.last_of-last.result
    (omega (arith, c.if-n-members.true)) c.count_above-n.ensures.above c.count_above-n.ensures.stops c.last_of-last.ensures

pub returns-clause-all : goal.returns-clause-all
returns-clause-all c = λ goes.
    let all : take c.count_above-n.result c.args.members.now ≡ c.args.members.now =
    take_all c.count_above-n.result c.args.members.now (omega (arith, c.if-n-members.false)) in (
      subst (AreAbove c.args.keys.now c.args.key) all c.count_above-n.ensures.above,
      c.last_of-last.ensures ∙ ap (last_tag_from c.args.tag) all,
    )
