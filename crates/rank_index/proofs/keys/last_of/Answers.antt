use Rattle.std.proofs.Common.{◌≡◌, ◌+◌, ◌-◌, take, ap, ◌∙◌, arith}
use Rattle.rank_index.specs.Keyed.{last_tag_from}
use Rattle.rank_index.proofs.Keyed.{last_at}
use Rattle.rank_index.proofs.keys.last_of.Goals as goal

pub returns : goal.returns
returns c =
    let next : c.args.n - 1 + 1 ≡ c.args.n = omega arith in
    c.from.ensures ∙ last_at c.args.tag c.args.members.now (c.args.n - 1) (0, 0) (omega (arith, c.requires))
    ∙ ap (λ k. last_tag_from c.args.tag (take k c.args.members.now)) next
