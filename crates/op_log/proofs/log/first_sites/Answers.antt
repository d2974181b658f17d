use Rattle.std.proofs.Common.{ℕ, take, ap, ◌∙◌, arith}
use Rattle.std.proofs.Math.Seq.{take-length}
use Rattle.op_log.specs.Logged.{first_sites}
use Rattle.op_log.proofs.Sites.{first_sites_more}
use Rattle.op_log.proofs.log.first_sites.Goals as goal

pub loop-at-preserved : goal.loop-at-preserved
loop-at-preserved c =
    first_sites_more c.args.ops.now.items c.loop-at.at c.identity-site.result.0 c.identity-site.result.1
    (omega (arith, c.loop-at-test.true, c.len-at-end.ensures.value)) c.identity-site.ensures c.loop-at.sites.items
    c.add_first.new.sites.items c.loop-at.invariant c.in_ok-add_first.ensures.ok

pub returns-clause-ok : goal.returns-clause-ok
returns-clause-ok c =
    c.loop-at.invariant
    ∙ ap (λ (n : ℕ). first_sites (take n c.args.ops.now.items)) (omega (arith, c.loop-at-test.false, c.len-at-end.ensures.value, c.loop-at.auto.at-end))
    ∙ ap first_sites (take-length c.args.ops.now.items)
