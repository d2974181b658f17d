use Rattle.std.proofs.Common.{sym, ◌∙◌}
use Rattle.chunks.specs.Parts.{placed}
use Rattle.text_chunks.proofs.Cutting.{begun_after}
use Rattle.text_chunks.proofs.cutter.Cutter.add.Goals as goal

pub returns-clause-ok : goal.returns-clause-ok
returns-clause-ok c =
    begun_after c.args.self.now c.add_here.new.self c.close.new.self c.begin.new.self (placed c.args.op.now c.args.len)
    c.begin.result (sym c.in_ok-add_here.ensures.room ∙ c.if-branch.false) c.in_ok-add_here.ensures.ok
    c.in_ok-close.ensures.ok c.begin.ensures.ok
