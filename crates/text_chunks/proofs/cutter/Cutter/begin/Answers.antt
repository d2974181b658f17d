use Rattle.std.proofs.Common.{◌≡◌, ℕ, Some, ap, subst, sym}
use Rattle.chunks.specs.Chunks.{CanCome, nothing_written, written_on}
use Rattle.chunks.specs.Parts.{placed}
use Rattle.packed.specs.Told.{nothing_begun}
use Rattle.text_chunks.specs.Parts.{Cut}
use Rattle.text_chunks.proofs.Cutting.{first_added}
use Rattle.text_chunks.proofs.cutter.Cutter.begin.Goals as goal

pub returns-clause-ok : goal.returns-clause-ok
returns-clause-ok c =
    let p = placed c.args.op.now c.args.len in
    let text : c.self.inside.text ≡ c.args.self.now.text = ap (λ (x : Cut). x.text) c.self.view_is in
    let added : c.add.new.self ≡ written_on (nothing_written c.self.inside.text) p =
    first_added c.self.inside.text p c.in_ok-writer.writer c.add.new.self
    (subst (λ (n : ℕ). CanCome nothing_begun n p) (sym text) c.requires) c.in_ok-writer.ensures.ok
    c.in_ok-add.ensures.ok in
    rw added (ap (λ (x : Cut). record x { current = Some (written_on (nothing_written x.text) p) }) c.self.view_is)
