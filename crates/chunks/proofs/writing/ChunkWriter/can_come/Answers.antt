use Rattle.std.proofs.Common.{◌≡◌, false, ap, sym, subst, ◌∙◌}
use Rattle.operations.specs.Operation.{Begins}
use Rattle.packed.specs.Told.{Told, has_begun}
use Rattle.chunks.specs.Chunks.{Written}
use Rattle.chunks.specs.Parts.{placed}
use Rattle.chunks.proofs.Written.{first_comes}
use Rattle.chunks.proofs.writing.ChunkWriter.can_come.Goals as goal

pub returns : goal.returns
returns c =
    let t = c.args.self.now.told in
    let p = placed c.args.op.now c.args.len in
    let told : c.self.inside.history ≡ t = ap (λ (w : Written). w.told) c.self.view_is in
    let none : has_begun t p.op.site ≡ false =
    ap (has_begun t) (sym c.site.ensures) ∙ ap (λ (u : Told). has_begun u c.site.result) (sym told)
    ∙ sym c.has_begun.ensures ∙ c.if-has_begun.false in
    let comes = first_comes t p c.lemma_has_spelling.ensures none in
    let kind = c.args.op.now.kind in (
      λ is. comes.0 (subst (Begins kind) c.from.ensures (c.begins_at.ensures.0 is)),
      λ next. c.begins_at.ensures.1 (subst (Begins kind) (sym c.from.ensures) (comes.1 next)),
    )
