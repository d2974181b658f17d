use Rattle.std.proofs.Common.{sym, subst, ap, ◌∙◌, List, ℕ}
use Rattle.byte_fields.specs.Fields.{Appends}
use Rattle.chunks.specs.Parts.{placed}
use Rattle.chunks.proofs.Written.{first_added, next_first}
use Rattle.packed.specs.Told.{has_begun}
use Rattle.chunks.proofs.writing.put_added.Goals as goal

pub put_first-requires : goal.put_first-requires
put_first-requires c =
    next_first c.args.history.now (placed c.args.op.now c.args.len)
    (ap (has_begun c.args.history.now) (sym c.site.ensures) ∙ sym c.has_begun.ensures ∙ c.if-not-has_begun.true)
    c.requires.next

pub returns-then-not-has_begun-clause-put : goal.returns-then-not-has_begun-clause-put
returns-then-not-has_begun-clause-put c =
    subst (λ (l : List ℕ). Appends c.put_first.result c.args.out.now.items c.put_first.new.out.items l)
    (sym (first_added c.args.history.now (placed c.args.op.now c.args.len) c.requires.in_chunk
    (ap (has_begun c.args.history.now) (sym c.site.ensures) ∙ sym c.has_begun.ensures ∙ c.if-not-has_begun.true)))
    c.put_first.ensures.put
