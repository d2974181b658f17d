use Rattle.std.proofs.Common.{◌≡◌, ◌++◌, ap, subst, ◌∙◌}
use Rattle.std.proofs.lemmas.Result.{err_from_is_err_and}
use Rattle.byte_fields.specs.Fields.{Appends}
use Rattle.byte_fields.proofs.Appended.{Appends-after}
use Rattle.packed.specs.Told.{Told, nothing_begun}
use Rattle.packed.specs.Spelling.{packed_next}
use Rattle.chunks.specs.Chunks.{begin_spelling, begun_with}
use Rattle.chunks.specs.Parts.{placed}
use Rattle.chunks.proofs.writing.put_first.Goals as goal

pub returns-in_err-spell-clause-put : goal.returns-in_err-spell-clause-put
returns-in_err-spell-clause-put c =
    let p = placed c.args.op.now c.args.len in
    let old = c.args.out.now.items in
    let mid = c.put_begin.new.out.items in
    let new = c.spell.new.out.items in
    let told : c.note_begin.new.history ≡ begun_with nothing_begun p =
    c.in_ok-note_begin.ensures.ok ∙ ap (λ (u : Told). begun_with u p) c.of_chunk-begun.ensures in
    let bytes = packed_next (begun_with nothing_begun p) p.op in
    let spelled : Appends c.spell.result mid new bytes =
    subst (λ (u : Told). Appends c.spell.result mid new (packed_next u p.op)) told c.spell.ensures in
    let all : Appends c.spell.result old new (begin_spelling p ++ bytes) =
    Appends-after c.spell.result old mid new (begin_spelling p) bytes c.in_ok-put_begin.ensures spelled in
    let given = err_from_is_err_and c.from_residual-in_err-spell.result c.from_residual-in_err-spell.ensures.1 in
    rw (given.1) (subst (λ r. Appends r old new (begin_spelling p ++ bytes)) c.in_err-spell.was all)
