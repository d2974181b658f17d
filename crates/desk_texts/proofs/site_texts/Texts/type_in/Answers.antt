use Rattle.std.proofs.Common.{refl, sym, ◌∙◌, map}
use Rattle.looks.specs.Looks.{plain_looks}
use Rattle.texts.specs.Edit.{insertion}
use Rattle.desk_texts.proofs.TextEdits.{text_edited, text_outside}
use Rattle.desk_texts.proofs.site_texts.Texts.type_in.Goals as goal

pub returns-then-not-has_position : goal.returns-then-not-has_position
returns-then-not-has_position c =
    let t = c.replica_mut-replica.result.now in
    let outside = sym c.has_position.ensures ∙ c.if-not-has_position.true in
    (t, t, c.replica_mut-replica.ensures.value, text_outside t (insertion c.args.pos (map (λ b. (b, plain_looks)) c.args.bytes.now)) c.args.outbox.now outside, refl)

pub returns : goal.returns
returns c =
    let t = c.replica_mut-replica.result.now in
    let in_text = sym c.has_position.ensures ∙ c.if-not-has_position.false in
    let edited = text_edited t (insertion c.args.pos (map (λ b. (b, plain_looks)) c.args.bytes.now)) c.args.outbox.now in_text
    c.type_in.result c.type_in.new.self c.type_in.new.outbox c.type_in.ensures in
    (t, c.type_in.new.self, c.replica_mut-replica.ensures.value, edited, refl)
