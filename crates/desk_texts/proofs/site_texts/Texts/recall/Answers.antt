use Rattle.std.proofs.Common.{refl, sym, ◌∙◌}
use Rattle.texts.specs.Edit.{recalling}
use Rattle.desk_texts.proofs.TextEdits.{text_edited, text_outside}
use Rattle.desk_texts.proofs.site_texts.Texts.recall.Goals as goal

pub returns-then-not-has_position : goal.returns-then-not-has_position
returns-then-not-has_position c =
    let t = c.replica_mut-replica.result.now in
    let outside = sym c.has_position.ensures ∙ c.if-not-has_position.true in
    (t, t, c.replica_mut-replica.ensures.value, text_outside t (recalling c.args.pos) c.args.outbox.now outside, refl)

pub returns : goal.returns
returns c =
    let t = c.replica_mut-replica.result.now in
    let in_text = sym c.has_position.ensures ∙ c.if-not-has_position.false in
    let edited = text_edited t (recalling c.args.pos) c.args.outbox.now in_text c.insert_recalled.result
    c.insert_recalled.new.self c.insert_recalled.new.outbox c.insert_recalled.ensures in
    (t, c.insert_recalled.new.self, c.replica_mut-replica.ensures.value, edited, refl)
