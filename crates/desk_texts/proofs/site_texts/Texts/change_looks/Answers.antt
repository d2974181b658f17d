use Rattle.std.proofs.Common.{refl, sym, ◌∙◌}
use Rattle.texts.specs.Edit.{looks_change}
use Rattle.desk_texts.proofs.TextEdits.{text_edited, text_outside}
use Rattle.desk_texts.proofs.site_texts.Texts.change_looks.Goals as goal

pub returns-then-not-has_range : goal.returns-then-not-has_range
returns-then-not-has_range c =
    let t = c.replica_mut-replica.result.now in
    let outside = sym c.has_range.ensures ∙ c.if-not-has_range.true in
    (t, t, c.replica_mut-replica.ensures.value, text_outside t (looks_change c.args.beg c.args.end c.args.sel c.args.looks.now) c.args.outbox.now outside, refl)

pub returns : goal.returns
returns c =
    let t = c.replica_mut-replica.result.now in
    let in_text = sym c.has_range.ensures ∙ c.if-not-has_range.false in
    let edited = text_edited t (looks_change c.args.beg c.args.end c.args.sel c.args.looks.now) c.args.outbox.now in_text c.change_looks.result c.change_looks.new.self c.change_looks.new.outbox c.change_looks.ensures in
    (t, c.change_looks.new.self, c.replica_mut-replica.ensures.value, edited, refl)
