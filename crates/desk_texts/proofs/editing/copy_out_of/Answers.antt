use Rattle.std.proofs.Common.{sym, ◌∙◌}
use Rattle.desk_texts.proofs.TextEdits.{copied_out}
use Rattle.desk_texts.proofs.editing.copy_out_of.Goals as goal

pub returns : goal.returns
returns c =
    let in_range = sym c.has_range.ensures ∙ c.if-not-has_range.false in
    let in_text = sym c.has_position.ensures ∙ c.if-not-has_position.false in
    copied_out c.args.replica.now c.args.other.now c.args.beg c.args.end c.args.pos in_range in_text
    c.save.result c.save.ensures.ok c.save.ensures.long c.save.ensures.errors c.save.ensures.empty
