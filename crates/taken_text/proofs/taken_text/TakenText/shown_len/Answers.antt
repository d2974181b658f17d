use Rattle.std.proofs.Common.{sym, ◌∙◌}
use Rattle.taken_text.proofs.Counted.{count_now}
use Rattle.taken_text.proofs.taken_text.TakenText.shown_len.Goals as goal

pub returns : goal.returns
returns c =
    let t = c.self.inside in
    c.shown_len.ensures
    ∙ sym (count_now t.log.ops t.pieces.items t.files t.asked c.args.self.now c.self.view_is c.self.invariant.taken)
