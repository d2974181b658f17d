use Rattle.std.proofs.Common.{length, sym, ap, ◌∙◌}
use Rattle.texts.proofs.Parts.{length-parts}
use Rattle.texts.proofs.outbox.Outbox.len.Goals as goal

pub returns : goal.returns
returns c =
    let v = c.self.inside in
    c.len.ensures ∙ v.ends.ok.0 ∙ sym (length-parts v.bytes.items v.ends.items 0) ∙ ap length c.self.view_is
