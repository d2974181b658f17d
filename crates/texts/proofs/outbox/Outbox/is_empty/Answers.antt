use Rattle.std.proofs.Common.{◌≡◌, length, sym, ap, ◌∙◌, arith}
use Rattle.std.proofs.lemmas.Grind.{common_steps}
use Rattle.texts.proofs.Parts.{length-parts}
use Rattle.texts.proofs.outbox.Outbox.is_empty.Goals as goal

pub returns : goal.returns
returns c =
    let v = c.self.inside in
    let count : v.ends.len ≡ length c.args.self.now =
    v.ends.ok.0 ∙ sym (length-parts v.bytes.items v.ends.items 0) ∙ ap length c.self.view_is in
    grind (arith, common_steps, count, c.is_empty.ensures)
