use Rattle.std.proofs.Common.{sym, ap, ◌∙◌}
use Rattle.texts.specs.Pieces.{first_len}
use Rattle.texts.specs.TextState.{TextState}
use Rattle.texts.proofs.Unmade.{recalled}
use Rattle.texts.proofs.replica.Replica.insert_recalled.Goals as goal

pub returns-in-Err : goal.returns-in-Err
returns-in-Err c =
    let t = c.args.self.now in
    let sent = c.args.outbox.now in
    recalled t c.args.pos c.unmade.result sent (c.unmade.ensures c.args.pos t.last_stretch sent c.requires.in_text
    (sym (c.first_len.ensures.value ∙ ap (λ (x : TextState). first_len x.last_stretch) c.self.view_is)))
