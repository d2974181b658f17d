use Rattle.std.proofs.Common.{refl}
use Rattle.texts.specs.Edit.{restoration}
use Rattle.desk_texts.proofs.TextEdits.{text_edited}
use Rattle.desk_texts.proofs.site_texts.Texts.restore.Goals as goal

pub returns : goal.returns
returns c =
    let t = c.replica_mut.result.now in
    let edits = text_edited t restoration c.args.outbox.now refl c.restore.result c.restore.new.self
    c.restore.new.outbox c.restore.ensures in
    (t, c.restore.new.self, c.replica_mut.ensures.value, edits, refl)
