use Rattle.std.proofs.lemmas.Result.{IfOk-weaker}
use Rattle.folder_shelf.proofs.whole_files.name_beside.Goals as goal

pub returns-clause-beside : goal.returns-clause-beside
returns-clause-beside c = IfOk-weaker c.format.result _ _ (λ name h. (_, h)) c.format.ensures.ok
