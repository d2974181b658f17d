use Rattle.std.proofs.lemmas.Result.{IfErr-weaker, IfOk-weaker}
use Rattle.folder_shelf.proofs.Reading.{plain_read, plain_refuses}
use Rattle.folder_shelf.proofs.whole_files.read_plain.Goals as goal

pub returns-clause-ok : goal.returns-clause-ok
returns-clause-ok g c =
    IfOk-weaker c.read_pieces.result _ _ (λ bytes read. plain_read c.args.name.now (g.F.Folder.number c.in_ok-file.file) (g.F.Folder.place c.in_ok-file.file) bytes.items (g.F.Folder.history c.args.folder.now) (g.F.Folder.history c.open_plain.new.folder) (g.F.Folder.history c.read_pieces.new.folder) c.in_ok-file.ensures.ok read) c.read_pieces.ensures.ok

pub returns-clause-err : goal.returns-clause-err
returns-clause-err g c =
    IfErr-weaker c.read_pieces.result _ _ (λ error read. plain_refuses error c.args.name.now (g.F.Folder.number c.in_ok-file.file) (g.F.Folder.place c.in_ok-file.file) (g.F.Folder.history c.args.folder.now) (g.F.Folder.history c.open_plain.new.folder) (g.F.Folder.history c.read_pieces.new.folder) c.in_ok-file.ensures.ok read) c.read_pieces.ensures.err
