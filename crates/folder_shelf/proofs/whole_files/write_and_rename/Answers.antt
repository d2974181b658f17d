use Rattle.std.proofs.lemmas.Result.{IfErr-weaker, err_from_is_err_and, on_ok_weaker}
use Rattle.folder_shelf.proofs.Replacing.{put_append_fails, put_mode_fails, put_move_fails, put_placed, put_sync_fails}
use Rattle.folder_shelf.proofs.whole_files.write_and_rename.Goals as goal

pub returns-in_err-take_mode-clause-err : goal.returns-in_err-take_mode-clause-err
returns-in_err-take_mode-clause-err g c =
    let p = err_from_is_err_and c.from_residual.result c.from_residual.ensures.1 in
    let h = put_mode_fails (g.F.Folder.number c.args.file) c.args.beside.now c.args.name.now c.args.bytes.now c.in_err-take_mode.field-0.0 (g.F.Folder.history c.args.folder.now) (g.F.Folder.history c.take_mode.new.self) c.in_err-take_mode.ensures.err in
    rw (p.1, p.2) h

pub returns-in_err-append-clause-err : goal.returns-in_err-append-clause-err
returns-in_err-append-clause-err g c =
    let p = err_from_is_err_and c.from_residual-in_err-append.result c.from_residual-in_err-append.ensures.1 in
    let h = put_append_fails (g.F.Folder.number c.args.file) c.args.beside.now c.args.name.now c.args.bytes.now c.in_err-append.field-0.0 (g.F.Folder.history c.args.folder.now) (g.F.Folder.history c.take_mode.new.self) (g.F.Folder.history c.append.new.self) c.in_ok-take_mode.ensures.ok c.in_err-append.ensures.err in
    rw (p.1, p.2) h

pub returns-in_err-sync-clause-err : goal.returns-in_err-sync-clause-err
returns-in_err-sync-clause-err g c =
    let p = err_from_is_err_and c.from_residual-in_err-sync.result c.from_residual-in_err-sync.ensures.1 in
    let h = put_sync_fails (g.F.Folder.number c.args.file) c.args.beside.now c.args.name.now c.args.bytes.now c.in_err-sync.field-0.0 (g.F.Folder.number c.append.new.file) c.append.ensures.file (g.F.Folder.history c.args.folder.now) (g.F.Folder.history c.take_mode.new.self) (g.F.Folder.history c.append.new.self) (g.F.Folder.history c.sync.new.self) c.in_ok-take_mode.ensures.ok c.in_ok-append.ensures.ok c.in_err-sync.ensures.err in
    rw (p.1, p.2) h

pub returns-clause-ok : goal.returns-clause-ok
returns-clause-ok g c =
    on_ok_weaker c.rename.result (λ moves. put_placed (g.F.Folder.number c.args.file) c.args.beside.now c.args.name.now c.args.bytes.now (g.F.Folder.number c.append.new.file) c.append.ensures.file (g.F.Folder.history c.args.folder.now) (g.F.Folder.history c.take_mode.new.self) (g.F.Folder.history c.append.new.self) (g.F.Folder.history c.sync.new.self) (g.F.Folder.history c.rename.new.self) c.in_ok-take_mode.ensures.ok c.in_ok-append.ensures.ok c.in_ok-sync.ensures.ok moves) c.rename.ensures.ok

pub returns-clause-err : goal.returns-clause-err
returns-clause-err g c =
    IfErr-weaker c.rename.result _ _ (λ error moves. put_move_fails (g.F.Folder.number c.args.file) c.args.beside.now c.args.name.now c.args.bytes.now error (g.F.Folder.number c.append.new.file) c.append.ensures.file (g.F.Folder.history c.args.folder.now) (g.F.Folder.history c.take_mode.new.self) (g.F.Folder.history c.append.new.self) (g.F.Folder.history c.sync.new.self) (g.F.Folder.history c.rename.new.self) c.in_ok-take_mode.ensures.ok c.in_ok-append.ensures.ok c.in_ok-sync.ensures.ok moves) c.rename.ensures.err
