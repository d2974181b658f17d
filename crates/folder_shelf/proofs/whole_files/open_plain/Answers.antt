use Rattle.std.proofs.lemmas.Result.{IfErr-weaker, IfOk-weaker, err_from_is_err_and}
use Rattle.folder_shelf.specs.Whole.{HasNoPlain}
use Rattle.folder_shelf.proofs.Reading.{call_refuses, open_refuses, opened, shows_long, shows_none}
use Rattle.folder_shelf.proofs.whole_files.open_plain.Goals as goal

pub returns-in_err-len-clause-err : goal.returns-in_err-len-clause-err
returns-in_err-len-clause-err g c =
    let p = err_from_is_err_and c.from_residual.result c.from_residual.ensures.1 in
    let h = call_refuses c.in_err-len.field-0.0 (λ a. HasNoPlain a c.args.name.now) (g.F.Folder.history c.args.folder.now) (g.F.Folder.history c.look.new.self) c.in_err-len.ensures.err in
    rw (p.1, p.2) h

pub returns-in_default-clause-err : goal.returns-in_default-clause-err
returns-in_default-clause-err g c =
    shows_none c.no_plain_file.result c.args.name.now c.in_ok-len.field-0 (g.F.Folder.history c.args.folder.now) (g.F.Folder.history c.look.new.self) c.no_plain_file.ensures c.in_default.is c.in_ok-len.ensures.ok

pub returns-then-len-clause-err : goal.returns-then-len-clause-err
returns-then-len-clause-err g c =
    shows_long c.no_plain_file-then-len.result c.args.name.now c.in_ok-len.field-0 c.in-Some.len (g.F.Folder.history c.args.folder.now) (g.F.Folder.history c.look.new.self) c.no_plain_file-then-len.ensures c.in-Some.is c.if-len.true c.in_ok-len.ensures.ok

pub returns-clause-ok : goal.returns-clause-ok
returns-clause-ok g c =
    IfOk-weaker c.open.result _ _ (λ file goes. opened c.args.name.now (g.F.Folder.number file) (g.F.Folder.place file) c.in_ok-len.field-0 c.in-Some.len (g.F.Folder.history c.args.folder.now) (g.F.Folder.history c.look.new.self) (g.F.Folder.history c.open.new.self) c.in-Some.is c.in_ok-len.ensures.ok goes) c.open.ensures.ok

pub returns-clause-err : goal.returns-clause-err
returns-clause-err g c =
    IfErr-weaker c.open.result _ _ (λ error goes. open_refuses error c.args.name.now c.in_ok-len.field-0 (g.F.Folder.history c.args.folder.now) (g.F.Folder.history c.look.new.self) (g.F.Folder.history c.open.new.self) c.in_ok-len.ensures.ok goes) c.open.ensures.err
