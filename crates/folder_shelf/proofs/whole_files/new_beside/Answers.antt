use Rattle.std.proofs.Common.{string_bytes, arith}
use Rattle.std.proofs.lemmas.Result.{err_from_is_err_and}
use Rattle.folder_shelf.specs.Calls.{Same}
use Rattle.folder_shelf.proofs.Beside.{Tried, all_tried, made, no_name, not_made, tried, tried_none}
use Rattle.folder_shelf.proofs.Leading.{since_start}
use Rattle.folder_shelf.proofs.whole_files.new_beside.Goals as goal

pub loop-number-init : goal.loop-number-init
loop-number-init g c = since_start Same (Tried 0) tried_none (g.F.Folder.history c.args.folder.now)

pub returns-in_err-name-clause-err : goal.returns-in_err-name-clause-err
returns-in_err-name-clause-err g c =
    let p = err_from_is_err_and c.from_residual.result c.from_residual.ensures.1 in
    let h = no_name p.0 c.loop-number.number c.args.target.now (g.F.Folder.history c.args.folder.now) (g.F.Folder.history c.loop-number.folder) p.2 c.loop-number.invariant in
    rw p.1 h

pub returns-in-Ok-clause-ok : goal.returns-in-Ok-clause-ok
returns-in-Ok-clause-ok g c =
    made c.loop-number.number (string_bytes c.in_ok-name.name) c.as_str.result.now c.args.target.now (g.F.Folder.number c.in-Ok.file) (g.F.Folder.history c.args.folder.now) (g.F.Folder.history c.loop-number.folder) (g.F.Folder.history c.make_new.new.self) c.as_str.ensures.value c.in_ok-name.ensures.beside c.loop-number.invariant c.in-Ok.ensures.ok c.in-Ok.ensures.target

pub returns-in-Err-2-clause-err : goal.returns-in-Err-2-clause-err
returns-in-Err-2-clause-err g c =
    not_made c.in-Err.why (string_bytes c.in_ok-name.name) c.as_str.result.now c.args.target.now c.as_str.ensures.value c.in_ok-name.ensures.beside c.loop-number.number (g.F.Folder.history c.args.folder.now) (g.F.Folder.history c.loop-number.folder) (g.F.Folder.history c.make_new.new.self) c.loop-number.invariant c.in-Err.ensures.err

pub loop-number-preserved : goal.loop-number-preserved
loop-number-preserved g c =
    tried c.in-Err.why (string_bytes c.in_ok-name.name) c.as_str.result.now c.args.target.now c.as_str.ensures.value c.in_ok-name.ensures.beside (c.is_taken.ensures c.if-is_taken.true) c.loop-number.number (g.F.Folder.history c.args.folder.now) (g.F.Folder.history c.loop-number.folder) (g.F.Folder.history c.make_new.new.self) c.loop-number.invariant c.in-Err.ensures.err

pub returns-clause-err : goal.returns-clause-err
returns-clause-err g c =
    all_tried c.into.result c.loop-number.number c.args.target.now (g.F.Folder.history c.args.folder.now) (g.F.Folder.history c.loop-number.folder) c.into.ensures (omega (arith, c.loop-number-test.false)) c.loop-number.invariant
