use Rattle.std.proofs.Common.{◌∙◌, arith}
use Rattle.std.proofs.lemmas.Result.{err_from_is_err_and}
use Rattle.folder_shelf.proofs.Reading.{piece_last, piece_so_far, read_past, read_piece, read_refuses}
use Rattle.folder_shelf.proofs.whole_files.read_pieces.Goals as goal

pub returns-in_err-count-clause-err : goal.returns-in_err-count-clause-err
returns-in_err-count-clause-err g c =
    let p = err_from_is_err_and c.from_residual.result c.from_residual.ensures.1 in
    let h = read_refuses c.in_err-count.field-0.0 (g.F.Folder.number c.args.file.now) (g.F.Folder.place c.args.file.now) (g.F.Folder.place c.loop-folder.file) c.loop-folder.bytes.items (g.F.Folder.history c.args.folder.now) (g.F.Folder.history c.loop-folder.folder) (g.F.Folder.history c.read.new.self) c.loop-folder.invariant.read c.in_err-count.ensures.err in
    rw (p.1, p.2) h

pub returns-then-len-gt-MAX_FILE_LEN-clause-err : goal.returns-then-len-gt-MAX_FILE_LEN-clause-err
returns-then-len-gt-MAX_FILE_LEN-clause-err g c =
    let piece = read_piece (g.F.Folder.number c.args.file.now) (g.F.Folder.place c.args.file.now) (g.F.Folder.place c.loop-folder.file) (g.F.Folder.place c.read.new.file) c.in_ok-count.count c.loop-folder.bytes.items c.read.new.bytes.items (g.F.Folder.number c.loop-folder.file) c.loop-folder.invariant.number (g.F.Folder.history c.args.folder.now) (g.F.Folder.history c.loop-folder.folder) (g.F.Folder.history c.read.new.self) c.loop-folder.invariant.read c.in_ok-count.ensures.ok in
    let so_far = piece_so_far (g.F.Folder.number c.args.file.now) (g.F.Folder.place c.args.file.now) (g.F.Folder.place c.read.new.file) c.in_ok-count.count c.read.new.bytes.items (g.F.Folder.history c.args.folder.now) (g.F.Folder.history c.read.new.self) piece in
    read_past c.no_plain_file.result (g.F.Folder.number c.args.file.now) (g.F.Folder.place c.args.file.now) (g.F.Folder.place c.read.new.file) c.read.new.bytes.items (g.F.Folder.history c.args.folder.now) (g.F.Folder.history c.read.new.self) c.no_plain_file.ensures (grind arith) so_far

pub returns-then-count-lt-MAX_PIECE-clause-ok : goal.returns-then-count-lt-MAX_PIECE-clause-ok
returns-then-count-lt-MAX_PIECE-clause-ok g c =
    let piece = read_piece (g.F.Folder.number c.args.file.now) (g.F.Folder.place c.args.file.now) (g.F.Folder.place c.loop-folder.file) (g.F.Folder.place c.read.new.file) c.in_ok-count.count c.loop-folder.bytes.items c.read.new.bytes.items (g.F.Folder.number c.loop-folder.file) c.loop-folder.invariant.number (g.F.Folder.history c.args.folder.now) (g.F.Folder.history c.loop-folder.folder) (g.F.Folder.history c.read.new.self) c.loop-folder.invariant.read c.in_ok-count.ensures.ok in
    piece_last (g.F.Folder.number c.args.file.now) (g.F.Folder.place c.args.file.now) (g.F.Folder.place c.read.new.file) c.in_ok-count.count c.read.new.bytes.items (g.F.Folder.history c.args.folder.now) (g.F.Folder.history c.read.new.self) c.if-count-lt-MAX_PIECE.true piece

pub loop-folder-preserved : goal.loop-folder-preserved
loop-folder-preserved g c =
    let piece = read_piece (g.F.Folder.number c.args.file.now) (g.F.Folder.place c.args.file.now) (g.F.Folder.place c.loop-folder.file) (g.F.Folder.place c.read.new.file) c.in_ok-count.count c.loop-folder.bytes.items c.read.new.bytes.items (g.F.Folder.number c.loop-folder.file) c.loop-folder.invariant.number (g.F.Folder.history c.args.folder.now) (g.F.Folder.history c.loop-folder.folder) (g.F.Folder.history c.read.new.self) c.loop-folder.invariant.read c.in_ok-count.ensures.ok in
    record { read = piece_so_far (g.F.Folder.number c.args.file.now) (g.F.Folder.place c.args.file.now) (g.F.Folder.place c.read.new.file) c.in_ok-count.count c.read.new.bytes.items (g.F.Folder.history c.args.folder.now) (g.F.Folder.history c.read.new.self) piece; number = c.read.ensures.file ∙ c.loop-folder.invariant.number }
