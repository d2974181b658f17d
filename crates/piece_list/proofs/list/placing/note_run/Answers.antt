use Rattle.std.proofs.Common.{◌≡◌, length, arith}
use Rattle.piece_list.specs.Typed.{entries_of}
use Rattle.piece_list.proofs.Typed.{insertions_count}
use Rattle.piece_list.proofs.list.placing.note_run.Goals as goal

pub note_each-requires-clause-room : goal.note_each-requires-clause-room
note_each-requires-clause-room c =
    let run = c.args.run.now in
    let count : length (entries_of run 0) ≡ run.len = rw c.if-run.true (insertions_count 0 run.len) in
    omega (arith, c.requires.room, count)
