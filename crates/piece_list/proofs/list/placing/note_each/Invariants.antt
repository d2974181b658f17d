use Rattle.std.proofs.Common.{◌≡◌, ◌+◌, ◌≤◌, ◌++◌, vec_len, vec_capacity}
use Rattle.piece_list.specs.Typed.{insertions}
use Rattle.piece_list.proofs.list.placing.note_each.Given as goal

abbrev pub invariant-loop-n : goal.invariant-loop-n
invariant-loop-n l = record {
  items : l.note.items ≡ l.fn.note.items ++ insertions l.beg l.n;
  room : vec_len l.note + l.len ≤ vec_capacity l.note + l.n;
}
