use Rattle.std.proofs.Common.{◌≡◌, ℕ, ◌<◌, ◌≤◌, slice_index_or}
use Rattle.desk_windows.specs.Windows.{IsWindowTold, WindowSeen}
use Rattle.desk_windows.proofs.telling.tell_each.Given as goal

abbrev pub invariant-loop-index : goal.invariant-loop-index
invariant-loop-index l = record {
  told : (k : ℕ) (d : WindowSeen) → k < l.index
      → IsWindowTold l.text l.changes l.replica (slice_index_or l.initial.windows k d) (slice_index_or l.windows k d);
  left : (k : ℕ) (d : WindowSeen) → l.index ≤ k → slice_index_or l.windows k d ≡ slice_index_or l.initial.windows k d;
}
