use Rattle.std.proofs.Common.{ℕ, ◌<◌}
use Rattle.viewers.specs.Screen.{seats_of}
use Rattle.viewers.specs.Tracks.{seat_at}
use Rattle.desk_windows.specs.Windows.{AllShow, AreSameWindows, HasRows}
use Rattle.desk_windows.proofs.fitting.fit_track.Given as goal

abbrev pub invariant-loop-index : goal.invariant-loop-index
invariant-loop-index l = record {
  same : AreSameWindows l.initial.viewers l.viewers;
  shown : AllShow l.texts l.viewers;
  fitted : (i : ℕ) → i < l.index → HasRows l.viewers (seat_at (seats_of l.initial.viewers.tracks l.track) i).number;
  kept : (v : ℕ) → HasRows l.initial.viewers v → HasRows l.viewers v;
}
