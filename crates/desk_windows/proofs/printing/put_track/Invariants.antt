use Rattle.std.proofs.Common.{◌≡◌, ◌++◌, drop, take}
use Rattle.viewers.specs.Screen.{seats_of}
use Rattle.viewers.specs.Tracks.{rows}
use Rattle.machine.specs.ScreenPrinting.{track_lines}
use Rattle.desk_windows.specs.Printing.{over, track_name}
use Rattle.desk_windows.proofs.printing.put_track.Given as goal

abbrev pub invariant-loop-seat : goal.invariant-loop-seat
invariant-loop-seat l = record {
  seats : l.seat-items ≡ seats_of l.viewers.tracks l.track;
  top : l.top ≡ rows (take l.seat-index l.seat-items);
  lines : l.out.items ++ track_lines l.texts (over l.viewers) (track_name l.track) l.top (drop l.seat-index l.seat-items)
      ≡ l.initial.out.items ++ track_lines l.texts (over l.viewers) (track_name l.track) 0 l.seat-items;
}
