use Rattle.std.proofs.Common.{arith}
use Rattle.desk_windows.specs.Printing.{track_name}
use Rattle.desk_windows.proofs.Printed.{lines_go, next_row, rows_fit}
use Rattle.desk_windows.proofs.printing.put_track.Goals as goal

pub overflow_add-top : goal.overflow_add-top
overflow_add-top c =
    let low = rows_fit c.args.viewers.now c.args.track c.seats-seat-items.result.now c.loop-seat.top c.loop-seat.seat-index
    (record { number = 0; height = 0 }) c.lemma_are_viewers.ensures c.loop-seat.invariant.seats c.loop-seat.invariant.top
    c.loop-seat-test.true in
    omega (arith, low)

pub loop-seat-preserved : goal.loop-seat-preserved
loop-seat-preserved c = record {
  seats = c.loop-seat.invariant.seats;
  top = next_row c.seats-seat-items.result.now c.loop-seat.top c.loop-seat.seat-index (record { number = 0; height = 0 })
      c.loop-seat.invariant.top c.loop-seat-test.true;
  lines = lines_go c.args.texts.now c.args.viewers.now (track_name c.args.track) c.loop-seat.top c.loop-seat.seat-index
      c.seats-seat-items.result.now (record { number = 0; height = 0 }) c.loop-seat.out.items c.put_seat.new.out.items
      _ c.loop-seat-test.true c.loop-seat.invariant.lines c.in_ok-put_seat.ensures;
}
