use Rattle.std.proofs.Common.{◌≡◌, ◌<◌, length, true, arith, subst}
use Rattle.viewers.specs.Tracks.{Covers, can_open, divided, holder}
use Rattle.viewers.proofs.Covering.{opened_covers, room_to_open}
use Rattle.viewers.proofs.tracks.open_in.Goals as goal

pub divide-requires-clause-room : goal.divide-requires-clause-room
divide-requires-clause-room c =
    let some : 0 < length c.args.seats.now.items = grind arith in
    let is : can_open c.args.seats.now.items c.args.row ≡ true = grind arith in
    room_to_open c.args.height c.args.row c.args.seats.now.items c.requires.covered c.requires.low c.requires.on_screen
    some is

pub returns-clause-covered : goal.returns-clause-covered
returns-clause-covered c =
    let some : 0 < length c.args.seats.now.items = grind arith in
    let is : can_open c.args.seats.now.items c.args.row ≡ true = grind arith in
    let e : divided c.args.seats.now.items c.args.viewer (holder c.args.seats.now.items c.args.row) c.args.row
    ≡ c.divide.new.seats.items = grind arith in
    subst (Covers c.args.height) e
    (opened_covers c.args.height c.args.viewer c.args.row c.args.seats.now.items c.requires.covered
    c.requires.on_screen some is)
