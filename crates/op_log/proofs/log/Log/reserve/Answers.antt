use Rattle.std.proofs.Common.{rules, ◌<◌}
use Rattle.std.proofs.lemmas.Result.{on_ok_weaker}
use Rattle.op_log.proofs.Rooms.{has_room, rooms_kept}
use Rattle.op_log.proofs.log.Log.reserve.Goals as goal

pub returns-clause-ok : goal.returns-clause-ok
returns-clause-ok c =
    let free : 0 < c.reserve.new.self.room = search rules in
    on_ok_weaker c.reserve-2.result (has_room c.reserve.new.self c.reserve-2.new.self c.args.site free) c.reserve-2.ensures.ok

pub returns-clause-keeps : goal.returns-clause-keeps
returns-clause-keeps c =
    rw (← c.self.view_is) (record {
      list = c.reserve.ensures.room;
      runs = c.reserve.ensures.runs;
      letters = c.reserve.ensures.letters;
      sites = rooms_kept c.self.inside.sites c.reserve-2.new.self c.reserve-2.ensures.rooms;
    })
