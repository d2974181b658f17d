use Rattle.std.proofs.Common.{rules, ◌<◌, ◌≤◌}
use Rattle.std.proofs.lemmas.Result.{on_ok_weaker}
use Rattle.op_log.proofs.Rooms.{has_room_for, rooms_kept}
use Rattle.op_log.proofs.log.Log.reserve_letters.Goals as goal

pub returns-clause-ok : goal.returns-clause-ok
returns-clause-ok c =
    let free : (0 < c.reserve_letters.new.self.runs) × (c.args.len ≤ c.reserve_letters.new.self.letters) = search rules in
    on_ok_weaker c.reserve_many.result (has_room_for c.reserve_letters.new.self c.reserve_many.new.self c.args.site c.args.len free)
    c.reserve_many.ensures.ok

pub returns-clause-keeps : goal.returns-clause-keeps
returns-clause-keeps c =
    rw (← c.self.view_is) (record {
      list = c.reserve_letters.ensures.room;
      runs = c.reserve_letters.ensures.runs;
      letters = c.reserve_letters.ensures.letters;
      sites = rooms_kept c.self.inside.sites c.reserve_many.new.self c.reserve_many.ensures.rooms;
    })
