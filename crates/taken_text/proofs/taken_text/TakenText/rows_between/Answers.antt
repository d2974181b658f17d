use Rattle.std.proofs.Common.{ap, sym, ◌∙◌}
use Rattle.taken_text.specs.Rows.{chars_of_rows}
use Rattle.taken_text.specs.Shown.{AreInFiles}
use Rattle.taken_text.proofs.RowChars.{rows_of_runs}
use Rattle.taken_text.proofs.Runs.{chars_of_walk, walk_in_files}
use Rattle.taken_text.proofs.Stretch.{part, part_shown, part_has_bytes, part_told}
use Rattle.taken_text.proofs.taken_text.TakenText.rows_between.Goals as goal

pub of-requires : goal.of-requires
of-requires c =
    let t = c.self.inside in
    let runs = c.walk_between.result in
    walk_in_files t.files
    (part t.log.ops t.pieces.items t.files t.asked c.args.self.now c.self.view_is c.self.invariant.taken c.args.beg c.args.end)
    (part_has_bytes t.log.ops t.pieces.items t.files t.asked c.args.self.now c.self.view_is c.self.invariant.taken c.args.beg c.args.end)
    runs c.walk_between.ensures.some c.walk_between.ensures.within
    (part_told t.log.ops t.pieces.items t.files t.asked c.args.self.now c.self.view_is c.self.invariant.taken c.args.beg c.args.end
    runs c.walk_between.ensures.shown)

pub returns : goal.returns
returns c =
    let t = c.self.inside in
    let runs = c.walk_between.result in
    let within : AreInFiles t.files runs =
    walk_in_files t.files
    (part t.log.ops t.pieces.items t.files t.asked c.args.self.now c.self.view_is c.self.invariant.taken c.args.beg c.args.end)
    (part_has_bytes t.log.ops t.pieces.items t.files t.asked c.args.self.now c.self.view_is c.self.invariant.taken c.args.beg c.args.end)
    runs c.walk_between.ensures.some c.walk_between.ensures.within
    (part_told t.log.ops t.pieces.items t.files t.asked c.args.self.now c.self.view_is c.self.invariant.taken c.args.beg c.args.end
    runs c.walk_between.ensures.shown) in
    ap chars_of_rows c.of.ensures
    ∙ rows_of_runs t.files runs within
    ∙ chars_of_walk t.files
    (part t.log.ops t.pieces.items t.files t.asked c.args.self.now c.self.view_is c.self.invariant.taken c.args.beg c.args.end) runs
    (part_told t.log.ops t.pieces.items t.files t.asked c.args.self.now c.self.view_is c.self.invariant.taken c.args.beg c.args.end
    runs c.walk_between.ensures.shown)
    ∙ sym (part_shown t.log.ops t.pieces.items t.files t.asked c.args.self.now c.self.view_is c.self.invariant.taken c.args.beg c.args.end)
