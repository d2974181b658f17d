use Rattle.std.proofs.Common.{◌≡◌, length, sym, ap, ◌∙◌, arith}
use Rattle.std.specs.List.{flat_map}
use Rattle.char_files.specs.Runs.{maximal_runs}
use Rattle.char_files.specs.Stretch.{Item, Stretch}
use Rattle.texts.specs.Edit.{parts_of}
use Rattle.char_files.proofs.MaximalRuns.{runs_again}
use Rattle.texts.proofs.Pieces.{all_left, are_unread, count_pieces}
use Rattle.texts.proofs.replica.pieces.Pieces.of.Goals as goal

pub invariant_of-result : goal.invariant_of-result
invariant_of-result c = are_unread c.runs.result.now c.runs.ensures.maximal

pub returns-clause-value : goal.returns-clause-value
returns-clause-value c =
    let runs = c.runs.result.now in
    let maximal : maximal_runs c.args.buffer.now ≡ runs =
    ap maximal_runs (sym c.runs.ensures.value) ∙ runs_again runs c.runs.ensures.maximal in
    all_left runs ∙ ap (flat_map parts_of) (sym maximal)

pub returns-clause-few : goal.returns-clause-few
returns-clause-few c =
    let runs = c.runs.result.now in
    omega (arith, count_pieces runs, ap (length {A = Stretch}) (all_left runs), ap (length {A = Item}) c.runs.ensures.value)
