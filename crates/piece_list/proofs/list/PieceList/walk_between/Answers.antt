use Rattle.std.proofs.Common.{ℕ, ◌-◌, List, take, ap, ◌∙◌}
use Rattle.piece_list.specs.declared.run.Run.{Run}
use Rattle.piece_list.specs.RunSplits.{with_first_run}
use Rattle.piece_list.proofs.RunSplits.{first_tell, first_within}
use Rattle.piece_list.proofs.list.PieceList.walk_between.Goals as goal

pub returns-clause-shown : goal.returns-clause-shown
returns-clause-shown c =
    let n : ℕ = c.args.end - c.args.beg in
    let runs : List Run = with_first_run c.skip_front-first.result c.skip_front-first.new.walk in
    first_tell n runs ∙ ap (take n) (c.skip_front-first.ensures.left ∙ c.walk_from-walk.ensures.shown)

pub returns-clause-some : goal.returns-clause-some
returns-clause-some c =
    let runs : List Run = with_first_run c.skip_front-first.result c.skip_front-first.new.walk in
    λ i d lt. (first_within (c.args.end - c.args.beg) runs c.skip_front-first.ensures.within i d lt).0

pub returns-clause-within : goal.returns-clause-within
returns-clause-within c =
    let runs : List Run = with_first_run c.skip_front-first.result c.skip_front-first.new.walk in
    λ i d lt. (first_within (c.args.end - c.args.beg) runs c.skip_front-first.ensures.within i d lt).1
