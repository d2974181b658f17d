use Rattle.std.proofs.Common.{rules}
use Rattle.std.proofs.lemmas.List.Sorted.{answers_always}
use Rattle.operations.proofs.Joins.{start_of, starts_rise}
use Rattle.operations.proofs.joining.sort.Goals as goal

pub returns-clause-rising : goal.returns-clause-rising
returns-clause-rising c =
    starts_rise c.sort_unstable_by_key.new.self.items (c.sort_unstable_by_key.ensures.sorted start_of
    (answers_always _ _ _ (λ f a r g h. search rules)))
