use Rattle.std.proofs.Common.{◌++◌, [], ◌∷◌, List, map, append_assoc, sym, ap, subst, ◌∙◌}
use Rattle.operations.specs.NameSet.{Range}
use Rattle.piece_list.specs.declared.run.Run.{Run}
use Rattle.piece_list.specs.RunSplits.{AreWithin}
use Rattle.taken_text.specs.Shown.{range_of_run}
use Rattle.taken_text.proofs.Stretch.{rest_within}
use Rattle.taken_text.proofs.stretches.ranges_of.Goals as goal

pub loop-run-preserved : goal.loop-run-preserved
loop-run-preserved c =
    let r : Run = c.in-Some.run' in
    let rest : List Run = c.next.new.self in
    let before : List Range = c.loop-run.ranges.items in (
      c.loop-run.invariant.0,
      c.loop-run.invariant.1,
      ap (λ (l : List Range). l ++ map range_of_run rest) c.in_ok-push.ensures.items
          ∙ append_assoc before (c.new.result ∷ []) (map range_of_run rest)
          ∙ ap (λ (q : Range). before ++ q ∷ map range_of_run rest) c.new.ensures
          ∙ ap (λ (l : List Run). before ++ map range_of_run l) (sym c.in-Some.ensures.steps)
          ∙ c.loop-run.invariant.2,
      rest_within r rest (subst AreWithin c.in-Some.ensures.steps c.loop-run.invariant.3),
    )
