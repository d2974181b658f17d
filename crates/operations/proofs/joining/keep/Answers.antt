use Rattle.std.proofs.Common.{◌≡◌, ◌<◌, ◌-◌, ◌⊎◌, inl, inr, get_or, arith}
use Rattle.operations.specs.NameSet.{Range}
use Rattle.std.proofs.lemmas.Bool.{both_ways}
use Rattle.operations.proofs.Joins.{Reaches, all_before, appended_set, appended_starts, appended_names}
use Rattle.operations.proofs.Joins.{joined_set, joined_starts, joined_names}
use Rattle.operations.proofs.joining.keep.Goals.{else-kept-gt0-via-then-kept-gt0+else-reaches}
use Rattle.operations.proofs.joining.keep.Goals.{else-kept-gt0-via-else-kept-gt0}
use Rattle.operations.proofs.joining.keep.Goals as goal

pub returns-then-reaches-clause-set : goal.returns-then-reaches-clause-set
returns-then-reaches-clause-set c =
    joined_set c.args.ranges.now.items c.args.kept c.index-then-reaches.result.now c.hull.result
    c.args.range (omega arith) (omega arith) c.index-then-reaches.ensures c.hull.ensures.start c.requires.set
    c.hull.ensures.range

pub returns-then-reaches-clause-rising : goal.returns-then-reaches-clause-rising
returns-then-reaches-clause-rising c =
    joined_starts c.args.ranges.now.items c.args.kept c.index-then-reaches.result.now c.hull.result
    c.args.range (omega arith) (omega arith) c.index-then-reaches.ensures c.hull.ensures.start
    c.requires.rising

pub returns-then-reaches-clause-names : goal.returns-then-reaches-clause-names
returns-then-reaches-clause-names c =
    joined_names c.args.ranges.now.items c.args.kept c.index-then-reaches.result.now c.hull.result
    c.args.range (omega arith) (omega arith) c.index-then-reaches.ensures c.hull.ensures.start
    c.hull.ensures.names

pub returns-clause-set : goal.returns-clause-set
returns-clause-set c =
    let none_or_apart : (c.args.kept ≡ 0) ⊎ ((q : Range) × (0 < c.args.kept)
    × (q ≡ get_or c.args.ranges.now.items (c.args.kept - 1) q) × ¬ Reaches q c.args.range) =
    elim c.else-kept-gt0.branch [
      | else-kept-gt0-via-then-kept-gt0+else-reaches w ↦ inr (
        w.index.result.now,
        omega arith,
        w.index.ensures,
        λ h. both_ways w.reaches.result w.if-reaches.false (w.reaches.ensures.1 h),
      )
      | else-kept-gt0-via-else-kept-gt0 w ↦ inl (omega arith)
    ] in
    appended_set c.args.ranges.now.items c.args.kept c.args.range c.requires.within c.requires.set
    c.len.ensures.range (all_before c.args.ranges.now.items c.args.kept c.args.range c.requires.within
    c.requires.set c.requires.rising none_or_apart)

pub returns-clause-rising : goal.returns-clause-rising
returns-clause-rising c =
    appended_starts c.args.ranges.now.items c.args.kept c.args.range c.requires.within c.requires.rising

pub returns-clause-names : goal.returns-clause-names
returns-clause-names c =
    appended_names c.args.ranges.now.items c.args.kept c.args.range c.requires.within
