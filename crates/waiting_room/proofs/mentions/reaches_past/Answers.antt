use Rattle.std.proofs.Common.{rules, ◌≡◌, ◌≢◌, List, sym, subst, arith}
use Rattle.std.proofs.lemmas.Bool.{both_ways, false≢true, lt-ltb, ltb-true}
use Rattle.std.proofs.lemmas.List.Sorted.{IsPartitionPoint-from_clause}
use Rattle.operations.specs.NameSet.{Range, IsAmong}
use Rattle.waiting_room.specs.Room.{HasNamePast}
use Rattle.waiting_room.proofs.OwnRanges.{IsPartitionedBy-up_to, EndsAt, is_up_to, last_reaches, none_reaches}
use Rattle.waiting_room.proofs.mentions.reaches_past.Goals as goal
use Rattle.waiting_room.proofs.mentions.reaches_past.Goals.{After-partition_point-after}

-- where the ranges of the sites up to this one end
point : (c : After-partition_point-after) → EndsAt c.ranges-ranges.result.now c.args.site c.partition_point-after.result
point c =
    IsPartitionPoint-from_clause (is_up_to c.args.site) _ _ c.partition_point-after.ensures.partitioned
    (IsPartitionedBy-up_to _ c.args.site c.ranges-ranges.ensures.set) (λ a r q k. search rules)

pub returns-then-after-eq0 : goal.returns-then-after-eq0
returns-then-after-eq0 c =
    let none = c.if-after-eq0.true in
    let here = point (goal.at.returns-then-after-eq0 c).After-partition_point-after in (
      λ e. absurd (false≢true e),
      λ h. absurd (none_reaches c.ranges-ranges.result.now c.args.site c.args.end c.partition_point-after.result
          c.ranges-ranges.ensures.set here (omega arith)
          (subst (λ (names : List Range). HasNamePast (IsAmong names) c.args.site c.args.end)
          (sym c.ranges-ranges.ensures.value) h)),
    )

pub returns-then-eq : goal.returns-then-eq
returns-then-eq c =
    let ranges = c.ranges-ranges.result.now in
    let last = c.index-ranges-after.result in
    let some = c.if-after-eq0.false in
    let bound = c.partition_point-after.ensures.bound in
    let here = point (goal.at.returns-then-eq c).After-partition_point-after in
    let told = last_reaches ranges c.args.site c.args.end c.partition_point-after.result c.ranges-ranges.ensures.set
    here last (omega arith) (omega arith) c.index-ranges-after.is in
    let own : last.site ≡ c.args.site = search rules in
    let at = c.at.ensures in
    let len = c.len.ensures.value in (
      λ e.
          let less = ltb-true _ _ e in
          subst (λ (names : List Range). HasNamePast (IsAmong names) c.args.site c.args.end)
          c.ranges-ranges.ensures.value (told.0 (own, omega arith)),
      λ h.
          let reaches = told.1 (subst (λ (names : List Range). HasNamePast (IsAmong names) c.args.site c.args.end)
          (sym c.ranges-ranges.ensures.value) h) in
          let less = reaches.1 in
          lt-ltb _ _ (omega arith),
    )

pub returns-else-eq : goal.returns-else-eq
returns-else-eq c =
    let ranges = c.ranges-ranges.result.now in
    let last = c.index-ranges-after.result in
    let some = c.if-after-eq0.false in
    let bound = c.partition_point-after.ensures.bound in
    let here = point (goal.at.returns-else-eq c).After-partition_point-after in
    let told = last_reaches ranges c.args.site c.args.end c.partition_point-after.result c.ranges-ranges.ensures.set
    here last (omega arith) (omega arith) c.index-ranges-after.is in
    let apart : last.site ≢ c.args.site = search rules in (
      λ e. absurd (both_ways c.eq.result c.if-eq.false e),
      λ h.
          let reaches = told.1 (subst (λ (names : List Range). HasNamePast (IsAmong names) c.args.site c.args.end)
          (sym c.ranges-ranges.ensures.value) h) in
          absurd (apart reaches.0),
    )
