use Rattle.std.proofs.Common.{inr}
use Rattle.std.proofs.lemmas.Bool.{both_ways}
use Rattle.waiting_room.proofs.judging.judge.Goals as goal

pub returns-then-not-has_foreign_names : goal.returns-then-not-has_foreign_names
returns-then-not-has_foreign_names g c =
    let follows = c.follows_on.ensures.0 c.if-not-follows_on.false in
    let placed = c.fits_file.ensures.0 c.if-not-fits_file.false in
    inr (
      follows,
      placed,
      λ foreign. both_ways c.has_foreign_names.result c.if-not-has_foreign_names.true
          (c.has_foreign_names.ensures.1 foreign),
    )

pub returns : goal.returns
returns g c =
    let follows = c.follows_on.ensures.0 c.if-not-follows_on.false in
    let placed = c.fits_file.ensures.0 c.if-not-fits_file.false in
    let foreign = c.has_foreign_names.ensures.0 c.if-not-has_foreign_names.false in
    let above = c.is_above_causes.ensures.0 c.if-not-is_above_causes.false in
    (follows, placed, foreign, above)
