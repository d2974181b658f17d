use Rattle.std.proofs.Common.{inl, inr, subst}
use Rattle.set_laws.specs.Verdict.{FitsFile, FollowsOn, IsNew}
use Rattle.waiting_room.proofs.waiting.Waiting.stays.Goals as goal

pub returns-then-fits_file : goal.returns-then-fits_file
returns-then-fits_file g c =
    let ops = g.H.Held.ops c.args.held.now in
    let new = subst (IsNew ops) c.self.view_is (c.is_new.ensures.0 c.if-not-is_new.false) in
    let follows = subst (FollowsOn ops) c.self.view_is (c.follows_on.ensures.0 c.if-not-follows_on.false) in
    let fits = subst (FitsFile ops) c.self.view_is (c.fits_file.ensures.0 c.if-fits_file.true) in (
      λ e. (new, inr (follows, fits, c.misses_a_name.ensures.0 e)),
      λ stays. elim stays.1 [
        | inl lacks ↦ absurd (lacks follows)
        | inr placed ↦ c.misses_a_name.ensures.1 placed.2
      ],
    )
