use Rattle.std.proofs.Common.{refl, sym, subst, IsSome}
use Rattle.note_admission.proofs.OneMore.{seen_by}
use Rattle.note_admission.proofs.seen.Seen.raise.Goals as goal

pub returns : goal.returns
returns c =
    let w = c.raise_all.new.self in
    rw (← c.self.view_is)
    (seen_by c.self.inside.chains (c.get_mut.follows.lender w) c.args.chain c.in-Some.offsets.now w c.args.ranges.now
    (sym c.in-Some.ensures.value) (c.get_mut.follows.holds w (subst IsSome c.in-Some.ensures.value refl))
    c.raise_all.ensures)
