use Rattle.std.proofs.Common.{◌≡◌, drop}
use Rattle.texts.specs.Fronts.{front_in}
use Rattle.vialshoal_c.specs.History.{fronts_of}
use Rattle.vialshoal_c.proofs.history.front_in.Given as goal

abbrev pub invariant-loop-some : goal.invariant-loop-some
invariant-loop-some l = front_in (fronts_of l.fronts) l.site ≡ front_in (fronts_of (drop l.some-index l.fronts)) l.site
