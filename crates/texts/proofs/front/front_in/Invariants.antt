use Rattle.std.proofs.Common.{◌≡◌, drop}
use Rattle.texts.specs.Fronts.{front_in}
use Rattle.texts.proofs.front.front_in.Given as goal

abbrev pub invariant-loop-front : goal.invariant-loop-front
invariant-loop-front l = front_in l.fronts l.site ≡ front_in (drop l.front-index l.fronts) l.site
