use Rattle.std.proofs.Common.{◌≡◌, drop}
use Rattle.vialshoal_c.proofs.Filling.{IsFilled, same_number}
use Rattle.vialshoal_c.proofs.asking.fill_with_sites.Given as goal

abbrev pub invariant-loop-site : goal.invariant-loop-site
invariant-loop-site l = record {
  same : l.at ≡ l.site-index;
  filled : IsFilled same_number l.sites (drop l.site-index l.sites) l.initial.room l.room l.at;
}
