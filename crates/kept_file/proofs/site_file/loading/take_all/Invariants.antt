use Rattle.kept_file.proofs.SiteLoaded.{SoFar}
use Rattle.kept_file.proofs.site_file.loading.take_all.Given as goal

abbrev pub invariant-loop : goal.invariant-loop
invariant-loop l = SoFar l.fn.replica l.replica l.entries l.counter l.rest
