-- What the verdict makes of a good set and an operation whose identity it doesn't hold.
use Rattle.std.proofs.Common.{List}
use Rattle.operations.specs.Operation.{Operation}
use Rattle.tree_order.specs.Good.{Good}
use Rattle.set_laws.specs.Growing.{GrowsByVerdict}
use Rattle.set_laws.specs.Sets.{AreIdentified}
use Rattle.set_laws.specs.Verdict.{IsNew}
use Rattle.set_laws.proofs.Freed.{good_if_ready, ready_if_good}
use Rattle.set_laws.proofs.Refusals.{low_stamp_never, misfit_never}
use Rattle.set_laws.proofs.Verdicts.{waits_for_a_cause}

pub grows_by_verdict : (ops : List Operation) (op : Operation) → Good ops → AreIdentified ops → IsNew ops op
    → GrowsByVerdict ops op
grows_by_verdict ops op good known new = record {
  ready = (good_if_ready ops op good known new, ready_if_good ops op good known new);
  misfit = misfit_never ops op good new;
  low_stamp = low_stamp_never ops op good;
  wait = waits_for_a_cause ops good known op;
}
