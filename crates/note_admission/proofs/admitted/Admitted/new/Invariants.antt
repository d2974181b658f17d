use Rattle.std.proofs.Common.{ℕ, ◌↔◌, Contains, IsSome, take}
use Rattle.std.specs.Prelude.{nat_eq}
use Rattle.std.specs.Map.{lookup}
use Rattle.note_admission.proofs.admitted.Admitted.new.Given as goal

abbrev pub invariant-loop-site : goal.invariant-loop-site
invariant-loop-site l =
    (site : ℕ) → IsSome (lookup (nat_eq site) l.sites) ↔ Contains (take l.site-index l.base) site
