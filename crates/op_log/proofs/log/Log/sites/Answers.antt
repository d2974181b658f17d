use Rattle.std.proofs.Common.{rules, ◌≡◌, ℕ, List, IsPermutation, subst}
use Rattle.std.specs.List.Sorted.{IsNonDecreasing}
use Rattle.std.proofs.lemmas.List.Sorted.{IsNonDecreasingBy-from_sort_by_key}
use Rattle.op_log.specs.Logged.{first_sites}
use Rattle.op_log.proofs.Logged.{lemma_are_held_to_the_front}
use Rattle.op_log.proofs.Sites.{sites_sorted}
use Rattle.op_log.proofs.log.Log.sites.Goals as goal

pub returns-clause-ok : goal.returns-clause-ok
returns-clause-ok c =
    let l = c.self.inside in
    let sites = c.sort_unstable_by_key.new.self.items in
    let firsts : c.in_ok-sites.sites.items ≡ first_sites l.ops.items =
    c.in_ok-sites.ensures.ok in
    let perm : IsPermutation (first_sites l.ops.items) sites =
    subst (λ (xs : List ℕ). IsPermutation xs sites) firsts c.sort_unstable_by_key.ensures.permutation in
    let sorted : IsNonDecreasing sites =
    IsNonDecreasingBy-from_sort_by_key (λ (site : ℕ). site) sites c.sort_unstable_by_key.ensures.sorted
    (λ a r q k. search rules) in
    rw (← c.self.view_is)
    (sites_sorted l.ops.items sites perm c.self.invariant.once (lemma_are_held_to_the_front c.self.invariant)
    sorted)
