use Rattle.std.proofs.Common.{rules, ℕ, ◌↔◌, List, Contains, IsSome, take_all, sym, subst, arith}
use Rattle.std.specs.Prelude.{nat_eq}
use Rattle.std.specs.Map.{lookup}
use Rattle.note_admission.proofs.Base.{base_more, kept_none}
use Rattle.note_admission.proofs.admitted.Admitted.new.Goals as goal

pub loop-site-preserved : goal.loop-site-preserved
loop-site-preserved c =
    base_more c.loop-site.sites c.insert.new.self c.args.base.now c.loop-site.site-index c.site-item.result tt
    c.loop-site-test.true (sym c.site-item.is) c.in_ok-insert.ensures.ok c.loop-site.invariant

pub returns-clause-ok : goal.returns-clause-ok
returns-clause-ok c = λ note of_base.
    let past = c.loop-site-test.false in
    kept_none note _ c.args.base.now (search rules) (search rules)
    (λ x. subst (λ (xs : List ℕ). IsSome (lookup (nat_eq x) c.loop-site.sites) ↔ Contains xs x)
    (take_all c.loop-site.site-index c.args.base.now (omega arith)) (c.loop-site.invariant x)) of_base
