use Rattle.std.proofs.Common.{◌≡◌, ℕ, true, ap, rules, subst}
use Rattle.packed.specs.Letters.{AreTypedNext}
use Rattle.std.specs.Prelude.{Ok}
use Rattle.kept_file.proofs.PackedLoaded.{letters_first}
use Rattle.kept_file.proofs.packed_file.loading.take_letters.Goals as goal

pub returns-clause-taken : goal.returns-clause-taken
returns-clause-taken c =
    let are : AreTypedNext c.args.history.now c.args.replica.now.text c.in-Some.typing c.in-Some.typed.now =
    subst (λ (n : ℕ). AreTypedNext c.args.history.now n c.in-Some.typing c.in-Some.typed.now) c.text.ensures
    c.in-Some.ensures.some.1 in
    let took : c.in_ok-take_letters.field-0 ≡ true = search (rules, c.if-not-branch.false) in
    letters_first c.args.replica.now c.take_letters.new.self c.args.history.now c.pass_letters.new.self c.args.bytes.now
    c.in-Some.typed.now c.in-Some.rest.now c.in-Some.typing c.in-Some.ensures.some.0 are
    (c.in_ok-take_letters.ensures.taken (ap Ok took)) c.in_ok-pass_letters.ensures.ok
