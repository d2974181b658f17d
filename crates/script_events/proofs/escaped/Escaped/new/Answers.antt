use Rattle.std.proofs.Common.{◌≡◌, ◌==◌, false, option_map, refl, sym, ◌∙◌, arith, ap, length}
use Rattle.std.specs.List.{list_any}
use Rattle.script_events.proofs.Spelling.{IsCounted-none, IsCounted-more, IsCounted-wrong, IsCounted-all, IsCounted-few, bytes_in-plain, bytes_in-some, bytes_in-short}
use Rattle.script_events.specs.Script.{bytes_in}
use Rattle.script_events.proofs.escaped.Escaped.new.Goals as goal

pub returns-in_err-rest-clause-bytes : goal.returns-in_err-rest-clause-bytes
returns-in_err-rest-clause-bytes c =
    c.from_residual.ensures ∙ sym (IsCounted-wrong c.in-Some.first.now c.in-Some.after.now c.loop-first.invariant c.in-Some.ensures.cases.0 c.in_err-rest.ensures.value)

pub overflow_add-len : goal.overflow_add-len
overflow_add-len c = omega (arith, ap length c.in-Some.ensures.cases.0)

pub loop-first-init : goal.loop-first-init
loop-first-init c = IsCounted-none c.args.raw.now

pub loop-first-preserved : goal.loop-first-preserved
loop-first-preserved c =
    IsCounted-more c.in-Some.first.now c.in-Some.after.now _ _ c.loop-first.invariant c.in-Some.ensures.cases.0 c.in_ok-rest.ensures.value c.in_ok-rest.ensures.shorter

pub invariant_of-result : goal.invariant_of-result
invariant_of-result c =
    let none : list_any (λ b. b == 92) c.args.raw.now ≡ false = sym c.contains.ensures.value ∙ c.if-not-contains.true in
    ap (option_map length) (bytes_in-plain c.args.raw.now none)

pub returns-then-not-contains-clause-bytes : goal.returns-then-not-contains-clause-bytes
returns-then-not-contains-clause-bytes c =
    let none : list_any (λ b. b == 92) c.args.raw.now ≡ false = sym c.contains.ensures.value ∙ c.if-not-contains.true in
    rw (bytes_in-plain c.args.raw.now none) refl

pub returns-then-not-contains-clause-shorter : goal.returns-then-not-contains-clause-shorter
returns-then-not-contains-clause-shorter c =
    let none : list_any (λ b. b == 92) c.args.raw.now ≡ false = sym c.contains.ensures.value ∙ c.if-not-contains.true in
    rw (bytes_in-plain c.args.raw.now none) (omega arith)

pub invariant_of-result-2 : goal.invariant_of-result-2
invariant_of-result-2 c = IsCounted-all c.loop-first.invariant c.in_default.ensures.cases

pub returns-clause-bytes : goal.returns-clause-bytes
returns-clause-bytes c = bytes_in-some (bytes_in c.args.raw.now) (IsCounted-all c.loop-first.invariant c.in_default.ensures.cases)

pub returns-clause-shorter : goal.returns-clause-shorter
returns-clause-shorter c =
    bytes_in-short (bytes_in c.args.raw.now) (IsCounted-all c.loop-first.invariant c.in_default.ensures.cases) (IsCounted-few c.loop-first.invariant)
