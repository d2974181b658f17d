use Rattle.std.proofs.Common.{◌≡◌, subst, sym, arith}
use Rattle.std.specs.Prelude.{OnOk}
use Rattle.packed.specs.Told.{Told}
use Rattle.packed.proofs.Letters.{typed_last, typed_told}
use Rattle.packed.proofs.history.History.pass_letters.Goals as goal

pub overflow_add-expected : goal.overflow_add-expected
overflow_add-expected c =
    let last = typed_last c.args.self.now c.requires.0 c.args.typing.now c.args.bytes.now c.requires.1 in
    omega (arith, last.seq)

pub overflow_add-expected-2 : goal.overflow_add-expected-2
overflow_add-expected-2 c =
    let last = typed_last c.args.self.now c.requires.0 c.args.typing.now c.args.bytes.now c.requires.1 in
    omega (arith, last.at)

pub overflow_add-expected-3 : goal.overflow_add-expected-3
overflow_add-expected-3 c =
    let last = typed_last c.args.self.now c.requires.0 c.args.typing.now c.args.bytes.now c.requires.1 in
    omega (arith, last.at)

pub overflow_add-expected-4 : goal.overflow_add-expected-4
overflow_add-expected-4 c =
    let last = typed_last c.args.self.now c.requires.0 c.args.typing.now c.args.bytes.now c.requires.1 in
    omega (arith, last.stamp, c.from.ensures)

pub overflow_add-typing : goal.overflow_add-typing
overflow_add-typing c =
    let last = typed_last c.args.self.now c.requires.0 c.args.typing.now c.args.bytes.now c.requires.1 in
    omega (arith, last.at)

pub name_at-requires : goal.name_at-requires
name_at-requires c =
    let last = typed_last c.args.self.now c.requires.0 c.args.typing.now c.args.bytes.now c.requires.1 in
    last.at

pub returns-clause-ok : goal.returns-clause-ok
returns-clause-ok c =
    let told = typed_told c.args.self.now c.requires.0 c.args.typing.now c.args.bytes.now c.requires.1 in
    subst (λ (t : Told). OnOk c.tell.result (c.tell.new.self ≡ t)) (sym told)
    (rw (c.name_at.ensures, c.copy.ensures, c.from.ensures) at c.tell.ensures.ok)
