use Rattle.std.proofs.Common.{List, Bool, Some, inr, ap, subst}
use Rattle.operations.specs.Operation.{Operation}
use Rattle.waiting_room.specs.Room.{IsWaitingAs}
use Rattle.set_laws.specs.Sets.{IsInConflict}
use Rattle.texts.specs.TextState.{TextState}
use Rattle.texts.proofs.replica.Replica.fate_of_new.Goals as goal

pub returns-in-Some-false : goal.returns-in-Some-false
returns-in-Some-false c =
    let room = ap (λ (t : TextState). t.waiting_room) c.self.view_is in
    let op = c.args.op.now in
    let told = subst (λ (b : Bool). IsWaitingAs c.self.inside.room op (Some b)) c.in-Some-false.field-0-test
    c.in-Some-false.ensures in
    (c.requires.text, inr (c.requires.new, subst (λ (ops : List Operation). IsInConflict ops op) room told))
