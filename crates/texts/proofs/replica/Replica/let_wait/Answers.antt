use Rattle.std.proofs.Common.{◌≡◌, ◌⊎◌, List, Err, ap, subst, sym, ◌∙◌}
use Rattle.operations.specs.Operation.{Operation}
use Rattle.waiting_room.specs.Room.{Offers}
use Rattle.texts.specs.Take.{Enters, HasFate, StaysOut}
use Rattle.texts.specs.TextState.{TextState, with_room}
use Rattle.texts.specs.declared.fate.Fate.TheVariants.{Wait}
use Rattle.texts.proofs.Messages.{all_offered, kept_out}
use Rattle.texts.proofs.replica.Replica.let_wait.Goals as goal

pub returns-in_err-offer : goal.returns-in_err-offer
returns-in_err-offer c =
    let t = c.args.self.now in
    let op = c.args.op in
    let has : HasFate t op Wait = c.requires in
    let result = c.from_residual.result in
    let why = c.in_err-offer.field-0.0 in
    let new : List Operation = c.offer.new.self in
    let room = ap (λ (u : TextState). u.waiting_room) c.self.view_is in
    let offers = subst (λ (ops : List Operation). Offers ops op (Err why) new) room c.in_err-offer.ensures in
    let seen = ap (λ (u : TextState). with_room u new) c.self.view_is in
    subst (λ (u : TextState). Enters t op result u ⊎ StaysOut t result u) (sym seen)
    (kept_out t op result why new c.from_residual.ensures.1 has.0 offers)

pub invariant_of-self-2 : goal.invariant_of-self-2
invariant_of-self-2 c =
    let r = c.self.inside in
    let op = c.args.op in
    let has : HasFate c.args.self.now op Wait = c.requires in
    let (taken, waiting, kept) = c.self.invariant in
    let own : op.text ≡ r.text = has.1.0 ∙ ap (λ (t : TextState). t.text) (sym c.self.view_is) in
    let all = all_offered (λ o. o.text ≡ r.text) r.room op c.in_ok-offer.field-0 c.offer.new.self c.in_ok-offer.ensures
    waiting own in
    (taken, all, kept)
