use Rattle.std.proofs.Common.{◌≡◌, List, All, IfNone, ap, subst, ◌∙◌}
use Rattle.operations.specs.Operation.{Operation}
use Rattle.waiting_room.specs.Room.{StaysWaiting}
use Rattle.texts.specs.TextState.{TextState}
use Rattle.texts.proofs.replica.Replica.first_out.Goals as goal

pub returns-clause-none : goal.returns-clause-none
returns-clause-none c =
    let t = c.args.self.now in
    let same : c.new.result ≡ t.operations =
    c.new.ensures ∙ c.log.ensures ∙ ap (λ (u : TextState). u.operations) c.self.view_is in
    let room = ap (λ (u : TextState). u.waiting_room) c.self.view_is in
    subst (λ (rs : List Operation). IfNone c.first_ready.result (All (StaysWaiting t.operations) rs)) room
    (subst (λ (ops : List Operation). IfNone c.first_ready.result (All (StaysWaiting ops) c.self.inside.room)) same
    c.first_ready.ensures.none)
