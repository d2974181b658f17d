use Rattle.std.proofs.Common.{◌≡◌, ◌↔◌, true, List, Some, None, sym, ap, subst, ◌∙◌}
use Rattle.std.specs.Map.{lookup}
use Rattle.operations.specs.Operation.{Operation}
use Rattle.set_laws.specs.Fronts.{IsHeld}
use Rattle.waiting_room.specs.Room.{IsWaitingAs}
use Rattle.waiting_room.proofs.Entries.{Key, same_key, key_of, not_found, waiting_as}
use Rattle.waiting_room.proofs.room.Room.waits.Goals as goal

pub returns-in-Some : goal.returns-in-Some
returns-in-Some c =
    let entries = c.self.inside.ops.entries in
    let op = c.args.op.now in
    let key : ◌≡◌ {A = Key} (c.get.result, c.seq.result) (key_of op) =
    λ i. ((c.get.ensures.value ∙ c.site.ensures) i, c.seq.ensures i) in
    let there : lookup (same_key (key_of op)) entries ≡ Some c.in-Some.waiting.now =
    ap (λ (k : Key). lookup (same_key k) entries) (sym key) ∙ sym c.in-Some.ensures.value in
    subst (λ (ops : List Operation). IsWaitingAs ops op (Some c.is_same.result)) c.self.view_is
    (waiting_as entries c.self.invariant op c.in-Some.waiting.now c.is_same.result there
    (subst (λ (o : Operation). (c.is_same.result ≡ true) ↔ (o ≡ op)) c.op.ensures c.is_same.ensures))

pub returns-in-None : goal.returns-in-None
returns-in-None c =
    let entries = c.self.inside.ops.entries in
    let op = c.args.op.now in
    let key : ◌≡◌ {A = Key} (c.get.result, c.seq.result) (key_of op) =
    λ i. ((c.get.ensures.value ∙ c.site.ensures) i, c.seq.ensures i) in
    let none : lookup (same_key (key_of op)) entries ≡ None =
    ap (λ (k : Key). lookup (same_key k) entries) (sym key) ∙ sym c.in-None.ensures.value in
    subst (λ (ops : List Operation). ¬ IsHeld ops op.site op.seq) c.self.view_is
    (not_found entries c.self.invariant (key_of op) none)
