use Rattle.std.proofs.Common.{◌≡◌, ℕ, List, slice_get, Some, All, ap, subst, sym, ◌∙◌}
use Rattle.std.proofs.lemmas.Option.{slice_get_within, same_Some}
use Rattle.operations.specs.Operation.{Operation}
use Rattle.set_laws.specs.Verdict.{ready}
use Rattle.waiting_room.specs.Room.{without}
use Rattle.texts.specs.Taking.{IsJudged}
use Rattle.texts.specs.TextState.{TextState}
use Rattle.texts.proofs.Draining.{all_without}
use Rattle.texts.proofs.Kept.{taken_out_of}
use Rattle.texts.proofs.replica.Replica.take_out.Goals as goal

pub remove-requires : goal.remove-requires
remove-requires c =
    let room = ap (λ (t : TextState). t.waiting_room) (sym c.self.view_is) in
    slice_get_within c.self.inside.room c.args.index c.requires.op
    (subst (λ (ops : List Operation). slice_get ops c.args.index ≡ Some c.requires.op) room c.requires.there)

pub invariant_of-self : goal.invariant_of-self
invariant_of-self c =
    let r = c.self.inside in
    let (taken, waiting, kept) = c.self.invariant in (
      taken,
      subst (λ (ops : List Operation). All (λ op. op.text ≡ r.text) ops) (sym c.remove.ensures.others)
          (all_without (λ op. op.text ≡ r.text) r.room c.args.index waiting),
      kept,
    )

pub get-requires : goal.get-requires
get-requires c =
    let room = ap (λ (t : TextState). t.waiting_room) (sym c.self.view_is) in
    slice_get_within c.self.inside.room c.args.index c.requires.op
    (subst (λ (ops : List Operation). slice_get ops c.args.index ≡ Some c.requires.op) room c.requires.there)

-- the copy is judged as the operation that waits
judged : (t : TextState) (room : List Operation) (i : ℕ) (got copy : Operation) → t.waiting_room ≡ room
    → slice_get room i ≡ Some got → copy ≡ got
    → (op : Operation) × (slice_get t.waiting_room i ≡ Some op) × IsJudged t op ready → IsJudged t copy ready
judged t room i got copy is there same (op, at, so) =
    let read = subst (λ (ops : List Operation). slice_get ops i ≡ Some got) (sym is) there in
    subst (λ (o : Operation). IsJudged t o ready) (same_Some op got (sym at ∙ read) ∙ sym same) so

pub take_over-requires : goal.take_over-requires
take_over-requires c =
    let room = ap (λ (t : TextState). t.waiting_room) (sym c.self.view_is) in
    judged c.args.self.now c.self.inside.room c.args.index c.get.result.now c.in_ok-op.op room c.get.ensures
    c.in_ok-op.ensures.ok c.if-not-is_ready.ensures

pub remove-requires-2 : goal.remove-requires-2
remove-requires-2 c =
    let room = ap (λ (t : TextState). t.waiting_room) (c.self-2.view_is ∙ c.in_ok-take_over.ensures.ok.grown) in
    slice_get_within c.self-2.inside.room c.args.index c.requires.op
    (subst (λ (ops : List Operation). slice_get ops c.args.index ≡ Some c.requires.op) (sym room) c.requires.there)

pub invariant_of-self-2 : goal.invariant_of-self-2
invariant_of-self-2 c =
    let r = c.self-2.inside in
    let (taken, waiting, kept) = c.self-2.invariant in (
      taken,
      subst (λ (ops : List Operation). All (λ op. op.text ≡ r.text) ops) (sym c.remove-2.ensures.others)
          (all_without (λ op. op.text ≡ r.text) r.room c.args.index waiting),
      kept,
    )

pub returns : goal.returns
returns c =
    let t = c.args.self.now in
    let op = c.in_ok-op.op in
    let room : t.waiting_room ≡ c.self.inside.room = ap (λ (x : TextState). x.waiting_room) (sym c.self.view_is) in
    let then : c.self-2.inside.room ≡ t.waiting_room =
    ap (λ (x : TextState). x.waiting_room) (c.self-2.view_is ∙ c.in_ok-take_over.ensures.ok.grown) in (
      op,
      ap (λ (ops : List Operation). slice_get ops c.args.index) room ∙ c.get.ensures ∙ ap Some (sym c.in_ok-op.ensures.ok),
      judged t c.self.inside.room c.args.index c.get.result.now op room c.get.ensures c.in_ok-op.ensures.ok c.if-not-is_ready.ensures,
      taken_out_of t c.take_over.new.self _ op c.remove-2.new.self (without t.waiting_room c.args.index)
          c.in_ok-take_over.ensures.ok c.self-2.view_is
          (c.remove-2.ensures.others ∙ ap (λ (ops : List Operation). without ops c.args.index) then) c.lemma_is_text.ensures,
    )
