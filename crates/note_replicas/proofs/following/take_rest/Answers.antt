use Rattle.std.proofs.Common.{ℕ, List, ◌∷◌, [], ◌++◌, length, take, sym, ap, subst, ◌∙◌}
use Rattle.std.specs.List.{slice_get}
use Rattle.std.proofs.lemmas.List.{length_push}
use Rattle.operations.specs.Operation.{Operation}
use Rattle.set_laws.specs.Verdict.{IsNew, HasVerdict, ready}
use Rattle.note_replicas.proofs.Counting.{one_more}
use Rattle.note_replicas.proofs.Ready.{on_then}
use Rattle.note_replicas.proofs.following.take_rest.Goals as goal

pub take_ready-requires-clause-ready : goal.take_ready-requires-clause-ready
take_ready-requires-clause-ready c =
    let t = c.loop-replica.replica in
    let ops = c.args.log.now.ops in
    let op = c.in_ok-op.op in
    let at = ap (λ (k : ℕ). slice_get ops k) (sym c.taken_len-in-loop-replica.ensures) ∙ c.in_ok-op.ensures.ok in
    let is = c.requires.ready (length t.operations) op at in
    let judged = subst (λ (l : List Operation). IsNew l op × HasVerdict l op ready) (sym c.loop-replica.invariant.0.taken) (is.1, is.2) in
    (is.0 ∙ sym c.loop-replica.invariant.1.text, judged.0, judged.1)

pub loop-replica-preserved : goal.loop-replica-preserved
loop-replica-preserved c =
    let t = c.loop-replica.replica in
    let ops = c.args.log.now.ops in
    let op = c.in_ok-op.op in
    let so_far = c.loop-replica.invariant in
    let at = ap (λ (k : ℕ). slice_get ops k) (sym c.taken_len-in-loop-replica.ensures) ∙ c.in_ok-op.ensures.ok in
    let grown = c.in_ok-take_ready.ensures.ok in
    let place = c.in_ok-take_ready.ensures.place in
    let more = grown.taken ∙ ap (λ (l : List Operation). l ++ op ∷ []) so_far.0.taken ∙ sym (one_more ops (length t.operations) op at) in
    let count = ap (λ (l : List Operation). length l) grown.taken ∙ length_push t.operations op in (
      record { taken = more ∙ ap (λ (k : ℕ). take k ops) (sym count); none_waits = grown.none_waits },
      record { text = place.text ∙ so_far.1.text; site = place.site ∙ so_far.1.site },
      on_then c.args.replica.now t c.take_ready.new.replica so_far.2 c.in_ok-take_ready.ensures.on,
    )
