use Rattle.std.proofs.Common.{◌≡◌, ◌<◌, ◌≤◌, ℕ, inl, inr, ap, subst, sym, ◌∙◌, Err, arith}
use Rattle.set_laws.specs.Fronts.{front_of}
use Rattle.texts.specs.Merge.{MergesShort}
use Rattle.texts.specs.TextState.{TextState}
use Rattle.texts.specs.declared.merge_refusal.MergeRefusal.TheVariants.{Stopped}
use Rattle.set_laws.proofs.Preceding.{causes_before}
use Rattle.texts.proofs.Merging.{all_taken, begun, few, is_ready, one_passed, one_taken, read_of, standing_within}
use Rattle.texts.proofs.Merging.{stopped, when_err, when_ok}
use Rattle.texts.proofs.replica.Replica.take_news.Goals as goal
use Rattle.texts.proofs.replica.Replica.take_news.Goals.{then-front-seq+else-is_err, else-front-seq}

pub loop-place-init : goal.loop-place-init
loop-place-init c =
    begun c.args.self.now c.args.other.now (record {
      is = c.lemma_is_text.ensures;
      is_other = c.lemma_is_text-2.ensures;
      can = c.requires;
      once = c.lemma_are_taken_once.ensures;
      before = causes_before c.args.other.now.operations c.lemma_is_text-2.ensures.in_order
          c.lemma_is_text-2.ensures.identified;
    })

pub take_over_at-requires-clause-ready : goal.take_over_at-requires-clause-ready
take_over_at-requires-clause-ready c = λ op there.
    let now = c.loop-place.self in
    let (on, at) = read_of c.args.other.now.operations c.loop-place.place op c.taken_identity-site.result there
    c.taken_identity-site.ensures in
    let front = c.front.ensures ∙ ap (front_of now.operations) on in
    let past : front_of now.operations op.site < op.seq = omega (arith, front, at, c.if-front-seq.true) in
    is_ready c.loop-place.invariant there past

pub returns-then-is_err : goal.returns-then-is_err
returns-then-is_err c =
    let now = c.loop-place.self in
    let ops = c.args.other.now.operations in
    let place : ℕ = c.loop-place.place in
    let (op, there) = standing_within ops place (omega (arith, c.taken_len-place-end.ensures, c.loop-place-test.true)) in
    let (on, at) = read_of ops place op c.taken_identity-site.result there c.taken_identity-site.ensures in
    let front = c.front.ensures ∙ ap (front_of now.operations) on in
    let past : front_of now.operations op.site < op.seq = omega (arith, front, at, c.if-front-seq.true) in
    let stays : c.take_over_at.new.self ≡ now =
    when_err c.take_over_at.result (sym c.is_err.ensures.value ∙ c.if-is_err.true) c.take_over_at.ensures.err in
    inr (subst
    (λ (t : TextState). MergesShort c.args.self.now c.args.other.now (Err (Stopped c.loop-place.done)) t) (sym stays)
    (stopped c.loop-place.invariant there past))

pub overflow_add-done : goal.overflow_add-done
overflow_add-done c =
    let len = c.taken_len-place-end.ensures in
    let more = few c.loop-place.invariant (omega (arith, len, c.loop-place-test.true)) in
    omega (arith, more, c.loop-place-test.true, c.taken_len-place-end.type_inv)

pub loop-place-preserved : goal.loop-place-preserved
loop-place-preserved c =
    let now = c.loop-place.self in
    let ops = c.args.other.now.operations in
    let place : ℕ = c.loop-place.place in
    let (op, there) = standing_within ops place (omega (arith, c.taken_len-place-end.ensures, c.loop-place-test.true)) in
    let (on, at) = read_of ops place op c.taken_identity-site.result there c.taken_identity-site.ensures in
    let front = c.front.ensures ∙ ap (front_of now.operations) on in
    elim c.if-front-seq.branch [
      | then-front-seq+else-is_err w ↦
          let past : front_of now.operations op.site < op.seq = omega (arith, front, at, w.if-front-seq.true) in
          let taken =
          when_ok w.take_over_at.result (sym w.is_err.ensures.value ∙ w.if-is_err.false) w.take_over_at.ensures.ok in
          rw (w.done-is, w.self-is) (one_taken c.loop-place.invariant there w.take_over_at.new.self past (taken op there))
      | else-front-seq w ↦
          let most : op.seq ≤ front_of now.operations op.site = omega (arith, front, at, w.if-front-seq.false) in
          rw (w.done-is, w.self-is) (one_passed c.loop-place.invariant there most)
    ]

pub returns : goal.returns
returns c =
    inl (all_taken c.loop-place.invariant (omega (arith, c.taken_len-place-end.ensures, c.loop-place-test.false)))
