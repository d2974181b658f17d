use Rattle.std.proofs.Common.{List, ◌∷◌, ◌++◌, ◌∙◌, length, inl, inr, ◌≡◌, [], Err, refl, sym, ap, subst}
use Rattle.std.proofs.lemmas.Result.{err_from_is_err_and}
use Rattle.looks.specs.declared.refusal.Refusal.TheVariants as refusal
use Rattle.note_admission.proofs.Keeping.{on_err_from}
use Rattle.note_laws.specs.Note.{Saying}
use Rattle.std.proofs.lemmas.List.{append-nil, append_assoc, nil_from_length}
use Rattle.note_bodies.specs.Bodies.{AreMessagesOf}
use Rattle.note.specs.Notes.{NoteSeen}
use Rattle.note.proofs.Several.{pairs_then, takes_none, takes_one_more, takes_still}
use Rattle.note.proofs.note.Note.add.Goals as goal

pub returns-in_err-saying-items-clause-malformed : goal.returns-in_err-saying-items-clause-malformed
returns-in_err-saying-items-clause-malformed c = λ is.
    let (e, told, same) = err_from_is_err_and c.from_residual.result c.from_residual.ensures.1 in
    let why : c.in_err-saying-items.field-0.0 ≡ refusal.Malformed = cc in (
      refl,
      λ sayings are.
          c.in_err-saying-items.ensures.refused (ap Err why) sayings
          (subst (λ (n : NoteSeen). AreMessagesOf n.key c.args.head.now c.args.body.now sayings) (sym c.self.view_is) are),
    )

pub returns-in_err-saying-items-clause-err : goal.returns-in_err-saying-items-clause-err
returns-in_err-saying-items-clause-err c = on_err_from c.from_residual.result (inl (λ note entries is. is))

pub loop-saying-preserved : goal.loop-saying-preserved
loop-saying-preserved c =
    let mid = c.loop-saying.self in
    let (messages, many, before, places) = c.loop-saying.invariant in
    let yielded = c.loop-saying.yielded in (
      subst (λ (all : List Saying). AreMessagesOf c.args.self.now.key c.args.head.now c.args.body.now all)
          (ap (λ (rest : List Saying). yielded ++ rest) c.in-Some.ensures.steps.0
          ∙ sym (append_assoc yielded (c.in-Some.saying ∷ []) c.next.new.self.rest.items)) messages,
      c.in_ok-say.ensures.many ∙ many,
      takes_one_more c.args.self.now mid c.say.new.self yielded c.in-Some.saying before c.in_ok-say.ensures.ok,
      pairs_then c.args.self.now.texts mid.texts c.say.new.self.texts many places c.in_ok-say.ensures.place,
    )

pub returns-in_err-say-clause-place : goal.returns-in_err-say-clause-place
returns-in_err-say-clause-place c =
    let (messages, many, before, places) = c.loop-saying.invariant in
    pairs_then c.args.self.now.texts c.loop-saying.self.texts c.say.new.self.texts many places c.in_err-say.ensures.place

pub returns-in_err-say-clause-err : goal.returns-in_err-say-clause-err
returns-in_err-say-clause-err c =
    let (messages, many, before, places) = c.loop-saying.invariant in
    on_err_from c.from_residual-in_err-say.result
    (inr (
      c.loop-saying.yielded,
      c.loop-saying.saying-iterator.rest.items,
      messages,
      takes_still c.args.self.now c.loop-saying.self c.say.new.self c.loop-saying.yielded before c.in_err-say.ensures.err,
    ))

pub loop-saying-init : goal.loop-saying-init
loop-saying-init c = (
  subst (λ (n : NoteSeen). AreMessagesOf n.key c.args.head.now c.args.body.now c.into_iter-saying-iterator.result.rest.items) c.self.view_is
      (subst (AreMessagesOf c.self.inside.key c.args.head.now c.args.body.now) (sym c.into_iter-saying-iterator.ensures.into_iter_gives.0) c.in_ok-saying-items.ensures.ok),
  refl,
  takes_none c.args.self.now,
  λ k d lt. (refl, record { text = refl; site = refl }),
)

pub returns-clause-ok : goal.returns-clause-ok
returns-clause-ok c =
    let (messages, many, came, places) = c.loop-saying.invariant in
    let yielded = c.loop-saying.yielded in
    let rest = c.loop-saying.saying-iterator.rest in
    let few : length rest.items ≡ 0 = sym rest.ok.0 ∙ c.in-None.ensures.steps.0 in
    let none : rest.items ≡ [] = nil_from_length rest.items few in (
      yielded,
      subst (AreMessagesOf c.args.self.now.key c.args.head.now c.args.body.now)
          (ap (λ (left : List Saying). yielded ++ left) none ∙ append-nil yielded) messages,
      came,
    )
