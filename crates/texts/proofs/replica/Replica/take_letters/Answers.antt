use Rattle.std.proofs.Common.{◌≡◌, ◌∙◌, ap, Bool, List, Ok, Result, subst, sym, ℕ}
use Rattle.std.specs.Prelude.{All}
use Rattle.looks.specs.declared.refusal.Refusal.{Refusal}
use Rattle.operations.specs.Letters.{letter, letters}
use Rattle.operations.specs.Operation.{Operation}
use Rattle.set_laws.specs.Verdict.{HasVerdict, IsNew, ready}
use Rattle.taken_text.specs.Taken.{TakenSeen}
use Rattle.texts.specs.Taking.{HasTakenAll, IsJudged}
use Rattle.texts.specs.Text.{AreCharNames}
use Rattle.texts.specs.TextState.{TextState, asked_of}
use Rattle.texts.proofs.Kept.{grown_by_more, kept_with_all}
use Rattle.operations.proofs.Typed.{first_spelled}
use Rattle.texts.proofs.Letters.{letters_of_text}
use Rattle.texts.proofs.replica.Replica.take_letters.Goals as goal

pub is_letter_ready-requires-clause-spelled : goal.is_letter_ready-requires-clause-spelled
is_letter_ready-requires-clause-spelled c =
    first_spelled c.args.typing.now c.args.bytes.now 0 c.requires.some c.requires.spelled

pub returns-then-not-branch-clause-others : goal.returns-then-not-branch-clause-others
returns-then-not-branch-clause-others c told =
    c.in_ok-is_letter_ready.ensures.others (ap {B = Result Bool Refusal} Ok c.if-not-branch.true)

-- each letter that may stand first is ready
judged : (c : goal.After-add_letters-arg-1) (b : ℕ) → IsJudged c.args.self.now (letter c.args.typing.now b) ready
judged c = c.in_ok-is_letter_ready.ensures.ready (ap {B = Result Bool Refusal} Ok c.if-not-branch.false)

pub add_letters-requires-clause-new : goal.add_letters-requires-clause-new
add_letters-requires-clause-new c b =
    subst (λ (t : TextState). IsNew t.operations (letter c.args.typing.now b)) (sym c.self.view_is) (judged c b).1

pub add_letters-requires-clause-ready : goal.add_letters-requires-clause-ready
add_letters-requires-clause-ready c b =
    subst (λ (t : TextState). HasVerdict t.operations (letter c.args.typing.now b) ready) (sym c.self.view_is) (judged c b).2

pub invariant_of-self : goal.invariant_of-self
invariant_of-self c =
    let r = c.self.inside in
    subst (λ (taken : TakenSeen). All (λ op. op.text ≡ r.text) taken.operations × All (λ op. op.text ≡ r.text) r.room
    × AreCharNames taken.operations r.set) (sym c.in_err-add_letters.ensures.err) c.self.invariant

pub invariant_of-self-2 : goal.invariant_of-self-2
invariant_of-self-2 c =
    let r = c.self.inside in
    let more = letters c.args.typing.now c.args.bytes.now in
    let same : c.args.typing.now.text ≡ c.args.self.now.text =
    (c.in_ok-is_letter_ready.ensures.ready (ap {B = Result Bool Refusal} Ok c.if-not-branch.false) 0).0 in
    let own = subst (λ (text : ℕ). All (λ op. op.text ≡ text) more)
    (same ∙ ap (λ (t : TextState). t.text) (sym c.self.view_is)) (letters_of_text c.args.typing.now c.args.bytes.now) in
    subst (λ (ops : List Operation). All (λ op. op.text ≡ r.text) ops × All (λ op. op.text ≡ r.text) r.room
    × AreCharNames ops r.set) (sym c.in_ok-add_letters.ensures.ok)
    (kept_with_all r.text r.taken.operations r.room r.set more own c.self.invariant)

pub returns-clause-taken : goal.returns-clause-taken
returns-clause-taken c told =
    let r = c.self.inside in
    let added = c.add_letters.new.self in
    let more = letters c.args.typing.now c.args.bytes.now in
    subst (λ (t : TextState). HasTakenAll c.args.self.now more t) (sym c.let_notes_go.ensures)
    (grown_by_more r.text r.site r.taken.operations added.operations r.taken.chars added.chars r.room r.stretch r.set
    (asked_of r.taken.asked r.reported) (asked_of added.asked r.reported) more c.args.self.now c.self.view_is
    c.in_ok-add_letters.ensures.ok (ap (λ (n : ℕ). asked_of n r.reported) c.add_letters.ensures.asked) c.lemma_is_text.ensures)
