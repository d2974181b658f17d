use Rattle.std.proofs.Common.{◌≡◌, ℕ, List, ap, sym, subst}
use Rattle.std.specs.Prelude.{All}
use Rattle.operations.specs.Operation.{Operation}
use Rattle.set_laws.specs.Verdict.{HasVerdict, IsNew, ready}
use Rattle.taken_text.specs.Taken.{TakenSeen}
use Rattle.texts.specs.Taking.{HasTaken}
use Rattle.texts.specs.Text.{AreCharNames}
use Rattle.texts.specs.TextState.{TextState, asked_of}
use Rattle.texts.proofs.Kept.{grown_by_one, kept_with}
use Rattle.texts.proofs.replica.Replica.take_over.Goals as goal

pub add-requires-clause-new : goal.add-requires-clause-new
add-requires-clause-new c =
    subst (λ (t : TextState). IsNew t.operations c.args.op) (sym c.self.view_is) c.requires.1

pub add-requires-clause-ready : goal.add-requires-clause-ready
add-requires-clause-ready c =
    subst (λ (t : TextState). HasVerdict t.operations c.args.op ready) (sym c.self.view_is) c.requires.2

pub invariant_of-self : goal.invariant_of-self
invariant_of-self c =
    let r = c.self.inside in
    subst (λ (taken : TakenSeen). All (λ op. op.text ≡ r.text) taken.operations × All (λ op. op.text ≡ r.text) r.room
    × AreCharNames taken.operations r.set) (sym c.in_err-add.ensures.err) c.self.invariant

pub invariant_of-self-2 : goal.invariant_of-self-2
invariant_of-self-2 c =
    let r = c.self.inside in
    let op = c.args.op in
    let own : op.text ≡ r.text = subst (λ (t : TextState). op.text ≡ t.text) (sym c.self.view_is) c.requires.0 in
    subst (λ (ops : List Operation). All (λ op. op.text ≡ r.text) ops × All (λ op. op.text ≡ r.text) r.room
    × AreCharNames ops r.set) (sym c.in_ok-add.ensures.ok) (kept_with r.text r.taken.operations r.room r.set op own c.self.invariant)

pub returns-clause-ok : goal.returns-clause-ok
returns-clause-ok c =
    let r = c.self.inside in
    let added = c.add.new.self in
    subst (λ (t : TextState). HasTaken c.args.self.now c.args.op t) (sym c.let_notes_go.ensures)
    (grown_by_one r.text r.site r.taken.operations added.operations r.taken.chars added.chars r.room r.stretch r.set
    (asked_of r.taken.asked r.reported) (asked_of added.asked r.reported) c.args.op c.args.self.now c.self.view_is
    c.in_ok-add.ensures.ok (ap (λ (n : ℕ). asked_of n r.reported) c.add.ensures.asked) c.lemma_is_text.ensures)
