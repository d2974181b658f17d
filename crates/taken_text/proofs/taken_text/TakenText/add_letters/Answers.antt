use Rattle.std.proofs.Common.{◌≡◌, ℕ, ap, subst, sym, ◌∙◌}
use Rattle.operations.specs.Letters.{letter}
use Rattle.set_laws.specs.Verdict.{HasVerdict, IsNew, ready}
use Rattle.taken_text.specs.Noted.{IsNotedText}
use Rattle.taken_text.specs.Taken.{TakenSeen, chars_shown}
use Rattle.taken_text.proofs.Noting.{shown_same}
use Rattle.taken_text.proofs.Ready.{is_next}
use Rattle.taken_text.proofs.Spelling.{same_taken}
use Rattle.taken_text.proofs.taken_text.TakenText.add_letters.Goals as goal
use Rattle.taken_text.proofs.taken_text.TakenText.add_letters.Goals.{After-reserve_letters}

-- making room leaves the operations
same_ops : (c : After-reserve_letters) → c.reserve_letters.new.self.ops ≡ c.args.self.now.operations
same_ops c = c.reserve_letters.ensures.ops ∙ ap (λ (t : TakenSeen). t.operations) c.self.view_is

still_new : (c : After-reserve_letters) (b : ℕ) → IsNew c.reserve_letters.new.self.ops (letter c.args.typing.now b)
still_new c b = subst (λ ops. IsNew ops (letter c.args.typing.now b)) (sym (same_ops c)) (c.requires.new b)

still_ready : (c : After-reserve_letters) (b : ℕ) → HasVerdict c.reserve_letters.new.self.ops (letter c.args.typing.now b) ready
still_ready c b = subst (λ ops. HasVerdict ops (letter c.args.typing.now b) ready) (sym (same_ops c)) (c.requires.ready b)

still_noted : (c : After-reserve_letters)
    → IsNotedText c.reserve_letters.new.self.ops c.self.inside.pieces.items c.self.inside.files c.self.inside.asked c.self.inside.note.items
still_noted c =
    let t = c.self.inside in
    subst (λ ops. IsNotedText ops t.pieces.items t.files t.asked t.note.items) (sym c.reserve_letters.ensures.ops)
    (record { taken = c.self.invariant.taken; noted = c.self.invariant.noted })

pub insert_letters-requires-clause-new : goal.insert_letters-requires-clause-new
insert_letters-requires-clause-new c = still_new (goal.at.insert_letters-requires-clause-new c).After-reserve_letters

pub insert_letters-requires-clause-ready : goal.insert_letters-requires-clause-ready
insert_letters-requires-clause-ready c = still_ready (goal.at.insert_letters-requires-clause-ready c).After-reserve_letters

pub invariant_of-self-in_err-insert_letters : goal.invariant_of-self-in_err-insert_letters
invariant_of-self-in_err-insert_letters c =
    let t = c.self.inside in
    let was = still_noted (goal.at.invariant_of-self-in_err-insert_letters c).After-reserve_letters in
    let err = c.in_err-insert_letters.ensures.err in
    let shown : chars_shown c.insert_letters.new.pieces.items c.insert_letters.new.files ≡ chars_shown t.pieces.items t.files =
    shown_same t.pieces.items c.insert_letters.new.pieces.items t.files c.insert_letters.new.files err.0 err.1 in
    record {
      taken =
          same_taken c.reserve_letters.new.self.ops t.pieces.items c.insert_letters.new.pieces.items t.files c.insert_letters.new.files
          err.0 err.1 was.taken;
      noted = rw (err.2, shown) was.noted;
    }

pub push_letters-requires-clause-next : goal.push_letters-requires-clause-next
push_letters-requires-clause-next c =
    let at = (goal.at.push_letters-requires-clause-next c).After-reserve_letters in
    let was = still_noted at in
    is_next c.reserve_letters.new.self.ops (letter c.args.typing.now 0) was.taken.good was.taken.identified (still_new at 0)
    (still_ready at 0)

pub push_letters-requires-clause-begins : goal.push_letters-requires-clause-begins
push_letters-requires-clause-begins c =
    (still_ready (goal.at.push_letters-requires-clause-begins c).After-reserve_letters 0).1.begins

pub invariant_of-self-2 : goal.invariant_of-self-2
invariant_of-self-2 c =
    subst (λ ops. IsNotedText ops c.insert_letters.new.pieces.items c.insert_letters.new.files c.self.inside.asked
    c.insert_letters.new.note.items) (sym c.push_letters.ensures)
    (c.in_ok-insert_letters.ensures.ok c.self.inside.asked (still_noted (goal.at.invariant_of-self-2 c).After-reserve_letters))
