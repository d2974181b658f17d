use Rattle.std.proofs.Common.{◌≡◌, [], ◌∷◌, ◌++◌, ap, subst, sym, ◌∙◌}
use Rattle.set_laws.specs.Verdict.{HasVerdict, IsNew, ready}
use Rattle.taken_text.specs.Noted.{AreChangesSince}
use Rattle.taken_text.specs.Taken.{IsTaken, TakenSeen, chars_shown}
use Rattle.taken_text.proofs.Noting.{shown_same, since_more}
use Rattle.taken_text.proofs.Ready.{is_next}
use Rattle.taken_text.proofs.Spelling.{same_taken}
use Rattle.taken_text.proofs.taken_text.TakenText.add.Goals as goal

pub apply-requires-clause-ready : goal.apply-requires-clause-ready
apply-requires-clause-ready c =
    let same : c.reserve.new.self.ops ≡ c.args.self.now.operations = c.reserve.ensures.ops ∙ ap (λ (t : TakenSeen). t.operations) c.self.view_is in
    subst (λ ops. HasVerdict ops c.args.op ready) (sym same) c.requires.ready

pub invariant_of-self-in_err-apply : goal.invariant_of-self-in_err-apply
invariant_of-self-in_err-apply c =
    let t = c.self.inside in
    let taken = subst (λ ops. IsTaken ops t.pieces.items t.files) (sym c.reserve.ensures.ops) c.self.invariant.taken in
    let err = c.in_err-apply.ensures.err in
    let shown : chars_shown c.apply.new.pieces.items c.apply.new.files ≡ chars_shown t.pieces.items t.files =
    shown_same t.pieces.items c.apply.new.pieces.items t.files c.apply.new.files err.0 err.1 in
    record {
      taken = same_taken c.reserve.new.self.ops t.pieces.items c.apply.new.pieces.items t.files c.apply.new.files err.0 err.1 taken;
      noted = rw (err.2, shown, c.reserve.ensures.ops) c.self.invariant.noted;
    }

pub push-requires-clause-next : goal.push-requires-clause-next
push-requires-clause-next c =
    let t = c.self.inside in
    let taken = subst (λ ops. IsTaken ops t.pieces.items t.files) (sym c.reserve.ensures.ops) c.self.invariant.taken in
    let same : c.reserve.new.self.ops ≡ c.args.self.now.operations = c.reserve.ensures.ops ∙ ap (λ (s : TakenSeen). s.operations) c.self.view_is in
    is_next c.reserve.new.self.ops c.args.op taken.good taken.identified (subst (λ ops. IsNew ops c.args.op) (sym same) c.requires.new) (subst (λ ops. HasVerdict ops c.args.op ready) (sym same) c.requires.ready)

pub invariant_of-self-2 : goal.invariant_of-self-2
invariant_of-self-2 c =
    let t = c.self.inside in
    let ops : c.push.new.self.ops ≡ c.reserve.new.self.ops ++ c.args.op ∷ [] = c.push.ensures in
    let noted = subst (λ ops. AreChangesSince t.asked ops t.note.items (chars_shown t.pieces.items t.files)) (sym c.reserve.ensures.ops) c.self.invariant.noted in
    record {
      taken = subst (λ ops. IsTaken ops c.apply.new.pieces.items c.apply.new.files) (sym ops) c.in_ok-apply.ensures.ok;
      noted = subst (λ ops. AreChangesSince t.asked ops c.apply.new.note.items (chars_shown c.apply.new.pieces.items c.apply.new.files)) (sym ops)
          (since_more t.asked c.reserve.new.self.ops c.args.op t.note.items c.apply.new.note.items
          (chars_shown t.pieces.items t.files) (chars_shown c.apply.new.pieces.items c.apply.new.files) noted c.in_ok-apply.ensures.noted);
    }
