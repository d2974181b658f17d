use Rattle.std.proofs.Common.{◌≡◌, ◌<◌, length, slice_get, sym, ap, subst, arith}
use Rattle.note.specs.Texts.{NoteText}
use Rattle.note.proofs.Following.{one_alike}
use Rattle.note.proofs.note_text.NoteText.compare.Goals as goal

pub invariant_of-self : goal.invariant_of-self
invariant_of-self c =
    let x = c.self.inside in
    let t : NoteText = record { admission = x.admission; replica = x.replica; alike = x.alike; anew = x.anew } in
    let taken : x.alike < length x.replica.operations = let lt = c.loop-self-test.true in let is = c.taken_len.ensures in omega arith in
    let many : length c.log.result.now.ops ≡ length x.admission.ops = ap length c.log.ensures.value in
    let admitted : x.alike < length x.admission.ops = let lt = c.if-self-len.true in let is = c.len.ensures in omega arith in
    one_alike t c.self.invariant taken admitted
    (subst (λ (u : NoteText). slice_get u.replica.operations u.alike ≡ slice_get u.admission.ops u.alike) (sym c.self.view_is)
    (c.in_ok-is_next_alike.ensures.ok c.if-not-branch.false))
