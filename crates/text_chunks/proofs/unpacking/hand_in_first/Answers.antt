use Rattle.std.proofs.Common.{◌≡◌, [], ◌∷◌, Err, ap, subst, sym, ◌∙◌}
use Rattle.std.specs.Prelude.{reverse}
use Rattle.std.proofs.lemmas.List.{reverse-append}
use Rattle.text_chunks.specs.Typed.{AreHandedIn}
use Rattle.text_chunks.specs.Unpacking.{HandsInAll}
use Rattle.text_chunks.specs.declared.unpacked.UnpackRefusal.{UnpackRefusal}
use Rattle.text_chunks.proofs.Handed.{one_more, one_refused}
use Rattle.text_chunks.proofs.unpacking.hand_in_first.Goals as goal

pub returns-in-Ok-clause-ok : goal.returns-in-Ok-clause-ok
returns-in-Ok-clause-ok c = λ start ops s.
    let left = c.pop.new.self.items in
    let first : reverse c.args.operations.now.items ≡ c.in-Some.op ∷ reverse left =
    ap reverse c.in-Some.ensures.items ∙ reverse-append left (c.in-Some.op ∷ []) in
    one_more start ops c.args.done c.args.counts c.args.replica.now c.in-Some.op (reverse left)
    (subst (AreHandedIn start ops c.args.done c.args.counts c.args.replica.now) first s) c.in-Ok.more c.hand_in.new.replica
    c.in-Ok.ensures.answered c.in-Ok.ensures.grown

pub returns-in-Err-clause-refused : goal.returns-in-Err-clause-refused
returns-in-Err-clause-refused c = λ start ops s.
    let left = c.pop.new.self.items in
    let first : reverse c.args.operations.now.items ≡ c.in-Some.op ∷ reverse left =
    ap reverse c.in-Some.ensures.items ∙ reverse-append left (c.in-Some.op ∷ []) in
    let (short, hands) = one_refused start ops c.args.done c.args.counts c.args.replica.now c.in-Some.op (reverse left)
    (subst (AreHandedIn start ops c.args.done c.args.counts c.args.replica.now) first s) c.in-Err.why c.hand_in.new.replica
    c.in-Err.ensures.answered in (
      short,
      subst (λ (x : UnpackRefusal). HandsInAll start ops short (Err x) c.hand_in.new.replica) (sym c.refusal_after.ensures) hands,
    )
