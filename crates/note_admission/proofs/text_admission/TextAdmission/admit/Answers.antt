use Rattle.std.proofs.Common.{◌≡◌, ◌+◌, List, [], ◌∷◌, ◌++◌, sym, ap, subst, ◌∙◌, arith}
use Rattle.operations.specs.Operation.{Operation}
use Rattle.tree_order.specs.Good.{Good}
use Rattle.set_laws.specs.Fronts.{front_of}
use Rattle.set_laws.specs.Verdict.{HasVerdict, IsNew, ready}
use Rattle.set_laws.proofs.Files.{next_seq}
use Rattle.note_laws.specs.Note.{Saying}
use Rattle.note_admission.specs.Growing.{IsSoundLog, TextSeen}
use Rattle.note_admission.specs.Kept.{IsKeptOf}
use Rattle.note_admission.proofs.Growth.{sound_more}
use Rattle.note_admission.proofs.Keeping.{on_err_from}
use Rattle.note_admission.proofs.text_admission.TextAdmission.admit.Goals as goal

pub returns-in_err-admit-clause-still : goal.returns-in_err-admit-clause-still
returns-in_err-admit-clause-still c =
    on_err_from c.from_residual-in_err-admit.result (λ note admitted is. c.in_err-admit.ensures.err note admitted
    (subst (λ (t : TextSeen). IsKeptOf note admitted t.kept) (sym c.self.view_is) is))

pub push-requires-clause-next : goal.push-requires-clause-next
push-requires-clause-next c =
    let ops = c.args.self.now.ops in
    let s = c.args.saying.now in
    let op_is : c.in_ok-op.op ≡ s.op = c.in_ok-op.ensures.ok ∙ ap (λ (x : Saying). x.op) c.saying.view_is in
    let ops_is : c.reserve.new.self.ops ≡ ops = c.reserve.ensures.ops ∙ ap (λ (t : TextSeen). t.ops) c.self.view_is in
    let good : Good ops = subst (λ (t : TextSeen). Good t.ops) c.self.view_is c.self.invariant.good in
    let seq = next_seq ops good s.op c.requires.new c.requires.ready.0 in
    subst (λ (xs : List Operation). c.in_ok-op.op.seq ≡ front_of xs c.in_ok-op.op.site + 1) (sym ops_is)
    (subst (λ (o : Operation). o.seq ≡ front_of ops o.site + 1) (sym op_is) (omega arith))

pub invariant_of-self-2 : goal.invariant_of-self-2
invariant_of-self-2 c =
    let ops = c.self.inside.log.ops in
    let op = c.in_ok-op.op in
    let s = c.args.saying.now in
    let op_is : op ≡ s.op = c.in_ok-op.ensures.ok ∙ ap (λ (x : Saying). x.op) c.saying.view_is in
    let new : IsNew ops op = subst (IsNew ops) (sym op_is)
    (subst (λ (t : TextSeen). IsNew t.ops s.op) (sym c.self.view_is) c.requires.new) in
    let is : HasVerdict ops op ready = subst (λ (o : Operation). HasVerdict ops o ready) (sym op_is)
    (subst (λ (t : TextSeen). HasVerdict t.ops s.op ready) (sym c.self.view_is) c.requires.ready) in
    let log : c.push.new.self.ops ≡ ops ++ op ∷ [] =
    c.push.ensures ∙ ap (λ (xs : List Operation). xs ++ op ∷ []) c.reserve.ensures.ops in
    let text = c.self.inside.text in
    let on : op.text ≡ text = ap (λ (o : Operation). o.text) op_is
    ∙ (c.requires.text ∙ sym (ap (λ (t : TextSeen). t.text) c.self.view_is)) in
    subst (λ (xs : List Operation). IsSoundLog text xs c.admit.new.self.hashes) (sym log)
    (subst (IsSoundLog text (ops ++ op ∷ [])) (sym c.in_ok-admit.ensures.hashes)
    (sound_more text ops c.self.inside.admitted.hashes op s.hash c.self.invariant on new is))

pub returns-clause-kept : goal.returns-clause-kept
returns-clause-kept c =
    λ note admitted is. c.in_ok-admit.ensures.ok note admitted
    (subst (λ (t : TextSeen). IsKeptOf note admitted t.kept) (sym c.self.view_is) is)
