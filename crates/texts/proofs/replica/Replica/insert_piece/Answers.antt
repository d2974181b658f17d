use Rattle.std.proofs.Common.{◌≡◌, ◌∷◌, ◌++◌, [], length, inl, inr, None, refl, sym, ap, subst, ◌∙◌}
use Rattle.std.specs.Prelude.{OnOk}
use Rattle.looks.specs.declared.refusal.Refusal.TheVariants.{OutOfMemory}
use Rattle.char_files.specs.Stretch.{Stretch}
use Rattle.operations.specs.Operation.{OpKind}
use Rattle.operations.specs.Seen.{kind_of}
use Rattle.operations.specs.Spelling.{spelling}
use Rattle.set_laws.specs.Fronts.{file_len}
use Rattle.set_laws.specs.Verdict.{ready}
use Rattle.texts.specs.Edit.{anchor_before, own_insert, own_op}
use Rattle.texts.specs.Laws.{IsPlainEdit}
use Rattle.texts.specs.Outcome.{refusal_for}
use Rattle.texts.specs.Taking.{HasTaken, IsJudged}
use Rattle.texts.specs.TextState.{shown_of}
use Rattle.texts.proofs.OwnInsert.{insert_is_plain}
use Rattle.texts.proofs.Made.{longer, made, not_made}
use Rattle.texts.proofs.replica.Replica.insert_piece.Goals as goal
use Rattle.texts.proofs.replica.Replica.insert_piece.Goals.{After-insert_refusal, After-lemma_is_text, After-piece}

-- the Insert of the piece is a plain edit
is_plain : (c : After-lemma_is_text)
    → IsPlainEdit c.args.self.now c.args.pos c.args.piece.now.looks c.args.piece.now.bytes
is_plain c =
    insert_is_plain c.args.self.now c.args.pos c.args.piece.now.looks c.args.piece.now.bytes
    c.lemma_is_text.ensures c.requires.in_text

-- what its length tells is why it is refused
refused_so : (c : After-insert_refusal)
    → refusal_for c.args.self.now
    (own_insert c.args.self.now c.args.pos c.args.piece.now.looks c.args.piece.now.bytes).kind
    ≡ c.insert_refusal.result
refused_so c =
    let t = c.args.self.now in
    let p = c.args.piece.now in
    c.insert_refusal.ensures (anchor_before (shown_of t) c.args.pos) (file_len t.operations t.site) p.looks p.bytes
    (sym (ap (λ (s : Stretch). length s.bytes) c.piece.view_is))

-- what inserts the looks and bytes inside the piece inserts those of the piece
kind_is : (c : After-piece) (kind : OpKind)
    → kind ≡ (own_insert c.args.self.now c.args.pos c.piece.inside.looks.now c.piece.inside.bytes.now).kind
    → kind ≡ (own_insert c.args.self.now c.args.pos c.args.piece.now.looks c.args.piece.now.bytes).kind
kind_is c kind is =
    is ∙ ap (λ (s : Stretch). (own_insert c.args.self.now c.args.pos s.looks s.bytes).kind) c.piece.view_is

pub returns-in-Some-clause-sends : goal.returns-in-Some-clause-sends
returns-in-Some-clause-sends c =
    (inl (refused_so (goal.at.returns-in-Some-clause-sends c).After-insert_refusal ∙ c.in-Some.is), refl, refl)

pub own_insert-requires-clause-allowed : goal.own_insert-requires-clause-allowed
own_insert-requires-clause-allowed c =
    let t = c.args.self.now in
    let allowed = refused_so (goal.at.own_insert-requires-clause-allowed c).After-insert_refusal ∙ c.in_default.is in
    subst (λ (s : Stretch). refusal_for t (own_insert t c.args.pos s.looks s.bytes).kind ≡ None) (sym c.piece.view_is)
    allowed

pub returns-in_err-kind-clause-sends : goal.returns-in_err-kind-clause-sends
returns-in_err-kind-clause-sends c =
    let t = c.args.self.now in
    let p = c.args.piece.now in
    let allowed = refused_so (goal.at.returns-in_err-kind-clause-sends c).After-insert_refusal ∙ c.in_default.is in
    not_made t (own_insert t c.args.pos p.looks p.bytes) c.args.outbox.now c.from_residual.result OutOfMemory
    c.from_residual.ensures.1 (inr (refl, inl allowed))

pub make-requires-clause-allowed : goal.make-requires-clause-allowed
make-requires-clause-allowed c =
    let at = goal.at.make-requires-clause-allowed c in (
      (own_insert c.args.self.now c.args.pos c.args.piece.now.looks c.args.piece.now.bytes).kind,
      refused_so (at.After-insert_refusal) ∙ c.in_default.is,
    )

pub make-requires-clause-ready : goal.make-requires-clause-ready
make-requires-clause-ready c =
    let at = goal.at.make-requires-clause-ready c in
    let plain = is_plain at.After-lemma_is_text in
    subst (λ (k : OpKind). IsJudged c.args.self.now (own_op c.args.self.now k) ready)
    (sym (kind_is at.After-piece (kind_of c.in_ok-kind.kind) c.in_ok-kind.ensures.0)) (refl, plain.new, plain.ready)

pub returns-clause-sends : goal.returns-clause-sends
returns-clause-sends c =
    let at = goal.at.returns-clause-sends c in
    let t = c.args.self.now in
    let p = c.args.piece.now in
    let sent = c.args.outbox.now in
    let ok = subst (λ (k : OpKind). OnOk c.make.result (HasTaken t (own_op t k) c.make.new.self
    × (c.make.new.outbox ≡ sent ++ spelling (own_op t k) ∷ [])))
    (kind_is at.After-piece (kind_of c.in_ok-kind.kind) c.in_ok-kind.ensures.0) c.make.ensures.ok in
    made t (own_insert t c.args.pos p.looks p.bytes) c.lemma_is_text.ensures refl
    (is_plain at.After-lemma_is_text).text c.make.result c.make.new.self sent c.make.new.outbox
    (refused_so at.After-insert_refusal ∙ c.in_default.is) ok c.make.ensures.errors c.make.ensures.err refl

pub returns-clause-longer : goal.returns-clause-longer
returns-clause-longer c =
    let t = c.args.self.now in
    let p = c.args.piece.now in
    longer t (own_insert t c.args.pos p.looks p.bytes) c.args.pos (file_len t.operations t.site) p.looks p.bytes
    c.make.result c.make.new.self c.args.outbox.now c.make.new.outbox
    (is_plain (goal.at.returns-clause-longer c).After-lemma_is_text).shown (returns-clause-sends c)
