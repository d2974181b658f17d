use Rattle.std.proofs.Common.{inl, inr, sym, ◌∙◌}
use Rattle.note.proofs.OwnSteps.{is_full, step_on}
use Rattle.note.proofs.note_text.NoteText.write_body.Goals as goal
use Rattle.note.proofs.note_text.NoteText.write_body.Goals.{else-is_own-via-then-is_own+in_ok-write_message+else-not-branch, else-is_own-via-else-is_own}

-- no room is left
pub returns-then-not-branch-clause-ok : goal.returns-then-not-branch-clause-ok
returns-then-not-branch-clause-ok c = λ last said have empty.
    is_full c.args.key.now c.args.author c.args.self.now last said c.args.turn.now c.loop-turn.turn c.loop-turn.body
    (c.loop-turn.invariant last said have empty) _ c.self.view_is c.in_ok-op.op c.in_ok-op.ensures.ok c.lemma_is_text.ensures
    c.lemma_are_taken_once.ensures c.lemma_have_spelling.ensures c.write_message.new.turn c.write_message.new.body
    (c.in_ok-write_message.ensures.full c.if-not-branch.true)

-- one operation more, whatever kind it is of
pub loop-turn-preserved : goal.loop-turn-preserved
loop-turn-preserved c = λ last said have empty.
    step_on c.args.key.now c.args.author c.args.self.now last said c.args.turn.now c.loop-turn.turn c.loop-turn.body
    (c.loop-turn.invariant last said have empty) _ c.self.view_is c.in_ok-op.op c.in_ok-op.ensures.ok c.lemma_is_text.ensures
    c.lemma_are_taken_once.ensures c.lemma_have_spelling.ensures c.else-is_own.turn c.else-is_own.body
    (elim c.else-is_own.branch [
      | else-is_own-via-then-is_own+in_ok-write_message+else-not-branch w ↦ inl (
        w.write_message.new.turn,
        w.write_message.new.body,
        sym c.is_own.ensures ∙ w.if-is_own.true,
        w.in_ok-write_message.ensures.put w.if-not-branch.false,
        w.turn-is,
        w.body-is,
      )
      | else-is_own-via-else-is_own w ↦ inr (sym c.is_own.ensures ∙ w.if-is_own.false, w.turn-is, w.body-is)
    ])

pub loop-turn-preserved-else-is_own : goal.loop-turn-preserved-else-is_own
loop-turn-preserved-else-is_own c = λ last said have empty.
    step_on c.args.key.now c.args.author c.args.self.now last said c.args.turn.now c.loop-turn.turn c.loop-turn.body
    (c.loop-turn.invariant last said have empty) _ c.self.view_is c.in_ok-op.op c.in_ok-op.ensures.ok c.lemma_is_text.ensures
    c.lemma_are_taken_once.ensures c.lemma_have_spelling.ensures c.else-is_own.turn c.else-is_own.body
    (elim c.else-is_own.branch [
      | else-is_own-via-then-is_own+in_ok-write_message+else-not-branch w ↦ inl (
        w.write_message.new.turn,
        w.write_message.new.body,
        sym c.is_own.ensures ∙ w.if-is_own.true,
        w.in_ok-write_message.ensures.put w.if-not-branch.false,
        w.turn-is,
        w.body-is,
      )
      | else-is_own-via-else-is_own w ↦ inr (sym c.is_own.ensures ∙ w.if-is_own.false, w.turn-is, w.body-is)
    ])

pub loop-turn-preserved-else-is_own-2 : goal.loop-turn-preserved-else-is_own-2
loop-turn-preserved-else-is_own-2 c = λ last said have empty.
    step_on c.args.key.now c.args.author c.args.self.now last said c.args.turn.now c.loop-turn.turn c.loop-turn.body
    (c.loop-turn.invariant last said have empty) _ c.self.view_is c.in_ok-op.op c.in_ok-op.ensures.ok c.lemma_is_text.ensures
    c.lemma_are_taken_once.ensures c.lemma_have_spelling.ensures c.else-is_own.turn c.else-is_own.body
    (elim c.else-is_own.branch [
      | else-is_own-via-then-is_own+in_ok-write_message+else-not-branch w ↦ inl (
        w.write_message.new.turn,
        w.write_message.new.body,
        sym c.is_own.ensures ∙ w.if-is_own.true,
        w.in_ok-write_message.ensures.put w.if-not-branch.false,
        w.turn-is,
        w.body-is,
      )
      | else-is_own-via-else-is_own w ↦ inr (sym c.is_own.ensures ∙ w.if-is_own.false, w.turn-is, w.body-is)
    ])

pub loop-turn-preserved-else-is_own-3 : goal.loop-turn-preserved-else-is_own-3
loop-turn-preserved-else-is_own-3 c = λ last said have empty.
    step_on c.args.key.now c.args.author c.args.self.now last said c.args.turn.now c.loop-turn.turn c.loop-turn.body
    (c.loop-turn.invariant last said have empty) _ c.self.view_is c.in_ok-op.op c.in_ok-op.ensures.ok c.lemma_is_text.ensures
    c.lemma_are_taken_once.ensures c.lemma_have_spelling.ensures c.else-is_own.turn c.else-is_own.body
    (elim c.else-is_own.branch [
      | else-is_own-via-then-is_own+in_ok-write_message+else-not-branch w ↦ inl (
        w.write_message.new.turn,
        w.write_message.new.body,
        sym c.is_own.ensures ∙ w.if-is_own.true,
        w.in_ok-write_message.ensures.put w.if-not-branch.false,
        w.turn-is,
        w.body-is,
      )
      | else-is_own-via-else-is_own w ↦ inr (sym c.is_own.ensures ∙ w.if-is_own.false, w.turn-is, w.body-is)
    ])

pub loop-turn-preserved-else-is_own-4 : goal.loop-turn-preserved-else-is_own-4
loop-turn-preserved-else-is_own-4 c = λ last said have empty.
    step_on c.args.key.now c.args.author c.args.self.now last said c.args.turn.now c.loop-turn.turn c.loop-turn.body
    (c.loop-turn.invariant last said have empty) _ c.self.view_is c.in_ok-op.op c.in_ok-op.ensures.ok c.lemma_is_text.ensures
    c.lemma_are_taken_once.ensures c.lemma_have_spelling.ensures c.else-is_own.turn c.else-is_own.body
    (elim c.else-is_own.branch [
      | else-is_own-via-then-is_own+in_ok-write_message+else-not-branch w ↦ inl (
        w.write_message.new.turn,
        w.write_message.new.body,
        sym c.is_own.ensures ∙ w.if-is_own.true,
        w.in_ok-write_message.ensures.put w.if-not-branch.false,
        w.turn-is,
        w.body-is,
      )
      | else-is_own-via-else-is_own w ↦ inr (sym c.is_own.ensures ∙ w.if-is_own.false, w.turn-is, w.body-is)
    ])
