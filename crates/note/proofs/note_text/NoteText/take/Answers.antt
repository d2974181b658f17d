use Rattle.std.proofs.Common.{ℕ, sym, subst}
use Rattle.note_laws.specs.Laws.{AreReadyInTurn}
use Rattle.note.proofs.note_text.NoteText.take.Goals as goal

pub take_rest-taken-requires-clause-ready : goal.take_rest-taken-requires-clause-ready
take_rest-taken-requires-clause-ready c =
    subst (λ (n : ℕ). AreReadyInTurn n c.log.result.now.ops) (sym c.self.invariant.of_text) c.log.ensures.ready
