use Rattle.std.proofs.Common.{ap, refl, subst, sym, ◌∙◌, arith}
use Rattle.std.proofs.lemmas.Bool.{false≢true}
use Rattle.operations.specs.Operation.{Operation}
use Rattle.chunks.specs.Chunks.{Placed}
use Rattle.note_laws.specs.Note.{Saying}
use Rattle.note_admission.specs.Growing.{AreTaken}
use Rattle.note_bodies.specs.Writing.{CanBeAdded, added_on}
use Rattle.note.specs.Texts.{NoteText}
use Rattle.note.proofs.OwnSteps.{placed_so}
use Rattle.note.proofs.note_text.NoteText.write_message.Goals as goal

pub returns-then-not-branch-clause-full : goal.returns-then-not-branch-clause-full
returns-then-not-branch-clause-full c = λ _.
    let stands = placed_so _ c.args.self.now c.self.view_is c.args.turn.now.place c.args.op c.file_before.result c.requires
    c.file_before.ensures in
    record {
      same_turn = refl;
      same_body = c.in_ok-add.ensures.full c.if-not-branch.true;
      on = c.in_ok-on.on;
      full = λ can.
          let put = c.in_ok-add.ensures.room.1 (subst (λ (p : Placed). CanBeAdded c.args.body.now p c.in_ok-on.on) (sym stands) can) in
          false≢true (sym c.if-not-branch.true ∙ put);
    }

pub returns-clause-put : goal.returns-clause-put
returns-clause-put c = λ _.
    let stands = placed_so _ c.args.self.now c.self.view_is c.args.turn.now.place c.args.op c.file_before.result c.requires
    c.file_before.ensures in
    record {
      on = c.in_ok-on.on;
      builds = λ note entries admitted more digest taken mentioned s op on.
          c.in_ok-on.ensures.ok note entries admitted more digest
          (subst (λ (t : NoteText). AreTaken note entries t.admission admitted) (sym c.self.view_is) taken) mentioned s op on;
      between = λ more s is so.
          c.in_ok-add-2.ensures.ok c.args.op.site more s is (ap (λ (o : Operation). o.site) is) so;
      place = refl;
      seq = omega (arith, c.saturating_add-turn.ensures, c.seq.ensures);
      before = ap (λ (s : Saying). s.hash) (c.branch.view_is ∙ c.in_ok-turn.ensures.ok);
      room = subst (λ (p : Placed). CanBeAdded c.args.body.now p c.in_ok-on.on) stands
          (c.in_ok-add.ensures.room.0 c.if-not-branch.false);
      body_is = c.in_ok-add.ensures.added c.if-not-branch.false
          ∙ ap (λ (p : Placed). added_on c.args.body.now p c.in_ok-on.on) stands;
    }
