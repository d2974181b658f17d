use Rattle.std.proofs.Common.{ℕ, List, inl, subst}
use Rattle.note.specs.declared.own_entry.OwnEntry.{OwnEntry}
use Rattle.vialshoal_c.specs.NoteAsking.{PutsEntryAt, SayOwn}
use Rattle.vialshoal_c.proofs.NoteEdits.{none_own}
use Rattle.vialshoal_c.proofs.Told.{where_true}
use Rattle.vialshoal_c.proofs.note_session.NoteSession.own.Goals as goal

pub returns-in-Ok : goal.returns-in-Ok
returns-in-Ok c =
    let entries = c.in-Ok.entries.items in
    let put = c.put_entry_at.result in
    where_true _ _ _ c.in-Ok.ensures.ok.0 (inl (
      entries,
      subst (λ (n : ℕ). SayOwn c.args.self.now c.args.text n entries) c.hash.ensures c.in-Ok.ensures.ok.1,
      subst (λ (es : List OwnEntry). PutsEntryAt es c.args.index c.args.head.now c.put_entry_at.new.head c.args.room.now put.number
          put.need c.put_entry_at.new.room) c.deref.ensures.value c.put_entry_at.ensures,
    ))

pub returns-in-Err : goal.returns-in-Err
returns-in-Err c =
    none_own c.args.head.now c.args.room.now c.none.result.number c.none.result.need c.none.ensures.1 c.args.self.now c.args.text
    _ c.args.index c.in-Err.number c.none.ensures.0 c.in-Err.ensures.err
