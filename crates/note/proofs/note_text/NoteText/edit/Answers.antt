use Rattle.std.proofs.Common.{List, subst}
use Rattle.operations.specs.NameSet.{Range}
use Rattle.texts.specs.Named.{EditsByNamesSending}
use Rattle.note.specs.declared.own_edit.OwnEdit.TheVariants as own
use Rattle.note.proofs.Editing.{does_edit, edited_text, follows_still}
use Rattle.note.proofs.note_text.NoteText.edit.Goals as goal

pub invariant_of-self : goal.invariant_of-self
invariant_of-self c =
    let x = c.self.inside in
    follows_still (record { admission = x.admission; replica = x.replica; alike = x.alike; anew = x.anew }) c.insert.new.self c.self.invariant
    (does_edit (own.Insert c.in-Insert.pos c.in-Insert.buffer) x.replica c.insert.result c.insert.new.self c.args.outbox.now c.insert.new.outbox c.insert.ensures)

pub invariant_of-self-in-ByNames : goal.invariant_of-self-in-ByNames
invariant_of-self-in-ByNames c =
    let x = c.self.inside in
    let new = c.edit_by_names.new.self in
    let sent' = c.edit_by_names.new.outbox in
    let does = subst (λ (names : List Range). EditsByNamesSending x.replica c.in-ByNames.what names c.edit_by_names.result new c.args.outbox.now sent')
    c.deref.ensures.value c.edit_by_names.ensures in
    follows_still (record { admission = x.admission; replica = x.replica; alike = x.alike; anew = x.anew }) new c.self.invariant
    (does_edit (own.ByNames c.in-ByNames.what c.in-ByNames.names) x.replica c.edit_by_names.result new c.args.outbox.now sent' does)

pub returns-in-Delete : goal.returns-in-Delete
returns-in-Delete c =
    let x = c.self.inside in
    edited_text c.args.edit.now (own.Delete c.in-Delete.beg c.in-Delete.end) (record { admission = x.admission; replica = x.replica; alike = x.alike; anew = x.anew })
    c.args.self.now c.delete.result c.delete.new.self c.args.outbox.now c.delete.new.outbox c.in-Delete.is c.self.view_is c.delete.ensures

pub returns-in-ChangeLooks : goal.returns-in-ChangeLooks
returns-in-ChangeLooks c =
    let x = c.self.inside in
    edited_text c.args.edit.now (own.ChangeLooks c.in-ChangeLooks.beg c.in-ChangeLooks.end c.in-ChangeLooks.sel c.in-ChangeLooks.looks)
    (record { admission = x.admission; replica = x.replica; alike = x.alike; anew = x.anew })
    c.args.self.now c.change_looks.result c.change_looks.new.self c.args.outbox.now c.change_looks.new.outbox c.in-ChangeLooks.is c.self.view_is c.change_looks.ensures

pub returns-in-ByNames : goal.returns-in-ByNames
returns-in-ByNames c =
    let x = c.self.inside in
    let new = c.edit_by_names.new.self in
    let sent' = c.edit_by_names.new.outbox in
    let does = subst (λ (names : List Range). EditsByNamesSending x.replica c.in-ByNames.what names c.edit_by_names.result new c.args.outbox.now sent')
    c.deref.ensures.value c.edit_by_names.ensures in
    edited_text c.args.edit.now (own.ByNames c.in-ByNames.what c.in-ByNames.names) (record { admission = x.admission; replica = x.replica; alike = x.alike; anew = x.anew })
    c.args.self.now c.edit_by_names.result new c.args.outbox.now sent' c.in-ByNames.is c.self.view_is does
