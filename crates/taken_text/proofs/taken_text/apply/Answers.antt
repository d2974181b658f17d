use Rattle.std.proofs.Common.{◌≡◌, [], ◌∷◌, ◌++◌, map, All, refl, sym, ap, subst, ◌∙◌}
use Rattle.std.specs.Prelude.{OnOk}
use Rattle.looks.specs.declared.key.Key.{Key}
use Rattle.list_changes.specs.Changes.{IsOfKind}
use Rattle.list_changes.specs.declared.change.ChangeKind.TheVariants.{Insert, Delete}
use Rattle.operations.specs.Operation.{OpKind, delete, restore, change_looks}
use Rattle.operations.specs.Seen.{kind_of}
use Rattle.piece_list.specs.Changing.{AreBelow}
use Rattle.piece_list.specs.Noted.{IsReplaceOf, appearances}
use Rattle.piece_list.specs.Spelled.{spelled}
use Rattle.tree_order.specs.Registers.{atom_by}
use Rattle.taken_text.specs.Noted.{IsChangeOf}
use Rattle.taken_text.specs.Taken.{IsTaken, chars_shown}
use Rattle.taken_text.proofs.Noting.{gains_told, replaces_told}
use Rattle.taken_text.proofs.Taking.{both_ok, names_below, names_here, on_ok, taken_with}
use Rattle.taken_text.proofs.taken_text.apply.Goals as goal

pub hide_noting-requires-clause-here : goal.hide_noting-requires-clause-here
hide_noting-requires-clause-here c =
    let a = c.args in
    names_here a.log.now.ops a.op.now a.pieces.now.items a.files.now c.requires.taken c.requires.new c.requires.ready c.in-Delete.names delete (sym c.kind.ensures ∙ ap kind_of c.in-Delete.is) (λ name h. h)

pub hide_noting-requires-clause-below : goal.hide_noting-requires-clause-below
hide_noting-requires-clause-below c =
    let a = c.args in
    subst (λ (key : Key). AreBelow key c.in-Delete.names (spelled a.pieces.now.items)) (sym c.key-key.ensures)
    (names_below a.log.now.ops a.op.now a.pieces.now.items a.files.now c.requires.taken c.requires.new c.requires.ready c.in-Delete.names delete (sym c.kind.ensures ∙ ap kind_of c.in-Delete.is) (λ name h. h))

pub reveal_noting-requires-clause-here : goal.reveal_noting-requires-clause-here
reveal_noting-requires-clause-here c =
    let a = c.args in
    names_here a.log.now.ops a.op.now a.pieces.now.items a.files.now c.requires.taken c.requires.new c.requires.ready c.in-Restore.names restore (sym c.kind.ensures ∙ ap kind_of c.in-Restore.is) (λ name h. h)

pub reveal_noting-requires-clause-below : goal.reveal_noting-requires-clause-below
reveal_noting-requires-clause-below c =
    let a = c.args in
    subst (λ (key : Key). AreBelow key c.in-Restore.names (spelled a.pieces.now.items)) (sym c.key-key.ensures)
    (names_below a.log.now.ops a.op.now a.pieces.now.items a.files.now c.requires.taken c.requires.new c.requires.ready c.in-Restore.names restore (sym c.kind.ensures ∙ ap kind_of c.in-Restore.is) (λ name h. h))

pub relook_noting-requires-clause-here : goal.relook_noting-requires-clause-here
relook_noting-requires-clause-here c =
    let a = c.args in
    names_here a.log.now.ops a.op.now a.pieces.now.items a.files.now c.requires.taken c.requires.new c.requires.ready c.in-ChangeLooks.names (change_looks c.in-ChangeLooks.sel c.in-ChangeLooks.looks) (sym c.kind.ensures ∙ ap kind_of c.in-ChangeLooks.is) (λ name h. h)

pub relook_noting-requires-clause-below : goal.relook_noting-requires-clause-below
relook_noting-requires-clause-below c =
    let a = c.args in
    subst (λ (key : Key). AreBelow key c.in-ChangeLooks.names (spelled a.pieces.now.items)) (sym c.key-key.ensures)
    (names_below a.log.now.ops a.op.now a.pieces.now.items a.files.now c.requires.taken c.requires.new c.requires.ready c.in-ChangeLooks.names (change_looks c.in-ChangeLooks.sel c.in-ChangeLooks.looks) (sym c.kind.ensures ∙ ap kind_of c.in-ChangeLooks.is) (λ name h. h))

pub returns-in-Delete-clause-ok : goal.returns-in-Delete-clause-ok
returns-in-Delete-clause-ok c =
    let a = c.args in
    let kind = sym c.kind.ensures ∙ ap kind_of c.in-Delete.is in
    let make = taken_with a.log.now.ops a.op.now a.pieces.now.items a.files.now c.requires.taken c.requires.new c.requires.ready c.in-Delete.names delete kind
    (λ name h. h) refl c.hide_noting.new.self.items in
    on_ok c.hide_noting.result _ _ make (subst (λ (key : Key). OnOk c.hide_noting.result (spelled c.hide_noting.new.self.items ≡ map (atom_by (delete c.in-Delete.names) key) (spelled a.pieces.now.items))) c.key-key.ensures c.hide_noting.ensures.ok)

pub returns-in-Restore-clause-ok : goal.returns-in-Restore-clause-ok
returns-in-Restore-clause-ok c =
    let a = c.args in
    let kind = sym c.kind.ensures ∙ ap kind_of c.in-Restore.is in
    let make = taken_with a.log.now.ops a.op.now a.pieces.now.items a.files.now c.requires.taken c.requires.new c.requires.ready c.in-Restore.names restore kind
    (λ name h. h) refl c.reveal_noting.new.self.items in
    on_ok c.reveal_noting.result _ _ make (subst (λ (key : Key). OnOk c.reveal_noting.result (spelled c.reveal_noting.new.self.items ≡ map (atom_by (restore c.in-Restore.names) key) (spelled a.pieces.now.items))) c.key-key.ensures c.reveal_noting.ensures.ok)

pub returns-in-ChangeLooks-clause-ok : goal.returns-in-ChangeLooks-clause-ok
returns-in-ChangeLooks-clause-ok c =
    let a = c.args in
    let kind = sym c.kind.ensures ∙ ap kind_of c.in-ChangeLooks.is in
    let make = taken_with a.log.now.ops a.op.now a.pieces.now.items a.files.now c.requires.taken c.requires.new c.requires.ready c.in-ChangeLooks.names (change_looks c.in-ChangeLooks.sel c.in-ChangeLooks.looks) kind
    (λ name h. h) refl c.relook_noting.new.self.items in
    on_ok c.relook_noting.result _ _ make (subst (λ (key : Key). OnOk c.relook_noting.result (spelled c.relook_noting.new.self.items ≡ map (atom_by (change_looks c.in-ChangeLooks.sel c.in-ChangeLooks.looks c.in-ChangeLooks.names) key) (spelled a.pieces.now.items))) c.key-key.ensures c.relook_noting.ensures.ok)

pub returns-in-Delete-clause-noted : goal.returns-in-Delete-clause-noted
returns-in-Delete-clause-noted c =
    let a = c.args in
    let kind : a.op.now.kind ≡ delete c.in-Delete.names = sym c.kind.ensures ∙ ap kind_of c.in-Delete.is in
    let tell = λ (taken : IsTaken (a.log.now.ops ++ a.op.now ∷ []) c.hide_noting.new.self.items a.files.now).
    gains_told a.log.now.ops a.op.now (IsOfKind Delete) a.note.now.items c.hide_noting.new.note.items a.pieces.now.items
    c.hide_noting.new.self.items a.files.now a.files.now taken refl
    (λ changes all. subst (λ (k : OpKind). All (IsChangeOf k (chars_shown a.pieces.now.items a.files.now)) changes)
    (sym kind) (all)) in
    both_ok c.hide_noting.result _ _ _ tell (returns-in-Delete-clause-ok c) c.hide_noting.ensures.noted

pub returns-in-Restore-clause-noted : goal.returns-in-Restore-clause-noted
returns-in-Restore-clause-noted c =
    let a = c.args in
    let kind : a.op.now.kind ≡ restore c.in-Restore.names = sym c.kind.ensures ∙ ap kind_of c.in-Restore.is in
    let tell = λ (taken : IsTaken (a.log.now.ops ++ a.op.now ∷ []) c.reveal_noting.new.self.items a.files.now).
    gains_told a.log.now.ops a.op.now (IsOfKind Insert) a.note.now.items c.reveal_noting.new.note.items a.pieces.now.items
    c.reveal_noting.new.self.items a.files.now a.files.now taken refl
    (λ changes all. subst (λ (k : OpKind). All (IsChangeOf k (chars_shown a.pieces.now.items a.files.now)) changes)
    (sym kind) (all)) in
    both_ok c.reveal_noting.result _ _ _ tell (returns-in-Restore-clause-ok c) c.reveal_noting.ensures.noted

pub returns-in-ChangeLooks-clause-noted : goal.returns-in-ChangeLooks-clause-noted
returns-in-ChangeLooks-clause-noted c =
    let a = c.args in
    let kind : a.op.now.kind ≡ change_looks c.in-ChangeLooks.sel c.in-ChangeLooks.looks c.in-ChangeLooks.names = sym c.kind.ensures ∙ ap kind_of c.in-ChangeLooks.is in
    let tell = λ (taken : IsTaken (a.log.now.ops ++ a.op.now ∷ []) c.relook_noting.new.self.items a.files.now).
    gains_told a.log.now.ops a.op.now (IsReplaceOf c.in-ChangeLooks.names (appearances a.pieces.now.items)) a.note.now.items c.relook_noting.new.note.items a.pieces.now.items
    c.relook_noting.new.self.items a.files.now a.files.now taken refl
    (λ changes all. subst (λ (k : OpKind). All (IsChangeOf k (chars_shown a.pieces.now.items a.files.now)) changes)
    (sym kind) (replaces_told c.in-ChangeLooks.names c.in-ChangeLooks.sel c.in-ChangeLooks.looks a.pieces.now.items a.files.now changes all)) in
    both_ok c.relook_noting.result _ _ _ tell (returns-in-ChangeLooks-clause-ok c) c.relook_noting.ensures.noted
