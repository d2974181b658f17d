use Rattle.std.proofs.Common.{◌≡◌, ◌-◌, ◌<◌, ℕ, nat_lt, true, false, Some, None, length, map, set, refl, sym, subst, ◌∙◌}
use Rattle.std.proofs.lemmas.List.{get_or-set_same, get_or_default}
use Rattle.vialshoal_c.specs.Asking.{Hands}
use Rattle.vialshoal_c.specs.NoteAsking.{AsksForChanges, TellsChangesIn, TellsChangesOf}
use Rattle.vialshoal_c.specs.NoteState.{NoteState}
use Rattle.vialshoal_c.proofs.NoteTexts.{number_is, within_texts}
use Rattle.vialshoal_c.proofs.Told.{are_none, are_some, tells_kept, tells_more, tells_none, where_true}
use Rattle.vialshoal_c.proofs.note_session.NoteSession.changes.Goals as goal

pub returns-then-not-is_empty : goal.returns-then-not-is_empty
returns-then-not-is_empty c =
    let note = c.self.inside.note in
    let kept = c.self.inside.told.items in
    let got = c.get.result in
    let num = number_is c.args.text c.in-Some.number c.in-Some.ensures in
    let text : got ≡ c.args.text = c.get.ensures.value ∙ num.0 in
    let within : got - 1 < length kept =
    within_texts c.args.text c.in-Some.number got (length kept) c.in-Some.ensures c.get.ensures.value c.self.invariant in
    let z = c.index.result.now in
    let anew = c.args.is_anew.now in
    let room = c.args.room.now in
    let x = c.index_mut.result.now in
    let same : z ≡ x = c.index.ensures ∙ get_or_default kept (got - 1) z x within ∙ sym c.index_mut.ensures.value in
    let some : nat_lt 0 (length z.items) ≡ true =
    are_some z.len z.items c.is_empty.result z.ok.0 c.is_empty.ensures c.if-not-is_empty.true in
    let hands : Hands z.items room c.put_changes.result.number c.put_changes.result.need c.put_changes.new.room c.put_changes.new.kept.items =
    subst (λ v. Hands v.items room c.put_changes.result.number c.put_changes.result.need c.put_changes.new.room
    c.put_changes.new.kept.items) (sym same) c.put_changes.ensures in
    let was : NoteState = record { note = note; told = map (λ v. v.items) kept } in
    let now : NoteState = record { note = note; told = map (λ v. v.items) (set kept (got - 1) c.put_changes.new.kept) } in
    subst (λ (s : NoteState). TellsChangesIn s c.args.text anew anew room c.put_changes.result.number c.put_changes.result.need
    c.put_changes.new.room now) c.self.view_is (where_true _ _ _ num.1
    (subst (λ (k : ℕ). TellsChangesOf was k anew anew room c.put_changes.result.number c.put_changes.result.need
    c.put_changes.new.room now) text
    (tells_kept (λ v. v.items) note kept got z within c.index.ensures anew anew room c.put_changes.result.number
    c.put_changes.result.need c.put_changes.new.room c.put_changes.new.kept some hands refl)))

pub returns-in-Some-changes : goal.returns-in-Some-changes
returns-in-Some-changes c =
    let note = c.self.inside.note in
    let kept = c.self.inside.told.items in
    let got = c.get.result in
    let num = number_is c.args.text c.in-Some.number c.in-Some.ensures in
    let text : got ≡ c.args.text = c.get.ensures.value ∙ num.0 in
    let within : got - 1 < length kept =
    within_texts c.args.text c.in-Some.number got (length kept) c.in-Some.ensures c.get.ensures.value c.self.invariant in
    let z = c.index.result.now in
    let anew = c.args.is_anew.now in
    let room = c.args.room.now in
    let more = c.in-Some-changes.changes in
    let after = c.changes.new.self in
    let x = c.index_mut-in-Some-changes-2.result.now in
    let same : x ≡ more =
    c.index_mut-in-Some-changes-2.ensures.value ∙ get_or-set_same kept (got - 1) more x within in
    let none : nat_lt 0 (length z.items) ≡ false =
    are_none z.len z.items c.is_empty.result z.ok.0 c.is_empty.ensures c.if-not-is_empty.false in
    let number = c.put_changes-in-Some-changes.result.number in
    let need = c.put_changes-in-Some-changes.result.need in
    let new = c.put_changes-in-Some-changes.new.room in
    let left = c.put_changes-in-Some-changes.new.kept in
    let hands : Hands more.items room number need new left.items =
    subst (λ v. Hands v.items room number need new left.items) same c.put_changes-in-Some-changes.ensures in
    let asked : AsksForChanges note c.in-Some.number (Some more.items) after = record {
      own = c.in-Some-changes.ensures.own;
      rest = c.in-Some-changes.ensures.rest;
      keeps = c.in-Some-changes.ensures.keeps;
    } in
    let asks : AsksForChanges note got (Some more.items) after =
    subst (λ (k : ℕ). AsksForChanges note k (Some more.items) after) (sym c.get.ensures.value) asked in
    let was : NoteState = record { note = note; told = map (λ v. v.items) kept } in
    let now : NoteState = record { note = after; told = map (λ v. v.items) (set (set kept (got - 1) more) (got - 1) left) } in
    subst (λ (s : NoteState). TellsChangesIn s c.args.text anew anew room number need
    new now) c.self.view_is (where_true _ _ _ num.1
    (subst (λ (k : ℕ). TellsChangesOf was k anew anew room number need
    new now) text
    (tells_more (λ v. v.items) note kept got z within c.index.ensures anew anew room number need new after more left none asks hands
    refl)))

pub returns-in-None : goal.returns-in-None
returns-in-None c =
    let note = c.self.inside.note in
    let kept = c.self.inside.told.items in
    let got = c.get.result in
    let num = number_is c.args.text c.in-Some.number c.in-Some.ensures in
    let text : got ≡ c.args.text = c.get.ensures.value ∙ num.0 in
    let within : got - 1 < length kept =
    within_texts c.args.text c.in-Some.number got (length kept) c.in-Some.ensures c.get.ensures.value c.self.invariant in
    let z = c.index.result.now in
    let anew = c.args.is_anew.now in
    let room = c.args.room.now in
    let after = c.changes.new.self in
    let none : nat_lt 0 (length z.items) ≡ false =
    are_none z.len z.items c.is_empty.result z.ok.0 c.is_empty.ensures c.if-not-is_empty.false in
    let asked : AsksForChanges note c.in-Some.number None after = record {
      own = c.in-None.ensures.own;
      rest = c.in-None.ensures.rest;
      keeps = c.in-None.ensures.keeps;
    } in
    let asks : AsksForChanges note got None after =
    subst (λ (k : ℕ). AsksForChanges note k None after) (sym c.get.ensures.value) asked in
    let was : NoteState = record { note = note; told = map (λ v. v.items) kept } in
    let now : NoteState = record { note = after; told = map (λ v. v.items) kept } in
    subst (λ (s : NoteState). TellsChangesIn s c.args.text anew true room c.none-in-None.result.number c.none-in-None.result.need
    room now) c.self.view_is (where_true _ _ _ num.1
    (subst (λ (k : ℕ). TellsChangesOf was k anew true room c.none-in-None.result.number c.none-in-None.result.need
    room now) text
    (tells_none (λ v. v.items) note kept got z within c.index.ensures anew true room c.none-in-None.result.number
    c.none-in-None.result.need room after none asks (c.none-in-None.ensures.0, c.none-in-None.ensures.1, refl) refl)))
