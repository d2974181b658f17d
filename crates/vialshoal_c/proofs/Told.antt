-- The changes that a note's session keeps of its texts until they go into a room.
use Rattle.std.proofs.Common.{◌≡◌, ◌-◌, ◌<◌, ◌==◌, ℕ, Bool, true, false, nat_lt, List, [], length, map, get_or, set, Some, None, MatchBool, refl, sym, ap, subst, ◌∙◌, arith}
use Rattle.std.proofs.lemmas.Bool.{eqb-false, eqb-true, le-ltb, lt-ltb}
use Rattle.std.proofs.lemmas.List.{get_or-map, map-set, set-set}
use Rattle.list_changes.specs.declared.change.Change.{Change}
use Rattle.note.specs.Notes.{NoteSeen}
use Rattle.vialshoal_c.specs.Asking.{Hands}
use Rattle.vialshoal_c.specs.NoteAsking.{AsksForChanges, TellsChangesOf, told_of_text}
use Rattle.vialshoal_c.specs.NoteState.{NoteState}
use Rattle.vialshoal_c.specs.Outputs.{PutsNone}
use Rattle.vialshoal_c.specs.declared.outputs.TextChange.{TextChange}

pub where_true : (b : Bool) (A B : Type 0) → b ≡ true → A → MatchBool b A B
where_true b A B is h = subst (λ (v : Bool). MatchBool v A B) (sym is) h

pub where_false : (b : Bool) (A B : Type 0) → b ≡ false → B → MatchBool b A B
where_false b A B is h = subst (λ (v : Bool). MatchBool v A B) (sym is) h

module _ {V : Type 0} (items : V → List Change) (note : NoteSeen) (kept : List V) (text : ℕ) (x : V) (within : text - 1 < length kept)
    (here : x ≡ get_or kept (text - 1) x) (was is_anew : Bool) (old : List TextChange) (number need : ℕ) (new : List TextChange) where
  abbrev s : NoteState
  s = record { note = note; told = map items kept }

  told_is : told_of_text s text ≡ items x
  told_is = get_or-map items kept (text - 1) x [] within ∙ ap items (sym here)

  -- some were kept, and go into the room if they can
  pub tells_kept : (v : V) → nat_lt 0 (length (items x)) ≡ true → Hands (items x) old number need new (items v)
      → is_anew ≡ was
      → TellsChangesOf s text was is_anew old number need new (record { note = note; told = map items (set kept (text - 1) v) })
  tells_kept v some hands same =
      where_true _ _ _ (ap (λ (l : List Change). nat_lt 0 (length l)) told_is ∙ some) (
        (
          items v,
          subst (λ (l : List Change). Hands l old number need new (items v)) (sym told_is) hands,
          map-set items kept (text - 1) v,
        ),
        same,
        refl,
      )

  -- none were kept, and those that the note has go into the room if they can
  pub tells_more : (after : NoteSeen) (changes v : V) → nat_lt 0 (length (items x)) ≡ false
      → AsksForChanges note text (Some (items changes)) after → Hands (items changes) old number need new (items v) → is_anew ≡ was
      → TellsChangesOf s text was is_anew old number need new
      (record { note = after; told = map items (set (set kept (text - 1) changes) (text - 1) v) })
  tells_more after changes v none asks hands same =
      where_false _ _ _ (ap (λ (l : List Change). nat_lt 0 (length l)) told_is ∙ none) (
        Some (items changes),
        asks,
        (
          (
            items v,
            hands,
            ap (λ (l : List V). map items l) (set-set kept (text - 1) changes v) ∙ map-set items kept (text - 1) v,
          ),
          same,
        ),
      )

  -- none were kept, and the text was begun anew
  pub tells_none : (after : NoteSeen) → nat_lt 0 (length (items x)) ≡ false → AsksForChanges note text None after
      → PutsNone 0 old number need new → is_anew ≡ true
      → TellsChangesOf s text was is_anew old number need new (record { note = after; told = map items kept })
  tells_none after none asks puts anew =
      where_false _ _ _ (ap (λ (l : List Change). nat_lt 0 (length l)) told_is ∙ none) (None, asks, (puts, anew, refl))

-- the changes that are kept aren't none
pub are_some : (n : ℕ) (l : List Change) (b : Bool) → n ≡ length l → b ≡ (n == 0) → b ≡ false → nat_lt 0 (length l) ≡ true
are_some n l b len is not =
    let some = eqb-false n 0 (sym is ∙ not) in
    lt-ltb 0 (length l) (omega (arith, some))

pub are_none : (n : ℕ) (l : List Change) (b : Bool) → n ≡ length l → b ≡ (n == 0) → b ≡ true → nat_lt 0 (length l) ≡ false
are_none n l b len is so =
    let none : n ≡ 0 = eqb-true n 0 (sym is ∙ so) in
    le-ltb 0 (length l) (omega arith)
