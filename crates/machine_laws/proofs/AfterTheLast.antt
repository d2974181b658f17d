-- Where the caret stands after what was put in at it.
use Rattle.std.proofs.Common.{◌≡◌, ◌≢◌, ℕ, suc, ◌+◌, ◌-◌, ◌≤◌, List, [], ◌∷◌, ◌++◌, length, take, drop, true, Some, Ok, Err, Result}
use Rattle.std.proofs.Common.{refl, sym, ap, subst, ◌∙◌, inl, inr, arith, eq-eqb, length-append, append_assoc}
use Rattle.std.specs.Prelude.{◌⊎◌, ◌==◌, Option, nat_le, slice_get}
use Rattle.std.specs.Option.{option_map_or}
use Rattle.std.proofs.lemmas.Bool.{cond-false, cond-true, eqb-true, false_from_ne_true, leb-true}
use Rattle.std.proofs.lemmas.List.{length-take-le, take-append-drop}
use Rattle.char_files.specs.Stretch.{Item, items_of}
use Rattle.char_files.specs.declared.character.Char.{Char}
use Rattle.char_files.specs.declared.name.Anchor.{Anchor}
use Rattle.char_files.specs.declared.name.Anchor.TheVariants.{At, Root}
use Rattle.set_laws.specs.Fronts.{file_len}
use Rattle.texts.specs.Edit.{Edit, anchor_before, deletion, insertion, is_in_text, looks_change, pieces_of, recalling, restoration, shown_with}
use Rattle.texts.specs.Order.{item_chars, with_inserted}
use Rattle.texts.specs.Outcome.{Shows}
use Rattle.texts.specs.TextState.{TextState, shown_of}
use Rattle.texts.specs.declared.edit_refusal.EditRefusal.{EditRefusal}
use Rattle.texts.specs.declared.edit_refusal.EditRefusal.TheVariants.{Whole, Partial}
use Rattle.texts.proofs.RunsInserted.{put_none}
use Rattle.machine.specs.Tasks.{caret_after}
use Rattle.machine_laws.proofs.Rooms.{by_test}
use Rattle.machine_laws.specs.Laws.{ComesIn, TheCaretStandsAfterTheLast}

-- past the front of a list
past : (xs ys : List Char) (n : ℕ) → slice_get (xs ++ ys) (length xs + n) ≡ slice_get ys n
past [] ys n = ap (slice_get ys) (omega arith)
past (x ∷ xs) ys n =
    let more : length (x ∷ xs) + n ≡ suc (length xs + n) = omega arith in
    ap (slice_get (x ∷ xs ++ ys)) more ∙ past xs ys n

-- the last of some characters, whatever follows them
last_char : (site at : ℕ) (i : Item) (items : List Item) (rest : List Char)
    → (c : Char) × (slice_get (item_chars site at (i ∷ items) ++ rest) (length items) ≡ Some c)
    × (c.name ≡ record { site = site; off = at + length items })
last_char site at i [] rest = (
  record { name = record { site = site; off = at }; byte = i.0; looks = i.1 },
  refl,
  ap (λ (off : ℕ). record { site = site; off = off }) (omega arith),
)
last_char site at i (j ∷ items) rest =
    let (c, is, named) = last_char site (at + 1) j items rest in
    (c, is, named ∙ ap (λ (off : ℕ). record { site = site; off = off }) (omega arith))

length-chars_from : (site at : ℕ) (items : List Item) → length (item_chars site at items) ≡ length items
length-chars_from site at [] = refl
length-chars_from site at (i ∷ items) = ap suc (length-chars_from site (at + 1) items)

longer : (xs run : List Char) (n : ℕ) → length (with_inserted xs n run) ≡ length xs + length run
longer xs run n =
    let all = length-append (take n xs ++ run) (drop n xs) in
    let before = length-append (take n xs) run in
    let parts = length-append (take n xs) (drop n xs) in
    let whole : length (take n xs ++ drop n xs) ≡ length xs = ap (length {A = Char}) (take-append-drop n xs) in
    omega arith

module _ (t new : TextState) (pos : ℕ) (was : Anchor) where
  abbrev StandsSo : Type 0
  StandsSo =
      ((shown_of new ≡ shown_of t) × (caret_after t new pos was ≡ was))
      ⊎ ((items : List Item) × (items ≢ []) × (shown_of new ≡ shown_with t pos items)
      × (caret_after t new pos was ≡ At (record { site = t.site; off = file_len t.operations t.site + (length items - 1) })))

  -- nothing came in
  stays : shown_of new ≡ shown_of t → StandsSo
  stays same = inl (same, cond-true (length (shown_of new) == length (shown_of t)) _ _ (eq-eqb _ _ (ap (length {A = Char}) same)))

  module _ (i : Item) (items : List Item) (in_text : pos ≤ length (shown_of t)) (shows : shown_of new ≡ shown_with t pos (i ∷ items)) where
    abbrev at : ℕ
    at = file_len t.operations t.site

    abbrev run : List Char
    run = item_chars t.site at (i ∷ items)

    abbrev rest : List Char
    rest = drop pos (shown_of t)

    long : length (shown_of new) ≡ length (shown_of t) + suc (length items)
    long =
        ap (length {A = Char}) shows ∙ longer (shown_of t) run pos
        ∙ ap (λ (n : ℕ). length (shown_of t) + n) (length-chars_from t.site at (i ∷ items))

    last : (c : Char) × (slice_get (shown_of new) (pos + length items) ≡ Some c) × (c.name ≡ record { site = t.site; off = at + length items })
    last =
        let (c, is, named) = last_char t.site at i items rest in
        let front : length (take pos (shown_of t)) ≡ pos = length-take-le pos (shown_of t) in_text in (
          c,
          ap (λ (xs : List Char). slice_get xs (pos + length items)) (shows ∙ append_assoc (take pos (shown_of t)) run rest)
              ∙ ap (λ (n : ℕ). slice_get (take pos (shown_of t) ++ (run ++ rest)) (n + length items)) (sym front)
              ∙ past (take pos (shown_of t)) (run ++ rest) (length items) ∙ is,
          named,
        )

    stands : anchor_before (shown_of new) (pos + suc (length items)) ≡ At (record { site = t.site; off = at + length items })
    stands =
        let (c, is, named) = last in
        cond-false (pos + suc (length items) == 0) _ _ (false_from_ne_true _ (λ e. (
        let none : pos + suc (length items) ≡ 0 = eqb-true _ _ e in omega (arith, none))))
        ∙ ap (λ (n : ℕ). option_map_or (λ c. At c.name) (slice_get (shown_of new) n) Root) (omega arith)
        ∙ ap (λ (o : Option Char). option_map_or (λ c. At c.name) o Root) is
        ∙ ap At named

    -- these did
    moves : StandsSo
    moves = inr (
      i ∷ items,
      (λ e. cc),
      shows,
      cond-false (length (shown_of new) == length (shown_of t)) _ _ (false_from_ne_true _ (λ e. (
          let same : length (shown_of new) ≡ length (shown_of t) = eqb-true _ _ e in omega (arith, same, long))))
          ∙ ap (λ (n : ℕ). anchor_before (shown_of new) (pos + n)) (omega (arith, long)) ∙ stands
          ∙ ap (λ (k : ℕ). At (record { site = t.site; off = at + k })) (omega arith),
    )

  came_in : (items : List Item) → pos ≤ length (shown_of t) → shown_of new ≡ shown_with t pos items → StandsSo
  came_in [] in_text shows = stays (shows ∙ put_none (shown_of t) pos)
  came_in (i ∷ items) in_text shows = moves i items in_text shows

  by_outcome : (items : List Item) (e : Edit) (result : Result ℕ EditRefusal) → (e ≡ insertion pos items) ⊎ ((e ≡ recalling pos) × (items ≡ t.last_stretch))
      → pos ≤ length (shown_of t) → Shows t e result new → StandsSo
  by_outcome items e (Ok sent) (inl is) in_text shows = came_in items in_text (subst (λ (x : Edit). Shows t x (Ok sent) new) is shows)
  by_outcome items e (Ok sent) (inr (is, same)) in_text shows =
      came_in t.last_stretch in_text (subst (λ (x : Edit). Shows t x (Ok sent) new) is shows)
  by_outcome items e (Err (Whole why)) which in_text shows = stays shows
  by_outcome items e (Err (Partial n why)) (inl is) in_text shows =
      came_in (items_of (take n (pieces_of items))) in_text (subst (λ (x : Edit). Shows t x (Err (Partial n why)) new) is shows)
  by_outcome items e (Err (Partial n why)) (inr (is, same)) in_text shows =
      came_in (items_of (take n (pieces_of t.last_stretch))) in_text (subst (λ (x : Edit). Shows t x (Err (Partial n why)) new) is shows)

-- so it is after whatever puts characters in
in_text_of : (t : TextState) (pos : ℕ) (e : Edit) → ComesIn e pos → is_in_text t e ≡ true → pos ≤ length (shown_of t)
in_text_of t pos (insertion from items) puts within = leb-true pos (length (shown_of t)) (subst (λ (n : ℕ). nat_le n (length (shown_of t)) ≡ true) puts within)
in_text_of t pos (recalling from) puts within = leb-true pos (length (shown_of t)) (subst (λ (n : ℕ). nat_le n (length (shown_of t)) ≡ true) puts within)
in_text_of t pos (deletion beg end) puts within = absurd puts
in_text_of t pos (looks_change beg end sel looks) puts within = absurd puts
in_text_of t pos restoration puts within = absurd puts

after_edit : (t new : TextState) (pos : ℕ) (e : Edit) (result : Result ℕ EditRefusal) (was : Anchor) → ComesIn e pos
    → is_in_text t e ≡ true → Shows t e result new → StandsSo t new pos was
after_edit t new pos (insertion from items) result was puts within shows =
    by_outcome t new pos was items (insertion from items) result (inl (ap (λ (n : ℕ). insertion n items) puts))
    (in_text_of t pos (insertion from items) puts within) shows
after_edit t new pos (recalling from) result was puts within shows =
    by_outcome t new pos was t.last_stretch (recalling from) result (inr (ap recalling puts, refl))
    (in_text_of t pos (recalling from) puts within) shows
after_edit t new pos (deletion beg end) result was puts within shows = absurd puts
after_edit t new pos (looks_change beg end sel looks) result was puts within shows = absurd puts
after_edit t new pos restoration result was puts within shows = absurd puts

pub after_the_last : TheCaretStandsAfterTheLast
after_the_last t new pos e r was puts (inl does) = elim (by_test (is_in_text t e) _ _ does) [
  | inl done ↦ let (result, messages, edits, shows, replied) = done.1 in after_edit t new pos e result was puts done.0 shows
  | inr left ↦ stays t new pos was (ap shown_of left.1.1)
]
after_the_last t new pos e r was puts (inr (within, (result, messages, short, shows, replied))) =
    after_edit t new pos e result was puts within shows
