-- A frame that quiet changes leave as it is shows the text as it is now.
use Rattle.std.proofs.Common.{◌≡◌, ℕ, suc, ◌-◌, ◌<◌, ◌≤◌, ◌&&◌, ◌||◌, Bool, true, false, nat_lt, List, length, get_or, map, take, All}
use Rattle.std.proofs.Common.{refl, sym, ap, ◌∙◌, inl, inr, arith}
use Rattle.std.specs.List.{AllPass}
use Rattle.std.proofs.lemmas.Bool.{cases_Bool, false≢true}
use Rattle.std.proofs.lemmas.Bool.Decides.{nat_tests}
use Rattle.std.proofs.lemmas.List.{length-map, take-map, take-take}
use borrow.Author.Tests.{ltb-true}
use Rattle.char_files.specs.declared.character.Char.{Char}
use Rattle.list_changes.specs.Changes.{Leads}
use Rattle.list_changes.specs.Laws.{AreSameUpTo}
use Rattle.list_changes.specs.Quiet.{is_quiet}
use Rattle.list_changes.specs.declared.change.Change.{Change}
use Rattle.list_changes.specs.declared.change.ChangeKind.{ChangeKind}
use Rattle.list_changes.specs.declared.change.ChangeKind.TheVariants.{Insert, Delete, Replace}
use Rattle.list_changes.proofs.Leading.{quiet-keeps, replaces-keep}
use Rattle.line_drawing.specs.Lines.{ends_in}
use Rattle.line_drawing.specs.Rows.{Row, rows_from}
use Rattle.taken_text.specs.Noted.{SameChar}
use Rattle.texts.specs.Laws.{KeepsTheOrder}
use Rattle.texts.specs.Text.{IsAnchor, IsText}
use Rattle.texts.specs.TextState.{TextState, shown_of}
use Rattle.machine.specs.Windows.{bytes_shown, first_line, place_in}
use Rattle.text_frames.specs.Frames.{FrameSeen, IsDrawn, is_quiet_for, last_row, leaves_rows, replaces}
use Rattle.text_frames.specs.Reading.{no_row}
use Rattle.text_frames.proofs.Drawn.{full_leaves, row_told}
use Rattle.text_frames.proofs.Places.{names_shown, place_stays, place_within}
use Rattle.text_frames.proofs.Quiet.{AreFull, full_rows_stay, place_before_end}

lt-true : (m n : ℕ) → m < n → nat_lt m n ≡ true
lt-true m n lt = grind (arith, nat_tests)

-- what of rows that aren't full leaves them replaces
replaces_alone : (kind : ChangeKind) (b : Bool) → (replaces kind || (false && b)) ≡ true → kind ≡ Replace
replaces_alone Insert b e = absurd (false≢true e)
replaces_alone Delete b e = absurd (false≢true e)
replaces_alone Replace b e = refl

module _ (f : FrameSeen) (t u : TextState) (is : IsText t) (is' : IsText u) (drawn : IsDrawn f t)
    (keeps : KeepsTheOrder t u) (char : IsAnchor u.operations f.anchor) (some : 0 < length f.rows) where
  -- what is shown up to the end of full rows is as it was
  full_stays : f.full ≡ true → AreSameUpTo (λ c. c.name) (last_row f.rows).end (shown_of t) (shown_of u)
      → AreSameUpTo (λ c. c.byte) (last_row f.rows).end (shown_of t) (shown_of u) → (reads : ℕ)
      → IsDrawn (record f { reads = reads }) u
  full_stays full names bytes reads =
      let last : ℕ = (last_row f.rows).end in
      let p : ℕ = place_in t f.anchor in
      let n : ℕ = length f.rows in
      let old : List ℕ = bytes_shown t in
      let new : List ℕ = bytes_shown u in
      let lt : last < length (shown_of t) = ltb-true last (length (shown_of t)) (sym drawn.full ∙ full) in
      let row = row_told f t (n - 1) no_row drawn (omega (arith, some)) in
      let are : AreFull old (first_line t f.anchor) n last = record {
        some = some;
        ends = ap (λ (r : Row). r.end) row;
        within = omega (arith, lt, length-map (shown_of t) (λ (c : Char). c.byte));
      } in
      let reaches : last < length (shown_of u) = names.reaches in
      let same : take (suc last) new ≡ take (suc last) old =
      take-map (λ (c : Char). c.byte) (suc last) (shown_of u) ∙ bytes.same
      ∙ sym (take-map (λ (c : Char). c.byte) (suc last) (shown_of t)) in
      let within : p ≤ length old =
      omega (
        arith,
        place_within t is f.anchor drawn.anchored,
        length-map (shown_of t) (λ (c : Char). c.byte),
      ) in
      let before : p ≤ last = place_before_end old (first_line t f.anchor) n last are p within refl in
      let named : take (suc last) (names_shown u) ≡ take (suc last) (names_shown t) =
      take-map (λ (c : Char). c.name) (suc last) (shown_of u) ∙ names.same
      ∙ sym (take-map (λ (c : Char). c.name) (suc last) (shown_of t)) in
      let here : take (suc p) (names_shown u) ≡ take (suc p) (names_shown t) =
      sym (take-take (suc p) (suc last) (names_shown u) (omega (arith, before)))
      ∙ ap (take (suc p)) named ∙ take-take (suc p) (suc last) (names_shown t) (omega (arith, before)) in
      let stays : place_in u f.anchor ≡ p = place_stays t u is is' keeps f.anchor drawn.anchored char here in
      let front : take p new ≡ take p old =
      sym (take-take p (suc last) new (omega (arith, before)))
      ∙ ap (take p) same ∙ take-take p (suc last) old (omega (arith, before)) in
      let first : first_line u f.anchor ≡ first_line t f.anchor =
      ap (λ (k : ℕ). ends_in (take k new)) stays ∙ ap ends_in front in
      record {
        anchored = char;
        rows =
            drawn.rows
            ∙ sym (full_rows_stay old (first_line t f.anchor) n last are new f.width same
            (omega (arith, reaches, length-map (shown_of u) (λ (c : Char). c.byte))))
            ∙ ap (λ (k : ℕ). rows_from new f.width k n) (sym first);
        full = full ∙ sym (lt-true last (length (shown_of u)) reaches);
      }

  -- where characters were replaced alone, all is as it was
  all_stays : map (λ c. c.name) (shown_of u) ≡ map (λ c. c.name) (shown_of t)
      → map (λ c. c.byte) (shown_of u) ≡ map (λ c. c.byte) (shown_of t) → (reads : ℕ)
      → IsDrawn (record f { reads = reads }) u
  all_stays names bytes reads =
      let p : ℕ = place_in t f.anchor in
      let stays : place_in u f.anchor ≡ p =
      place_stays t u is is' keeps f.anchor drawn.anchored char (ap (take (suc p)) names) in
      let first : first_line u f.anchor ≡ first_line t f.anchor =
      ap (λ (k : ℕ). ends_in (take k (bytes_shown u))) stays ∙ ap (λ (l : List ℕ). ends_in (take p l)) bytes in
      let long : length (shown_of u) ≡ length (shown_of t) =
      omega (
        arith,
        ap length bytes,
        length-map (shown_of u) (λ (c : Char). c.byte),
        length-map (shown_of t) (λ (c : Char). c.byte),
      ) in
      record {
        anchored = char;
        rows =
            drawn.rows
            ∙ ap (λ (l : List ℕ). rows_from l f.width (first_line t f.anchor) (length f.rows)) (sym bytes)
            ∙ ap (λ (k : ℕ). rows_from (bytes_shown u) f.width k (length f.rows)) (sym first);
        full = drawn.full ∙ ap (nat_lt (last_row f.rows).end) (sym long);
      }

  pub quiet_drawn : (changes : List Change) → Leads SameChar changes (shown_of t) (shown_of u)
      → AllPass (is_quiet_for f) changes → (reads : ℕ) → IsDrawn (record f { reads = reads }) u
  quiet_drawn changes leads all reads = elim (cases_Bool f.full) [
    | inl full ↦
        let last : ℕ = (last_row f.rows).end in
        let lt : last < length (shown_of t) = ltb-true last (length (shown_of t)) (sym drawn.full ∙ full) in
        let quiet : AllPass (is_quiet last) changes = λ k d inside.
        sym (full_leaves last (get_or changes k d))
        ∙ ap (λ (b : Bool). leaves_rows b last (get_or changes k d)) (sym full) ∙ all k d inside in
        full_stays full
        (quiet-keeps SameChar (λ (c : Char). c.name) changes last (shown_of t) (shown_of u) (λ x y same. sym same.0)
        lt quiet leads)
        (quiet-keeps SameChar (λ (c : Char). c.byte) changes last (shown_of t) (shown_of u) (λ x y same. sym same.1)
        lt quiet leads) reads
    | inr not_full ↦
        let last : ℕ = (last_row f.rows).end in
        let alone : All (λ change. change.kind ≡ Replace) changes = λ k d inside.
        replaces_alone (get_or changes k d).kind (nat_lt last (get_or changes k d).beg)
        (ap (λ (b : Bool). leaves_rows b last (get_or changes k d)) (sym not_full) ∙ all k d inside) in
        all_stays
        (replaces-keep SameChar (λ (c : Char). c.name) (λ x y same. sym same.0) changes (shown_of t) (shown_of u) alone
        leads)
        (replaces-keep SameChar (λ (c : Char). c.byte) (λ x y same. sym same.1) changes (shown_of t) (shown_of u) alone
        leads) reads
  ]
