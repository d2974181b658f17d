-- The entry that tells of a run inserted into its gap.
use Rattle.std.proofs.Common.{◌≡◌, ℕ, ◌+◌, ◌-◌, ◌<◌, ◌≤◌, ◌^◌, true, false, cond, inl, inr, List, [], ◌∷◌, ◌++◌, Option, Some, None, length, get_or, take, map}
use Rattle.std.proofs.Common.{refl, sym, ap, subst, ◌∙◌, arith}
use Rattle.std.specs.Prelude.{slice_get, IfSome, IsSome}
use Rattle.std.proofs.lemmas.Bool.{cases_Bool}
use Rattle.std.proofs.lemmas.List.{map-append, length-append, length-map}
use Rattle.std.proofs.lemmas.List.Elements.{All-cons, All-nil}
use Rattle.std.proofs.lemmas.Grind.{flat_map-append}
use Rattle.std.proofs.lemmas.Option.{slice_get-get_or}
use Rattle.char_files.specs.CharName.{CharName}
use Rattle.char_files.specs.declared.name.Anchor.{Anchor}
use Rattle.list_changes.specs.declared.change.Change.{Change}
use Rattle.list_changes.specs.declared.change.ChangeKind.TheVariants.{Insert}
use Rattle.list_changes.specs.Changes.{IsOfKind, Makes}
use Rattle.tree_order.specs.Registers.{Atom}
use Rattle.piece_list.specs.Piece.{Piece}
use Rattle.piece_list.specs.Noted.{appearances, SameName, Notes}
use Rattle.piece_list.specs.Pieces.{chars_of, piece_of}
use Rattle.piece_list.specs.Placed.{IsPlaced}
use Rattle.piece_list.specs.Placing.{IsInsertedInGap}
use Rattle.piece_list.specs.Shown.{AreShownTo, appearance_of}
use Rattle.piece_list.specs.Spelled.{spelled, names_of_atoms, shown_chars, HasName}
use Rattle.piece_list.specs.Typed.{AreTypedIn, entries_of, insertions}
use Rattle.piece_list.specs.declared.run.Run.{Run}
use Rattle.piece_list.proofs.Gap.{name_only}
use Rattle.piece_list.proofs.Noted.{told_by, count_tells, parts}
use Rattle.piece_list.proofs.Positions.{Items, shown_in}
use Rattle.piece_list.proofs.Shown.{count_chars, count_both, count_cons, count_more, shown_both}
use Rattle.piece_list.proofs.ShownTo.{name_at, up_to}
use Rattle.piece_list.proofs.SplitList.{parts_spell}
use Rattle.piece_list.proofs.Typed.{all_noted, typed_in}

abbrev chars : ℕ × Piece → List Atom
chars m = chars_of m.1

module _ (cause : Anchor) (p : Piece) (old new : Items) (steps : ℕ) (insert : IsInsertedInGap cause p old new steps)
    (some : 0 < p.len) (shown : p.hidden.value ≡ false) where
  abbrev front : Items
  front = insert.before ++ insert.skipped

  abbrev first : CharName
  first = record { site = p.site; off = p.off }

  -- what the list spells
  here : spelled new ≡ spelled (front ++ (insert.tag, p) ∷ insert.after)
  here = parts_spell insert.tag (front ++ (insert.tag, p) ∷ insert.after) new insert.insert

  -- where the first of its names stands among all
  at : (d : CharName) → get_or (names_of_atoms (spelled new)) (length (spelled front) + 0) d ≡ first
  at d =
      ap (λ (ks : List Atom). get_or (names_of_atoms ks) (length (spelled front) + 0) d) here
      ∙ name_at front insert.after insert.tag p first 0 some refl (omega arith) d

  within : length (spelled front) + 0 < length (names_of_atoms (spelled new))
  within =
      omega (
        arith,
        length-map (spelled new) name_only,
        ap length here,
        ap length (flat_map-append chars front ((insert.tag, p) ∷ insert.after)),
        length-append (spelled front) (spelled ((insert.tag, p) ∷ insert.after)),
        length-append (chars_of p) (spelled insert.after),
        count_chars p,
      )

  pub first_is_here : HasName (spelled new) first
  first_is_here = (length (spelled front) + 0, within, at first)

  -- so many are shown up to it
  count_to_first : (n : ℕ) → AreShownTo (spelled new) first n → n ≡ shown_in front + 1
  count_to_first n count =
      let k : ℕ = length (spelled front) + 0 in
      let found : slice_get (names_of_atoms (spelled new)) k ≡ Some first =
      slice_get-get_or (names_of_atoms (spelled new)) k first within ∙ ap (λ (c : CharName). Some c) (at first) in
      count k found
      ∙ ap (λ (ks : List Atom). length (shown_chars (take (k + 1) ks))) here
      ∙ ap (λ (ks : List Atom). length (shown_chars ks)) (up_to front insert.after insert.tag p 0 some)
      ∙ count_more front (insert.tag, record p { len = 0 + 1 })
      ∙ omega (arith, ap (λ b. cond b 0 (0 + 1)) shown)

  -- and its end is within what is shown
  run_fits : (n : ℕ) → AreShownTo (spelled new) first n → n - 1 + p.len ≤ shown_in new
  run_fits n count =
      omega (
        arith,
        count_to_first n count,
        ap (λ (ks : List Atom). length (shown_chars ks)) here,
        count_both front ((insert.tag, p) ∷ insert.after),
        count_cons (insert.tag, p) insert.after,
        ap (λ b. cond b 0 p.len) shown,
      )

  was : appearances old ≡ appearances front ++ ([] ++ appearances insert.after)
  was =
      ap (λ (ks : List Atom). map appearance_of (shown_chars ks)) (sym insert.spells)
      ∙ ap (map appearance_of) (shown_both front insert.after)
      ∙ map-append appearance_of (shown_chars (spelled front)) (shown_chars (spelled insert.after))

  run_noted : (n : ℕ) (note note' : List Change) → AreShownTo (spelled new) first n
      → note' ≡ note ++ record { kind = Insert; beg = n - 1; end = n - 1 + p.len } ∷ []
      → Notes (IsOfKind Insert) note note' (appearances old) (appearances new)
  run_noted n note note' count entered =
      let entry : Change = record { kind = Insert; beg = n - 1; end = n - 1 + p.len } in
      let made : Makes SameName entry (appearances old) (appearances new) = record {
        front = appearances front;
        gone = [];
        come = told_by p;
        back = appearances insert.after;
        before = was;
        after = ap (λ (ks : List Atom). map appearance_of (shown_chars ks)) here ∙ parts front insert.after insert.tag p;
        at = length-map (shown_chars (spelled front)) appearance_of ∙ omega (arith, count_to_first n count);
        trades = (refl, omega (arith, count_tells p shown));
      } in
      record {
        gained = entry ∷ [];
        kept = entered;
        each = All-cons (IsOfKind Insert) entry [] (refl, omega (arith, some)) (All-nil (IsOfKind Insert));
        leads = (appearances new, made, refl);
      }

  -- the same of what is answered for the first name
  pub room_for_run : (r : Option ℕ) → p.len ≤ 4096 → shown_in new ≤ 2 ^ 40
      → IfSome r (AreShownTo (spelled new) first)
      → IfSome r (λ n. 0 < n) × IfSome r (λ n. n + p.len < 2 ^ 64)
  room_for_run None few small count = (tt, tt)
  room_for_run (Some n) few small count =
      (omega (arith, count_to_first n count), omega (arith, count_to_first n count, run_fits n count))

  entered_run : (r : Option ℕ) (note note' : List Change) → IsSome r
      → IfSome r (AreShownTo (spelled new) first)
      → IfSome r (λ n. note' ≡ note ++ record { kind = Insert; beg = n - 1; end = n - 1 + p.len } ∷ [])
      → Notes (IsOfKind Insert) note note' (appearances old) (appearances new)
  entered_run None note note' is count entered = absurd cc
  entered_run (Some n) note note' is count entered = run_noted n note note' count entered

-- ---- a run, whose entries are those of its letters where these rise

module _ (cause : Anchor) (run : Run) (old new : Items) (some : 0 < run.len) where
  abbrev start : CharName
  start = record { site = run.site; off = run.off }

  -- the letters were typed in
  pub typed_entered : (r : Option ℕ) (note note' : List Change) → IsSome r
      → IsPlaced run.key cause (chars_of (piece_of run)) (spelled old) (spelled new) → IfSome r (AreShownTo (spelled new) start)
      → IfSome r (λ n. note' ≡ note ++ entries_of run (n - 1)) → run.rising ≡ true
      → AreTypedIn run.len run cause note note' (spelled old) (spelled new)
  typed_entered None note note' is placed count entered rises = absurd cc
  typed_entered (Some n) note note' is placed count entered rises =
      let letters : entries_of run (n - 1) ≡ insertions (n - 1) run.len = rw rises refl in
      subst (λ (l : List Change). AreTypedIn run.len run cause note l (spelled old) (spelled new))
      (sym (entered ∙ ap (λ (l : List Change). note ++ l) letters))
      (typed_in run cause note (spelled old) (spelled new) n rises some placed count)

  one_entry : (r : Option ℕ) (note note' : List Change) → run.rising ≡ false → IfSome r (λ n. note' ≡ note ++ entries_of run (n - 1))
      → IfSome r (λ n. note' ≡ note ++ record { kind = Insert; beg = n - 1; end = n - 1 + run.len } ∷ [])
  one_entry None note note' level entered = tt
  one_entry (Some n) note note' level entered =
      let one : entries_of run (n - 1) ≡ record { kind = Insert; beg = n - 1; end = n - 1 + run.len } ∷ [] = rw level refl in
      entered ∙ ap (λ (l : List Change). note ++ l) one

  -- the note tells what came
  pub run_entered : (steps : ℕ) (insert : IsInsertedInGap cause (piece_of run) old new steps) (r : Option ℕ) (note note' : List Change)
      → IsSome r → IsPlaced run.key cause (chars_of (piece_of run)) (spelled old) (spelled new) → IfSome r (AreShownTo (spelled new) start)
      → IfSome r (λ n. note' ≡ note ++ entries_of run (n - 1))
      → Notes (IsOfKind Insert) note note' (appearances old) (appearances new)
  run_entered steps insert r note note' is placed count entered = elim (cases_Bool run.rising) [
    | inl rises ↦
        all_noted run.len run cause note note' (spelled old) (spelled new) (typed_entered r note note' is placed count entered rises)
    | inr level ↦
        entered_run cause (piece_of run) old new steps insert some refl r note note' is count (one_entry r note note' level entered)
  ]
