-- A run of letters that is put in at one place is put in letter by letter.
use Rattle.std.proofs.Common.{◌≡◌, ℕ, zero, suc, ◌+◌, ◌-◌, ◌<◌, true, false, not, List, [], ◌∷◌, ◌++◌, length, get_or, take, drop, map}
use Rattle.std.proofs.Common.{refl, sym, ap, subst, ◌∙◌, arith, append_assoc, append-nil, length-append, Some}
use Rattle.std.specs.Prelude.{slice_get}
use Rattle.std.proofs.Math.Seq.{drop-append_seam, get_or-append_seam, take-append_seam}
use Rattle.std.proofs.lemmas.Bool.Decides.{nat_tests}
use Rattle.std.proofs.lemmas.List.{get_or-append-add, map-append, length-map, length-take-le, take-append-drop}
use Rattle.std.proofs.lemmas.List.Elements.{All-append, All-cons, All-nil, filter-append}
use Rattle.std.proofs.lemmas.Option.{slice_get-get_or}
use Rattle.looks.specs.Key.{is_below}
use Rattle.looks.specs.declared.key.Key.{Key}
use Rattle.char_files.specs.CharName.{CharName}
use Rattle.char_files.specs.declared.name.Anchor.{Anchor}
use Rattle.char_files.specs.declared.name.Anchor.TheVariants.{At}
use Rattle.list_changes.proofs.Leading.{leads-append}
use Rattle.list_changes.specs.Changes.{IsOfKind, Makes}
use Rattle.list_changes.specs.declared.change.Change.{Change}
use Rattle.list_changes.specs.declared.change.ChangeKind.TheVariants.{Insert}
use Rattle.tree_order.specs.AtomInsertion.{IsLongest}
use Rattle.tree_order.specs.Insertion.{IsJustAfter}
use Rattle.tree_order.specs.Registers.{Atom}
use Rattle.piece_list.specs.Noted.{Notes, SameName}
use Rattle.piece_list.specs.Pieces.{char_of, chars_of, piece_of, risen}
use Rattle.piece_list.specs.Placed.{IsPlaced}
use Rattle.piece_list.specs.Shown.{AreShownTo, appearance_of}
use Rattle.piece_list.specs.Spelled.{names_of_atoms, shown_chars}
use Rattle.piece_list.specs.Typed.{AreTypedIn, first_letter, insertions, run_after_letter, told_of}
use Rattle.piece_list.specs.declared.run.Run.{Run}
use Rattle.piece_list.proofs.Split.{chars_of-split}

-- ---- the entries

abbrev entry : (beg : ℕ) → Change
entry beg = record { kind = Insert; beg = beg; end = beg + 1 }

pub insertions_more : (beg n : ℕ) → insertions beg (n + 1) ≡ insertions beg n ++ record { kind = Insert; beg = beg + n; end = beg + n + 1 } ∷ []
insertions_more beg zero =
    let at : beg + 0 ≡ beg = omega arith in
    sym (ap (λ (b : ℕ). record { kind = Insert; beg = b; end = b + 1 } ∷ []) at)
insertions_more beg (suc n) =
    let more : suc n + 1 ≡ suc (n + 1) = omega arith in
    let at : beg + 1 + n ≡ beg + suc n = omega arith in
    ap (insertions beg) more
    ∙ ap (λ (l : List Change). record { kind = Insert; beg = beg; end = beg + 1 } ∷ l) (insertions_more (beg + 1) n)
    ∙ ap (λ (b : ℕ). record { kind = Insert; beg = beg; end = beg + 1 } ∷ (insertions (beg + 1) n ++ record { kind = Insert; beg = b; end = b + 1 } ∷ [])) at

pub insertions_count : (beg n : ℕ) → length (insertions beg n) ≡ n
insertions_count beg zero = refl
insertions_count beg (suc n) = ap suc (insertions_count (beg + 1) n)

-- ---- the letters

-- its first letter's name and character
abbrev name : Run → CharName
name r = record { site = r.site; off = r.off }

abbrev first : Run → Atom
first r = char_of (piece_of (first_letter r)) (name r)

-- so many letters of a run
abbrev letters : ℕ → Run → List Atom
letters n r = chars_of (piece_of (record r { len = n }))

letters_more : (n : ℕ) (r : Run) → r.rising ≡ true → letters (suc n) r ≡ first r ∷ letters n (run_after_letter r)
letters_more n r rises =
    let one : suc n - 1 ≡ n = omega arith in
    chars_of-split (piece_of (record r { len = suc n })) 1 (omega arith)
    ∙ ap (λ (key : Key). first r ∷ chars_of (piece_of (record r { off = r.off + 1; len = suc n - 1; key = key })))
    (ap (λ rising. risen rising 1 r.key) rises)
    ∙ ap (λ (m : ℕ). first r ∷ letters m (run_after_letter r)) one

-- a greater key is no further below
not_below_rising : (key k : Key) → is_below key k ≡ false → is_below (record { stamp = key.stamp + 1; site = key.site }) k ≡ false
not_below_rising key k not = grind (arith, nat_tests)

-- the place before the others is where the run was put
module _ (r : Run) (front back : List Atom) where
  abbrev with_letter : List Atom
  with_letter = front ++ first r ∷ [] ++ back

  put_there : (b m : ℕ) → length front ≡ b + m
      → with_letter ≡ take (b + m) (front ++ back) ++ first r ∷ [] ++ drop (b + m) (front ++ back)
  put_there b m at =
      sym (ap (λ (n : ℕ). take n (front ++ back) ++ first r ∷ [] ++ drop n (front ++ back)) (sym at)
      ∙ ap (λ (l : List Atom). l ++ first r ∷ [] ++ drop (length front) (front ++ back)) (take-append_seam front back)
      ∙ ap (λ (l : List Atom). front ++ first r ∷ [] ++ l) (drop-append_seam front back))

  first_is_placed : (cause : Anchor) (b m : ℕ) → length front ≡ b + m → IsJustAfter (names_of_atoms (front ++ back)) cause b
      → IsLongest r.key (front ++ back) b m
      → IsPlaced r.key cause (chars_of (piece_of (first_letter r))) (front ++ back) with_letter
  first_is_placed cause b m at after longest = record {
    before = b;
    skipped = m;
    after = after;
    longest = longest;
    placed = put_there b m at;
  }

  -- what is shown with it
  told_with_letter : told_of with_letter ≡ told_of front ++ (appearance_of (first r) ∷ [] ++ told_of back)
  told_with_letter =
      ap (map appearance_of) (filter-append _ (front ++ first r ∷ []) back
      ∙ ap (λ (l : List Atom). l ++ shown_chars back) (filter-append _ front (first r ∷ []))
      ∙ append_assoc (shown_chars front) (first r ∷ []) (shown_chars back))
      ∙ map-append appearance_of (shown_chars front) (first r ∷ [] ++ shown_chars back)

  first_is_noted : (note : List Change) (beg : ℕ) → beg ≡ length (shown_chars front)
      → Notes (IsOfKind Insert) note (note ++ entry beg ∷ []) (told_of (front ++ back)) (told_of with_letter)
  first_is_noted note beg at =
      let made : Makes SameName (entry beg) (told_of (front ++ back)) (told_of with_letter) = record {
        front = told_of front;
        gone = [];
        come = appearance_of (first r) ∷ [];
        back = told_of back;
        before =
            ap (map appearance_of) (filter-append _ front back)
            ∙ map-append appearance_of (shown_chars front) (shown_chars back);
        after = told_with_letter;
        at = length-map (shown_chars front) appearance_of ∙ sym at;
        trades = (refl, refl);
      } in
      record {
        gained = entry beg ∷ [];
        kept = refl;
        each = All-cons (IsOfKind Insert) (entry beg) [] (refl, omega arith) (All-nil (IsOfKind Insert));
        leads = (told_of with_letter, made, refl);
      }

  -- the next one goes directly after it
  abbrev longer : List Atom
  longer = front ++ first r ∷ []

  longer_len : length longer ≡ length front + 1
  longer_len = length-append front (first r ∷ [])

  next_after : IsJustAfter (names_of_atoms (longer ++ back)) (At (name r)) (length longer)
  next_after = (length front, there, longer_len)
    where
      names : names_of_atoms (longer ++ back) ≡ names_of_atoms front ++ name r ∷ names_of_atoms back
      names =
          ap names_of_atoms (append_assoc front (first r ∷ []) back)
          ∙ map-append (λ (k : Atom). k.name) front (first r ∷ back)

      within : length front < length (names_of_atoms (longer ++ back))
      within =
          omega (arith, ap length names, length-append (names_of_atoms front) (name r ∷ names_of_atoms back), length-map front (λ (k : Atom). k.name))

      at : get_or (names_of_atoms (longer ++ back)) (length front) (name r) ≡ name r
      at =
          ap (λ (l : List CharName). get_or l (length front) (name r)) names
          ∙ ap (λ (n : ℕ). get_or (names_of_atoms front ++ name r ∷ names_of_atoms back) n (name r)) (sym (length-map front (λ (k : Atom). k.name)))
          ∙ get_or-append_seam (names_of_atoms front) (name r) (names_of_atoms back) (name r)

      there : slice_get (names_of_atoms (longer ++ back)) (length front) ≡ Some (name r)
      there = slice_get-get_or (names_of_atoms (longer ++ back)) (length front) (name r) within ∙ ap (λ (c : CharName). Some c) at

  next_longest : (b m : ℕ) → length front ≡ b + m → IsLongest r.key (front ++ back) b m
      → IsLongest (run_after_letter r).key (longer ++ back) (length longer) 0
  next_longest b m at longest = record {
    within = omega (arith, length-append longer back);
    greater = λ k d low high. absurd (omega (arith, low, high));
    stops = λ lt d.
        let some : b + m < length (front ++ back) = omega (arith, lt, at, length-append longer back, length-append front back) in
        let old : get_or (longer ++ back) (length longer + 0) d ≡ get_or (front ++ back) (b + m) d =
        get_or-append-add longer back 0 d ∙ sym (ap (λ (n : ℕ). get_or (front ++ back) n d) (here) ∙ get_or-append-add front back 0 d) in
        ap (λ (k : Atom). is_below (run_after_letter r).key k.key) old
        ∙ not_below_rising r.key (get_or (front ++ back) (b + m) d).key (longest.stops some d);
  }
    where
      here : b + m ≡ length front + 0
      here = omega (arith, at)

shown_longer : (r : Run) (front back : List Atom) (beg : ℕ) → beg ≡ length (shown_chars front)
    → beg + 1 ≡ length (shown_chars (longer r front back))
shown_longer r front back beg shown =
    omega (arith, shown, ap length (filter-append (λ (k : Atom). not k.hidden.value) front (first r ∷ [])), length-append (shown_chars front) (first r ∷ []))

-- the first one goes in, and the others after it
typed_on : (n : ℕ) (r : Run) → r.rising ≡ true → (cause : Anchor) (note : List Change) (front back : List Atom) (b m beg : ℕ)
    → length front ≡ b + m → beg ≡ length (shown_chars front) → IsJustAfter (names_of_atoms (front ++ back)) cause b
    → IsLongest r.key (front ++ back) b m
    → AreTypedIn n (run_after_letter r) (At (name r)) (note ++ entry beg ∷ []) (note ++ entry beg ∷ [] ++ insertions (beg + 1) n)
    (with_letter r front back) (longer r front back ++ letters n (run_after_letter r) ++ back)
    → AreTypedIn (suc n) r cause note (note ++ insertions beg (suc n)) (front ++ back) (front ++ letters (suc n) r ++ back)
typed_on n r rises cause note front back b m beg at shown after longest rest = (
  with_letter r front back,
  note ++ entry beg ∷ [],
  first_is_placed r front back cause b m at after longest,
  first_is_noted r front back note beg shown,
  subst (λ (l : List Change). AreTypedIn n (run_after_letter r) (At (name r)) (note ++ entry beg ∷ []) l (with_letter r front back)
      (front ++ letters (suc n) r ++ back)) entries
      (subst (λ (l : List Atom). AreTypedIn n (run_after_letter r) (At (name r)) (note ++ entry beg ∷ [])
      (note ++ entry beg ∷ [] ++ insertions (beg + 1) n) (with_letter r front back) l) all rest),
)
  where
    entries : note ++ entry beg ∷ [] ++ insertions (beg + 1) n ≡ note ++ insertions beg (suc n)
    entries = append_assoc note (entry beg ∷ []) (insertions (beg + 1) n)

    all : longer r front back ++ letters n (run_after_letter r) ++ back ≡ front ++ letters (suc n) r ++ back
    all =
        ap (λ (l : List Atom). l ++ back) (append_assoc front (first r ∷ []) (letters n (run_after_letter r))
        ∙ ap (λ (l : List Atom). front ++ l) (sym (letters_more n r rises)))

-- so each goes in after the one before
pub typed_from : (n : ℕ) (r : Run) → r.rising ≡ true → (cause : Anchor) (note : List Change) (front back : List Atom) (b m beg : ℕ)
    → length front ≡ b + m → beg ≡ length (shown_chars front) → IsJustAfter (names_of_atoms (front ++ back)) cause b
    → IsLongest r.key (front ++ back) b m
    → AreTypedIn n r cause note (note ++ insertions beg n) (front ++ back) (front ++ letters n r ++ back)
typed_from zero r rises cause note front back b m beg at shown after longest = (
  append-nil note,
  ap (λ (l : List Atom). l ++ back) (append-nil front),
)
typed_from (suc n) r rises cause note front back b m beg at shown after longest =
    typed_on n r rises cause note front back b m beg at shown after longest
    (typed_from n (run_after_letter r) rises (At (name r)) (note ++ entry beg ∷ []) (longer r front back) back (length (longer r front back)) 0
    (beg + 1) (omega arith) (shown_longer r front back beg shown) (next_after r front back) (next_longest r front back b m at longest))

-- so many are shown before the place
shown_before : (r : Run) (front rest : List Atom) (n : ℕ) → AreShownTo (longer r front rest ++ rest) (name r) n
    → n - 1 ≡ length (shown_chars front)
shown_before r front rest n count =
    let (at, there, next) = next_after r front rest in
    let upto : take (at + 1) (longer r front rest ++ rest) ≡ longer r front rest =
    ap (λ (k : ℕ). take k (longer r front rest ++ rest)) (sym next) ∙ take-append_seam (longer r front rest) rest in
    omega (arith, count at there, ap (λ (l : List Atom). length (shown_chars l)) upto, shown_longer r front rest (length (shown_chars front)) refl)

-- a run of letters that is in its place was typed there
pub typed_in : (r : Run) (cause : Anchor) (note : List Change) (old new : List Atom) (n : ℕ) → r.rising ≡ true → 0 < r.len
    → IsPlaced r.key cause (chars_of (piece_of r)) old new → AreShownTo new (name r) n
    → AreTypedIn r.len r cause note (note ++ insertions (n - 1) r.len) old new
typed_in r cause note old new n rises some placed count =
    subst (λ (l : List Atom). AreTypedIn r.len r cause note (note ++ insertions (n - 1) r.len) old l) (sym placed.placed)
    (subst (λ (l : List Atom). AreTypedIn r.len r cause note (note ++ insertions (n - 1) r.len) l (front ++ letters r.len r ++ back)) whole
    (typed_from r.len r rises cause note front back placed.before placed.skipped (n - 1) at shown
    (subst (λ (l : List Atom). IsJustAfter (names_of_atoms l) cause placed.before) (sym whole) placed.after)
    (subst (λ (l : List Atom). IsLongest r.key l placed.before placed.skipped) (sym whole) placed.longest)))
  where
    front : List Atom
    front = take (placed.before + placed.skipped) old

    back : List Atom
    back = drop (placed.before + placed.skipped) old

    whole : front ++ back ≡ old
    whole = take-append-drop (placed.before + placed.skipped) old

    at : length front ≡ placed.before + placed.skipped
    at = length-take-le (placed.before + placed.skipped) old placed.longest.within

    others : List Atom
    others = letters (r.len - 1) (run_after_letter r) ++ back

    own : letters r.len r ≡ first r ∷ letters (r.len - 1) (run_after_letter r)
    own =
        let more : r.len ≡ suc (r.len - 1) = omega (arith, some) in
        ap (λ (m : ℕ). letters m r) more ∙ letters_more (r.len - 1) r rises

    parted : new ≡ longer r front others ++ others
    parted =
        placed.placed
        ∙ ap (λ (l : List Atom). front ++ l ++ back) own
        ∙ append_assoc front (first r ∷ letters (r.len - 1) (run_after_letter r)) back
        ∙ sym (append_assoc front (first r ∷ []) others)

    shown : n - 1 ≡ length (shown_chars front)
    shown = shown_before r front others n (subst (λ (l : List Atom). AreShownTo l (name r) n) parted count)

-- what is noted of each is noted of all
pub all_noted : (n : ℕ) (r : Run) (cause : Anchor) (note note' : List Change) (was now : List Atom)
    → AreTypedIn n r cause note note' was now → Notes (IsOfKind Insert) note note' (told_of was) (told_of now)
all_noted zero r cause note note' was now (same, stays) = record {
  gained = [];
  kept = same ∙ sym (append-nil note);
  each = All-nil (IsOfKind Insert);
  leads = ap told_of stays;
}
all_noted (suc n) r cause note note' was now (mid, between, placed, one, more) =
    let rest = all_noted n (run_after_letter r) (At (name r)) between note' mid now more in
    record {
      gained = one.gained ++ rest.gained;
      kept =
          rest.kept ∙ ap (λ (l : List Change). l ++ rest.gained) one.kept ∙ append_assoc note one.gained rest.gained;
      each = All-append (IsOfKind Insert) one.gained rest.gained one.each rest.each;
      leads = leads-append SameName one.gained rest.gained (told_of was) (told_of mid) (told_of now) one.leads rest.leads;
    }
