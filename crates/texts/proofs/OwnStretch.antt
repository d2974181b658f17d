-- A set with the names of what is shown from beg to end has those of no other characters shown.
use Rattle.std.proofs.Common.{◌≡◌, ◌≢◌, ◌↔◌, ℕ, zero, suc, ◌+◌, ◌-◌, ◌≤◌, Bool, true, false, not}
use Rattle.std.proofs.Common.{List, [], ◌∷◌, ◌++◌, get_or, take, drop, map, refl, sym, ap, subst, ◌∙◌}
use Rattle.std.proofs.Common.{All, AllPairs, Contains, arith, append_assoc, append-nil}
use Rattle.std.specs.List.{filter, slice_range}
use Rattle.std.specs.Prelude.{if◌then◌else◌}
use Rattle.std.proofs.lemmas.Bool.{false_from_ne_true}
use Rattle.std.proofs.lemmas.List.{drop-drop, drop-map, get_or-map, length-map, map-append, take-append-drop, take-map}
use Rattle.std.proofs.lemmas.List.Elements.{All-contains, All-drop, All-tail, All-take, Contains-append_left, Contains-append_right}
use Rattle.std.proofs.lemmas.List.Elements.{Contains-get_or, filter-append}
use Rattle.std.proofs.lemmas.List.Kept.{AllPairs-filter}
use Rattle.looks.specs.Sel.{Selection}
use Rattle.looks.specs.declared.looks.Looks.{Looks}
use Rattle.char_files.specs.CharName.{CharName}
use Rattle.char_files.specs.declared.character.Char.{Char}
use Rattle.operations.specs.NameSet.{Range, IsAmong}
use Rattle.operations.specs.Operation.{delete, change_looks}
use Rattle.tree_order.specs.Shown.{is_visible}
use Rattle.tree_order.specs.Tree.{IsChar}
use Rattle.texts.specs.Laws.{IsOwnEdit, NamesStretch, OwnDeleteIsPlain}
use Rattle.texts.specs.Laws.{OwnLooksArePlain}
use Rattle.texts.specs.Order.{cut, dress, dressed, is_named, with_looks}
use Rattle.texts.specs.Text.{AreCharNames, IsText}
use Rattle.texts.specs.TextState.{TextState, shown_of}
use Rattle.texts.proofs.OwnChange.{delete_hides, looks_are_given}
use Rattle.texts.proofs.Chars.{shown_are_chars, shows_the_definition}
use Rattle.texts.proofs.OwnChange.{named_is}

-- lists of which all pass, none passes, or none changes
filter_keeps : (p : Char → Bool) (xs : List Char) → All (λ c. p c ≡ true) xs → filter p xs ≡ xs
filter_keeps p [] pass = refl
filter_keeps p (c ∷ xs) pass =
    rw (pass 0 c (omega arith))
    (ap (λ (ys : List Char). c ∷ ys) (filter_keeps p xs (All-tail (λ (x : Char). p x ≡ true) c xs pass)))

filter_drops : (p : Char → Bool) (xs : List Char) → All (λ c. p c ≡ false) xs → filter p xs ≡ []
filter_drops p [] fail = refl
filter_drops p (c ∷ xs) fail =
    rw (fail 0 c (omega arith)) (filter_drops p xs (All-tail (λ (x : Char). p x ≡ false) c xs fail))

map_keeps : (f : Char → Char) (xs : List Char) → All (λ c. f c ≡ c) xs → map f xs ≡ xs
map_keeps f [] same = refl
map_keeps f (c ∷ xs) same =
    rw (same 0 c (omega arith), map_keeps f xs (All-tail (λ (x : Char). f x ≡ x) c xs same)) refl

pub map_agrees : (f g : Char → Char) (xs : List Char) → All (λ c. f c ≡ g c) xs → map f xs ≡ map g xs
map_agrees f g [] same = refl
map_agrees f g (c ∷ xs) same =
    rw (same 0 c (omega arith), map_agrees f g xs (All-tail (λ (x : Char). f x ≡ g x) c xs same)) refl

-- the names of members
has_name : (xs : List Char) (c : Char) → Contains xs c → Contains (map (λ s. s.name) xs) c.name
has_name xs c (k, lt, e) =
    let long = length-map xs (λ (s : Char). s.name) in
    (k, omega arith, get_or-map (λ (s : Char). s.name) xs k c c.name lt ∙ ap (λ (s : Char). s.name) e)

-- what holds of each member holds of all
each : (xs : List Char) (P : Char → Type 0) → ((c : Char) → Contains xs c → P c) → All P xs
each xs P holds k d lt = holds (get_or xs k d) (Contains-get_or xs k d lt)

-- of names that differ none stands in two parts
apart_across : (xs ys : List CharName) → AllPairs (λ a b. a ≢ b) (xs ++ ys) → (c : CharName) → Contains xs c
    → Contains ys c → ⊥
apart_across [] ys apart c (k, lt, e) there = absurd (omega arith)
apart_across (x ∷ xs) ys apart c (zero, lt, e) there =
    let others : All (λ y. x ≢ y) (xs ++ ys) = λ k d less. apart 0 (suc k) d (omega arith) (omega arith) in
    All-contains (λ y. x ≢ y) (xs ++ ys) c others (Contains-append_right xs ys c there) e
apart_across (x ∷ xs) ys apart c (suc k, lt, e) there =
    apart_across xs ys (λ i j d less within. apart (suc i) (suc j) d (omega arith) (omega arith)) c
    (k, omega arith, e) there

module _ (shown : List Char) (names : List Range) (beg end : ℕ) (rising : beg ≤ end)
    (once : AllPairs (λ a b. a ≢ b) (map (λ s. s.name) shown))
    (exact : (c : CharName) → IsAmong names c ↔ Contains (map (λ s. s.name) (slice_range shown beg end)) c) where
  abbrev names_of : List Char → List CharName
  names_of xs = map (λ s. s.name) xs

  abbrev before : List Char
  before = take beg shown

  abbrev stretch : List Char
  stretch = slice_range shown beg end

  abbrev after : List Char
  after = drop end shown

  parts : shown ≡ before ++ (stretch ++ after)
  parts =
      let on : beg + (end - beg) ≡ end = omega arith in
      let rest : drop beg shown ≡ stretch ++ after =
      sym (take-append-drop (end - beg) (drop beg shown))
      ∙ ap (λ (xs : List Char). stretch ++ xs)
      (drop-drop (end - beg) beg shown ∙ ap (λ (k : ℕ). drop k shown) on) in
      sym (take-append-drop beg shown) ∙ ap (λ (xs : List Char). before ++ xs) rest

  apart : AllPairs (λ a b. a ≢ b) (names_of before ++ (names_of stretch ++ names_of after))
  apart =
      let same : names_of shown ≡ names_of before ++ (names_of stretch ++ names_of after) =
      ap names_of parts ∙ map-append (λ (s : Char). s.name) before (stretch ++ after)
      ∙ ap (λ (xs : List CharName). names_of before ++ xs) (map-append (λ (s : Char). s.name) stretch after) in
      subst (λ (xs : List CharName). AllPairs (λ a b. a ≢ b) xs) same once

  in_stretch : (c : Char) → is_named names c ≡ true → Contains (names_of stretch) c.name
  in_stretch c named = (exact c.name).0 ((named_is names c).0 named)

  unnamed_before : (c : Char) → Contains before c → is_named names c ≡ false
  unnamed_before c here = false_from_ne_true (is_named names c) (λ named.
      apart_across (names_of before) (names_of stretch ++ names_of after) apart c.name (has_name before c here)
      (Contains-append_left (names_of stretch) (names_of after) c.name (in_stretch c named)))

  unnamed_after : (c : Char) → Contains after c → is_named names c ≡ false
  unnamed_after c here =
      let apart' : AllPairs (λ a b. a ≢ b) ((names_of before ++ names_of stretch) ++ names_of after) =
      subst (λ (xs : List CharName). AllPairs (λ a b. a ≢ b) xs)
      (sym (append_assoc (names_of before) (names_of stretch) (names_of after))) apart in
      false_from_ne_true (is_named names c) (λ named.
      apart_across (names_of before ++ names_of stretch) (names_of after) apart' c.name
      (Contains-append_right (names_of before) (names_of stretch) c.name (in_stretch c named))
      (has_name after c here))

  named_there : (c : Char) → Contains stretch c → is_named names c ≡ true
  named_there c here = (named_is names c).1 ((exact c.name).1 (has_name stretch c here))

  pub is_cut : filter (λ c. not (is_named names c)) shown ≡ cut shown beg end
  is_cut =
      let p : Char → Bool = λ c. not (is_named names c) in
      ap (filter p) parts ∙ filter-append p before (stretch ++ after)
      ∙ ap (λ (xs : List Char). xs ++ filter p (stretch ++ after))
      (filter_keeps p before (each before (λ c. p c ≡ true) (λ c here. ap not (unnamed_before c here))))
      ∙ ap (λ (xs : List Char). before ++ xs) (filter-append p stretch after
      ∙ ap (λ (xs : List Char). xs ++ filter p after)
      (filter_drops p stretch (each stretch (λ c. p c ≡ false) (λ c here. ap not (named_there c here))))
      ∙ filter_keeps p after (each after (λ c. p c ≡ true) (λ c here. ap not (unnamed_after c here))))

  pub is_picked : filter (is_named names) shown ≡ stretch
  is_picked =
      let p : Char → Bool = is_named names in
      ap (filter p) parts ∙ filter-append p before (stretch ++ after)
      ∙ ap (λ (xs : List Char). xs ++ filter p (stretch ++ after))
      (filter_drops p before (each before (λ c. p c ≡ false) unnamed_before))
      ∙ (filter-append p stretch after
      ∙ ap (λ (xs : List Char). xs ++ filter p after)
      (filter_keeps p stretch (each stretch (λ c. p c ≡ true) named_there))
      ∙ ap (λ (xs : List Char). stretch ++ xs)
      (filter_drops p after (each after (λ c. p c ≡ false) unnamed_after))
      ∙ append-nil stretch)

  pub is_dressed : (sel : Selection) (looks : Looks)
      → map (with_looks sel looks names) shown ≡ dress sel looks shown beg end
  is_dressed sel looks =
      let f : Char → Char = with_looks sel looks names in
      let g : Char → Char = dressed sel looks in
      let by : (c : Char) (b : Bool) → is_named names c ≡ b → f c ≡ (if b then g c else c) =
      λ c b e. ap (λ (b : Bool). if b then g c else c) e in
      ap (map f) parts ∙ map-append f before (stretch ++ after)
      ∙ ap (λ (xs : List Char). xs ++ map f (stretch ++ after))
      (map_keeps f before (each before (λ c. f c ≡ c) (λ c here. by c false (unnamed_before c here))))
      ∙ ap (λ (xs : List Char). before ++ xs) (map-append f stretch after
      ∙ ap (λ (xs : List Char). xs ++ map f after)
      (map_agrees f g stretch (each stretch (λ c. f c ≡ g c) (λ c here. by c true (named_there c here))))
      ∙ ap (λ (xs : List Char). map g stretch ++ xs)
      (map_keeps f after (each after (λ c. f c ≡ c) (λ c here. by c false (unnamed_after c here)))))
      ∙ sym (append_assoc before (map g stretch) after)

-- what is shown has each name once
pub names_differ : (t : TextState) → IsText t → AllPairs (λ a b. a ≢ b) (map (λ s. s.name) (shown_of t))
names_differ t is =
    let s = shows_the_definition t is in
    subst (λ (xs : List CharName). AllPairs (λ a b. a ≢ b) xs) (sym s.visible)
    (AllPairs-filter (λ (a b : CharName). a ≢ b) (is_visible t.operations) s.order s.in_order.once)

-- and each is that of a character
are_char_names : (t : TextState) (names : List Range) (beg end : ℕ) → IsText t → beg ≤ end
    → NamesStretch t names beg end → AreCharNames t.operations names
are_char_names t names beg end is rising exact c among =
    let P : CharName → Type 0 = IsChar t.operations in
    let name : Char → CharName = λ s. s.name in
    let shown : List Char = shown_of t in
    let chars : All P (map name (drop beg shown)) =
    subst (λ (xs : List CharName). All P xs) (drop-map name beg shown)
    (All-drop P beg (map name shown) (shown_are_chars t is)) in
    let stretch : All P (map name (slice_range shown beg end)) =
    subst (λ (xs : List CharName). All P xs) (take-map name (end - beg) (drop beg shown))
    (All-take P (end - beg) (map name (drop beg shown)) chars) in
    All-contains P (map name (slice_range shown beg end)) c stretch ((exact c).0 among)

pub delete_is_plain : OwnDeleteIsPlain
delete_is_plain t names beg end is rising exact =
    subst (IsOwnEdit t (delete names))
    (is_cut (shown_of t) names beg end rising (names_differ t is) exact)
    (delete_hides t names is (are_char_names t names beg end is rising exact))

pub looks_are_plain : OwnLooksArePlain
looks_are_plain t sel looks names beg end is rising exact =
    subst (IsOwnEdit t (change_looks sel looks names))
    (is_dressed (shown_of t) names beg end rising (names_differ t is) exact sel looks)
    (looks_are_given t sel looks names is (are_char_names t names beg end is rising exact))
