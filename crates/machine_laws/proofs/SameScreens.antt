-- One screen is printed alike over desks that hold the same.
use Rattle.std.proofs.Common.{◌≡◌, ℕ, ◌+◌, ◌-◌, true, false, Bool, List, [], ◌∷◌, ◌++◌, length, take, Contains, Option, Some, None}
use Rattle.std.proofs.Common.{refl, sym, ap, subst, ◌∙◌, inl, inr, arith}
use Rattle.std.specs.Prelude.{◌==◌, ◌&&◌, if◌then◌else◌, not, codes, map, count_by, nat_lt, option_map, slice_get}
use Rattle.std.specs.List.{flat_map, list_any, range_with_len}
use Rattle.std.specs.Option.{option_and_then, option_map_or}
use Rattle.std.proofs.lemmas.Bool.Decides.{same_from_decides}
use Rattle.std.proofs.lemmas.List.Folds.{Any-from_list_any, list_any_at}
use Rattle.std.proofs.lemmas.Option.{none-some, slice_get_cases, slice_get_within}
use Rattle.looks.specs.Key.{is_below}
use Rattle.char_files.specs.CharName.{CharName}
use Rattle.char_files.specs.declared.character.Char.{Char}
use Rattle.char_files.specs.declared.name.Anchor.{Anchor}
use Rattle.char_files.specs.declared.name.Anchor.TheVariants.{Root, At}
use Rattle.operations.specs.Operation.{Operation, key_of}
use Rattle.tree_order.specs.Laws.{AreSameSet}
use Rattle.tree_order.specs.Shown.{deletes_by, hides, is_visible, restores_by, up_to}
use Rattle.tree_order.proofs.ShownLemmas.{any_agree}
use Rattle.texts.specs.Laws.{AreTextsAlike, OperationsDetermineTheText}
use Rattle.texts.specs.Text.{IsText}
use Rattle.texts.specs.TextState.{TextState}
use Rattle.viewers.specs.Screen.{user_width}
use Rattle.viewers.specs.Tracks.{seat_index as seat_of, top, viewer_in}
use Rattle.viewers.specs.declared.seats.Seat.{Seat}
use Rattle.command_words.specs.Commands.{menu_of}
use Rattle.line_drawing.specs.Lines.{ends_in}
use Rattle.line_drawing.specs.Rows.{blanks, cells_of, row_of}
use Rattle.machine.specs.SiteTexts.{SiteTexts}
use Rattle.machine.specs.Printing.{line}
use Rattle.machine.specs.ScreenPrinting.{caret_line, screen_line, selection_line, spaced, track_cells}
use Rattle.machine.specs.ScreenPrinting.{track_lines, viewer_cells, viewer_line}
use Rattle.machine.specs.Tasks.{lines_of_view}
use Rattle.machine.specs.Windows.{Caret, Marked, Screened, Selected, Window, bytes_shown, marked_as, place_before, place_in}
use Rattle.machine.specs.Windows.{shown_by, stretch_in, text_of, window_of}
use Rattle.machine.specs.declared.asked.View.{View}
use Rattle.machine.specs.declared.asked.View.TheVariants.{Marks, Show, Views}
use Rattle.machine_laws.specs.Laws.{HoldTheSame, TextsDetermineTheScreen}

-- lists of the same operations pass a test alike

passes : (p : Operation → Bool) (a b : List Operation) → ((op : Operation) → Contains a op → Contains b op)
    → list_any p a ≡ true → list_any p b ≡ true
passes p a b to is =
    let (k, op, lt, at, passed) = Any-from_list_any p a is in
    let (j, below, same) = to op (k, lt, at) in
    list_any_at p b j op below (subst (λ (o : Operation). p o ≡ true) (sym same) passed)

any_alike : (a b : List Operation) → AreSameSet a b → (p : Operation → Bool) → list_any p a ≡ list_any p b
any_alike a b same p = same_from_decides (list_any p a) (list_any p b)
    (passes p a b (λ op. (same op).0), passes p b a (λ op. (same op).1)) (λ e. e, λ e. e)

-- and so show one character, or neither does
visible_alike : (a b : List Operation) → AreSameSet a b → is_visible a ≡ is_visible b
visible_alike a b same = λ k c. each c k
  where
    each : (c : CharName) → is_visible a c ≡ is_visible b c
    each c =
        let hidden : (op : Operation) → hides a c op ≡ hides b c op = λ op.
        ap (λ (x : Bool). deletes_by op.kind c && not x)
        (any_alike a b same (λ r. restores_by r.kind c && is_below (key_of op) (key_of r))) in
        ap not (any_alike a b same (hides a c) ∙ any_agree (hides a c) (hides b c) hidden b)

-- two texts show the same bytes, and what is pointed at stands at the same places
record LookAlike (t u : TextState) : Type 0 where
  bytes : bytes_shown t ≡ bytes_shown u
  places : (a : Anchor) → place_in t a ≡ place_in u a
  before : (c : CharName) → place_before t c ≡ place_before u c

look_alike : OperationsDetermineTheText → (t u : TextState) → IsText t → IsText u → AreSameSet t.operations u.operations
    → LookAlike t u
look_alike tell t u is_t is_u same = record {
  bytes = ap (map (λ (c : Char). c.byte)) alike.shown;
  places = places;
  before = λ c k. places (At c) k - (if visible k c then 1 else 0);
}
  where
    alike : AreTextsAlike t u
    alike = tell t u is_t is_u same

    visible : is_visible t.operations ≡ is_visible u.operations
    visible = visible_alike t.operations u.operations same

    places : (a : Anchor) → place_in t a ≡ place_in u a
    places Root = refl
    places (At c) = λ k. count_by (visible k) (up_to c (map (λ (x : Char). x.name) (alike.order k)))

-- of lists that are equally long both have an element at a place, or neither has
one_there : {X : Type 0} (xs ys : List X) (k : ℕ) (y : X) → length xs ≡ length ys → slice_get xs k ≡ None
    → slice_get ys k ≡ Some y → ⊥
one_there xs ys k y long none at = elim (slice_get_cases xs k).1 [
  | inl found ↦ none-some found.0 (sym none ∙ found.2)
  | inr past ↦ omega (arith, past.0, slice_get_within ys k y at, long)
]

-- what is told of a chain of options is told of its parts
and_then_or : {A B C : Type 0} (f : A → Option B) (g : B → C) (o : Option A) (z : C)
    → option_map_or g (option_and_then f o) z ≡ option_map_or (λ x. option_map_or g (f x) z) o z
and_then_or f g None z = refl
and_then_or f g (Some x) z = refl

-- a cell of a viewer
cells_alike : (v : ℕ) (window : Window) (t u : TextState) (width row : ℕ) → LookAlike t u
    → viewer_cells v (window, t) width row ≡ viewer_cells v (window, u) width row
cells_alike v window t u width row alike = λ k.
    if row == 0 then cells_of width (menu_of v window.text)
    else (row_of (alike.bytes k) width
    (ends_in (take (alike.places window.anchor k) (alike.bytes k)) + (row - 1))).cells

-- the line of a caret in what its viewer shows
abbrev line_of_caret : Caret → Window × TextState → List ℕ
line_of_caret c shown = line (codes "caret" ++ spaced (c.viewer ∷ shown.0.text ∷ place_in shown.1 c.anchor ∷ []))

-- the line where nothing is selected
abbrev no_selection : List ℕ
no_selection = line (codes "selection none")

-- the line of what is marked
abbrev marked_line : Marked → List ℕ
marked_line m = line (codes "selection" ++ spaced (m.viewer ∷ m.window.text ∷ m.beg ∷ m.end ∷ []))

-- the same, by the stretch
abbrev stretch_line : Selected → Window → ℕ × ℕ → List ℕ
stretch_line x window stretch =
    if nat_lt stretch.0 stretch.1
    then line (codes "selection" ++ spaced (x.viewer ∷ window.text ∷ stretch.0 ∷ stretch.1 ∷ []))
    else no_selection

marked_by : (x : Selected) (window : Window) (t : TextState)
    → option_map_or marked_line (marked_as x (window, t)) no_selection
    ≡ stretch_line x window (stretch_in t x)
marked_by x window t = by (nat_lt (stretch_in t x).0 (stretch_in t x).1)
  where
    by : (b : Bool) → option_map_or marked_line (if b then Some (record {
      viewer = x.viewer;
      window = window;
      text = t;
      beg = (stretch_in t x).0;
      end = (stretch_in t x).1;
    }) else None) no_selection
        ≡ (if b
        then line (codes "selection" ++ spaced (x.viewer ∷ window.text ∷ (stretch_in t x).0 ∷ (stretch_in t x).1 ∷ []))
        else no_selection)
    by true = refl
    by false = refl

marked_alike : (x : Selected) (window : Window) (t u : TextState) → LookAlike t u
    → option_map_or marked_line (marked_as x (window, t)) no_selection
    ≡ option_map_or marked_line (marked_as x (window, u)) no_selection
marked_alike x window t u alike =
    marked_by x window t ∙ (λ k. stretch_line x window (alike.before x.first k, alike.places (At x.last) k))
    ∙ sym (marked_by x window u)

module _ (tell : OperationsDetermineTheText) (d e : SiteTexts) (same : HoldTheSame d e) (w : Screened) where
  -- what is told of what a viewer shows is told alike at both desks
  windows_alike : {B : Type 0} (v : ℕ) (f : Window × TextState → B) (z : B)
      → ((window : Window) (t u : TextState) → LookAlike t u → f (window, t) ≡ f (window, u))
      → option_map_or f (window_of d w v) z ≡ option_map_or f (window_of e w v) z
  windows_alike {B} v f z alike = by (shown_by v w.windows)
    where
      texts : (window : Window) (a : Option TextState) → text_of d window.text ≡ a → (b : Option TextState)
          → text_of e window.text ≡ b
          → option_map_or f (option_map {U = Window × TextState} (λ t. (window, t)) a) z
          ≡ option_map_or f (option_map {U = Window × TextState} (λ t. (window, t)) b) z
      texts window None at None at' = refl
      texts window None at (Some u) at' = absurd (one_there d.texts e.texts (window.text - 1) u same.count at at')
      texts window (Some t) at None at' = absurd (one_there e.texts d.texts (window.text - 1) t (sym same.count) at' at)
      texts window (Some t) at (Some u) at' =
          let (is_t, is_u, one) = same.texts window.text t u at at' in
          alike window t u (look_alike tell t u is_t is_u one)

      by : (o : Option Window)
          → option_map_or f (option_and_then {U = Window × TextState}
          (λ (x : Window). option_map {U = Window × TextState} (λ t. (x, t)) (text_of d x.text)) o) z
          ≡ option_map_or f (option_and_then {U = Window × TextState}
          (λ (x : Window). option_map {U = Window × TextState} (λ t. (x, t)) (text_of e x.text)) o) z
      by None = refl
      by (Some window) = texts window (text_of d window.text) refl (text_of e window.text) refl

  carets_alike : caret_line d w ≡ caret_line e w
  carets_alike = λ k. option_map_or (λ c. each c k) w.caret (line (codes "caret none"))
    where
      each : (c : Caret) → option_map_or (line_of_caret c) (window_of d w c.viewer) (line (codes "caret none"))
          ≡ option_map_or (line_of_caret c) (window_of e w c.viewer) (line (codes "caret none"))
      each c = windows_alike c.viewer (line_of_caret c) (line (codes "caret none"))
          (λ window t u alike.
          ap (λ (n : ℕ). line (codes "caret" ++ spaced (c.viewer ∷ window.text ∷ n ∷ []))) (alike.places c.anchor))

  selections_alike : selection_line d w ≡ selection_line e w
  selections_alike =
      and_then_or (λ x. option_and_then (marked_as x) (window_of d w x.viewer)) marked_line w.selected no_selection
      ∙ (λ k. option_map_or (λ x. each x k) w.selected no_selection)
      ∙ sym (and_then_or (λ x. option_and_then (marked_as x) (window_of e w x.viewer)) marked_line w.selected no_selection)
    where
      each : (x : Selected)
          → option_map_or marked_line (option_and_then (marked_as x) (window_of d w x.viewer)) no_selection
          ≡ option_map_or marked_line (option_and_then (marked_as x) (window_of e w x.viewer)) no_selection
      each x =
          and_then_or (marked_as x) marked_line (window_of d w x.viewer) no_selection
          ∙ windows_alike x.viewer (λ shown. option_map_or marked_line (marked_as x shown) no_selection) no_selection
          (λ window t u alike. marked_alike x window t u alike)
          ∙ sym (and_then_or (marked_as x) marked_line (window_of e w x.viewer) no_selection)

  viewers_alike : (track : List ℕ) (row : ℕ) (seats : List Seat) → track_lines d w track row seats ≡ track_lines e w track row seats
  viewers_alike track row [] = refl
  viewers_alike track row (seat ∷ seats) = λ k.
      windows_alike seat.number (λ shown. viewer_line track seat row shown.0.text) [] (λ window t u alike. refl) k
      ++ viewers_alike track (row + seat.height) seats k

  tracks_alike : (seats : List Seat) (width row : ℕ) → track_cells d w seats width row ≡ track_cells e w seats width row
  tracks_alike seats width row = λ k. option_map_or
      (λ v. windows_alike v (λ shown. viewer_cells v shown width (row - top seats (seat_of seats v))) (blanks width)
      (λ window t u alike. cells_alike v window t u width (row - top seats (seat_of seats v)) alike) k)
      (viewer_in seats row) (blanks width)

  rows_alike : (row : ℕ) → screen_line d w row ≡ screen_line e w row
  rows_alike row = λ k.
      line (124 ∷ tracks_alike w.tracks.user (user_width w.tracks.width) row k
      ++ tracks_alike w.tracks.system (w.tracks.width - user_width w.tracks.width) row k ++ 124 ∷ [])

  printed : (v : View) → lines_of_view d w v ≡ lines_of_view e w v
  printed Marks = λ k. carets_alike k ++ selections_alike k
  printed Views = λ k.
      viewers_alike (codes "user") 0 w.tracks.user k ++ viewers_alike (codes "system") 0 w.tracks.system k
      ++ line (codes "ok")
  printed Show = λ k. flat_map (λ row. rows_alike row k) (range_with_len 0 w.tracks.height)

-- two desks that hold the same print one screen alike
pub printed_alike : OperationsDetermineTheText → TextsDetermineTheScreen
printed_alike tell d e w same = printed tell d e same w
