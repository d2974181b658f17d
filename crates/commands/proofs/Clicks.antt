-- The task of a click: what is clicked, the call that stands there, and its parameter.
use Rattle.std.proofs.Common.{◌≡◌, ℕ, ◌-◌, Bool, true, false, List, [], ◌∷◌, map, Option, Some, None, Result, Ok, Err, refl, sym, ap, subst, ◌∙◌, inl, inr}
use Rattle.std.specs.Prelude.{◌&&◌, ◌==◌, if◌then◌else◌, option_map, IfSome, IsSome, MatchOption, MatchResult, slice_get}
use Rattle.std.specs.Option.{option_and_then}
use Rattle.std.proofs.lemmas.Option.{none-some, same_Some}
use Rattle.looks.specs.declared.refusal.Refusal.{Refusal}
use Rattle.looks.specs.declared.refusal.Refusal.TheVariants.{NoSelection, NoViewer, UnknownCommand}
use Rattle.char_files.specs.Plain.{plain_items}
use Rattle.char_files.specs.declared.character.Char.{Char}
use Rattle.reader_scanner.specs.ReaderState.{item_bytes}
use Rattle.reader_scanner.specs.Tokens.{IsTokenAt}
use Rattle.reader_scanner.specs.declared.token.Token.{Token}
use Rattle.reader_scanner.specs.declared.token.TokenValue.{TokenValue}
use Rattle.command_words.specs.Calls.{IsCallAt, NoCallAt}
use Rattle.command_words.specs.Commands.{has_parameter, menu_of}
use Rattle.command_words.specs.declared.calls.Call.{Call}
use Rattle.texts.specs.TextState.{TextState, shown_items, shown_of}
use Rattle.machine.specs.SiteTexts.{SiteTexts, IsTextOf}
use Rattle.viewers.specs.Screen.{area_of}
use Rattle.viewers.specs.declared.screen.Area.{Area}
use Rattle.machine.specs.Commands.{Clicked as ClickedSeen, IsTaskAt, IsTaskOfCall, clicked, clicked_in, is_caret_sign}
use Rattle.machine.specs.Commands.{task_of}
use Rattle.machine.specs.Events.{Task, refuse}
use Rattle.machine.specs.Windows.{Marked, Screened, Window, bytes_shown, marked, viewer_with, window_of}
use Rattle.machine_laws.proofs.OneOfTexts.{one_element}
use Rattle.desk_windows.specs.Pointing.{IsClick, IsPlaceOf}
use Rattle.desk_windows.specs.Windows.{IsTextShown, WindowsSeen, screened}
use Rattle.desk_windows.specs.declared.pointing.Clicked.{Clicked}
use Rattle.desk_windows.specs.declared.pointing.CellTarget.TheVariants.{Menu, Text}
use Rattle.commands.specs.Steps.{task_told}

-- the bytes of plain characters, and those of a text
pub plain_are : (bytes : List ℕ) → item_bytes (plain_items bytes) ≡ bytes
plain_are [] = refl
plain_are (b ∷ rest) = ap (λ (l : List ℕ). b ∷ l) (plain_are rest)

chars_are : (cs : List Char) → item_bytes (map (λ c. (c.byte, c.looks)) cs) ≡ map (λ c. c.byte) cs
chars_are [] = refl
chars_are (c ∷ rest) = ap (λ (l : List ℕ). c.byte ∷ l) (chars_are rest)

pub shown_are : (t : TextState) → item_bytes (shown_items t) ≡ bytes_shown t
shown_are t = chars_are (shown_of t)

-- what is clicked stands in these bytes, at this position
module _ (d : SiteTexts) (seen : ClickedSeen) (c : Clicked) (is : IsClick d seen c) (pos : ℕ) where
  pub in_menu : (bytes : List ℕ) → c.place ≡ Menu pos → bytes ≡ menu_of c.viewer c.text
      → (item_bytes (plain_items bytes) ≡ seen.bytes) × (pos ≡ seen.pos)
  in_menu bytes menu are =
      let (its, at) = subst (IsPlaceOf d seen) menu is.place in (
        plain_are bytes ∙ are ∙ (λ k. menu_of (is.viewer k) (is.text k)) ∙ sym its,
        sym at,
      )

  pub in_text : (t : TextState) → c.place ≡ Text pos → IsTextOf d c.text t
      → (item_bytes (shown_items t) ≡ seen.bytes) × (pos ≡ seen.pos)
  in_text t below there =
      let (u, at_u, its, at) = subst (IsPlaceOf d seen) below is.place in
      let same : t ≡ u = one_element (slice_get d.texts (seen.text - 1)) t u
      (subst (λ (n : ℕ). IsTextOf d n t) is.text there) at_u in (
        shown_are t ∙ ap bytes_shown same ∙ sym its,
        sym at,
      )

-- the call there
pub calls_there : (bytes bytes' : List ℕ) (pos pos' : ℕ) (result : Option Call) → (bytes ≡ bytes') × (pos ≡ pos')
    → IfSome result (λ call. IsCallAt bytes pos call) → IfSome result (λ call. IsCallAt bytes' pos' call)
calls_there bytes bytes' pos pos' result (are, at) call =
    subst (λ (l : List ℕ). IfSome result (λ call. IsCallAt l pos' call)) are
    (subst (λ (n : ℕ). IfSome result (λ call. IsCallAt bytes n call)) at call)

pub calls_none : (bytes bytes' : List ℕ) (pos pos' : ℕ) → (bytes ≡ bytes') × (pos ≡ pos') → NoCallAt bytes pos
    → NoCallAt bytes' pos'
calls_none bytes bytes' pos pos' (are, at) none =
    subst (λ (l : List ℕ). NoCallAt l pos') are (subst (λ (n : ℕ). NoCallAt bytes n) at none)

-- the task of a call, by its parameter
module _ (d : SiteTexts) (w : Screened) (call : Call) (viewer text : ℕ) where
  abbrev TaskOf : Result TokenValue Refusal → Type 0
  TaskOf told = IsTaskOfCall d w call viewer text (task_told d w call.command told viewer text)

  tells : (told : Result TokenValue Refusal)
      → MatchResult told (λ x. task_told d w call.command told viewer text ≡ task_of d w call.command x viewer text)
      (λ why. task_told d w call.command told viewer text ≡ refuse why)
  tells (Ok x) = refl
  tells (Err why) = refl

  -- it is followed to the selection
  pub followed : (told : Result TokenValue Refusal) → has_parameter call.command ≡ true
      → is_caret_sign call.token.value ≡ true
      → MatchOption (marked d w) (told ≡ Err NoSelection)
      (λ m. (there : Token) × IsTokenAt (bytes_shown m.text) m.beg there × (told ≡ Ok there.value))
      → TaskOf told
  followed told asks sign is = rw asks (told, rw sign is, tells told)

  -- or it is the token after the word
  after_word : (asks sign : Bool) → has_parameter call.command ≡ asks → is_caret_sign call.token.value ≡ sign
      → (asks && sign) ≡ false → TaskOf (Ok call.token.value)
  after_word false sign asks_is sign_is not = rw asks_is refl
  after_word true false asks_is sign_is not = rw asks_is (Ok call.token.value, rw sign_is refl, refl)
  after_word true true asks_is sign_is not = absurd cc

  pub not_followed : (has_parameter call.command && is_caret_sign call.token.value) ≡ false → TaskOf (Ok call.token.value)
  not_followed not = after_word (has_parameter call.command) (is_caret_sign call.token.value) refl refl not

-- the token at the selection's begin
pub marked_told : (d : SiteTexts) (w : Screened) (at : Marked) (t : TextState) (beg : ℕ) (token : Token) → marked d w ≡ Some at
    → t ≡ at.text → beg ≡ at.beg → IsTokenAt (item_bytes (shown_items t)) beg token
    → MatchOption (marked d w) (◌≡◌ {A = Result TokenValue Refusal} (Ok token.value) (Err NoSelection))
    (λ m. (there : Token) × IsTokenAt (bytes_shown m.text) m.beg there
    × ◌≡◌ {A = Result TokenValue Refusal} (Ok token.value) (Ok there.value))
marked_told d w at t beg token is text_is beg_is there =
    subst (λ (o : Option Marked). MatchOption o (◌≡◌ {A = Result TokenValue Refusal} (Ok token.value) (Err NoSelection))
    (λ m. (there : Token) × IsTokenAt (bytes_shown m.text) m.beg there
    × ◌≡◌ {A = Result TokenValue Refusal} (Ok token.value) (Ok there.value))) (sym is) (
      token,
      subst (λ (l : List ℕ). IsTokenAt l at.beg token) (shown_are t ∙ ap bytes_shown text_is)
          (subst (λ (n : ℕ). IsTokenAt (item_bytes (shown_items t)) n token) beg_is there),
      refl,
    )

-- the task of a click
module _ (d : SiteTexts) (w : Screened) (col row : ℕ) where
  pub nothing_there : clicked d w col row ≡ None → IsTaskAt d w col row (refuse NoViewer)
  nothing_there none = rw none refl

  module _ (seen : ClickedSeen) (is : clicked d w col row ≡ Some seen) where
    pub no_call_there : NoCallAt seen.bytes seen.pos → IsTaskAt d w col row (refuse UnknownCommand)
    no_call_there none = rw is (inl (none, refl))

    pub call_there : (c : Clicked) (call : Call) (task : Task) → IsClick d seen c → IsCallAt seen.bytes seen.pos call
        → IsTaskOfCall d w call c.viewer c.text task → IsTaskAt d w col row task
    call_there c call task click is_call of_call =
        rw is (inr (
          call,
          is_call,
          subst (λ (n : ℕ). IsTaskOfCall d w call seen.viewer n task) click.text
              (subst (λ (n : ℕ). IsTaskOfCall d w call n c.text task) click.viewer of_call),
        ))

-- what is clicked is what its viewer shows
either : (b : Bool) (x y : ClickedSeen) (v text : ℕ) → (x.viewer ≡ v) × (x.text ≡ text) → (y.viewer ≡ v) × (y.text ≡ text)
    → ((if b then x else y).viewer ≡ v) × ((if b then x else y).text ≡ text)
either true x y v text first second = first
either false x y v text first second = second

abbrev ShowsClicked : SiteTexts → Screened → ClickedSeen → Type 0
ShowsClicked d w seen =
    (shown : Window × TextState) × (window_of d w seen.viewer ≡ Some shown) × (seen.text ≡ shown.0.text)

pub clicked_shows : (d : SiteTexts) (w : Screened) (col row : ℕ) (seen : ClickedSeen) → clicked d w col row ≡ Some seen
    → ShowsClicked d w seen
clicked_shows d w col row seen is = of_viewer (viewer_with w col row) is
  where
    of_window : (v : ℕ) (area : Area) (o : Option (Window × TextState)) → window_of d w v ≡ o
        → option_map (clicked_in v area col row) o ≡ Some seen → ShowsClicked d w seen
    of_window v area None at is = absurd (none-some seen is)
    of_window v area (Some shown) at is =
        let same : clicked_in v area col row shown ≡ seen = same_Some (clicked_in v area col row shown) seen is in
        let (viewer, text) = either (row == area.top) _ _ v shown.0.text (refl, refl) (refl, refl) in (
          shown,
          subst (λ (n : ℕ). window_of d w n ≡ Some shown) (sym viewer ∙ ap (λ (x : ClickedSeen). x.viewer) same) at,
          sym (ap (λ (x : ClickedSeen). x.text) same) ∙ text,
        )

    of_area : (v : ℕ) (o : Option Area)
        → option_and_then (λ area. option_map (clicked_in v area col row) (window_of d w v)) o ≡ Some seen → ShowsClicked d w seen
    of_area v None is = absurd (none-some seen is)
    of_area v (Some area) is = of_window v area (window_of d w v) refl is

    of_viewer : (o : Option ℕ) → option_and_then (λ v. option_and_then (λ area. option_map (clicked_in v area col row)
        (window_of d w v)) (area_of w.tracks v)) o ≡ Some seen → ShowsClicked d w seen
    of_viewer None is = absurd (none-some seen is)
    of_viewer (Some v) is = of_area v (area_of w.tracks v) is

-- the text that a viewer shows is told where the viewer is on the screen
pub text_there : (d : SiteTexts) (w : WindowsSeen) (v : ℕ) (told : Option ℕ) → IsSome (window_of d (screened w) v)
    → IsTextShown d w v told → IsSome told
text_there d w v None some is =
    let lost = subst IsSome is some in
    absurd cc
text_there d w v (Some text) some is = refl

pub text_shown : (d : SiteTexts) (w : WindowsSeen) (v text : ℕ) (told : Option ℕ) (shown : Window × TextState)
    → told ≡ Some text → IsTextShown d w v told → window_of d (screened w) v ≡ Some shown → text ≡ shown.0.text
text_shown d w v text told shown is shows at =
    let (other, there, same) = subst (IsTextShown d w v) is shows in
    same ∙ ap (λ (x : Window × TextState). x.0.text) (same_Some other shown (sym there ∙ at))
