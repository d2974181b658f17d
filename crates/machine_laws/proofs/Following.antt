-- The texts of a run go on: after an event each is what its operations define, has told its changes, and holds what it held.
use Rattle.std.proofs.Common.{◌≡◌, ℕ, zero, suc, ◌-◌, List, [], ◌∷◌, length, Some, Contains, refl, sym, ap}
use Rattle.std.proofs.Common.{subst, ◌∙◌, inl, inr, arith}
use Rattle.std.specs.Prelude.{slice_get, slice_set}
use Rattle.std.proofs.lemmas.List.{length-set}
use Rattle.std.proofs.lemmas.List.Elements.{All-nil, Contains-append_left}
use Rattle.std.proofs.lemmas.Option.{none-some}
use Rattle.operations.specs.Operation.{Operation}
use Rattle.set_laws.specs.Sets.{AreIdentified, IsPartOf}
use Rattle.texts.specs.Laws.{OwnEditsArePlain}
use Rattle.texts.specs.Text.{IsText}
use Rattle.texts.specs.TextState.{TextState, all_told, noting, told_to, with_room}
use Rattle.convergence.proofs.OneWay.{text_with_room}
use Rattle.machine.specs.SiteTexts.{SiteTexts, InText, IsTextOf}
use Rattle.machine.specs.OnTexts.{CopiesText, CopiesTextShort, EditsNames, EditsNamesShort, EditsText, EditsTextShort, MergesText, MergesTextShort}
use Rattle.machine.specs.OnTexts.{SettlesText, TakesText, TakesTextShort, UnpacksText, UnpacksTextShort}
use Rattle.machine.specs.State.{State, Tells}
use Rattle.machine_laws.proofs.Going.{TextGoes, TextsGo, as_they_are, begins, by_text, copies, copies_short, edits}
use Rattle.machine_laws.proofs.Going.{edits_names, edits_names_short}
use Rattle.machine_laws.proofs.Going.{edits_short, empties, merges_short, merges_so, settles_so, takes, takes_short}
use Rattle.machine_laws.proofs.Going.{unpacks_short, unpacks_so}
use Rattle.machine_laws.proofs.Growing.{named_edits_grow, named_edits_short_grow}
use Rattle.machine_laws.proofs.Growing.{copies_grow, copies_short_grow, edits_grow, edits_short_grow, merges_grow}
use Rattle.machine_laws.proofs.Growing.{merges_short_grow, settles_grow, takes_grow, takes_short_grow}
use Rattle.machine_laws.proofs.Reaching.{set_old}
use Rattle.machine_laws.proofs.Reopening.{Begins, held_nothing}
use Rattle.machine_laws.proofs.Unpacking.{unpacks_grow, unpacks_short_grow}
use Rattle.machine_laws.specs.Growing.{Grows}
use Rattle.machine_laws.specs.Laws.{AreTexts, HaveTold}

-- where something stood something stands
set_still : {X : Type 0} (xs : List X) (i j : ℕ) (x y : X) → slice_get xs j ≡ Some x
    → (z : X) × (slice_get (slice_set xs i y) j ≡ Some z)
set_still [] i j x y at = absurd (none-some x at)
set_still (v ∷ xs) zero zero x y at = (y, refl)
set_still (v ∷ xs) zero (suc j) x y at = (x, at)
set_still (v ∷ xs) (suc i) zero x y at = (x, at)
set_still (v ∷ xs) (suc i) (suc j) x y at = set_still xs i j x y at

-- a text that is what its operations define and has told its changes goes on so, and holds what it held
abbrev pub Follows : TextState → TextState → Type 0
Follows t u = IsText t → t.asked ≡ noting (length t.operations)
    → IsText u × (u.asked ≡ noting (length u.operations)) × IsPartOf t.operations u.operations

same_follows : (t : TextState) → Follows t t
same_follows t is told = (is, told, λ op held. held)

text_parameter : (t : TextState) → IsText t → IsText (all_told t)
text_parameter t is = record {
  good = is.good;
  in_order = is.in_order;
  identified = is.identified;
  of_text = is.of_text;
  chars = is.chars;
  deleted = is.deleted;
  waiting = is.waiting;
}

-- a text that has grown and has told its changes follows
grown_follows : (Does' : TextState → TextState → Type 0) → ((t u : TextState) → Does' t u → IsText t → Grows t u)
    → (t u : TextState) → Tells Does' t u → Follows t u
grown_follows Does' grow t u (t', does, is_u) is told =
    let grows = grow t t' does is in
    subst (λ (x : TextState). IsText x × (x.asked ≡ noting (length x.operations)) × IsPartOf t.operations x.operations) (sym is_u) (
      text_parameter t' grows.is,
      ap (told_to (length t'.operations)) (grows.asked ∙ told),
      λ op held. subst (λ (ops : List Operation). Contains ops op) (sym grows.taken)
          (Contains-append_left t.operations grows.more op held),
    )

-- so does one whose room is emptied
emptied_follows : AreIdentified [] → (t u : TextState) → Tells (λ t u. u ≡ with_room t []) t u → Follows t u
emptied_follows none t u (t', is_t', is_u) is told =
    subst (λ (x : TextState). IsText x × (x.asked ≡ noting (length x.operations)) × IsPartOf t.operations x.operations)
    (sym (is_u ∙ ap all_told is_t')) (
      text_parameter (with_room t [])
          (text_with_room t [] is (record { of_text = All-nil _; identified = none; few = omega arith })),
      ap (told_to (length t.operations)) told,
      λ op held. held,
    )

-- and a text in which nothing was done, and that began anew
begun_follows : (ops : List Operation) (t u : TextState) → Tells (Begins ops) t u → Follows t u
begun_follows ops t u (t', (fresh, taken), is_u) is told =
    subst (λ (x : TextState). IsText x × (x.asked ≡ noting (length x.operations)) × IsPartOf t.operations x.operations) (sym is_u) (
      text_parameter t' taken.is,
      ap (λ (x : TextState). told_to (length t'.operations) x.asked) taken.grown,
      held_nothing t t'.operations fresh,
    )

module _ (plain : OwnEditsArePlain) (none : AreIdentified []) (s : State) where
  -- in whichever way it goes on
  pub goes_follows : (t u : TextState) → Tells (TextGoes s) t u → Follows t u
  goes_follows t u (t', edits e r does, is) =
      grown_follows (EditsText e r) (edits_grow plain e r) t u (t', does, is)
  goes_follows t u (t', edits_short e r does, is) =
      grown_follows (EditsTextShort e r) (edits_short_grow plain e r) t u (t', does, is)
  goes_follows t u (t', edits_names what names r does, is) =
      grown_follows (EditsNames what names r) (named_edits_grow what names r) t u (t', does, is)
  goes_follows t u (t', edits_names_short what names r does, is) =
      grown_follows (EditsNamesShort what names r) (named_edits_short_grow what names r) t u (t', does, is)
  goes_follows t u (t', copies from beg end pos r does, is) =
      grown_follows (CopiesText from beg end pos r) (copies_grow plain from beg end pos r) t u (t', does, is)
  goes_follows t u (t', copies_short from beg end pos r does, is) =
      grown_follows (CopiesTextShort from beg end pos r) (copies_short_grow plain from beg end pos r) t u (t', does, is)
  goes_follows t u (t', takes message r does, is) =
      grown_follows (TakesText message r) (takes_grow message r) t u (t', does, is)
  goes_follows t u (t', takes_short message r does, is) =
      grown_follows (TakesTextShort message r) (takes_short_grow message r) t u (t', does, is)
  goes_follows t u (t', unpacks_so chunk r does, is) =
      grown_follows (UnpacksText chunk r) (unpacks_grow chunk r) t u (t', does, is)
  goes_follows t u (t', unpacks_short chunk r does, is) =
      grown_follows (UnpacksTextShort chunk r) (unpacks_short_grow chunk r) t u (t', does, is)
  goes_follows t u (t', settles_so stopped r does, is) =
      grown_follows (SettlesText stopped r) (settles_grow stopped r) t u (t', does, is)
  goes_follows t u (t', merges_so j text other r there does, is) =
      grown_follows (MergesText other r) (λ x new m. merges_grow x other m.0 new m.1) t u (t', does, is)
  goes_follows t u (t', merges_short j text other r there does, is) =
      grown_follows (MergesTextShort other r) (λ x new m. merges_short_grow x other m.0 new m.1) t u (t', does, is)
  goes_follows t u (t', empties same, is) = emptied_follows none t u (t', same, is)
  goes_follows t u (t', begins ops spelled does, is) = begun_follows ops t u (t', does, is)

-- each text of a desk follows the one of its number, where there was one there is one, and there are as many
abbrev pub SiteFollows : SiteTexts → SiteTexts → Type 0
SiteFollows d d' =
    ((n : ℕ) (u : TextState) → IsTextOf d' n u → (t : TextState) × IsTextOf d n t × Follows t u)
    × ((n : ℕ) (t : TextState) → IsTextOf d n t → (u : TextState) × IsTextOf d' n u)
    × (length d'.texts ≡ length d.texts)

-- so it is with each desk of a run
abbrev pub StateFollows : State → State → Type 0
StateFollows s new = (i : ℕ) (d' : SiteTexts) → slice_get new.desks i ≡ Some d'
    → (d : SiteTexts) × (slice_get s.desks i ≡ Some d) × SiteFollows d d'

desk_same : (d : SiteTexts) → SiteFollows d d
desk_same d = (λ n u there. (u, there, same_follows u), λ n t there. (t, there), refl)

state_same : (s new : State) → new.desks ≡ s.desks → StateFollows s new
state_same s new same i d at = (d, ap (λ (ds : List SiteTexts). slice_get ds i) (sym same) ∙ at, desk_same d)

site_follows : (Does' : TextState → TextState → Type 0) → ((t u : TextState) → Does' t u → Follows t u)
    → (d : SiteTexts) (text : ℕ) (d' : SiteTexts) → InText Does' d text d' → SiteFollows d d'
site_follows Does' follow d text d' (t, u, at, does, is) = (
  λ n v there.
      let (x, at_x, how) = set_old d.texts (text - 1) (n - 1) u v (subst (λ (y : SiteTexts). IsTextOf y n v) is there) in
      elim how [
        | inl same ↦ (x, at_x, subst (Follows x) (sym same) (same_follows x))
        | inr set ↦ (
          t,
          subst (λ (k : ℕ). slice_get d.texts k ≡ Some t) (sym set.1) at,
          subst (Follows t) (sym set.0) (follow t u does),
        )
      ],
  λ n v there.
      let (z, here) = set_still d.texts (text - 1) (n - 1) v u there in
      (z, subst (λ (y : SiteTexts). IsTextOf y n z) (sym is) here),
  ap (λ (y : SiteTexts). length y.texts) is ∙ length-set d.texts (text - 1) u,
)

-- what a text does that lets it follow lets the run's texts follow
state_follows : (Does' : TextState → TextState → Type 0) → ((t u : TextState) → Does' t u → Follows t u)
    → (s new : State) (i text : ℕ) (d d' : SiteTexts) → slice_get s.desks i ≡ Some d → InText Does' d text d'
    → new.desks ≡ slice_set s.desks i d' → StateFollows s new
state_follows Does' follow s new i text d d' at does is j e there =
    let (x, at_x, how) = set_old s.desks i j d' e (subst (λ (ds : List SiteTexts). slice_get ds j ≡ Some e) is there) in
    elim how [
      | inl same ↦ (x, at_x, subst (SiteFollows x) (sym same) (desk_same x))
      | inr set ↦ (
        d,
        subst (λ (k : ℕ). slice_get s.desks k ≡ Some d) (sym set.1) at,
        subst (SiteFollows d) (sym set.0) (site_follows Does' follow d text d' does),
      )
    ]

-- so does each event
pub texts_go : OwnEditsArePlain → AreIdentified [] → (s new : State) → TextsGo s new → StateFollows s new
texts_go plain none s new (as_they_are same) = state_same s new same
texts_go plain none s new (by_text i text d d' at does is) =
    state_follows (Tells (TextGoes s)) (goes_follows plain none s) s new i text d d' at does is

-- the texts that follow are what their operations define
pub texts_follow : (s new : State) → StateFollows s new → AreTexts s → HaveTold s → AreTexts new
texts_follow s new follow are told i n u (d', at, there) =
    let (d, at_d, desk) = follow i d' at in
    let (t, there_t, goes) = desk.0 n u there in
    (goes (are i n t (d, at_d, there_t)) (told i n t (d, at_d, there_t))).0

-- and have told their changes
pub told_follow : (s new : State) → StateFollows s new → AreTexts s → HaveTold s → HaveTold new
told_follow s new follow are told i n u (d', at, there) =
    let (d, at_d, desk) = follow i d' at in
    let (t, there_t, goes) = desk.0 n u there in
    (goes (are i n t (d, at_d, there_t)) (told i n t (d, at_d, there_t))).1
