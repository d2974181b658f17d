-- What a run comes to: texts that their operations define and that have told their changes, and screens that
-- point at their characters.
use Rattle.std.proofs.Common.{◌≡◌, ℕ, zero, suc, ◌-◌, List, [], Some, refl, sym, subst, ◌∙◌, inl, inr, length}
use Rattle.std.specs.Prelude.{replicate, slice_get, slice_set}
use Rattle.std.proofs.lemmas.Option.{none-some, same_Some}
use Rattle.char_files.specs.declared.name.Anchor.{Anchor}
use Rattle.char_files.specs.declared.name.Anchor.TheVariants.{Root, At}
use Rattle.operations.specs.Operation.{Operation}
use Rattle.shelf.specs.Files.{Files}
use Rattle.tree_order.specs.Good.{Good}
use Rattle.tree_order.specs.Sequential.{OneWriterGoesAfterCauses}
use Rattle.tree_order.specs.Tree.{IsChar}
use Rattle.tree_order.proofs.SameSet.{char}
use Rattle.set_laws.specs.Sets.{AreIdentified, IsPartOf}
use Rattle.texts.specs.Laws.{OwnEditsArePlain}
use Rattle.texts.specs.Text.{IsAnchor, IsText}
use Rattle.texts.specs.TextState.{TextState, noting}
use Rattle.machine.specs.SiteTexts.{SiteTexts, IsTextOf}
use Rattle.machine.specs.State.{IsDeskAt, State, new_state}
use Rattle.machine.specs.Windows.{Caret, Screened, Window, blank_screen, window_of}
use Rattle.machine.specs.declared.TheConstants.{MAX_TEXT}
use Rattle.machine_laws.proofs.Arranging.{LeavesChars, anchor_stands, arranged_leaves, caret_set, shows_so}
use Rattle.machine_laws.proofs.Following.{SiteFollows, StateFollows, texts_follow, texts_go, told_follow}
use Rattle.machine_laws.proofs.Going.{PlaceGoes, ScreensGo, by_arranging, by_caret, no_screen, replies_go}
use Rattle.machine_laws.proofs.OneOfTexts.{one_element}
use Rattle.machine_laws.proofs.OneReply.{shown_parts}
use Rattle.machine_laws.proofs.Reaching.{new_are_texts, new_desks, new_texts, set_old}
use Rattle.machine_laws.specs.Laws.{HaveTold, IsSoundState, ShowsTextOf, StandsByChars, WhatARunReachesIsSound, begins}
use Rattle.machine_laws.specs.Laws.{goes_on, others_write}

-- screens of texts that follow

anchor_more : (a : Anchor) (ops ops' : List Operation) → IsPartOf ops ops' → IsAnchor ops a → IsAnchor ops' a
anchor_more Root ops ops' part is = tt
anchor_more (At c) ops ops' part is = char ops ops' part c is

-- a desk's texts are what their operations define, and have told their changes
abbrev HasSoundTexts : SiteTexts → Type 0
HasSoundTexts d = (n : ℕ) (t : TextState) → IsTextOf d n t → IsText t × (t.asked ≡ noting (length t.operations))

module _ (d d' : SiteTexts) (w : Screened) (sound : HasSoundTexts d) (follow : SiteFollows d d') where
  -- a viewer shows what became of its text
  shows_followed : (v : ℕ) (Has : List Operation → Type 0)
      → ((ops ops' : List Operation) → IsPartOf ops ops' → Has ops → Has ops') → ShowsTextOf d w v Has → ShowsTextOf d' w v Has
  shows_followed v Has more (shown, shows, is) =
      let (at, there) = shown_parts d w v shown shows in
      let (u, there_u) = follow.1 shown.0.text shown.1 there in
      let (t, there_t, goes) = follow.0 shown.0.text u there_u in
      let same : shown.1 ≡ t = one_element (slice_get d.texts (shown.0.text - 1)) shown.1 t there there_t in
      let (is_t, told) = sound shown.0.text t there_t in (
        (shown.0, u),
        shows_so d' w v shown.0 u at there_u,
        more t.operations u.operations (goes is_t told).2 (subst (λ (x : TextState). Has x.operations) same is),
      )

  -- so all stands by characters still
  stands_followed : StandsByChars d w → StandsByChars d' w
  stands_followed has = record {
    caret = λ c is. shows_followed c.viewer (λ ops. IsAnchor ops c.anchor) (anchor_more c.anchor) (has.caret c is);
    selection = λ x is. shows_followed x.viewer (λ ops. IsChar ops x.first × IsChar ops x.last)
        (λ ops ops' part both. (char ops ops' part x.first both.0, char ops ops' part x.last both.1))
        (has.selection x is);
    windows = λ v shown shows.
        let (at, there) = shown_parts d' w v shown shows in
        let (t, there_t, goes) = follow.0 shown.0.text shown.1 there in
        let (is_t, told) = sound shown.0.text t there_t in
        anchor_more shown.0.anchor t.operations shown.1.operations (goes is_t told).2
        (has.windows v (shown.0, t) (shows_so d w v shown.0 t at there_t));
  }

sound_at : (s : State) (i : ℕ) (d : SiteTexts) → IsSoundState s → slice_get s.desks i ≡ Some d → HasSoundTexts d
sound_at s i d sound at n t there = (sound.texts i n t (d, at, there), sound.told i n t (d, at, there))

-- a desk has as many texts as before
desks_followed : (s new : State) → IsSoundState s → StateFollows s new → (i : ℕ) (d : SiteTexts)
    → slice_get new.desks i ≡ Some d → length d.texts ≡ MAX_TEXT
desks_followed s new sound follow i d' at' =
    let (d, at, goes) = follow i d' at' in
    goes.2 ∙ sound.desks i d at

-- where no screen changes
sound_texts : (s new : State) → IsSoundState s → StateFollows s new → new.screens ≡ s.screens → IsSoundState new
sound_texts s new sound follow same = record {
  desks = desks_followed s new sound follow;
  texts = texts_follow s new follow sound.texts sound.told;
  told = told_follow s new follow sound.texts sound.told;
  screens = λ i d' w at.
      let (d, at_d, goes) = follow i d' at.texts in
      stands_followed d d' w (sound_at s i d sound at_d) goes (sound.screens i d w (record {
        texts = at_d;
        screen = subst (λ (ws : List Screened). slice_get ws i ≡ Some w) same at.screen;
      }));
}

-- where one does
sound_screen : (s new : State) (i : ℕ) (d : SiteTexts) (w w' : Screened) → IsSoundState s → StateFollows s new
    → new.screens ≡ slice_set s.screens i w' → IsDeskAt s i d w
    → ((d' : SiteTexts) → slice_get new.desks i ≡ Some d' → SiteFollows d d' → StandsByChars d' w') → IsSoundState new
sound_screen s new i d w w' sound follow same at has = record {
  desks = desks_followed s new sound follow;
  texts = texts_follow s new follow sound.texts sound.told;
  told = told_follow s new follow sound.texts sound.told;
  screens = λ j e' v at'.
      let (e, at_e, goes) = follow j e' at'.texts in
      let (x, at_x, how) = set_old s.screens i j w' v
      (subst (λ (ws : List Screened). slice_get ws j ≡ Some v) same at'.screen) in
      elim how [
        | inl old ↦ stands_followed e e' v (sound_at s j e sound at_e) goes
            (subst (StandsByChars e) (sym old) (sound.screens j e x (record { texts = at_e; screen = at_x })))
        | inr set ↦
            let ds : e ≡ d = one_element (slice_get s.desks j) e d at_e
            (subst (λ (k : ℕ). slice_get s.desks k ≡ Some d) (sym set.1) at.texts) in
            subst (StandsByChars e') (sym set.0)
            (has e' (subst (λ (k : ℕ). slice_get new.desks k ≡ Some e') set.1 at'.texts)
            (subst (λ (y : SiteTexts). SiteFollows y e') ds goes))
      ];
}

-- a place of a text goes to one that is a character of it, or its beginning
place_stands : (t : TextState) (old new : Anchor) → IsText t → PlaceGoes t old new → IsAnchor t.operations old
    → IsAnchor t.operations new
place_stands t old new is (inl same) stands = subst (IsAnchor t.operations) (sym same) stands
place_stands t old new is (inr (n, after)) stands = subst (IsAnchor t.operations) (sym after) (anchor_stands t is n)

-- and so does the caret in the text that its viewer shows
caret_stands : (d : SiteTexts) (w : Screened) (c : Caret) (window : Window) (t : TextState) (anchor : Anchor) → IsText t
    → w.caret ≡ Some c → window_of d w c.viewer ≡ Some (window, t) → PlaceGoes t c.anchor anchor → StandsByChars d w
    → StandsByChars d (record w { caret = Some (record c { anchor = anchor }) })
caret_stands d w c window t anchor is is_c shows goes has =
    let (x, shows_x, stood) = has.caret c is_c in
    let old : IsAnchor t.operations c.anchor = subst (λ (y : Window × TextState). IsAnchor y.1.operations c.anchor)
    (one_element (window_of d w c.viewer) x (window, t) shows_x shows) stood in
    caret_set d w (record c { anchor = anchor }) ((window, t), shows, place_stands t c.anchor anchor is goes old) has

screens_go : (s new : State) → IsSoundState s → StateFollows s new → ScreensGo s new → IsSoundState new
screens_go s new sound follow (no_screen same) = sound_texts s new sound follow same
screens_go s new sound follow (by_arranging i d w a out at is texts same) =
    let leaves : StandsByChars d out.0 = subst (LeavesChars d) is
    (arranged_leaves d w (λ n t there. sound.texts i n t (d, at.texts, there)) (sound.screens i d w at) a) in
    sound_screen s new i d w out.0 sound follow same at (λ d' at' goes.
    subst (λ (y : SiteTexts). StandsByChars y out.0) (one_element (slice_get s.desks i) d d' at.texts
    (subst (λ (ds : List SiteTexts). slice_get ds i ≡ Some d') texts at')) leaves)
screens_go s new sound follow (by_caret i d w c shown t anchor at is_c shows there moves same) =
    let is : IsText t = texts_follow s new follow sound.texts sound.told i shown.0.text t there in
    sound_screen s new i d w _ sound follow same at (λ d' at' goes.
    let (e, at_e, of_e) = there in
    let here : IsTextOf d' shown.0.text t = subst (λ (y : SiteTexts). IsTextOf y shown.0.text t)
    (one_element (slice_get new.desks i) e d' at_e at') of_e in
    caret_stands d' w c shown.0 t anchor is is_c
    (shows_so d' w c.viewer shown.0 t (shown_parts d w c.viewer shown shows).0 here) moves
    (stands_followed d d' w (sound_at s i d sound at.texts) goes (sound.screens i d w at)))

-- a run begins with blank screens
blank_at : (count width height i : ℕ) (w : Screened) → slice_get (replicate count (blank_screen width height)) i ≡ Some w
    → blank_screen width height ≡ w
blank_at zero width height i w at = absurd (none-some w at)
blank_at (suc count) width height zero w at = same_Some (blank_screen width height) w at
blank_at (suc count) width height (suc i) w at = blank_at count width height i w at

blank_stands : (d : SiteTexts) (width height : ℕ) → StandsByChars d (blank_screen width height)
blank_stands d width height = record {
  caret = λ c is. absurd (none-some c is);
  selection = λ x is. absurd (none-some x is);
  windows = λ v shown shows. absurd (none-some shown shows);
}

-- and with texts that have no changes
new_told : (first count width height : ℕ) (files : Files) → HaveTold (new_state first count width height files)
new_told first count width height files i text t there =
    let (number, site, is) = new_texts first count width height files i text t there in
    subst (λ (x : TextState). x.asked ≡ noting (length x.operations)) is refl

-- what is sound doesn't hang on the files
over_other_files : (s : State) (now : Files) → IsSoundState s → IsSoundState (record s { files = now })
over_other_files s now sound = record {
  desks = sound.desks;
  texts = sound.texts;
  told = sound.told;
  screens = λ i d w at. sound.screens i d w (record { texts = at.texts; screen = at.screen });
}

module _ (plain : OwnEditsArePlain) (good : Good []) (none : AreIdentified []) (order : OneWriterGoesAfterCauses) where
  new_sound : (first count width height : ℕ) (files : Files) → IsSoundState (new_state first count width height files)
  new_sound first count width height files = record {
    desks = new_desks first count width height files;
    texts = new_are_texts good none order first count width height files;
    told = new_told first count width height files;
    screens = λ i d w at. subst (StandsByChars d) (blank_at count width height i w at.screen) (blank_stands d width height);
  }

  -- so whatever a run does all is sound
  pub reached_sound : WhatARunReachesIsSound
  reached_sound first count width height files s begins = new_sound first count width height files
  reached_sound first count width height files s (goes_on {s = before} e part r new reached replies) =
      let sound = reached_sound first count width height files before reached in
      let (texts, screens, sends) = replies_go before e part r new replies in
      screens_go before new sound (texts_go plain none before new texts) screens
  reached_sound first count width height files s (others_write {s = before} now reached) =
      over_other_files before now (reached_sound first count width height files before reached)
