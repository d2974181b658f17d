-- Windows that were told of the changes of a text show it as it is now.
use Rattle.std.proofs.Common.{◌≡◌, ℕ, suc, ◌-◌, ◌<◌, List, [], ◌∷◌, ◌++◌, map, drop, length, take, Bool, true, false, cond, eqb, eqb-true, eq-eqb, true≢false, refl, sym, ap, ◌∙◌, subst, arith, Some, slice_index_or}
use Rattle.std.specs.Prelude.{slice_get}
use Rattle.std.specs.List.{refill, zip}
use Rattle.std.proofs.lemmas.List.{length-map}
use Rattle.std.proofs.lemmas.Option.{same_Some, slice_get_within}
use Rattle.rank_index.proofs.Homes.{get-set_other, get-set_same}
use Rattle.list_changes.specs.Changes.{AreAlike}
use Rattle.list_changes.specs.declared.change.Change.{Change}
use Rattle.viewers.specs.Screen.{ScreenSeen}
use Rattle.viewers.specs.Viewers.{ViewersSeen, content_of, numbers, with_contents}
use Rattle.texts.specs.TextState.{TextState}
use Rattle.machine.specs.SiteTexts.{SiteTexts, InText, IsTextOf, with_text}
use Rattle.text_frames.specs.Frames.{IsDrawn}
use Rattle.desk_windows.specs.Windows.{AreToldOnce, FollowsChanges, IsWindowTold, ShowTexts, ShowsText, WindowSeen, windows_of}

take_front : {X : Type 0} (ws xs : List X) → take (length ws) (ws ++ xs) ≡ ws
take_front [] xs = refl
take_front (w ∷ ws) xs = ap (λ l. w ∷ l) (take_front ws xs)

module _ {C : Type 0} (R : C → C → Type 0) where
  -- each is so in its place, told by indices and by recursion
  abbrev EachIs : List C → List C → Type 0
  EachIs cs ws = (k : ℕ) (d : C) → k < length cs → R (slice_index_or cs k d) (slice_index_or ws k d)

  alike_by_index : (cs ws : List C) → length ws ≡ length cs → EachIs cs ws → AreAlike R cs ws
  alike_by_index [] [] long each = tt
  alike_by_index [] (w ∷ ws) long _ = absurd (omega (arith, long))
  alike_by_index (c ∷ cs) [] long _ = absurd (omega (arith, long))
  alike_by_index (c ∷ cs) (w ∷ ws) long each =
      (each 0 w (omega arith), alike_by_index cs ws (omega (arith, long)) (λ k d lt. each (suc k) d (omega (arith, lt))))

  -- what a viewer shows then is so with what it showed
  shown_alike : (contents : List (ℕ × C)) (ws : List C) (u : ℕ) (x : C) → AreAlike R (map (λ entry. entry.1) contents) ws
      → content_of (zip (numbers contents) ws) u ≡ Some x → (w : C) × (content_of contents u ≡ Some w) × R w x
  shown_alike [] ws u x each e = cc
  shown_alike (entry ∷ rest) [] u x each e = absurd each
  shown_alike (entry ∷ rest) (w ∷ ws) u x each e = by_test (shown_alike rest ws u x each.1) (eqb entry.0 u) e
    where
      by_test : (content_of (zip (numbers rest) ws) u ≡ Some x → (w : C) × (content_of rest u ≡ Some w) × R w x) → (b : Bool)
          → cond b (Some w) (content_of (zip (numbers rest) ws) u) ≡ Some x
          → (w : C) × (cond b (Some entry.1) (content_of rest u) ≡ Some w) × R w x
      by_test more true e = (entry.1, refl, subst (λ (y : C). R entry.1 y) (same_Some w x e) each.0)
      by_test more false e = more e

told_windows : (number : ℕ) (changes : List Change) (now : TextState) (contents : List (ℕ × WindowSeen)) (ws : List WindowSeen)
    → AreAlike (IsWindowTold number changes now) (map (λ entry. entry.1) contents) ws
    → windows_of (zip (numbers contents) ws) ≡ windows_of contents
told_windows number changes now [] [] each = refl
told_windows number changes now [] (w ∷ ws) each = absurd each
told_windows number changes now (entry ∷ rest) [] each = absurd each
told_windows number changes now (entry ∷ rest) (w ∷ ws) each =
    let first : IsWindowTold number changes now entry.1 w = each.0 in
    let more = told_windows number changes now rest ws each.1 in
    λ i. (entry.0, record { text = first.text i; anchor = first.anchor i }) ∷ more i

module _ (number : ℕ) (changes : List Change) (now : TextState) where
  -- what a loop over these windows tells, told of the viewers' contents
  pub told_each : (contents : List (ℕ × WindowSeen)) (cs ws : List WindowSeen) → cs ≡ map (λ entry. entry.1) contents
      → length ws ≡ length cs
      → ((k : ℕ) (d : WindowSeen) → k < length cs → IsWindowTold number changes now (slice_index_or cs k d) (slice_index_or ws k d))
      → (length ws ≡ length contents)
      × ((k : ℕ) (d : WindowSeen) → k < length (map (λ entry. entry.1) contents)
      → IsWindowTold number changes now (slice_index_or (map (λ entry. entry.1) contents) k d) (slice_index_or ws k d))
  told_each contents cs ws same long told = (
    long ∙ (ap length same ∙ length-map contents (λ entry. entry.1)),
    subst (λ (l : List WindowSeen). (k : ℕ) (d : WindowSeen) → k < length l
        → IsWindowTold number changes now (slice_index_or l k d) (slice_index_or ws k d)) same told,
  )

  -- a text that this one was told of its changes from
  module _ (d d' : SiteTexts) (at' : IsTextOf d' number now) where
    follows_now : (t t' : TextState) → IsTextOf d number t → FollowsChanges changes t t' → d' ≡ with_text d number t'
        → FollowsChanges changes t now
    follows_now t t' at follows new =
        let there : slice_get d'.texts (number - 1) ≡ Some t' =
        ap (λ (e : SiteTexts). slice_get e.texts (number - 1)) new
        ∙ get-set_same d.texts (number - 1) t' (slice_get_within d.texts (number - 1) t at) in
        subst (λ (y : TextState). FollowsChanges changes t y) (same_Some t' now (sym there ∙ at')) follows

    told_shows : (tracks : ScreenSeen) (u : ℕ) (w x : WindowSeen) → IsWindowTold number changes now w x → ShowsText d tracks u w
        → InText (FollowsChanges changes) d number d' → ShowsText d' tracks u x
    told_shows tracks u w x told old in_text = by_test (eqb w.text number) refl
      where
        by_test : (b : Bool) → eqb w.text number ≡ b → ShowsText d' tracks u x
        by_test true is =
            let same = eqb-true w.text number is in
            let follows = follows_now in_text.0 in_text.1 in_text.2 in_text.3 in_text.4 in
            let here : old.text ≡ in_text.0 =
            same_Some old.text in_text.0 (sym old.at ∙ (ap (λ n. slice_get d.texts (n - 1)) same ∙ in_text.2)) in
            record {
              on_desk = (let low = old.on_desk in let e = told.text in omega (arith, low, e));
              text = now;
              at = ap (λ n. slice_get d'.texts (n - 1)) (told.text ∙ same) ∙ at';
              drawn = told.drawn same in_text.0 follows (subst (λ (t : TextState). IsDrawn w.frame t) here old.drawn);
              in_user = λ h. told.width ∙ old.in_user h;
              in_system = λ h. told.width ∙ old.in_system h;
            }
        by_test false is =
            let apart : w.text ≡ number → ⊥ = λ e. true≢false (sym (eq-eqb w.text number e) ∙ is) in
            let other = told.other apart in
            let stays : slice_get d'.texts (w.text - 1) ≡ Some old.text =
            ap (λ (e : SiteTexts). slice_get e.texts (w.text - 1)) in_text.4
            ∙ (get-set_other d.texts (number - 1) (w.text - 1) in_text.1 other.1 ∙ old.at) in
            subst (λ (y : WindowSeen). ShowsText d' tracks u y) (sym other.0) (record {
              on_desk = old.on_desk;
              text = old.text;
              at = stays;
              drawn = old.drawn;
              in_user = old.in_user;
              in_system = old.in_system;
            })

  module _ (s : ViewersSeen WindowSeen) (ws : List WindowSeen) (long : length ws ≡ length s.contents)
      (told : (k : ℕ) (d : WindowSeen) → k < length (map (λ entry. entry.1) s.contents)
      → IsWindowTold number changes now (slice_index_or (map (λ entry. entry.1) s.contents) k d) (slice_index_or ws k d)) where
    each_told : AreAlike (IsWindowTold number changes now) (map (λ entry. entry.1) s.contents) ws
    each_told =
        alike_by_index (IsWindowTold number changes now) (map (λ entry. entry.1) s.contents) ws
        (long ∙ sym (length-map s.contents (λ entry. entry.1))) told

    contents_are : (with_contents s ws).contents ≡ zip (numbers s.contents) ws
    contents_are =
        ap (zip (numbers s.contents))
        (subst (λ n. refill n (map (λ entry. entry.1) s.contents) ws ≡ ws) long
        (take_front ws (drop (length ws) (map (λ entry. entry.1) s.contents))))

    pub all_windows : windows_of (with_contents s ws).contents ≡ windows_of s.contents
    all_windows = ap windows_of contents_are ∙ told_windows number changes now s.contents ws each_told

    found : (u : ℕ) (x : WindowSeen) → content_of (with_contents s ws).contents u ≡ Some x
        → (w : WindowSeen) × (content_of s.contents u ≡ Some w) × IsWindowTold number changes now w x
    found u x e =
        shown_alike (IsWindowTold number changes now) s.contents ws u x each_told
        (subst (λ (l : List (ℕ × WindowSeen)). content_of l u ≡ Some x) contents_are e)

    pub told_once : AreToldOnce number changes now s (with_contents s ws)
    told_once u x e =
        let f = found u x e in
        (f.0, f.1, record { other = λ apart. (f.2.other apart).0; reads = f.2.reads })

    pub all_told : (d d' : SiteTexts) → IsTextOf d' number now → ShowTexts d s → InText (FollowsChanges changes) d number d'
        → ShowTexts d' (with_contents s ws)
    all_told d d' at' shows in_text = record {
      texts = λ u x e.
          let f = found u x e in told_shows d d' at' s.tracks u f.0 x f.2 (shows.texts u f.0 f.1) in_text;
      high = λ u x area e is.
          let f = found u x e in let rows = f.2.rows in
          let high = shows.high u f.0 area f.1 is in omega (arith, rows, high);
    }
