-- What the machine says of a scrolling.
use Rattle.std.proofs.Common.{◌≡◌, ℕ, List, [], ◌∷◌, map, length, Bool, true, false, cond, eqb, refl, sym, ap, ◌∙◌, subst, inl, inr, arith, Option, Some, None, Ok, Err}
use Rattle.std.specs.Prelude.{◌==◌, if◌then◌else◌, option_map}
use Rattle.std.specs.Option.{option_and_then, option_map_or}
use Rattle.looks.specs.declared.refusal.Refusal.TheVariants.{NoViewer}
use Rattle.viewers.specs.Viewers.{content_of, with_content, with_entry}
use Rattle.texts.specs.TextState.{TextState}
use Rattle.machine.specs.SiteTexts.{SiteTexts, IsTextOf}
use Rattle.machine.specs.Windows.{Arranged, Window, line_anchor, scrolled_in, shown_by, text_of, window_of as shown_window}
use Rattle.text_frames.specs.Frames.{IsDrawn}
use Rattle.desk_windows.specs.Windows.{ShowTexts, ShowsText, WindowSeen, WindowsSeen, screened, seen_window, windows_of}
use Rattle.desk_windows.proofs.Entries.{content_with}
use Rattle.desk_windows.proofs.Fitted.{set_rows, set_shown}

pub shown_is : (contents : List (ℕ × WindowSeen)) (v : ℕ) → shown_by v (windows_of contents) ≡ option_map seen_window (content_of contents v)
shown_is [] v = refl
shown_is (entry ∷ rest) v = by_test (eqb entry.0 v) (shown_is rest v)
  where
    by_test : (b : Bool) → shown_by v (windows_of rest) ≡ option_map seen_window (content_of rest v)
        → cond b (Some (seen_window entry.1)) (shown_by v (windows_of rest)) ≡ option_map seen_window (cond b (Some entry.1) (content_of rest v))
    by_test true more = refl
    by_test false more = more

windows_set : (contents : List (ℕ × WindowSeen)) (v : ℕ) (c : WindowSeen)
    → windows_of (with_entry contents v c) ≡ map (λ entry. if entry.0 == v then (v, seen_window c) else entry) (windows_of contents)
windows_set [] v c = refl
windows_set (entry ∷ rest) v c = by_test (eqb entry.0 v) (windows_set rest v c)
  where
    by_test : (b : Bool) → windows_of (with_entry rest v c) ≡ map (λ entry. if entry.0 == v then (v, seen_window c) else entry) (windows_of rest)
        → windows_of (cond b (v, c) entry ∷ with_entry rest v c)
        ≡ cond b (v, seen_window c) (entry.0, seen_window entry.1) ∷ map (λ entry. if entry.0 == v then (v, seen_window c) else entry) (windows_of rest)
    by_test true more = ap (λ l. (v, seen_window c) ∷ l) more
    by_test false more = ap (λ l. (entry.0, seen_window entry.1) ∷ l) more

module _ (d : SiteTexts) (w : WindowsSeen) (v line : ℕ) where
  abbrev outcome : Option (Window × TextState) → Arranged
  outcome o = option_map_or (λ shown. Ok (
    record (screened w) {
      windows = map (λ entry.
          if entry.0 == v then (v, record { text = shown.0.text; anchor = line_anchor shown.1 line }) else entry) (windows_of w.viewers.contents);
    },
    None,
  )) o (Err NoViewer)

  pub shown_nothing : content_of w.viewers.contents v ≡ None → shown_window d (screened w) v ≡ None
  shown_nothing none =
      ap (option_and_then (λ window. option_map (λ t. (window, t)) (text_of d window.text)))
      (shown_is w.viewers.contents v ∙ ap (option_map seen_window) none)

  pub scrolled_not : content_of w.viewers.contents v ≡ None → scrolled_in d (screened w) v line ≡ Err NoViewer
  scrolled_not none = ap outcome (shown_nothing none)

  module _ (x c : WindowSeen) (t : TextState) where
    pub shown_text : content_of w.viewers.contents v ≡ Some x → IsTextOf d x.text t
        → shown_window d (screened w) v ≡ Some (seen_window x, t)
    shown_text is at =
        ap (option_and_then (λ window. option_map (λ t. (window, t)) (text_of d window.text)))
        (shown_is w.viewers.contents v ∙ ap (option_map seen_window) is)
        ∙ ap (option_map (λ (t : TextState). (seen_window x, t))) at

    pub scrolled_is : content_of w.viewers.contents v ≡ Some x → IsTextOf d x.text t → c.text ≡ x.text
        → c.frame.anchor ≡ line_anchor t line
        → scrolled_in d (screened w) v line ≡ Ok (screened (record w { viewers = with_content w.viewers v c }), None)
    scrolled_is is at text anchor =
        let set : map (λ entry. if entry.0 == v then (v, record { text = x.text; anchor = line_anchor t line }) else entry) (windows_of w.viewers.contents)
        ≡ windows_of (with_entry w.viewers.contents v c) =
        (λ j. map (λ entry. if entry.0 == v then (v, record { text = sym text j; anchor = sym anchor j }) else entry) (windows_of w.viewers.contents))
        ∙ sym (windows_set w.viewers.contents v c) in
        ap outcome (shown_text is at) ∙ (λ i. Ok (record (screened w) { windows = set i }, None))

    pub scrolled_shows : ShowTexts d w.viewers → content_of w.viewers.contents v ≡ Some x → IsTextOf d x.text t → c.text ≡ x.text
        → c.frame.width ≡ x.frame.width → length c.frame.rows ≡ length x.frame.rows → IsDrawn c.frame t
        → ShowTexts d (with_content w.viewers v c)
    scrolled_shows shows is at text width rows drawn =
        let old : ShowsText d w.viewers.tracks v x = shows.texts v x is in
        record {
          texts = set_shown w.viewers v x c d shows.texts (record {
            on_desk = (let low = old.on_desk in omega (arith, text, low));
            text = t;
            at = subst (λ n. IsTextOf d n t) (sym text) at;
            drawn = drawn;
            in_user = λ h. width ∙ old.in_user h;
            in_system = λ h. width ∙ old.in_system h;
          });
          high = λ u. set_rows w.viewers v x c (λ y b e at.
              elim (content_with w.viewers.contents v v c y e) [
                | inl there ↦ (
                    let long = ap (λ (z : WindowSeen). length z.frame.rows) there.1 in
                    let high = shows.high v x b is at in omega (arith, long, rows, high))
                | inr kept ↦ absurd (kept.0 refl)
              ]) u (shows.high u);
        }
