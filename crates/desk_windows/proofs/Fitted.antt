-- A window that gets the rows of its viewer still shows its text.
use Rattle.std.proofs.Common.{◌≡◌, ℕ, ◌-◌, ◌≤◌, length, refl, sym, ap, ◌∙◌, subst, inl, inr, arith, Some}
use Rattle.std.proofs.lemmas.Option.{same_Some}
use Rattle.viewers.specs.declared.screen.Area.{Area}
use Rattle.viewers.specs.Screen.{area_of}
use Rattle.viewers.specs.Viewers.{AreViewers, ViewersSeen, content_of, with_content}
use Rattle.texts.specs.Text.{IsAnchor}
use Rattle.texts.specs.TextState.{TextState}
use Rattle.machine.specs.SiteTexts.{SiteTexts, IsTextOf}
use Rattle.text_frames.specs.Frames.{IsDrawn}
use Rattle.desk_windows.specs.Windows.{AllShow, AreSameWindows, HasRows, ShowsText, WindowSeen, seen_window}
use Rattle.desk_windows.proofs.Entries.{content_with, windows_with}

module _ (s : ViewersSeen WindowSeen) (v : ℕ) (w c : WindowSeen) where
  pub fit_same : AreViewers s → content_of s.contents v ≡ Some w → c.text ≡ w.text → c.frame.anchor ≡ w.frame.anchor
      → AreSameWindows s (with_content s v c)
  fit_same viewers is text anchor =
      let same : seen_window c ≡ seen_window w = λ i. record { text = text i; anchor = anchor i } in
      record {
        tracks = refl;
        next = refl;
        windows = windows_with 1 s.next v s.contents w c viewers.rising is same;
      }

  pub set_shown : (d : SiteTexts) → AllShow d s → ShowsText d s.tracks v c → AllShow d (with_content s v c)
  set_shown d all shows u x e =
      elim (content_with s.contents v u c x e) [
        | inl there ↦ subst (λ (n : ℕ). ShowsText d s.tracks n x) (sym there.0)
            (subst (λ (y : WindowSeen). ShowsText d s.tracks v y) (sym there.1) shows)
        | inr kept ↦ all u x kept.1
      ]

  pub fit_shown : (d : SiteTexts) → AllShow d s → content_of s.contents v ≡ Some w → c.text ≡ w.text
      → c.frame.width ≡ w.frame.width
      → ((t : TextState) → IsTextOf d w.text t → IsAnchor t.operations w.frame.anchor → IsDrawn c.frame t)
      → AllShow d (with_content s v c)
  fit_shown d all is text width draws =
      let old : ShowsText d s.tracks v w = all v w is in
      set_shown d all (record {
        on_desk = (let low = old.on_desk in omega (arith, text, low));
        text = old.text;
        at = subst (λ n. IsTextOf d n old.text) (sym text) old.at;
        drawn = draws old.text old.at old.drawn.anchored;
        in_user = λ h. width ∙ old.in_user h;
        in_system = λ h. width ∙ old.in_system h;
      })

  pub fit_rows : (a : Area) → area_of s.tracks v ≡ Some a → 1 ≤ a.height → length c.frame.rows ≡ a.height - 1
      → HasRows (with_content s v c) v
  fit_rows a at high rows x b e is =
      let height : a.height ≡ b.height = ap (λ (y : Area). y.height) (same_Some a b (sym at ∙ is)) in
      elim (content_with s.contents v v c x e) [
        | inl there ↦ (let long = ap (λ (y : WindowSeen). length y.frame.rows) there.1 in omega (arith, long, rows, high, height))
        | inr kept ↦ absurd (kept.0 refl)
      ]

  pub set_rows : HasRows (with_content s v c) v → (u : ℕ) → HasRows s u → HasRows (with_content s v c) u
  set_rows fitted u old x b e is =
      elim (content_with s.contents v u c x e) [
        | inl there ↦ subst (λ (n : ℕ). HasRows (with_content s v c) n) (sym there.0) fitted x b e is
        | inr kept ↦ old x b kept.1 is
      ]
