-- When a call comes to what the machine says.
use Rattle.std.proofs.Common.{◌≡◌, ℕ, sym, ap, ◌∙◌, Option, Result, Ok, Err}
use Rattle.looks.specs.declared.refusal.Refusal.{Refusal}
use Rattle.viewers.specs.Viewers.{ViewersSeen}
use Rattle.machine.specs.Windows.{Arranged, Caret, Screened, Selected}
use Rattle.desk_windows.specs.Windows.{AreSameWindows, ComesTo, WindowSeen, WindowsSeen, screened}

module _ {A E : Type 0} where
  same_ok : (a b : A) → ◌≡◌ {A = Result A E} (Ok a) (Ok b) → a ≡ b
  same_ok a b e = cc

  same_err : (a b : E) → ◌≡◌ {A = Result A E} (Err a) (Err b) → a ≡ b
  same_err a b e = cc

  no_ok_err : (a : A) (b : E) → ◌≡◌ {A = Result A E} (Ok a) (Err b) → ⊥
  no_ok_err a b e = cc

module _ {R : Type 0} (out : Arranged) (old new : WindowsSeen) (told : R → Option ℕ) (result : Result R Refusal) where
  pub comes_done : (r : R) → result ≡ Ok r → out ≡ Ok (screened new, told r) → ComesTo out old told result new
  comes_done r is at = record {
    done = λ s v here.
        let pair = same_ok {E = Refusal} (screened new, told r) (s, v) (sym at ∙ here) in
        (r, is, ap (λ (p : Screened × Option ℕ). p.1) pair, ap (λ (p : Screened × Option ℕ). p.0) pair);
    refused = λ why here. absurd (no_ok_err (screened new, told r) why (sym at ∙ here));
  }

  pub comes_refused : (why : Refusal) → result ≡ Err why → new ≡ old → out ≡ Err why → ComesTo out old told result new
  comes_refused why is same at = record {
    done = λ s v here. absurd (no_ok_err (s, v) why (sym here ∙ at));
    refused = λ other here. (is ∙ ap Err (same_err {A = Screened × Option ℕ} why other (sym at ∙ here)), same);
  }

-- windows that are the same leave the screen the same
pub screened_same : (a b : ViewersSeen WindowSeen) (caret : Option Caret) (selected : Option Selected) → AreSameWindows a b
    → screened (record { viewers = b; caret = caret; selected = selected })
    ≡ screened (record { viewers = a; caret = caret; selected = selected })
screened_same a b caret selected same = λ i. record {
  tracks = same.tracks i;
  next = same.next i;
  windows = same.windows i;
  caret = caret;
  selected = selected;
}
