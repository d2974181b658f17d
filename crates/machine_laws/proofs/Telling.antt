-- What is put into its place in a list, and texts that have told their changes.
use Rattle.std.proofs.Common.{◌≡◌, ℕ, zero, suc, ◌-◌, List, [], ◌∷◌, length, Some, refl, sym, ap, subst, ◌∙◌}
use Rattle.std.specs.Prelude.{slice_get, slice_set}
use Rattle.std.proofs.lemmas.List.{set-get_or, set-set}
use Rattle.std.proofs.lemmas.Option.{get_or_from_slice_get, none-some, same_Some}
use Rattle.texts.specs.TextState.{TextState, all_told, noting, told_to}
use Rattle.machine.specs.SiteTexts.{SiteTexts, InText, IsTextOf, with_text}
use Rattle.machine.specs.State.{Tells}

-- what is put in its own place changes nothing
pub put_back : {X : Type 0} (xs : List X) (i : ℕ) (x : X) → slice_get xs i ≡ Some x → slice_set xs i x ≡ xs
put_back xs i x at = ap (slice_set xs i) (sym (get_or_from_slice_get xs i x x at)) ∙ set-get_or xs i x

-- what was put into a place that is there stands there
pub put_there : {X : Type 0} (xs : List X) (i : ℕ) (x y : X) → slice_get xs i ≡ Some x
    → slice_get (slice_set xs i y) i ≡ Some y
put_there [] i x y at = absurd (none-some x at)
put_there (z ∷ xs) zero x y at = refl
put_there (z ∷ xs) (suc i) x y at = put_there xs i x y at

-- where a text has told its changes, telling them does nothing
pub told_same : (t : TextState) → t.asked ≡ noting (length t.operations) → all_told t ≡ t
told_same t told =
    let asked : told_to (length t.operations) t.asked ≡ t.asked = ap (told_to (length t.operations)) told ∙ sym told in
    λ k. record t { asked = asked k }

-- what a text does, and what it tells then, is done by the desk that has it, as one
pub tells_in : (Goes : TextState → TextState → Type 0) (d d' new : SiteTexts) (text : ℕ) → InText Goes d text d'
    → InText (λ t u. u ≡ all_told t) d' text new → InText (Tells Goes) d text new
tells_in Goes d d' new text (t, t', at, goes, is) (u, v, at_u, is_v, is_new) =
    let here : IsTextOf d' text t' =
    subst (λ (x : SiteTexts). IsTextOf x text t') (sym is) (put_there d.texts (text - 1) t t' at) in
    let same : u ≡ t' = same_Some u t' (sym at_u ∙ here) in
    let told : v ≡ all_told t' = is_v ∙ ap all_told same in
    let desk : new ≡ with_text d text v =
    is_new ∙ ap (λ (x : SiteTexts). with_text x text v) is
    ∙ (λ k. record d { texts = set-set d.texts (text - 1) t' v k }) in
    (t, v, at, (t', goes, told), desk)
