-- What contracts see of a desk.
use Rattle.std.specs.Prelude.{◌≡◌, ℕ, ◌-◌, List, map, slice_get, slice_set, Some}
use Rattle.std.specs.List.{range_with_len}
use Rattle.machine.specs.declared.TheConstants.{MAX_TEXT}
use Rattle.texts.specs.TextState.{TextState, empty_text}

-- one site's texts: text t stands at index t - 1
pub record SiteTexts : Type 0 where
  pub site : ℕ
  pub texts : List TextState

-- as a site begins
abbrev pub fresh_texts : ℕ → SiteTexts
fresh_texts site =
    record { site = site; texts = map (λ number. empty_text number site) (range_with_len 1 MAX_TEXT) }

-- t is the desk's text of this number
abbrev pub IsTextOf : SiteTexts → ℕ → TextState → Type 0
IsTextOf d text t = slice_get d.texts (text - 1) ≡ Some t

-- the desk with this text of this number, and all others as they are
abbrev pub with_text : SiteTexts → ℕ → TextState → SiteTexts
with_text d text t = record d { texts = slice_set d.texts (text - 1) t }

-- The lift from a text to a desk: the text of this number does so, and all other texts stay.
abbrev pub InText : (TextState → TextState → Type 0) → SiteTexts → ℕ → SiteTexts → Type 0
InText Does d text new =
    (t t' : TextState) × IsTextOf d text t × Does t t'
    × (new ≡ with_text d text t')
