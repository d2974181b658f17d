-- From a text to a desk.
use Rattle.std.proofs.Common.{◌≡◌, ℕ, ◌-◌, List, Result, refl, sym, ap, subst, ◌∙◌}
use Rattle.std.specs.Prelude.{slice_set}
use Rattle.std.proofs.lemmas.List.{set-get_or}
use Rattle.std.proofs.lemmas.Option.{get_or_from_slice_get, same_Some}
use Rattle.texts.specs.TextState.{TextState}
use Rattle.texts.specs.declared.edit_refusal.EditRefusal.{EditRefusal}
use Rattle.machine.specs.SiteTexts.{SiteTexts, IsTextOf, with_text}
use Rattle.machine.specs.OnTexts.{CopiesSite}

-- what was read is put back
same_texts : (d : SiteTexts) (text : ℕ) (t t' : TextState) → IsTextOf d text t → t' ≡ t
    → slice_set d.texts (text - 1) t' ≡ d.texts
same_texts d text t t' at same =
    let read = get_or_from_slice_get d.texts (text - 1) t t at in
    ap (slice_set d.texts (text - 1)) (same ∙ sym read) ∙ set-get_or d.texts (text - 1) t

-- a desk with the text that it has is itself
pub with_text_left : (d : SiteTexts) (text : ℕ) (t : TextState) → IsTextOf d text t → with_text d text t ≡ d
with_text_left d text t at = rw (same_texts d text t t at refl) refl

-- a number has one text
pub same_text : (d : SiteTexts) (text : ℕ) (t u : TextState) → IsTextOf d text t → IsTextOf d text u → t ≡ u
same_text d text t u at at' = same_Some t u (sym at ∙ at')

-- a copy that leaves its text leaves the desk as it was
pub desk_left : (d : SiteTexts) (other : ℕ) (u : TextState) (text beg end pos : ℕ) (result : Result ℕ EditRefusal)
    (before after : List (List ℕ)) → IsTextOf d other u
    → CopiesSite d text beg end other pos result (with_text d other u) before after
    → CopiesSite d text beg end other pos result d before after
desk_left d other u text beg end pos result before after at copies =
    subst (λ (new : SiteTexts). CopiesSite d text beg end other pos result new before after) (with_text_left d other u at) copies
