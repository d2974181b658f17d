-- What is kept of the asking for changes once noting has ended.
use Rattle.std.proofs.Common.{◌≡◌, ℕ, List, [], ◌∷◌, ◌++◌, length, Option, Some, refl, sym, ap, subst, ◌∙◌, arith}
use Rattle.std.proofs.lemmas.List.{append-nil}
use Rattle.char_files.specs.declared.character.Char.{Char}
use Rattle.list_changes.specs.Changes.{Leads}
use Rattle.list_changes.proofs.Leading.{leads-append}
use Rattle.taken_text.specs.Noted.{SameChar, insertion_of}
use Rattle.taken_text.proofs.Noting.{insertion_leads}
use Rattle.texts.specs.Changes.{ReplacementsLead, deletion_of}
use Rattle.texts.specs.TextState.{asked_of}

-- how many operations were told is not seen then
pub same_asked : (reported : Option ℕ) (n m shown : ℕ) → reported ≡ Some shown → asked_of n reported ≡ asked_of m reported
same_asked reported n m shown is = ap (asked_of n) is ∙ sym (ap (asked_of m) is)

deletion_leads : (chars : List Char) → Leads SameChar (deletion_of (length chars)) chars []
deletion_leads [] = refl
deletion_leads (c ∷ chars) = (
  [],
  record {
    front = [];
    gone = c ∷ chars;
    come = [];
    back = [];
    before = sym (append-nil (c ∷ chars));
    after = refl;
    at = refl;
    trades = (refl, omega arith);
  },
  refl,
)

pub replacements_lead : ReplacementsLead
replacements_lead r was now of_was of_now =
    subst (λ (n : ℕ). Leads SameChar (deletion_of n ++ insertion_of r.inserted) was now) of_was
    (subst (λ (n : ℕ). Leads SameChar (deletion_of (length was) ++ insertion_of n) was now) of_now
    (leads-append SameChar (deletion_of (length was)) (insertion_of (length now)) was [] now (deletion_leads was)
    (insertion_leads now)))
