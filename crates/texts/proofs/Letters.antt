-- Letters that are taken in at once.
use Rattle.std.proofs.Common.{◌≡◌, ◌≢◌, ℕ, List, [], ◌∷◌, Contains, refl, subst, arith, inl, inr}
use Rattle.std.specs.Prelude.{All}
use Rattle.std.proofs.lemmas.List.Elements.{All-cons, All-nil}
use Rattle.operations.specs.Letters.{after_letter, letter, letters}
use Rattle.operations.specs.Operation.{Operation}
use Rattle.operations.specs.declared.typing.Typing.{Typing}
use Rattle.set_laws.specs.Verdict.{low_stamp, misfit, ready, wait}
use Rattle.set_laws.proofs.Letters.{another_is_ready}
use Rattle.set_laws.proofs.Verdicts.{same_verdict}
use Rattle.texts.specs.Take.{HasFate}
use Rattle.texts.specs.Taking.{IsJudged}
use Rattle.texts.specs.TextState.{TextState}
use Rattle.texts.specs.declared.fate.Fate.{Fate}
use Rattle.texts.specs.declared.fate.Fate.TheVariants.{OtherText, Known, Conflicting, AlreadyWaits, Wait}
use Rattle.texts.specs.declared.fate.Fate.TheVariants.{Misfit, LowStamp, Ready}

-- whether a letter is ready is the same of each that may stand there
pub another_is_judged : (u : TextState) (t : Typing) (a b : ℕ) → IsJudged u (letter t a) ready → IsJudged u (letter t b) ready
another_is_judged u t a b (own, new, verdict) =
    (own, record { counted = new.counted; unheld = new.unheld }, another_is_ready u.operations t a b verdict)

-- all letters are of the text that is typed in
pub letters_of_text : (t : Typing) (bytes : List ℕ) → All (λ op. op.text ≡ t.text) (letters t bytes)
letters_of_text t [] = All-nil (λ (op : Operation). op.text ≡ t.text)
letters_of_text t (byte ∷ bytes) =
    All-cons (λ (op : Operation). op.text ≡ t.text) (letter t byte) (letters (after_letter t) bytes) refl
    (letters_of_text (after_letter t) bytes)

-- in an empty room nothing waits
none_waits : (u : TextState) (op : Operation) → u.waiting_room ≡ [] → Contains u.waiting_room op → ⊥
none_waits u op none waits =
    let (i, within, is) = subst (λ (room : List Operation). Contains room op) none waits in omega arith

-- where nothing waits, an operation that becomes anything else isn't ready
pub not_ready : (u : TextState) (op : Operation) (fate : Fate) → u.waiting_room ≡ [] → fate ≢ Ready → HasFate u op fate
    → IsJudged u op ready → ⊥
not_ready u op OtherText none other has judged = has judged.0
not_ready u op Known none other has judged = judged.1.unheld (op, has.1, refl, refl)
not_ready u op Conflicting none other (own, inl (o, held, site, seq, differs)) judged =
    judged.1.unheld (o, held, site, seq)
not_ready u op Conflicting none other (own, inr (new, (o, held, site, seq, differs))) judged = none_waits u o none held
not_ready u op AlreadyWaits none other has judged = none_waits u op none has.2
not_ready u op Wait none other has judged =
    let same = same_verdict u.operations op wait ready has.1.2 judged.2 in cc
not_ready u op Misfit none other has judged =
    let same = same_verdict u.operations op misfit ready has.1.2 judged.2 in cc
not_ready u op LowStamp none other has judged =
    let same = same_verdict u.operations op low_stamp ready has.1.2 judged.2 in cc
not_ready u op Ready none other has judged = other refl
