-- What is written part by part, up to a fault.
use Rattle.std.proofs.Common.{◌≡◌, true, false, ℕ, List, [], ◌++◌, Result, Ok, Err, Option, sym, ap, subst, ◌∙◌, append_assoc, append-nil}
use Rattle.std.specs.Prelude.{Bool, ◌||◌, is_err, IfErr, IsErrAnd, IsTrue, OnErr}
use Rattle.std.specs.Io.KnownBytes.{Appends, Keeps}
use Rattle.std.proofs.KnownBytes.{Appends-trans, Appends-kept}
use Rattle.looks.specs.declared.refusal.Refusal.{Refusal}
use Rattle.looks.specs.declared.refusal.Refusal.TheVariants.{WriteFault}
use Rattle.script_sites.specs.Writing.{AppendsPrefix, WritesBytes}

-- all of the bytes are a prefix of them
pub prefix_of_all : (old new : Option (List ℕ)) (bytes : List ℕ) → Appends old new bytes → AppendsPrefix old new bytes
prefix_of_all old new bytes p = (bytes, [], sym (append-nil bytes), p)

-- a prefix of a first part is one of both
prefix_of_first : (old new : Option (List ℕ)) (a b : List ℕ) → AppendsPrefix old new a → AppendsPrefix old new (a ++ b)
prefix_of_first old new a b (written, missing, split, q) = (written, missing ++ b, ap (λ l. l ++ b) split ∙ append_assoc written missing b, q)

-- a first part and a prefix of the second are one of both
pub prefix_after : (old mid new : Option (List ℕ)) (a b : List ℕ) → Appends old mid a → AppendsPrefix mid new b → AppendsPrefix old new (a ++ b)
prefix_after old mid new a b p (written, missing, split, q) =
    (a ++ written, missing, ap (λ l. a ++ l) split ∙ sym (append_assoc a written missing), Appends-trans old mid new a written p q)

-- a second part is written after the first
pub writes_after : (result : Result (Unit {0}) Refusal) (failed : Bool) (old mid new : Option (List ℕ)) (a b : List ℕ) → Appends old mid a → WritesBytes result failed mid new b → WritesBytes result failed old new (a ++ b)
writes_after (Ok done) failed old mid new a b p w = Appends-trans old mid new a b p w
writes_after (Err why) failed old mid new a b p w = (w.0, w.1, prefix_after old mid new a b p w.2)

-- all was written, and what came then kept it
pub writes_kept : (result : Result (Unit {0}) Refusal) (failed : Bool) (old mid new : Option (List ℕ)) (bytes : List ℕ) → Appends old mid bytes → Keeps mid new → IfErr result (λ e. e ≡ WriteFault) → OnErr result (IsTrue failed)
    → WritesBytes result failed old new bytes
writes_kept (Ok done) failed old mid new bytes p k e f = Appends-kept old mid new bytes p k
writes_kept (Err why) failed old mid new bytes p k e f = (e, f, prefix_of_all old new bytes (Appends-kept old mid new bytes p k))

-- a fault in the first part
pub writes_stopped : (result : Result (Unit {0}) Refusal) (failed : Bool) (why : Refusal) (old new : Option (List ℕ)) (a b : List ℕ) → IsErrAnd result (λ e. e ≡ why) → WritesBytes (Err why) failed old new a → WritesBytes result failed old new (a ++ b)
writes_stopped (Ok done) failed why old new a b e w = absurd e
writes_stopped (Err y) failed why old new a b e w = (e ∙ w.0, w.1, prefix_of_first old new a b w.2)

-- three parts, the latter two taken together
pub writes_regrouped : (result : Result (Unit {0}) Refusal) (failed : Bool) (old new : Option (List ℕ)) (a b c : List ℕ) → WritesBytes result failed old new (a ++ (b ++ c)) → WritesBytes result failed old new ((a ++ b) ++ c)
writes_regrouped result failed old new a b c w = subst (WritesBytes result failed old new) (sym (append_assoc a b c)) w

-- a call that sets the flag where it fails has set it where it failed
pub failed_at_err : {X : Type 0} (result : Result X Refusal) (old new : Bool) → new ≡ (old || is_err result) → OnErr result (IsTrue new)
failed_at_err (Ok x) old new e = tt
failed_at_err (Err why) true new e = e
failed_at_err (Err why) false new e = e

-- a first part was written, and nothing of the rest: the writer failed
pub writes_broken : (result : Result (Unit {0}) Refusal) (failed : Bool) (why : Refusal) (old mid new : Option (List ℕ)) (a b : List ℕ) → IsErrAnd result (λ e. e ≡ why) → why ≡ WriteFault → IsTrue failed
    → Appends old mid a → Keeps mid new → WritesBytes result failed old new (a ++ b)
writes_broken (Ok done) failed why old mid new a b e is f p k = absurd e
writes_broken (Err y) failed why old mid new a b e is f p k = (e ∙ is, f, prefix_of_first old new a b (prefix_of_all old new a (Appends-kept old mid new a p k)))
