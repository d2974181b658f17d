-- Bytes that are appended one part after the other.
use Rattle.std.proofs.Common.{◌≡◌, ℕ, List, ◌++◌, length, take, Result, Ok, Err, ◌≤◌, refl, sym, ap, ◌∙◌}
use Rattle.std.proofs.Common.{append_assoc, length-append, arith}
use Rattle.std.specs.Prelude.{if◌then◌else◌}
use Rattle.std.specs.Result.{is_ok}
use Rattle.std.proofs.lemmas.List.{take-take, take_all, take_at}
use Rattle.byte_fields.specs.Fields.{Appends}

-- two parts make one
pub append_both : (old mid new x y : List ℕ) → mid ≡ old ++ x → new ≡ mid ++ y → new ≡ old ++ (x ++ y)
append_both old mid new x y e f = f ∙ ap (λ (m : List ℕ). m ++ y) e ∙ append_assoc old x y

kept : (old mid new x : List ℕ) → mid ≡ old ++ x → take (length mid) new ≡ mid → take (length old) new ≡ old
kept old mid new x e f =
    let shorter : length old ≤ length mid = omega (arith, ap length e, length-append old x) in
    sym (take-take (length old) (length mid) new shorter) ∙ ap (λ (m : List ℕ). take (length old) m) (f ∙ e)
    ∙ take_at old x (length old) refl

-- a second part was appended, or memory was refused
pub Appends-after : {E : Type 0} (result : Result (Unit {0}) E) (old mid new x y : List ℕ) → mid ≡ old ++ x
    → Appends result mid new y → Appends result old new (x ++ y)
Appends-after (Ok done) old mid new x y e f = append_both old mid new x y e f
Appends-after (Err refused) old mid new x y e f = kept old mid new x e f

-- memory was refused in a second part
pub Appends-refused : {E : Type 0} (result : Result (Unit {0}) E) (old mid new x bytes : List ℕ)
    → mid ≡ old ++ x → (e : E) → result ≡ Err e → take (length mid) new ≡ mid
    → Appends result old new bytes
Appends-refused result old mid new x bytes f e is h = rw is (kept old mid new x f h)

-- memory was refused, and what was there before stays in front
pub left_in_front : {E : Type 0} (result : Result (Unit {0}) E) (old new bytes : List ℕ) (e : E) → result ≡ Err e
    → take (length old) new ≡ old → Appends result old new bytes
left_in_front result old new bytes e is h = rw is h

-- memory was refused before anything was appended
pub none_appended : {E : Type 0} (result : Result (Unit {0}) E) (old bytes : List ℕ) (e : E) → result ≡ Err e
    → Appends result old old bytes
none_appended result old bytes e is = left_in_front result old old bytes e is (take_all (length old) old (omega arith))

-- bytes that were appended in one go
pub extended : {E : Type 0} (r : Result (Unit {0}) E) (old new given bytes : List ℕ) → given ≡ bytes
    → new ≡ (if is_ok r then old ++ given else old) → Appends r old new bytes
extended (Ok done) old new given bytes same put = put ∙ ap (λ (l : List ℕ). old ++ l) same
extended (Err refused) old new given bytes same put =
    ap (λ (l : List ℕ). take (length old) l) put ∙ take_all (length old) old (omega arith)
