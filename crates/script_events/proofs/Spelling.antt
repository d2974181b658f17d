-- The bytes that a line spells, one more at a time.
use Rattle.std.proofs.Common.{◌≡◌, ℕ, ◌+◌, ◌≤◌, List, [], ◌∷◌, ◌++◌, length, Bool, true, false, ◌==◌, cond, Option, Some, None, option_map, refl, sym, ap, ◌∙◌, arith, append_assoc, length-append, zero-add, add-zero}
use Rattle.std.specs.Prelude.{◌||◌, not, IfSome, IsSome, option_and_then, unwrap_or}
use Rattle.std.specs.Bool.{then_some}
use Rattle.std.specs.List.{list_any}
use Rattle.std.proofs.lemmas.List.{append-nil}
use Rattle.std.proofs.lemmas.Option.{same_Some}
use Rattle.script_events.specs.Script.{byte_of_digits, split_hex_byte, split_byte, bytes_in}

and_then-if : {A B : Type 0} (f : A → Option B) (t : Bool) (x y : Option A) → option_and_then f (cond t x y) ≡ cond t (option_and_then f x) (option_and_then f y)
and_then-if f true x y = refl
and_then-if f false x y = refl

and_then-map : {A B C : Type 0} (f : B → Option C) (g : A → B) (o : Option A) → option_and_then f (option_map g o) ≡ option_and_then (λ a. f (g a)) o
and_then-map f g (Some a) = refl
and_then-map f g None = refl

-- the bytes, and before them the one that was cut
abbrev onto : ℕ × List ℕ → Option (List ℕ)
onto cut = option_map (λ bytes. cut.0 ∷ bytes) (bytes_in cut.1)

bytes_in-step : (b : ℕ) (after : List ℕ) → bytes_in (b ∷ after) ≡ option_and_then onto (split_byte b after)
unfolding bytes_in
bytes_in-step b [] = sym (and_then-if onto (b == 92) (split_hex_byte []) (Some (b, [])))
bytes_in-step b (c ∷ []) = sym (and_then-if onto (b == 92) (split_hex_byte (c ∷ [])) (Some (b, c ∷ [])))
bytes_in-step b (c ∷ d ∷ raw) =
    let plain = option_map (λ (bytes : List ℕ). b ∷ bytes) (bytes_in (c ∷ d ∷ raw)) in
    ap (λ (o : Option (List ℕ)). cond (b == 92) o plain) (sym (and_then-map onto (λ byte. (byte, raw)) (byte_of_digits c d)))
    ∙ sym (and_then-if onto (b == 92) (split_hex_byte (c ∷ d ∷ raw)) (Some (b, c ∷ d ∷ raw)))

-- a byte is cut, and the rest spells the others
pub bytes_in-cut : (rest : List ℕ) (b : ℕ) (after : List ℕ) (byte : ℕ) (left : List ℕ) → rest ≡ b ∷ after → Some (byte, left) ≡ split_byte b after → bytes_in rest ≡ option_map (λ bytes. byte ∷ bytes) (bytes_in left)
bytes_in-cut rest b after byte left rest_is cut_is =
    ap bytes_in rest_is ∙ bytes_in-step b after ∙ ap (option_and_then onto) (sym cut_is)

-- where no byte can be cut, none are spelled
pub bytes_in-wrong : (rest : List ℕ) (b : ℕ) (after : List ℕ) → rest ≡ b ∷ after → None ≡ split_byte b after → bytes_in rest ≡ None
bytes_in-wrong rest b after rest_is cut_is =
    ap bytes_in rest_is ∙ bytes_in-step b after ∙ ap (option_and_then onto) (sym cut_is)

pub bytes_in-end : (rest : List ℕ) → length rest ≡ 0 → bytes_in rest ≡ Some []
unfolding bytes_in
bytes_in-end [] none = refl
bytes_in-end (b ∷ rest) none = absurd (omega arith)

-- so many bytes were cut off raw, and what is left spells the others
pub record IsCounted (raw rest : List ℕ) (len : ℕ) : Type 0 where
  pub same : option_map (λ bytes. len + length bytes) (bytes_in rest) ≡ option_map length (bytes_in raw)
  pub within : len + length rest ≤ length raw

none_counted : (o : Option (List ℕ)) → option_map (λ bytes. 0 + length bytes) o ≡ option_map length o
none_counted None = refl
none_counted (Some bytes) = ap Some (zero-add (length bytes))

one_counted : (len byte : ℕ) (o : Option (List ℕ)) → option_map (λ bytes. len + length bytes) (option_map (λ bytes. byte ∷ bytes) o) ≡ option_map (λ bytes. len + 1 + length bytes) o
one_counted len byte None = refl
one_counted len byte (Some bytes) = ap Some (omega arith)

pub IsCounted-none : (raw : List ℕ) → IsCounted raw raw 0
IsCounted-none raw = record { same = none_counted (bytes_in raw); within = omega arith }

pub IsCounted-more : {raw rest : List ℕ} {len : ℕ} (b : ℕ) (after : List ℕ) (byte : ℕ) (left : List ℕ) → IsCounted raw rest len → rest ≡ b ∷ after → Some (byte, left) ≡ split_byte b after → length left ≤ length after → IsCounted raw left (len + 1)
IsCounted-more {raw} {rest} {len} b after byte left i rest_is cut_is less = record {
  same = sym (one_counted len byte (bytes_in left)) ∙ ap (option_map (λ (bytes : List ℕ). len + length bytes)) (sym (bytes_in-cut rest b after byte left rest_is cut_is)) ∙ i.same;
  within = omega (arith, ap length rest_is);
}

none_spelled : (o : Option (List ℕ)) → None ≡ option_map length o → o ≡ None
none_spelled None e = refl
none_spelled (Some bytes) e = absurd cc

-- where no byte can be cut, raw spells none
pub IsCounted-wrong : {raw rest : List ℕ} {len : ℕ} (b : ℕ) (after : List ℕ) → IsCounted raw rest len → rest ≡ b ∷ after → None ≡ split_byte b after → bytes_in raw ≡ None
IsCounted-wrong {raw} {rest} {len} b after i rest_is cut_is =
    none_spelled (bytes_in raw) (ap (option_map (λ (bytes : List ℕ). len + length bytes)) (sym (bytes_in-wrong rest b after rest_is cut_is)) ∙ i.same)

pub IsCounted-all : {raw rest : List ℕ} {len : ℕ} → IsCounted raw rest len → length rest ≡ 0 → option_map length (bytes_in raw) ≡ Some len
IsCounted-all {raw} {rest} {len} i none =
    sym i.same ∙ ap (option_map (λ (bytes : List ℕ). len + length bytes)) (bytes_in-end rest none) ∙ ap Some (add-zero len)

pub bytes_in-some : {len : ℕ} (o : Option (List ℕ)) → option_map length o ≡ Some len → Some (unwrap_or o []) ≡ o
bytes_in-some None e = absurd cc
bytes_in-some (Some bytes) e = refl

pub IsCounted-few : {raw rest : List ℕ} {len : ℕ} → IsCounted raw rest len → len ≤ length raw
IsCounted-few i = omega (arith, i.within)

pub bytes_in-short : {len most : ℕ} (o : Option (List ℕ)) → option_map length o ≡ Some len → len ≤ most → length (unwrap_or o []) ≤ most
bytes_in-short None e le = absurd cc
bytes_in-short {len} {most} (Some bytes) e le = omega (arith, same_Some (length bytes) len e)

-- what is left to decode spells what is still to come after those in front
pub record IsDecoded (whole front : List ℕ) (spelled : Option (List ℕ)) : Type 0 where
  pub same : option_map (λ bytes. front ++ bytes) spelled ≡ Some whole

pub IsDecoded-none : (front bytes : List ℕ) (spelled : Option (List ℕ)) → Some (unwrap_or spelled []) ≡ spelled → unwrap_or spelled [] ≡ bytes → IsDecoded (front ++ bytes) front spelled
IsDecoded-none front bytes spelled some view =
    record { same = ap (option_map (λ (bytes : List ℕ). front ++ bytes)) (sym some) ∙ ap (λ (bytes : List ℕ). Some (front ++ bytes)) view }

-- where bytes are left, one can be cut
pub IsDecoded-cuts : {A : Type 0} {whole front : List ℕ} (f : A → ℕ × List ℕ) (cut : Option A) (spelled : Option (List ℕ)) (asked : Option (ℕ × List ℕ)) → IsDecoded whole front spelled → (None ≡ asked → spelled ≡ None) → option_map f cut ≡ asked → IsSome cut
IsDecoded-cuts f (Some cut) spelled asked d wrong cut_is = refl
IsDecoded-cuts {whole = whole} {front = front} f None spelled asked d wrong cut_is =
    let none : None ≡ Some whole = ap (option_map (λ (bytes : List ℕ). front ++ bytes)) (sym (wrong cut_is)) ∙ d.same in
    absurd cc

front-push : (front : List ℕ) (byte : ℕ) (o : Option (List ℕ)) → option_map (λ bytes. front ++ bytes) (option_map (λ bytes. byte ∷ bytes) o) ≡ option_map (λ bytes. front ++ byte ∷ [] ++ bytes) o
front-push front byte None = refl
front-push front byte (Some bytes) = ap Some (sym (append_assoc front (byte ∷ []) bytes))

pub IsDecoded-more : {whole front : List ℕ} {spelled : Option (List ℕ)} (byte : ℕ) (left : Option (List ℕ)) → IsDecoded whole front spelled → spelled ≡ option_map (λ bytes. byte ∷ bytes) left → IsDecoded whole (front ++ byte ∷ []) left
IsDecoded-more {whole} {front} {spelled} byte left d cut =
    record { same = sym (front-push front byte left) ∙ ap (option_map (λ (bytes : List ℕ). front ++ bytes)) (sym cut) ∙ d.same }

within : (front whole : List ℕ) (o : Option (List ℕ)) → option_map (λ bytes. front ++ bytes) o ≡ Some whole → length front ≤ length whole
within front whole None e = absurd cc
within front whole (Some bytes) e = omega (arith, length-append front bytes, ap length (same_Some (front ++ bytes) whole e))

pub IsDecoded-within : {whole front : List ℕ} {spelled : Option (List ℕ)} → IsDecoded whole front spelled → length front ≤ length whole
IsDecoded-within {whole} {front} {spelled} d = within front whole spelled d.same

pub IsDecoded-all : {whole front : List ℕ} {spelled : Option (List ℕ)} → IsDecoded whole front spelled → spelled ≡ Some [] → front ≡ whole
IsDecoded-all {whole} {front} {spelled} d none =
    same_Some front whole (ap Some (sym (append-nil front)) ∙ ap (option_map (λ (bytes : List ℕ). front ++ bytes)) (sym none) ∙ d.same)

neither : (a b : Bool) → (a || b) ≡ false → (a ≡ false) × (b ≡ false)
neither true b e = absurd cc
neither false b e = (refl, e)

-- where no backslash stands, each byte stands for itself
pub bytes_in-plain : (raw : List ℕ) → list_any (λ b. b == 92) raw ≡ false → bytes_in raw ≡ Some raw
unfolding bytes_in
bytes_in-plain [] none = refl
bytes_in-plain (b ∷ []) none = let itself : (b == 92) ≡ false = (neither (b == 92) false none).0 in rw itself refl
bytes_in-plain (b ∷ c ∷ []) none =
    let (itself, after) = neither (b == 92) (list_any (λ b. b == 92) (c ∷ [])) none in
    rw itself (ap (option_map (λ (bytes : List ℕ). b ∷ bytes)) (bytes_in-plain (c ∷ []) after))
bytes_in-plain (b ∷ c ∷ d ∷ raw) none =
    let (itself, after) = neither (b == 92) (list_any (λ b. b == 92) (c ∷ d ∷ raw)) none in
    rw itself (ap (option_map (λ (bytes : List ℕ). b ∷ bytes)) (bytes_in-plain (c ∷ d ∷ raw) after))

-- so they are lent as they stand
pub lent_plain : {X : Type 0} (now : X → List ℕ) (found : Bool) (raw : X) (lent : Option X) → found ≡ list_any (λ b. b == 92) (now raw) → lent ≡ then_some (not found) raw
    → IfSome lent (λ plain. now plain ≡ unwrap_or (bytes_in (now raw)) [])
lent_plain now true raw lent found is = rw is tt
lent_plain now false raw lent found is = rw (is, bytes_in-plain (now raw) (sym found)) refl
