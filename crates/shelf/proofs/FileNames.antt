-- Names of files.
use Rattle.std.proofs.Common.{◌≡◌, ◌≢◌, ◌&&◌, ◌∙◌, not, length, nat_eq, nat_le, nat_lt, codes, ◌≤◌, ◌↔◌, ◌<◌, ℕ, zero, suc, List, [], ◌∷◌, Bool, true, false, IsTrue, refl, sym, subst, arith}
use Rattle.std.specs.List.{AllPass, list_all}
use Rattle.std.specs.Cmp.Lexicographic.{pointwise}
use Rattle.std.specs.Str.{IsUtf8}
use Rattle.std.specs.List.{slice_index}
use Rattle.std.proofs.lemmas.List.Sums.{AllPass-from_list_all, list_all-from_AllPass}
use Rattle.std.proofs.lemmas.Str.{IsUtf8-from_ascii}
use Rattle.shelf.specs.Names.{is_file_byte, is_file_name}
use Rattle.shelf.specs.declared.names.TheConstants.{MAX_NAME_LEN}

same_bool : (b d : Bool) → (b ≡ true → d ≡ true) → (d ≡ true → b ≡ true) → b ≡ d
same_bool true d to from = sym (to refl)
same_bool false true to from = from refl
same_bool false false to from = refl

each_told : (p : ℕ → Bool) (xs : List ℕ) (told : Bool) → IsTrue told ↔ AllPass p xs → told ≡ list_all p xs
each_told p xs told same =
    same_bool told (list_all p xs) (λ is. list_all-from_AllPass p xs (same.0 is))
    (λ is. same.1 (AllPass-from_list_all p xs is))

with_rest : (b : Bool) → b ≡ (true && true && b && not false && not false)
with_rest true = refl
with_rest false = refl

all_five : (a e b c d : Bool) → a ≡ true → e ≡ true → c ≡ false → d ≡ false → b ≡ (a && e && b && not c && not d)
all_five a e b c d one two four five =
    subst (λ (x : Bool). b ≡ (x && e && b && not c && not d)) (sym one)
    (subst (λ (x : Bool). b ≡ (true && x && b && not c && not d)) (sym two)
    (subst (λ (x : Bool). b ≡ (true && true && b && not x && not d)) (sym four)
    (subst (λ (x : Bool). b ≡ (true && true && b && not false && not x)) (sym five) (with_rest b))))

-- bytes that name no folder, some and not too many, are a file's name where each may stand in one
pub name_told : (name : List ℕ) (told : Bool) → name ≢ [] → length name ≤ MAX_NAME_LEN
    → pointwise nat_eq name (codes ".") ≡ false → pointwise nat_eq name (codes "..") ≡ false
    → IsTrue told ↔ AllPass is_file_byte name → told ≡ is_file_name name
name_told [] told some few this above each = absurd (some refl)
name_told (b ∷ rest) told some few this above each =
    each_told is_file_byte (b ∷ rest) told each
    ∙ all_five (nat_lt 0 (length (b ∷ rest))) (nat_le (length (b ∷ rest)) MAX_NAME_LEN) (list_all is_file_byte (b ∷ rest))
    (pointwise nat_eq (b ∷ rest) (codes ".")) (pointwise nat_eq (b ∷ rest) (codes "..")) (grind arith)
    (grind (arith, few)) this above

byte_in_ascii : (b : ℕ) → is_file_byte b ≡ true → b < 128
byte_in_ascii b is = grind (arith, is)

bytes_in_ascii : (name : List ℕ) → list_all is_file_byte name ≡ true → (i : ℕ) → slice_index name i < 128
bytes_in_ascii [] each i = omega arith
bytes_in_ascii (b ∷ rest) each zero = byte_in_ascii b (grind (arith, each))
bytes_in_ascii (b ∷ rest) each (suc i) = bytes_in_ascii rest (grind (arith, each)) i

-- a file's name is a text
pub name_is_text : (name : List ℕ) → is_file_name name ≡ true → IsUtf8 name
name_is_text name is = IsUtf8-from_ascii name (bytes_in_ascii name (grind (arith, is)))
