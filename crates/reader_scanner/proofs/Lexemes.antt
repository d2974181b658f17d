-- What stands in front of bytes, class by class: how it is found, and that it is spelled so.
use Rattle.std.proofs.Common.{◌≡◌, ◌≢◌, ℕ, suc, ◌+◌, ◌<◌, ◌≤◌, Bool, true, false, cond, eqb, ◌&&◌}
use Rattle.std.proofs.Common.{◌||◌, List}
use Rattle.std.proofs.Common.{[], ◌∷◌, ◌++◌, length, get_or, take, drop, refl, sym, ap, subst, ◌∙◌}
use Rattle.std.proofs.Common.{append_assoc, arith}
use Rattle.std.specs.Char.{is_ascii_alphabetic, is_ascii_digit}
use Rattle.std.specs.List.{prefix_len}
use Rattle.std.proofs.lemmas.Bool.{eqb-true, eqb-false, ne_eqb, and_parts, or_parts}
use Rattle.std.proofs.lemmas.Bool.Decides.{nat_tests}
use Rattle.std.proofs.lemmas.List.{take_more}
use Rattle.std.proofs.lemmas.List.Sums.{prefix_len-le-length}
use Rattle.reader_scanner.specs.declared.token.TokenValue.{TokenValue}
use Rattle.reader_scanner.specs.declared.token.TokenValue.TheVariants as value
use Rattle.reader_scanner.specs.Lexeme.{Lexeme, name_at, string_at, int_at, lexeme_at, byte_longer}
use Rattle.reader_scanner.specs.Tokens.{is_blank, is_name_byte, is_string_byte, is_hex_digit, StopsAt}
use Rattle.reader_scanner.specs.Tokens.{if_short, int_token, sign, begins_other, Spells, none, name, string}
use Rattle.reader_scanner.specs.Tokens.{open_string, hexadecimal, decimal, char}
use Rattle.reader_scanner.proofs.Stretches.{first_left, byte_within, longest_at, some_prefix}
use Rattle.reader_scanner.proofs.Stretches.{first_taken}

-- ---- bytes

pub letter_in_name : (b : ℕ) → is_ascii_alphabetic b ≡ true → is_name_byte b ≡ true
letter_in_name b e = grind (arith, nat_tests)

pub digit_in_hex : (b : ℕ) → is_ascii_digit b ≡ true → is_hex_digit b ≡ true
digit_in_hex b e = grind (arith, nat_tests)

pub digit_no_letter : (b : ℕ) → is_ascii_digit b ≡ true → is_ascii_alphabetic b ≡ false
digit_no_letter b e = grind (arith, nat_tests)

pub digit_no_quote : (b : ℕ) → is_ascii_digit b ≡ true → eqb b 34 ≡ false
digit_no_quote b e = grind (arith, nat_tests)

pub letter_no_blank : (b : ℕ) → is_ascii_alphabetic b ≡ true → is_blank b ≡ false
letter_no_blank b e = grind (arith, nat_tests)

pub digit_no_blank : (b : ℕ) → is_ascii_digit b ≡ true → is_blank b ≡ false
digit_no_blank b e = grind (arith, nat_tests)

-- ---- how each class is found

abbrev pub lex : TokenValue → ℕ → Lexeme
lex token n = record { token = token; len = n }

pub lexeme_none : lexeme_at [] ≡ lex value.Inval 0
unfolding lexeme_at
lexeme_none = refl

pub lexeme_name : (bytes : List ℕ) → is_ascii_alphabetic (get_or bytes 0 0) ≡ true
    → lexeme_at bytes ≡ name_at bytes
unfolding lexeme_at
lexeme_name [] e = absurd cc
lexeme_name (b ∷ rest) e = rw e refl

pub lexeme_string : (bytes : List ℕ) → get_or bytes 0 0 ≡ 34 → lexeme_at bytes ≡ string_at (drop 1 bytes)
unfolding lexeme_at
lexeme_string [] e = absurd (omega arith)
lexeme_string (b ∷ rest) e =
    let P : ℕ → Type 0 = λ x. lexeme_at (x ∷ rest) ≡ string_at rest in
    let at : P 34 = refl in
    subst P (sym e) at

pub lexeme_int : (bytes : List ℕ) → is_ascii_digit (get_or bytes 0 0) ≡ true
    → lexeme_at bytes ≡ int_at false bytes
unfolding lexeme_at
lexeme_int [] e = absurd cc
lexeme_int (b ∷ rest) e = rw (digit_no_letter b e, digit_no_quote b e, e) refl

pub lexeme_minus : (bytes : List ℕ)
    → (eqb (get_or bytes 0 0) 45 && is_ascii_digit (get_or (drop 1 bytes) 0 0)) ≡ true
    → lexeme_at bytes ≡ byte_longer (int_at true (drop 1 bytes))
unfolding lexeme_at
lexeme_minus [] e = absurd cc
lexeme_minus (b ∷ rest) e =
    let both = and_parts (eqb b 45) (is_ascii_digit (get_or rest 0 0)) e in
    let P : ℕ → Type 0 = λ x. lexeme_at (x ∷ rest) ≡ byte_longer (int_at true rest) in
    let at : P 45 = rw both.1 refl in
    subst P (sym (eqb-true b 45 both.0)) at

pub lexeme_other : (bytes : List ℕ) → 0 < length bytes → is_ascii_alphabetic (get_or bytes 0 0) ≡ false
    → get_or bytes 0 0 ≢ 34 → is_ascii_digit (get_or bytes 0 0) ≡ false
    → (eqb (get_or bytes 0 0) 45 && is_ascii_digit (get_or (drop 1 bytes) 0 0)) ≡ false
    → lexeme_at bytes ≡ lex (value.Char (get_or bytes 0 0)) 1
unfolding lexeme_at
lexeme_other [] some letter quote digit minus = absurd (omega arith)
lexeme_other (b ∷ rest) some letter quote digit minus =
    let no_quote : eqb b 34 ≡ false = ne_eqb b 34 quote in
    rw (letter, no_quote, digit, minus) refl

pub lexeme_char : (b : ℕ) (rest : List ℕ) → begins_other b rest ≡ false
    → lexeme_at (b ∷ rest) ≡ lex (value.Char b) 1
lexeme_char b rest e =
    let four = or_parts (is_blank b || is_ascii_alphabetic b || eqb b 34 || is_ascii_digit b)
    (eqb b 45 && is_ascii_digit (get_or rest 0 0)) e in
    let three = or_parts (is_blank b || is_ascii_alphabetic b || eqb b 34) (is_ascii_digit b) four.0 in
    let two = or_parts (is_blank b || is_ascii_alphabetic b) (eqb b 34) three.0 in
    let one = or_parts (is_blank b) (is_ascii_alphabetic b) two.0 in
    lexeme_other (b ∷ rest) (omega arith) one.1 (eqb-false b 34 two.1) three.1 four.1

pub name_found : (bytes : List ℕ) (n : ℕ) → prefix_len is_name_byte bytes ≡ n
    → name_at bytes ≡ lex (if_short value.Name (take n bytes)) n
unfolding name_at
name_found bytes n e = ap (λ (k : ℕ). lex (if_short value.Name (take k bytes)) k) e

pub string_found : (bytes : List ℕ) (n : ℕ) → prefix_len is_string_byte bytes ≡ n → get_or bytes n 0 ≡ 34
    → string_at bytes ≡ lex (if_short value.String (take n bytes)) (n + 2)
unfolding string_at
string_found bytes n e f =
    let there : eqb (get_or bytes n 0) 34 ≡ true = rw f refl in
    let chosen : ℕ → Lexeme = λ k. cond (eqb (get_or bytes k 0) 34)
    (lex (if_short value.String (take k bytes)) (k + 2)) (lex value.Inval (k + 1)) in
    ap chosen e ∙ ap (λ (b : Bool). cond b (lex (if_short value.String (take n bytes)) (n + 2))
    (lex value.Inval (n + 1))) there

pub string_open : (bytes : List ℕ) (n : ℕ) → prefix_len is_string_byte bytes ≡ n → get_or bytes n 0 ≢ 34
    → string_at bytes ≡ lex value.Inval (n + 1)
unfolding string_at
string_open bytes n e f =
    let absent : eqb (get_or bytes n 0) 34 ≡ false = ne_eqb _ _ f in
    let chosen : ℕ → Lexeme = λ k. cond (eqb (get_or bytes k 0) 34)
    (lex (if_short value.String (take k bytes)) (k + 2)) (lex value.Inval (k + 1)) in
    ap chosen e ∙ ap (λ (b : Bool). cond b (lex (if_short value.String (take n bytes)) (n + 2))
    (lex value.Inval (n + 1))) absent

pub hex_found : (negative : Bool) (bytes : List ℕ) (n : ℕ) → prefix_len is_hex_digit bytes ≡ n
    → get_or bytes n 0 ≡ 72 → int_at negative bytes ≡ lex (int_token 16 negative (take n bytes)) (n + 1)
unfolding int_at
hex_found negative bytes n e f =
    let there : eqb (get_or bytes n 0) 72 ≡ true = rw f refl in
    let chosen : ℕ → Lexeme = λ k. cond (eqb (get_or bytes k 0) 72)
    (lex (int_token 16 negative (take k bytes)) (k + 1)) (lex (int_token 10 negative (take k bytes)) k) in
    ap chosen e ∙ ap (λ (b : Bool). cond b (lex (int_token 16 negative (take n bytes)) (n + 1))
    (lex (int_token 10 negative (take n bytes)) n)) there

pub decimal_found : (negative : Bool) (bytes : List ℕ) (n : ℕ) → prefix_len is_hex_digit bytes ≡ n
    → get_or bytes n 0 ≢ 72 → int_at negative bytes ≡ lex (int_token 10 negative (take n bytes)) n
unfolding int_at
decimal_found negative bytes n e f =
    let absent : eqb (get_or bytes n 0) 72 ≡ false = ne_eqb _ _ f in
    let chosen : ℕ → Lexeme = λ k. cond (eqb (get_or bytes k 0) 72)
    (lex (int_token 16 negative (take k bytes)) (k + 1)) (lex (int_token 10 negative (take k bytes)) k) in
    ap chosen e ∙ ap (λ (b : Bool). cond b (lex (int_token 16 negative (take n bytes)) (n + 1))
    (lex (int_token 10 negative (take n bytes)) n)) absent

-- ---- what is found is spelled so

-- what stands in front of bytes, with its spelling
pub record Spelled (bytes : List ℕ) : Type 0 where
  pub token : TokenValue
  pub n : ℕ
  pub is : lexeme_at bytes ≡ lex token n
  pub fits : n ≤ length bytes
  pub spells : Spells (take n bytes) (drop n bytes) token

spelled_name : (bytes : List ℕ) → is_ascii_alphabetic (get_or bytes 0 0) ≡ true → Spelled bytes
spelled_name bytes e =
    let n : ℕ = prefix_len is_name_byte bytes in
    let some : 0 < n = some_prefix is_name_byte bytes refl (letter_in_name (get_or bytes 0 0) e) in
    record {
      token = if_short value.Name (take n bytes);
      n = n;
      is = lexeme_name bytes e ∙ name_found bytes n refl;
      fits = prefix_len-le-length is_name_byte bytes;
      spells = name (record {
        first = rw (first_taken bytes n some) e;
        longest = longest_at is_name_byte bytes;
        value_is = refl;
      });
    }

spelled_string : (rest : List ℕ) → Spelled (34 ∷ rest)
spelled_string rest = go (eqb (get_or rest n 0) 34) refl
  where
    n : ℕ
    n = prefix_len is_string_byte rest

    go : (quote : Bool) → eqb (get_or rest (prefix_len is_string_byte rest) 0) 34 ≡ quote
        → Spelled (34 ∷ rest)
    go true e =
        let k : ℕ = prefix_len is_string_byte rest in
        let f : get_or rest k 0 ≡ 34 = eqb-true _ _ e in
        let within : k < length rest = byte_within rest k 34 f (omega arith) in
        let two : k + 2 ≡ suc (k + 1) = omega arith in
        let parts : take (k + 2) (34 ∷ rest) ≡ 34 ∷ take k rest ++ 34 ∷ [] =
        ap (λ (m : ℕ). take m (34 ∷ rest)) two ∙ ap (λ (l : List ℕ). 34 ∷ l) (take_more rest k 0 within)
        ∙ ap (λ (b : ℕ). 34 ∷ take k rest ++ b ∷ []) f in
        record {
          token = if_short value.String (take k rest);
          n = k + 2;
          is = lexeme_string (34 ∷ rest) refl ∙ string_found rest k refl f;
          fits = omega arith;
          spells = string (record {
            inner = take k rest;
            parts = parts;
            each = (longest_at is_string_byte rest).each;
            value_is = refl;
          });
        }
    go false e =
        let k : ℕ = prefix_len is_string_byte rest in
        let f : get_or rest k 0 ≢ 34 = eqb-false _ _ e in
        let one : suc k ≡ k + 1 = omega arith in
        let at_suc : Spells (take (suc k) (34 ∷ rest)) (drop (suc k) (34 ∷ rest)) value.Inval =
        open_string (record {
          inner = take k rest;
          parts = refl;
          longest = longest_at is_string_byte rest;
          unclosed = λ g. f (sym (first_left rest k) ∙ g);
          value_is = refl;
        }) in
        record {
          token = value.Inval;
          n = k + 1;
          is = lexeme_string (34 ∷ rest) refl ∙ string_open rest k refl f;
          fits = omega (arith, prefix_len-le-length is_string_byte rest);
          spells = subst (λ (m : ℕ). Spells (take m (34 ∷ rest)) (drop m (34 ∷ rest)) value.Inval) one at_suc;
        }

-- a number after its sign
record SpelledInt (negative : Bool) (bytes : List ℕ) : Type 0 where
  token : TokenValue
  n : ℕ
  is : int_at negative bytes ≡ lex token n
  fits : n ≤ length bytes
  spells : Spells (sign negative ++ take n bytes) (drop n bytes) token

spelled_digits : (negative : Bool) (bytes : List ℕ) → is_ascii_digit (get_or bytes 0 0) ≡ true
    → SpelledInt negative bytes
spelled_digits negative bytes digit =
    go (eqb (get_or bytes (prefix_len is_hex_digit bytes) 0) 72) refl
  where
    go : (h : Bool) → eqb (get_or bytes (prefix_len is_hex_digit bytes) 0) 72 ≡ h → SpelledInt negative bytes
    go true e =
        let k : ℕ = prefix_len is_hex_digit bytes in
        let f : get_or bytes k 0 ≡ 72 = eqb-true _ _ e in
        let some : 0 < k = some_prefix is_hex_digit bytes refl (digit_in_hex (get_or bytes 0 0) digit) in
        let within : k < length bytes = byte_within bytes k 72 f (omega arith) in
        let parts : sign negative ++ take (k + 1) bytes ≡ (sign negative ++ take k bytes) ++ 72 ∷ [] =
        ap (λ (l : List ℕ). sign negative ++ l) (take_more bytes k 0 within
        ∙ ap (λ (b : ℕ). take k bytes ++ b ∷ []) f)
        ∙ sym (append_assoc (sign negative) (take k bytes) (72 ∷ [])) in
        record {
          token = int_token 16 negative (take k bytes);
          n = k + 1;
          is = hex_found negative bytes k refl f;
          fits = omega arith;
          spells = hexadecimal (record {
            negative = negative;
            digits = take k bytes;
            parts = parts;
            first = rw (first_taken bytes k some) digit;
            each = (longest_at is_hex_digit bytes).each;
            value_is = refl;
          });
        }
    go false e =
        let k : ℕ = prefix_len is_hex_digit bytes in
        let f : get_or bytes k 0 ≢ 72 = eqb-false _ _ e in
        let some : 0 < k = some_prefix is_hex_digit bytes refl (digit_in_hex (get_or bytes 0 0) digit) in
        record {
          token = int_token 10 negative (take k bytes);
          n = k;
          is = decimal_found negative bytes k refl f;
          fits = prefix_len-le-length is_hex_digit bytes;
          spells = decimal (record {
            negative = negative;
            digits = take k bytes;
            parts = refl;
            first = rw (first_taken bytes k some) digit;
            longest = longest_at is_hex_digit bytes;
            no_h = λ g. f (sym (first_left bytes k) ∙ g);
            value_is = refl;
          });
        }

spelled_int : (bytes : List ℕ) → is_ascii_digit (get_or bytes 0 0) ≡ true → Spelled bytes
spelled_int bytes e =
    let s = spelled_digits false bytes e in
    record {
      token = s.token;
      n = s.n;
      is = lexeme_int bytes e ∙ s.is;
      fits = s.fits;
      spells = s.spells;
    }

spelled_minus : (rest : List ℕ) → is_ascii_digit (get_or rest 0 0) ≡ true → Spelled (45 ∷ rest)
spelled_minus rest e =
    let s = spelled_digits true rest e in
    let minus : lexeme_at (45 ∷ rest) ≡ byte_longer (int_at true rest) = lexeme_minus (45 ∷ rest) e in
    let one : suc s.n ≡ 1 + s.n = omega arith in
    let at_suc : Spells (take (suc s.n) (45 ∷ rest)) (drop (suc s.n) (45 ∷ rest)) s.token = s.spells in
    record {
      token = s.token;
      n = 1 + s.n;
      is = minus ∙ ap byte_longer s.is;
      fits = omega (arith, s.fits);
      spells = subst (λ (m : ℕ). Spells (take m (45 ∷ rest)) (drop m (45 ∷ rest)) s.token) one at_suc;
    }

spelled_char : (b : ℕ) (rest : List ℕ) → begins_other b rest ≡ false → Spelled (b ∷ rest)
spelled_char b rest e = record {
  token = value.Char b;
  n = 1;
  is = lexeme_char b rest e;
  fits = omega arith;
  spells = char (record { byte = b; parts = refl; no_other = e; value_is = refl });
}

pub spelled : (bytes : List ℕ) → StopsAt is_blank bytes → Spelled bytes
spelled [] stops = record {
  token = value.Inval;
  n = 0;
  is = lexeme_none;
  fits = omega arith;
  spells = none (record { nothing = refl; at_end = refl; value_is = refl });
}
spelled (b ∷ rest) stops =
    go (is_ascii_alphabetic b) (eqb b 34) (is_ascii_digit b) (eqb b 45) (is_ascii_digit (get_or rest 0 0))
    refl refl refl refl refl
  where
    no_blank : is_blank b ≡ false
    no_blank = stops (omega arith)

    go : (letter quote digit minus after : Bool) → is_ascii_alphabetic b ≡ letter → eqb b 34 ≡ quote
        → is_ascii_digit b ≡ digit → eqb b 45 ≡ minus → is_ascii_digit (get_or rest 0 0) ≡ after
        → Spelled (b ∷ rest)
    go true q d m h e1 e2 e3 e4 e5 = spelled_name (b ∷ rest) e1
    go false true d m h e1 e2 e3 e4 e5 = subst (λ (x : ℕ). Spelled (x ∷ rest)) (sym (eqb-true b 34 e2))
        (spelled_string rest)
    go false false true m h e1 e2 e3 e4 e5 = spelled_int (b ∷ rest) e3
    go false false false true true e1 e2 e3 e4 e5 =
        subst (λ (x : ℕ). Spelled (x ∷ rest)) (sym (eqb-true b 45 e4)) (spelled_minus rest e5)
    go false false false true false e1 e2 e3 e4 e5 =
        spelled_char b rest (rw (no_blank, e1, e2, e3, e4, e5) refl)
    go false false false false h e1 e2 e3 e4 e5 =
        spelled_char b rest (rw (no_blank, e1, e2, e3, e4) refl)
