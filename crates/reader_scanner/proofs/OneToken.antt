-- Every source has a token after every position, and no other one.
use Rattle.std.proofs.Common.{◌≡◌, ℕ, ◌+◌, ◌-◌, ◌≤◌, min, Bool, true, false, List, [], ◌∷◌, ◌++◌}
use Rattle.std.proofs.Common.{length, get_or, take, drop, refl, sym, ap, subst, ◌∙◌, inl, inr}
use Rattle.std.proofs.Common.{append_assoc, length-append, arith}
use Rattle.std.specs.Char.{is_ascii_alphabetic, is_ascii_digit}
use Rattle.std.specs.List.{prefix_len}
use Rattle.std.proofs.lemmas.Bool.{cases_lt, or_parts}
use Rattle.std.proofs.lemmas.List.{take_at, drop_at, take-append-drop, length-drop, drop-drop}
use Rattle.std.proofs.Math.ListN.{drop_of_length-le}
use Rattle.std.proofs.lemmas.List.Sums.{prefix_len-le-length}
use Rattle.reader_scanner.specs.declared.token.Token.{Token}
use Rattle.reader_scanner.specs.declared.token.TokenValue.{TokenValue}
use Rattle.reader_scanner.specs.declared.token.TokenValue.TheVariants as value
use Rattle.reader_scanner.specs.Lexeme.{Lexeme, byte_longer, int_at, lexeme_at}
use Rattle.reader_scanner.specs.Tokens.{is_blank, is_name_byte, is_string_byte, is_hex_digit, StopsAt}
use Rattle.reader_scanner.specs.Tokens.{if_short, int_token, sign, begins_other, Spells, none, name, string}
use Rattle.reader_scanner.specs.Tokens.{open_string, hexadecimal, decimal, char, IsTokenAt, IsNone, IsName}
use Rattle.reader_scanner.specs.Tokens.{IsString, IsOpenString, IsHexadecimal, IsDecimal, IsOtherByte}
use Rattle.reader_scanner.proofs.Stretches.{after, longest_len, longest_at, first_of}
use Rattle.reader_scanner.proofs.Lexemes.{lex, lexeme_none, lexeme_name, lexeme_string, lexeme_int}
use Rattle.reader_scanner.proofs.Lexemes.{lexeme_minus}
use Rattle.reader_scanner.proofs.Lexemes.{lexeme_char, name_found, string_found, string_open, hex_found}
use Rattle.reader_scanner.proofs.Lexemes.{decimal_found, spelled, letter_no_blank, digit_no_blank}

-- ---- a token is there

-- what a scanner finds is a token
pub scanned : (source : List ℕ) (from at : ℕ) (token : Token) → at ≡ min from (length source)
    → token.beg ≡ at + prefix_len is_blank (drop at source)
    → token.value ≡ (lexeme_at (drop token.beg source)).token
    → token.end ≡ token.beg + (lexeme_at (drop token.beg source)).len
    → IsTokenAt source from token
scanned source from at token at_is beg_is value_is end_is =
    let bytes : List ℕ = drop at source in
    let n : ℕ = prefix_len is_blank bytes in
    let tail : List ℕ = drop n bytes in
    let s = spelled tail ((longest_at is_blank bytes).stops) in
    let same : drop from source ≡ bytes = elim (cases_lt from (length source)) [
      | inl lt ↦ ap (λ (k : ℕ). drop k source) (omega arith)
      | inr le ↦ drop_of_length-le source le ∙ sym (drop_of_length-le source (omega arith))
    ] in
    let tail_is : drop token.beg source ≡ tail =
    ap (λ (k : ℕ). drop k source) beg_is ∙ sym (drop-drop n at source) in
    let lexeme_is : lexeme_at (drop token.beg source) ≡ lex s.token s.n = ap lexeme_at tail_is ∙ s.is in
    let whole : drop from source ≡ take n bytes ++ take s.n tail ++ drop s.n tail =
    same ∙ sym (take-append-drop n bytes)
    ∙ ap (λ (l : List ℕ). take n bytes ++ l) (sym (take-append-drop s.n tail))
    ∙ sym (append_assoc (take n bytes) (take s.n tail) (drop s.n tail)) in
    let value : token.value ≡ s.token = value_is ∙ ap (λ (l : Lexeme). l.token) lexeme_is in
    let len : (lexeme_at (drop token.beg source)).len ≡ s.n = ap (λ (l : Lexeme). l.len) lexeme_is in
    let parts_len : length (take s.n tail) + length (drop s.n tail) ≡ length tail =
    sym (length-append (take s.n tail) (drop s.n tail)) ∙ ap length (take-append-drop s.n tail) in
    let rest_len : length (drop s.n tail) ≡ length tail - s.n = length-drop s.n tail in
    let tail_len : length tail ≡ length bytes - n = length-drop n bytes in
    let bytes_len : length bytes ≡ length source - at = length-drop at source in
    let blanks_fit : n ≤ length bytes = prefix_len-le-length is_blank bytes in
    let text_fits : s.n ≤ length tail = s.fits in
    let at_most : at ≤ length source = omega arith in
    record {
      blanks = take n bytes;
      text = take s.n tail;
      rest = drop s.n tail;
      parts = whole;
      skipped = (longest_at is_blank bytes).each;
      spelled = subst (λ (v : TokenValue). Spells (take s.n tail) (drop s.n tail) v) (sym value) s.spells;
      beg = omega (arith, beg_is, parts_len, tail_len, bytes_len, blanks_fit, at_most);
      end = omega (arith, beg_is, end_is, len, rest_len, tail_len, bytes_len, blanks_fit, text_fits, at_most);
    }

pub token_there : (source : List ℕ) (from : ℕ) → (token : Token) × IsTokenAt source from token
token_there source from =
    let at : ℕ = min from (length source) in
    let beg : ℕ = at + prefix_len is_blank (drop at source) in
    let found : Lexeme = lexeme_at (drop beg source) in
    let token : Token = record { beg = beg; end = beg + found.len; value = found.token } in
    (token, scanned source from at token refl refl refl refl)

-- ---- and no other one

-- a spelling is what is found, and begins with no blank
record Found (text rest : List ℕ) (token : TokenValue) : Type 0 where
  is : lexeme_at (text ++ rest) ≡ lex token (length text)
  stops : StopsAt is_blank (text ++ rest)

found_name : (text rest : List ℕ) (token : TokenValue) → IsName text rest token → Found text rest token
found_name text rest token h =
    let first : is_ascii_alphabetic (get_or (text ++ rest) 0 0) ≡ true =
    first_of is_ascii_alphabetic text rest refl h.first in
    let len : prefix_len is_name_byte (text ++ rest) ≡ length text =
    longest_len is_name_byte text rest h.longest.each h.longest.stops in
    record {
      is = lexeme_name (text ++ rest) first ∙ name_found (text ++ rest) (length text) len
          ∙ ap (λ (t : List ℕ). lex (if_short value.Name t) (length text)) (take_at text rest (length text)
          refl)
          ∙ ap (λ (v : TokenValue). lex v (length text)) (sym h.value_is);
      stops = λ some. letter_no_blank (get_or (text ++ rest) 0 0) first;
    }

found_string : (text rest : List ℕ) (token : TokenValue) → IsString text token → Found text rest token
found_string text rest token h =
    let after_it : List ℕ = 34 ∷ rest in
    let n : ℕ = length h.inner in
    let split : text ++ rest ≡ 34 ∷ (h.inner ++ after_it) =
    ap (λ (t : List ℕ). t ++ rest) h.parts
    ∙ ap (λ (t : List ℕ). 34 ∷ t) (append_assoc h.inner (34 ∷ []) rest) in
    let len : prefix_len is_string_byte (h.inner ++ after_it) ≡ n =
    longest_len is_string_byte h.inner after_it h.each (λ some. refl) in
    let text_len : length text ≡ n + 2 =
    omega (arith, ap length h.parts, length-append (34 ∷ h.inner) (34 ∷ [])) in
    record {
      is = ap lexeme_at split ∙ lexeme_string (34 ∷ (h.inner ++ after_it)) refl
          ∙ string_found (h.inner ++ after_it) n len (after h.inner after_it)
          ∙ ap (λ (t : List ℕ). lex (if_short value.String t) (n + 2)) (take_at h.inner after_it n refl)
          ∙ ap (λ (v : TokenValue). lex v (n + 2)) (sym h.value_is) ∙ ap (lex token) (sym text_len);
      stops = subst (StopsAt is_blank) (sym split) (λ some. refl);
    }

found_open : (text rest : List ℕ) (token : TokenValue) → IsOpenString text rest token → Found text rest token
found_open text rest token h =
    let n : ℕ = length h.inner in
    let split : text ++ rest ≡ 34 ∷ (h.inner ++ rest) = ap (λ (t : List ℕ). t ++ rest) h.parts in
    let len : prefix_len is_string_byte (h.inner ++ rest) ≡ n =
    longest_len is_string_byte h.inner rest h.longest.each h.longest.stops in
    let text_len : length text ≡ n + 1 = omega (arith, ap length h.parts) in
    record {
      is = ap lexeme_at split ∙ lexeme_string (34 ∷ (h.inner ++ rest)) refl
          ∙ string_open (h.inner ++ rest) n len (λ e. h.unclosed (sym (after h.inner rest) ∙ e))
          ∙ ap (λ (v : TokenValue). lex v (n + 1)) (sym h.value_is) ∙ ap (lex token) (sym text_len);
      stops = subst (StopsAt is_blank) (sym split) (λ some. refl);
    }

-- a number after its sign
signed : (negative : Bool) (digits tail : List ℕ) (token : TokenValue) (n : ℕ)
    → is_ascii_digit (get_or digits 0 0) ≡ true → int_at negative (digits ++ tail) ≡ lex token n
    → (lexeme_at (sign negative ++ (digits ++ tail)) ≡ lex token (length (sign negative) + n))
    × StopsAt is_blank (sign negative ++ (digits ++ tail))
signed true digits tail token n first is =
    let digit : is_ascii_digit (get_or (digits ++ tail) 0 0) ≡ true =
    first_of is_ascii_digit digits tail refl first in
    (lexeme_minus (45 ∷ (digits ++ tail)) digit ∙ ap byte_longer is, λ some. refl)
signed false digits tail token n first is =
    let digit : is_ascii_digit (get_or (digits ++ tail) 0 0) ≡ true =
    first_of is_ascii_digit digits tail refl first in
    let none : n ≡ 0 + n = omega arith in (
      lexeme_int (digits ++ tail) digit ∙ is ∙ ap (lex token) none,
      λ some. digit_no_blank (get_or (digits ++ tail) 0 0) digit,
    )

found_hex : (text rest : List ℕ) (token : TokenValue) → IsHexadecimal text token → Found text rest token
found_hex text rest token h =
    let after_it : List ℕ = 72 ∷ rest in
    let n : ℕ = length h.digits in
    let split : text ++ rest ≡ sign h.negative ++ (h.digits ++ after_it) =
    ap (λ (t : List ℕ). t ++ rest) h.parts ∙ append_assoc (sign h.negative ++ h.digits) (72 ∷ []) rest
    ∙ append_assoc (sign h.negative) h.digits after_it in
    let len : prefix_len is_hex_digit (h.digits ++ after_it) ≡ n =
    longest_len is_hex_digit h.digits after_it h.each (λ some. refl) in
    let number : int_at h.negative (h.digits ++ after_it) ≡ lex token (n + 1) =
    hex_found h.negative (h.digits ++ after_it) n len (after h.digits after_it)
    ∙ ap (λ (t : List ℕ). lex (int_token 16 h.negative t) (n + 1)) (take_at h.digits after_it n refl)
    ∙ ap (λ (v : TokenValue). lex v (n + 1)) (sym h.value_is) in
    let both = signed h.negative h.digits after_it token (n + 1) h.first number in
    let text_len : length text ≡ length (sign h.negative) + (n + 1) =
    omega (
      arith,
      ap length h.parts,
      length-append (sign h.negative ++ h.digits) (72 ∷ []),
      length-append (sign h.negative) h.digits,
    ) in
    record {
      is = ap lexeme_at split ∙ both.0 ∙ ap (lex token) (sym text_len);
      stops = subst (StopsAt is_blank) (sym split) both.1;
    }

found_decimal : (text rest : List ℕ) (token : TokenValue) → IsDecimal text rest token → Found text rest token
found_decimal text rest token h =
    let n : ℕ = length h.digits in
    let split : text ++ rest ≡ sign h.negative ++ (h.digits ++ rest) =
    ap (λ (t : List ℕ). t ++ rest) h.parts ∙ append_assoc (sign h.negative) h.digits rest in
    let len : prefix_len is_hex_digit (h.digits ++ rest) ≡ n =
    longest_len is_hex_digit h.digits rest h.longest.each h.longest.stops in
    let number : int_at h.negative (h.digits ++ rest) ≡ lex token n =
    decimal_found h.negative (h.digits ++ rest) n len (λ e. h.no_h (sym (after h.digits rest) ∙ e))
    ∙ ap (λ (t : List ℕ). lex (int_token 10 h.negative t) n) (take_at h.digits rest n refl)
    ∙ ap (λ (v : TokenValue). lex v n) (sym h.value_is) in
    let both = signed h.negative h.digits rest token n h.first number in
    let text_len : length text ≡ length (sign h.negative) + n =
    omega (arith, ap length h.parts, length-append (sign h.negative) h.digits) in
    record {
      is = ap lexeme_at split ∙ both.0 ∙ ap (lex token) (sym text_len);
      stops = subst (StopsAt is_blank) (sym split) both.1;
    }

found_char : (text rest : List ℕ) (token : TokenValue) → IsOtherByte text rest token → Found text rest token
found_char text rest token h =
    let b : ℕ = h.byte in
    let split : text ++ rest ≡ b ∷ rest = ap (λ (t : List ℕ). t ++ rest) h.parts in
    let text_len : length text ≡ 1 = ap length h.parts in
    let blank : is_blank b ≡ false = first_false b rest h.no_other in
    record {
      is = ap lexeme_at split ∙ lexeme_char b rest h.no_other
          ∙ ap (λ (v : TokenValue). lex v 1) (sym h.value_is)
          ∙ ap (lex token) (sym text_len);
      stops = subst (StopsAt is_blank) (sym split) (λ some. blank);
    }
  where
    first_false : (b : ℕ) (rest : List ℕ) → begins_other b rest ≡ false → is_blank b ≡ false
    first_false b rest e = (or_parts _ _ (or_parts _ _ (or_parts _ _ (or_parts _ _ e).0).0).0).0

found_none : (text rest : List ℕ) (token : TokenValue) → IsNone text rest token → Found text rest token
found_none text rest token h =
    let split : text ++ rest ≡ [] =
    ap (λ (t : List ℕ). t ++ rest) h.nothing ∙ h.at_end in
    let text_len : length text ≡ 0 = ap length h.nothing in
    record {
      is = ap lexeme_at split ∙ lexeme_none ∙ ap (λ (v : TokenValue). lex v 0) (sym h.value_is)
          ∙ ap (lex token) (sym text_len);
      stops = subst (StopsAt is_blank) (sym split) (λ some. absurd (omega arith));
    }

found : (text rest : List ℕ) (token : TokenValue) → Spells text rest token → Found text rest token
found text rest token (none h) = found_none text rest token h
found text rest token (name h) = found_name text rest token h
found text rest token (string h) = found_string text rest token h
found text rest token (open_string h) = found_open text rest token h
found text rest token (hexadecimal h) = found_hex text rest token h
found text rest token (decimal h) = found_decimal text rest token h
found text rest token (char h) = found_char text rest token h

-- what the source says of its token
record Settled (source : List ℕ) (from : ℕ) (token : Token) : Type 0 where
  beg : token.beg + length (drop (prefix_len is_blank (drop from source)) (drop from source)) ≡ length source
  end : token.end
      ≡ token.beg + (lexeme_at (drop (prefix_len is_blank (drop from source)) (drop from source))).len
  value : token.value ≡ (lexeme_at (drop (prefix_len is_blank (drop from source)) (drop from source))).token

settled : (source : List ℕ) (from : ℕ) (token : Token) → IsTokenAt source from token
    → Settled source from token
settled source from token h =
    let bytes : List ℕ = drop from source in
    let f = found h.text h.rest token.value h.spelled in
    let split : bytes ≡ h.blanks ++ (h.text ++ h.rest) =
    h.parts ∙ append_assoc h.blanks h.text h.rest in
    let n_is : prefix_len is_blank bytes ≡ length h.blanks =
    ap (prefix_len is_blank) split ∙ longest_len is_blank h.blanks (h.text ++ h.rest) h.skipped f.stops in
    let tail_is : drop (prefix_len is_blank bytes) bytes ≡ h.text ++ h.rest =
    ap (λ (k : ℕ). drop k bytes) n_is ∙ ap (drop (length h.blanks)) split
    ∙ drop_at h.blanks (h.text ++ h.rest) (length h.blanks) refl in
    let is : lexeme_at (drop (prefix_len is_blank bytes) bytes) ≡ lex token.value (length h.text) =
    ap lexeme_at tail_is ∙ f.is in
    record {
      beg = omega (arith, ap length tail_is, length-append h.text h.rest, h.beg);
      end = omega (arith, ap (λ (l : Lexeme). l.len) is, h.beg, h.end);
      value = sym (ap (λ (l : Lexeme). l.token) is);
    }

same_token : (a b : Token) → a.beg ≡ b.beg → a.end ≡ b.end → a.value ≡ b.value → a ≡ b
same_token a b beg end value =
    let first : Token = record { beg = b.beg; end = a.end; value = a.value } in
    let second : Token = record { beg = b.beg; end = b.end; value = a.value } in
    let one : a ≡ first = ap (λ (x : ℕ). record { beg = x; end = a.end; value = a.value }) beg in
    let two : first ≡ second = ap (λ (x : ℕ). record { beg = b.beg; end = x; value = a.value }) end in
    let three : second ≡ b = ap (λ (x : TokenValue). record { beg = b.beg; end = b.end; value = x }) value in
    one ∙ two ∙ three

pub lemma_one_token : (source : List ℕ) (from : ℕ) (a b : Token) → IsTokenAt source from a → IsTokenAt source from b
    → a ≡ b
lemma_one_token source from a b h k =
    let s = settled source from a h in
    let t = settled source from b k in
    let beg : a.beg ≡ b.beg = omega (arith, s.beg, t.beg) in
    same_token a b beg (omega (arith, s.end, t.end, beg)) (s.value ∙ sym t.value)
