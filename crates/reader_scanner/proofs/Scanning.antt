-- What the functions of the scanner find, in the words of the definition of lexemes.
use Rattle.std.proofs.Common.{◌≡◌, ◌≢◌, ℕ, ◌+◌, ◌-◌, ◌<◌, ◌≤◌, Bool, true, false, cond, eqb, leb}
use Rattle.std.proofs.Common.{◌&&◌}
use Rattle.std.proofs.Common.{List, length, get_or, take, drop, refl, sym, ap, ◌∙◌}
use Rattle.std.proofs.Common.{arith}
use Rattle.std.specs.Char.{is_ascii_alphabetic, is_ascii_digit}
use Rattle.std.specs.List.{prefix_len}
use Rattle.std.proofs.lemmas.Bool.{le-leb, leb-true}
use Rattle.std.proofs.lemmas.List.{length-map, length-drop, get_or-drop, drop-drop}
use Rattle.std.proofs.Math.ListN.{drop_of_length-le}
use Rattle.char_files.specs.Stretch.{Item}
use Rattle.reader_scanner.specs.declared.token.TheConstants.{MAX_TOKEN}
use Rattle.reader_scanner.specs.declared.token.TokenValue.{TokenValue}
use Rattle.reader_scanner.specs.declared.token.TokenValue.TheVariants as value
use Rattle.reader_scanner.specs.Lexeme.{name_at, string_at, int_at, lexeme_at, byte_longer}
use Rattle.reader_scanner.specs.ReaderState.{item_bytes, bytes_from, bytes_between}
use Rattle.reader_scanner.specs.Tokens.{is_name_byte, is_string_byte, is_hex_digit, if_short, int_token}
use Rattle.reader_scanner.proofs.Bytes.{between_length}
use Rattle.reader_scanner.proofs.Lexemes.{lex, lexeme_none, lexeme_name, lexeme_string, lexeme_int}
use Rattle.reader_scanner.proofs.Lexemes.{lexeme_minus}
use Rattle.reader_scanner.proofs.Lexemes.{lexeme_other, name_found, string_found, string_open, hex_found}
use Rattle.reader_scanner.proofs.Lexemes.{decimal_found}
use Rattle.reader_scanner.proofs.Stretches.{first_left, byte_within}

-- a text that is short enough, or isn't
pub short_is : (value_of : List ℕ → TokenValue) (items : List Item) (beg end : ℕ) (text : List ℕ) → beg ≤ end
    → end ≤ length items → end - beg ≤ MAX_TOKEN → text ≡ bytes_between items beg end
    → value_of text ≡ if_short value_of (bytes_between items beg end)
short_is value_of items beg end text le inside few is =
    let test : leb (length (bytes_between items beg end)) MAX_TOKEN ≡ true =
    le-leb _ _ (omega (arith, between_length items beg end le inside)) in
    ap value_of is
    ∙ ap (λ (b : Bool). cond b (value_of (bytes_between items beg end)) value.Inval) (sym test)

no_le : (a b : ℕ) → b < a → leb a b ≡ false
no_le a b lt = go (leb a b) refl
  where
    go : (t : Bool) → leb a b ≡ t → leb a b ≡ false
    go true e = absurd (omega (arith, leb-true a b e))
    go false e = e

pub long_is : (value_of : List ℕ → TokenValue) (items : List Item) (beg end : ℕ) → beg ≤ end
    → end ≤ length items → MAX_TOKEN < end - beg
    → value.Inval ≡ if_short value_of (bytes_between items beg end)
long_is value_of items beg end le inside many =
    let test : leb (length (bytes_between items beg end)) MAX_TOKEN ≡ false =
    no_le _ _ (omega (arith, between_length items beg end le inside)) in
    ap (λ (b : Bool). cond b (value_of (bytes_between items beg end)) value.Inval) (sym test)

-- the stretch that a test finds, as bytes between two positions
between_is : (p : ℕ → Bool) (items : List Item) (beg end : ℕ)
    → end ≡ beg + prefix_len p (bytes_from items beg)
    → take (prefix_len p (bytes_from items beg)) (bytes_from items beg) ≡ bytes_between items beg end
between_is p items beg end e =
    let n : prefix_len p (bytes_from items beg) ≡ end - beg = omega arith in
    ap (λ (k : ℕ). take k (bytes_from items beg)) n

-- the byte after it
byte_is : (p : ℕ → Bool) (items : List Item) (beg end b : ℕ)
    → end ≡ beg + prefix_len p (bytes_from items beg) → b ≡ get_or (item_bytes items) end 0
    → get_or (bytes_from items beg) (prefix_len p (bytes_from items beg)) 0 ≡ b
byte_is p items beg end b e is =
    get_or-drop beg (item_bytes items) (prefix_len p (bytes_from items beg)) 0
    ∙ ap (λ (k : ℕ). get_or (item_bytes items) k 0) (sym e) ∙ sym is

-- a byte above 0 stands within the source
pub item_within : (items : List Item) (pos b : ℕ) → b ≡ get_or (item_bytes items) pos 0 → 0 < b
    → pos < length items
item_within items pos b is some =
    omega (arith, byte_within (item_bytes items) pos b (sym is) some, length-map items (λ (i : Item). i.0))

pub name_is : (items : List Item) (beg end : ℕ) → end ≡ beg + prefix_len is_name_byte (bytes_from items beg)
    → name_at (bytes_from items beg)
    ≡ lex (if_short value.Name (bytes_between items beg end)) (prefix_len is_name_byte (bytes_from items beg))
name_is items beg end e =
    name_found (bytes_from items beg) (prefix_len is_name_byte (bytes_from items beg)) refl
    ∙ ap (λ (t : List ℕ). lex (if_short value.Name t) (prefix_len is_name_byte (bytes_from items beg)))
    (between_is is_name_byte items beg end e)

pub string_is : (items : List Item) (beg end b : ℕ)
    → end ≡ beg + prefix_len is_string_byte (bytes_from items beg)
    → b ≡ get_or (item_bytes items) end 0 → b ≡ 34
    → string_at (bytes_from items beg) ≡ lex (if_short value.String (bytes_between items beg end))
    (prefix_len is_string_byte (bytes_from items beg) + 2)
string_is items beg end b e is quote =
    string_found (bytes_from items beg) (prefix_len is_string_byte (bytes_from items beg)) refl
    (byte_is is_string_byte items beg end b e is ∙ quote)
    ∙ ap (λ (t : List ℕ). lex (if_short value.String t)
    (prefix_len is_string_byte (bytes_from items beg) + 2)) (between_is is_string_byte items beg end e)

pub open_is : (items : List Item) (beg end b : ℕ)
    → end ≡ beg + prefix_len is_string_byte (bytes_from items beg)
    → b ≡ get_or (item_bytes items) end 0 → b ≢ 34
    → string_at (bytes_from items beg) ≡ lex value.Inval (prefix_len is_string_byte (bytes_from items beg)
    + 1)
open_is items beg end b e is other =
    string_open (bytes_from items beg) (prefix_len is_string_byte (bytes_from items beg)) refl
    (λ f. other (sym (byte_is is_string_byte items beg end b e is) ∙ f))

pub hex_is : (negative : Bool) (items : List Item) (beg end b : ℕ)
    → end ≡ beg + prefix_len is_hex_digit (bytes_from items beg) → b ≡ get_or (item_bytes items) end 0 → b ≡ 72
    → int_at negative (bytes_from items beg) ≡ lex (int_token 16 negative (bytes_between items beg end))
    (prefix_len is_hex_digit (bytes_from items beg) + 1)
hex_is negative items beg end b e is h =
    hex_found negative (bytes_from items beg) (prefix_len is_hex_digit (bytes_from items beg)) refl
    (byte_is is_hex_digit items beg end b e is ∙ h)
    ∙ ap (λ (t : List ℕ). lex (int_token 16 negative t)
    (prefix_len is_hex_digit (bytes_from items beg) + 1)) (between_is is_hex_digit items beg end e)

pub decimal_is : (negative : Bool) (items : List Item) (beg end b : ℕ)
    → end ≡ beg + prefix_len is_hex_digit (bytes_from items beg) → b ≡ get_or (item_bytes items) end 0 → b ≢ 72
    → int_at negative (bytes_from items beg) ≡ lex (int_token 10 negative (bytes_between items beg end))
    (prefix_len is_hex_digit (bytes_from items beg))
decimal_is negative items beg end b e is other =
    decimal_found negative (bytes_from items beg) (prefix_len is_hex_digit (bytes_from items beg)) refl
    (λ f. other (sym (byte_is is_hex_digit items beg end b e is) ∙ f))
    ∙ ap (λ (t : List ℕ). lex (int_token 10 negative t) (prefix_len is_hex_digit (bytes_from items beg)))
    (between_is is_hex_digit items beg end e)

-- ---- which class it is, by the byte at a position

first_is : (items : List Item) (beg b : ℕ) → b ≡ get_or (item_bytes items) beg 0
    → get_or (bytes_from items beg) 0 0 ≡ b
first_is items beg b is = first_left (item_bytes items) beg ∙ sym is

-- the bytes from one position further on
next_from : (items : List Item) (beg : ℕ) → drop 1 (bytes_from items beg) ≡ bytes_from items (beg + 1)
next_from items beg = drop-drop 1 beg (item_bytes items)

pub is_none : (items : List Item) (beg : ℕ) → length items ≤ beg
    → lexeme_at (bytes_from items beg) ≡ lex value.Inval 0
is_none items beg le =
    let past : length (item_bytes items) ≤ beg = omega (arith, length-map items (λ (i : Item). i.0)) in
    ap lexeme_at (drop_of_length-le (item_bytes items) past) ∙ lexeme_none

pub is_name : (items : List Item) (beg b : ℕ) → b ≡ get_or (item_bytes items) beg 0
    → is_ascii_alphabetic b ≡ true → lexeme_at (bytes_from items beg) ≡ name_at (bytes_from items beg)
is_name items beg b is letter =
    lexeme_name (bytes_from items beg) (ap is_ascii_alphabetic (first_is items beg b is) ∙ letter)

pub is_string : (items : List Item) (beg b : ℕ) → b ≡ get_or (item_bytes items) beg 0 → b ≡ 34
    → lexeme_at (bytes_from items beg) ≡ string_at (bytes_from items (beg + 1))
is_string items beg b is quote =
    lexeme_string (bytes_from items beg) (first_is items beg b is ∙ quote)
    ∙ ap string_at (next_from items beg)

pub is_int : (items : List Item) (beg b : ℕ) → b ≡ get_or (item_bytes items) beg 0
    → is_ascii_digit b ≡ true → lexeme_at (bytes_from items beg) ≡ int_at false (bytes_from items beg)
is_int items beg b is digit =
    lexeme_int (bytes_from items beg) (ap is_ascii_digit (first_is items beg b is) ∙ digit)

abbrev minus_at : List ℕ → ℕ → Bool
minus_at bytes pos = eqb (get_or bytes pos 0) 45 && is_ascii_digit (get_or bytes (pos + 1) 0)

minus_is : (items : List Item) (beg : ℕ)
    → (eqb (get_or (bytes_from items beg) 0 0) 45
    && is_ascii_digit (get_or (drop 1 (bytes_from items beg)) 0 0)) ≡ minus_at (item_bytes items) beg
minus_is items beg =
    ap (λ (l : List ℕ). eqb (get_or (bytes_from items beg) 0 0) 45 && is_ascii_digit (get_or l 0 0))
    (next_from items beg)
    ∙ ap (λ (x : ℕ). eqb x 45 && is_ascii_digit (get_or (bytes_from items (beg + 1)) 0 0))
    (first_left (item_bytes items) beg)
    ∙ ap (λ (x : ℕ). eqb (get_or (item_bytes items) beg 0) 45 && is_ascii_digit x)
    (first_left (item_bytes items) (beg + 1))

pub is_negative : (items : List Item) (beg : ℕ) → minus_at (item_bytes items) beg ≡ true
    → lexeme_at (bytes_from items beg) ≡ byte_longer (int_at true (bytes_from items (beg + 1)))
is_negative items beg minus =
    lexeme_minus (bytes_from items beg) (minus_is items beg ∙ minus)
    ∙ ap (λ (l : List ℕ). byte_longer (int_at true l)) (next_from items beg)

pub is_other : (items : List Item) (beg b : ℕ) → beg < length items → b ≡ get_or (item_bytes items) beg 0
    → is_ascii_alphabetic b ≡ false → b ≢ 34 → is_ascii_digit b ≡ false
    → minus_at (item_bytes items) beg ≡ false → lexeme_at (bytes_from items beg) ≡ lex (value.Char b) 1
is_other items beg b lt is letter quote digit minus =
    let first = first_is items beg b is in
    let some : 0 < length (bytes_from items beg) =
    omega (arith, length-drop beg (item_bytes items), length-map items (λ (i : Item). i.0)) in
    lexeme_other (bytes_from items beg) some (ap is_ascii_alphabetic first ∙ letter)
    (λ e. quote (sym first ∙ e)) (ap is_ascii_digit first ∙ digit) (minus_is items beg ∙ minus)
    ∙ ap (λ (x : ℕ). lex (value.Char x) 1) first
