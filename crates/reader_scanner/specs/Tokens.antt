-- Tokens: what stands in a source of bytes after a position, class by class, over whole stretches of bytes.
use Rattle.std.specs.Prelude.{◌≡◌, ◌≢◌, ℕ, ◌+◌, ◌<◌, Bool, true, false, ◌&&◌, ◌||◌, not, ◌==◌, nat_le, nat_lt}
use Rattle.std.specs.Prelude.{if◌then◌else◌, List, [], ◌∷◌, ◌++◌, length, drop, slice_index, pos, ◌-ℤ◌}
use Rattle.std.specs.Char.{is_ascii_alphabetic, is_ascii_alphanumeric, is_ascii_digit, digit_value}
use Rattle.std.specs.Int.{is_in_range}
use Rattle.std.specs.List.{AllPass, list_all}
use Rattle.std.specs.Str.Parse.{digits_value}
use Rattle.reader_scanner.specs.declared.token.TheConstants.{MAX_TOKEN, MAX_INT}
use Rattle.reader_scanner.specs.declared.token.Token.{Token}
use Rattle.reader_scanner.specs.declared.token.TokenValue.{TokenValue}
use Rattle.reader_scanner.specs.declared.token.TokenValue.TheVariants as value

-- a blank, a tab or a line end
abbrev pub is_blank : ℕ → Bool
is_blank b = b == 32 || b == 9 || b == 13

-- a letter, a digit or a full stop
abbrev pub is_name_byte : ℕ → Bool
is_name_byte b = is_ascii_alphanumeric b || b == 46

-- what may stand between quotes: neither a quote nor a line end
abbrev pub is_string_byte : ℕ → Bool
is_string_byte b = not (b == 34) && not (b == 13)

-- a decimal digit, or A to F
abbrev pub is_hex_digit : ℕ → Bool
is_hex_digit b = is_ascii_digit b || is_in_range 65 70 b

-- no byte that passes stands in front
abbrev pub StopsAt : (ℕ → Bool) → List ℕ → Type 0
StopsAt p rest = 0 < length rest → p (slice_index rest 0) ≡ false

-- the longest stretch of bytes that pass: each of them does, and none follows it
pub record IsLongestStretch (p : ℕ → Bool) (text rest : List ℕ) : Type 0 where
  pub each : AllPass p text
  pub stops : StopsAt p rest

-- the value of a token that has these bytes, where they are at most MAX_TOKEN; else it is Inval
abbrev pub if_short : (List ℕ → TokenValue) → List ℕ → TokenValue
if_short value_of bytes = if nat_le (length bytes) MAX_TOKEN then value_of bytes else value.Inval

-- a minus sign, or none
abbrev pub sign : Bool → List ℕ
sign negative = if negative then 45 ∷ [] else []

-- each is a digit in this base, and the number that they write isn't past the greatest
abbrev pub is_size : (radix : ℕ) → List ℕ → Bool
is_size radix digits =
    list_all (λ d. nat_lt (digit_value d) radix) digits && nat_le (digits_value radix digits) MAX_INT

-- the number that the digits write in this base, where there is one and it isn't past the greatest; else
-- Inval
abbrev pub int_token : (radix : ℕ) → Bool → List ℕ → TokenValue
int_token radix negative digits =
    if is_size radix digits
    then value.Int (if negative then pos 0 -ℤ pos (digits_value radix digits) else pos (digits_value radix
    digits))
    else value.Inval

-- no byte is left
pub record IsNone (text rest : List ℕ) (token : TokenValue) : Type 0 where
  pub nothing : text ≡ []
  pub at_end : rest ≡ []
  pub value_is : token ≡ value.Inval

-- a name: a letter, and the longest stretch of letters, digits and full stops
pub record IsName (text rest : List ℕ) (token : TokenValue) : Type 0 where
  pub first : is_ascii_alphabetic (slice_index text 0) ≡ true
  pub longest : IsLongestStretch is_name_byte text rest
  pub value_is : token ≡ if_short value.Name text

-- a string: what stands between two quotes on one line
pub record IsString (text : List ℕ) (token : TokenValue) : Type 0 where
  pub inner : List ℕ
  pub parts : text ≡ 34 ∷ inner ++ 34 ∷ []
  pub each : AllPass is_string_byte inner
  pub value_is : token ≡ if_short value.String inner

-- a quote that no other one on its line follows, up to the line's end
pub record IsOpenString (text rest : List ℕ) (token : TokenValue) : Type 0 where
  pub inner : List ℕ
  pub parts : text ≡ 34 ∷ inner
  pub longest : IsLongestStretch is_string_byte inner rest
  pub unclosed : slice_index rest 0 ≢ 34
  pub value_is : token ≡ value.Inval

-- a number in base 16: perhaps a minus sign, a decimal digit, digits and A to F, and an H
pub record IsHexadecimal (text : List ℕ) (token : TokenValue) : Type 0 where
  pub negative : Bool
  pub digits : List ℕ
  pub parts : text ≡ sign negative ++ digits ++ 72 ∷ []
  pub first : is_ascii_digit (slice_index digits 0) ≡ true
  pub each : AllPass is_hex_digit digits
  pub value_is : token ≡ int_token 16 negative digits

-- a number in base 10: the same without an H after the longest stretch of digits and A to F, which may have
-- no A to F
pub record IsDecimal (text rest : List ℕ) (token : TokenValue) : Type 0 where
  pub negative : Bool
  pub digits : List ℕ
  pub parts : text ≡ sign negative ++ digits
  pub first : is_ascii_digit (slice_index digits 0) ≡ true
  pub longest : IsLongestStretch is_hex_digit digits rest
  pub no_h : slice_index rest 0 ≢ 72
  pub value_is : token ≡ int_token 10 negative digits

-- whether a byte with these after it is skipped or begins a name, a string or a number
abbrev pub begins_other : ℕ → List ℕ → Bool
begins_other b rest =
    is_blank b || is_ascii_alphabetic b || b == 34 || is_ascii_digit b
    || (b == 45 && is_ascii_digit (slice_index rest 0))

-- any other byte
pub record IsOtherByte (text rest : List ℕ) (token : TokenValue) : Type 0 where
  pub byte : ℕ
  pub parts : text ≡ byte ∷ []
  pub no_other : begins_other byte rest ≡ false
  pub value_is : token ≡ value.Char byte

-- the text of a token, with the rest after it, and the token's value
pub data Spells (text rest : List ℕ) (token : TokenValue) : Type 0 where
  none : IsNone text rest token → Spells text rest token
  name : IsName text rest token → Spells text rest token
  string : IsString text token → Spells text rest token
  open_string : IsOpenString text rest token → Spells text rest token
  hexadecimal : IsHexadecimal text token → Spells text rest token
  decimal : IsDecimal text rest token → Spells text rest token
  char : IsOtherByte text rest token → Spells text rest token

-- the token of a source after a position: blanks are skipped, then its text stands from beg to end
pub record IsTokenAt (source : List ℕ) (from : ℕ) (token : Token) : Type 0 where
  pub blanks : List ℕ
  pub text : List ℕ
  pub rest : List ℕ
  pub parts : drop from source ≡ blanks ++ text ++ rest
  pub skipped : AllPass is_blank blanks
  pub spelled : Spells text rest token.value
  pub beg : token.beg + length text + length rest ≡ length source
  pub end : token.end + length rest ≡ length source

-- every source has a token after every position
abbrev pub TokenThere : Type 0
TokenThere = (source : List ℕ) (from : ℕ) → (token : Token) × IsTokenAt source from token

-- and no other one
abbrev pub OneToken : Type 0
OneToken =
    (source : List ℕ) (from : ℕ) (a b : Token) → IsTokenAt source from a → IsTokenAt source from b → a ≡ b
