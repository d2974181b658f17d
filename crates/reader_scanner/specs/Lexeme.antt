-- Tokens from left to right: what stands in front of bytes, and how many of them it takes.
use Rattle.std.specs.Prelude.{ℕ, ◌+◌, Bool, true, false, ◌&&◌, ◌==◌, if◌then◌else◌, List, [], ◌∷◌, take}
use Rattle.std.specs.Prelude.{slice_index}
use Rattle.std.specs.Char.{is_ascii_alphabetic, is_ascii_digit}
use Rattle.std.specs.List.{prefix_len}
use Rattle.reader_scanner.specs.declared.scanner.ByteClass.{ByteClass}
use Rattle.reader_scanner.specs.declared.scanner.ByteClass.TheVariants as class
use Rattle.reader_scanner.specs.declared.token.TokenValue.{TokenValue}
use Rattle.reader_scanner.specs.declared.token.TokenValue.TheVariants as value
use Rattle.reader_scanner.specs.Tokens.{is_blank, is_name_byte, is_string_byte, is_hex_digit, if_short}
use Rattle.reader_scanner.specs.Tokens.{int_token}

-- a token's value, and how many bytes it takes
pub record Lexeme : Type 0 where
  pub token : TokenValue
  pub len : ℕ

-- the bytes of a class
abbrev pub has_byte : ByteClass → ℕ → Bool
has_byte class.Blank = is_blank
has_byte class.OfName = is_name_byte
has_byte class.OfString = is_string_byte
has_byte class.HexDigit = is_hex_digit

-- a name, from its first letter on
unfoldable pub name_at : List ℕ → Lexeme
name_at bytes = record {
  token = if_short value.Name (take (prefix_len is_name_byte bytes) bytes);
  len = prefix_len is_name_byte bytes;
}

-- a string, from after its first quote on; the quotes count
unfoldable pub string_at : List ℕ → Lexeme
string_at bytes =
    let n = prefix_len is_string_byte bytes in
    if slice_index bytes n == 34
    then record { token = if_short value.String (take n bytes); len = n + 2 }
    else record { token = value.Inval; len = n + 1 }

-- a number, from its first digit on
unfoldable pub int_at : Bool → List ℕ → Lexeme
int_at negative bytes =
    let n = prefix_len is_hex_digit bytes in
    if slice_index bytes n == 72
    then record { token = int_token 16 negative (take n bytes); len = n + 1 }
    else record { token = int_token 10 negative (take n bytes); len = n }

-- one byte more
abbrev pub byte_longer : Lexeme → Lexeme
byte_longer l = record l { len = 1 + l.len }

-- whatever stands in front of bytes that begin with no blank
unfoldable pub lexeme_at : List ℕ → Lexeme
lexeme_at [] = record { token = value.Inval; len = 0 }
lexeme_at (b ∷ rest) =
    if is_ascii_alphabetic b then name_at (b ∷ rest)
    else (if b == 34 then string_at rest
    else (if is_ascii_digit b then int_at false (b ∷ rest)
    else (if b == 45 && is_ascii_digit (slice_index rest 0) then byte_longer (int_at true rest)
    else record { token = value.Char b; len = 1 })))
