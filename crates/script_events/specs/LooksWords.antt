-- How the words of `looks` are spelled: a font, a colour and an offset, in this order, one of them at least.
use Rattle.std.specs.Prelude.{ℕ, ℤ, pos, negsuc, neg_ℤ, int_le, List, [], ◌∷◌, length, take, drop, Bool, ◌&&◌}
use Rattle.std.specs.Prelude.{◌==◌, nat_le, nat_lt, if◌then◌else◌, Option, Some, None, is_some, option_map, codes}
use Rattle.std.specs.Option.{option_map_or}
use Rattle.looks.specs.declared.colour.TheConstants.{MAX_COLOUR}
use Rattle.looks.specs.declared.looks.Looks.{Looks}
use Rattle.looks.specs.Looks.{plain_looks}
use Rattle.looks.specs.Sel.{Selection, bits_of}
use Rattle.operations.specs.Reading.{is_font_name}
use Rattle.script_events.specs.Words.{◌>>=◌, some_if, is_word, front_word, number_in}

-- what stands after this key, where a word begins with it
abbrev pub value_after_key : (key word : List ℕ) → Option (List ℕ)
value_after_key key word = some_if (is_word (take (length key) word) key) (drop (length key) word)

-- the value of this key's attribute, where the words that are left begin with it; and the words that are then left
abbrev pub split_value : (key : List ℕ) → Option (List ℕ) → Option (List ℕ) × Option (List ℕ)
split_value key None = (None, None)
split_value key (Some words) =
    option_map_or (λ value. (Some value, (front_word words).1)) (value_after_key key (front_word words).0)
    (None, Some words)

-- a font's name
abbrev pub font_in : List ℕ → Option (List ℕ)
font_in word = some_if (is_font_name word) word

-- a colour's number
abbrev pub colour_in : List ℕ → Option ℕ
colour_in word = number_in word >>= λ colour. some_if (nat_le colour MAX_COLOUR) colour

-- a number, perhaps after a `-`
abbrev pub signed_in : List ℕ → Option ℤ
signed_in [] = None
signed_in (b ∷ word) =
    if b == 45 then option_map (λ n. neg_ℤ (pos n)) (number_in word)
    else option_map (λ n. pos n) (number_in (b ∷ word))

-- an offset, -128 to 127
abbrev pub offset_in : List ℕ → Option ℤ
offset_in word = signed_in word >>= λ n. some_if (int_le (negsuc 127) n && int_le n (pos 127)) n

-- what a value spells, if it is given, and else the default
abbrev pub given_or : {A : Type 0} → (List ℕ → Option A) → A → Option (List ℕ) → Option A
given_or read default None = Some default
given_or read default (Some value) = read value

-- the looks of these values, with the default looks for what isn't given
abbrev pub looks_in_words : (font colour offset : Option (List ℕ)) → Option Looks
looks_in_words font colour offset = do
  f ← given_or font_in plain_looks.font font
  c ← given_or colour_in plain_looks.colour colour
  o ← given_or offset_in plain_looks.offset offset
  Some (record { font = f; colour = c; offset = o })

-- which of the attributes are given: one at least
abbrev pub selection_in : (font colour offset : Bool) → Option Selection
selection_in font colour offset =
    let sel : Selection = record { font = font; colour = colour; offset = offset } in
    some_if (nat_lt 0 (bits_of sel)) sel

-- looks with the attributes of these values, and which these are
abbrev pub change_of : (font colour offset : Option (List ℕ)) → Option (Selection × Looks)
change_of font colour offset = do
  sel ← selection_in (is_some font) (is_some colour) (is_some offset)
  looks ← looks_in_words font colour offset
  Some (sel, looks)

-- the attributes that these words give, where they are all that there is
abbrev pub change_in : List ℕ → Option (Selection × Looks)
change_in words =
    let font = split_value (codes "font=") (Some words) in
    let colour = split_value (codes "colour=") font.1 in
    let offset = split_value (codes "offset=") colour.1 in
    if is_some offset.1 then None else change_of font.0 colour.0 offset.0
