-- How names of characters are spelled in a script: a site, an offset and how many there are, as often as there are words.
use Rattle.std.specs.Prelude.{ℕ, ◌+◌, ◌^◌, ◌&&◌, nat_le, nat_lt, List, [], ◌∷◌, Option, Some, None, option_map}
use Rattle.char_files.specs.declared.TheConstants.{MAX_FILE}
use Rattle.operations.specs.NameSet.{Range}
use Rattle.script_events.specs.FrontWords.{words_of}
use Rattle.script_events.specs.Words.{◌>>=◌, some_if, split_word, front_word, number_in}

-- names of a site, as a message has them too: the site, the first one's offset, and how many they are
abbrev pub range_of_words : (site at len : List ℕ) → Option Range
range_of_words site at len = do
  s ← number_in site
  a ← number_in at
  l ← number_in len
  some_if (nat_le 1 s && nat_lt s (2 ^ 16) && nat_le 1 l && nat_le (a + l) MAX_FILE) (record { site = s; at = a; len = l })

-- the names that words spell
unfoldable pub ranges_among : List (List ℕ) → Option (List Range)
ranges_among [] = Some []
ranges_among (site ∷ []) = None
ranges_among (site ∷ at ∷ []) = None
ranges_among (site ∷ at ∷ len ∷ words) =
    range_of_words site at len >>= λ names. option_map (λ others. names ∷ others) (ranges_among words)

-- the names of a line's rest, of one site at least
abbrev pub ranges_in_words : List ℕ → Option (List Range)
ranges_in_words rest = ranges_among (words_of rest)

-- the names in front, and what stands after their blank, if they aren't the last ones
abbrev pub split_range : List ℕ → Option (Range × Option (List ℕ))
split_range words = do
  site ← split_word words
  at ← split_word site.1
  names ← range_of_words site.0 at.0 (front_word at.1).0
  Some (names, (front_word at.1).1)
