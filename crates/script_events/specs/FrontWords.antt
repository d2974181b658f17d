-- How fronts are spelled in a script: a site and a seq, as often as there are words, and no site twice.
use Rattle.std.specs.Prelude.{ℕ, ◌^◌, ◌&&◌, not, nat_le, nat_lt, List, [], ◌∷◌, Bool, ◌==◌, Option, Some, None}
use Rattle.std.specs.List.{list_any, slice_split}
use Rattle.std.specs.Option.{option_map_or}
use Rattle.texts.specs.declared.front.Front.{Front}
use Rattle.script_events.specs.Words.{◌>>=◌, some_if, split_word, front_word, number_in}

-- the words of a line, with one blank between them
abbrev pub words_of : List ℕ → List (List ℕ)
words_of bytes = slice_split (λ b. b == 32) bytes

-- a site's number
abbrev pub site_in : List ℕ → Option ℕ
site_in word = number_in word >>= λ site. some_if (nat_le 1 site && nat_lt site (2 ^ 16)) site

-- whether a site has a front among these
abbrev pub has_front : List Front → (site : ℕ) → Bool
has_front fronts site = list_any (λ front. front.site == site) fronts

-- a site's front before others, if they have none of this site
abbrev pub with_front : Front → List Front → Option (List Front)
with_front front fronts = some_if (not (has_front fronts front.site)) (front ∷ fronts)

-- the front that two words spell
abbrev pub front_of_words : (site seq : List ℕ) → Option Front
front_of_words site seq = do
  s ← site_in site
  n ← number_in seq
  Some (record { site = s; seq = n })

-- the fronts that words spell
unfoldable pub fronts_among : List (List ℕ) → Option (List Front)
fronts_among [] = Some []
fronts_among (site ∷ []) = None
fronts_among (site ∷ seq ∷ words) =
    front_of_words site seq >>= λ front. fronts_among words >>= λ fronts. with_front front fronts

-- the fronts of a line's rest: none where it has none
abbrev pub fronts_in : Option (List ℕ) → Option (List Front)
fronts_in rest = option_map_or (λ words. fronts_among (words_of words)) rest (Some [])

-- the front in front, and what stands after its blank, if it isn't the last one
abbrev pub split_front : List ℕ → Option (Front × Option (List ℕ))
split_front words = do
  cut ← split_word words
  front ← front_of_words cut.0 (front_word cut.1).0
  Some (front, (front_word cut.1).1)
