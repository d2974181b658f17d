-- The names of characters that the words of a line spell.
use Rattle.std.proofs.Common.{◌≡◌, ℕ, List, [], ◌∷◌, Option, Some, None, option_map, refl, sym, ap, ◌∙◌}
use Rattle.std.specs.Option.{option_map_or}
use Rattle.std.proofs.lemmas.Option.{same_Some}
use Rattle.operations.specs.NameSet.{Range}
use Rattle.script_events.specs.FrontWords.{words_of}
use Rattle.script_events.specs.NameWords.{range_of_words, ranges_among, ranges_in_words, split_range}
use Rattle.script_events.specs.Words.{◌>>=◌, front_word, split_word}
use Rattle.script_events.proofs.ReadWords.{Cuts, in_front, words_cut}

-- the names of what is left
abbrev pub names_left : Option (List ℕ) → Option (List Range)
names_left rest = option_map_or ranges_in_words rest (Some [])

-- names of a site, and what stands after them
abbrev Cut : Type 0
Cut = Range × Option (List ℕ)

-- those names, and the ones after them
abbrev read_all : Cut → Option (List Range)
read_all cut = option_map (λ others. cut.0 ∷ others) (names_left cut.1)

abbrev with_rest : Option (List ℕ) → Range → Option Cut
with_rest rest names = Some (names, rest)

-- the names in front, where their site's word was cut off, and where their offset's was, too
abbrev after_at : (site at rest : List ℕ) → Option Cut
after_at site at rest = range_of_words site at (front_word rest).0 >>= with_rest (front_word rest).1

abbrev after_site : (site rest : List ℕ) → Option Cut
after_site site rest = split_word rest >>= λ at. after_at site at.0 at.1

by_names : (read : Option Range) (rest : Option (List ℕ))
    → (read >>= λ names. option_map (λ others. names ∷ others) (ranges_among (option_map_or words_of rest [])))
    ≡ ((read >>= with_rest rest) >>= read_all)
unfolding ranges_among
by_names None rest = refl
by_names (Some names) None = refl
by_names (Some names) (Some words) = refl

with_len : (site at rest : List ℕ) → ranges_among (site ∷ at ∷ words_of rest) ≡ (after_at site at rest >>= read_all)
unfolding ranges_among
with_len site at rest =
    ap (λ (words : List (List ℕ)). ranges_among (site ∷ at ∷ words)) (words_cut rest)
    ∙ by_names (range_of_words site at (front_word rest).0) (front_word rest).1

at_step : (site words : List ℕ) (cut : Option (List ℕ × List ℕ))
    → ranges_among (site ∷ (in_front words cut).0 ∷ option_map_or words_of (in_front words cut).1 [])
    ≡ ((cut >>= λ (c : List ℕ × List ℕ). after_at site c.0 c.1) >>= read_all)
unfolding ranges_among
at_step site words None = refl
at_step site words (Some cut) = with_len site cut.0 cut.1

with_at : (site rest : List ℕ) → ranges_among (site ∷ words_of rest) ≡ (after_site site rest >>= read_all)
with_at site rest =
    ap (λ (words : List (List ℕ)). ranges_among (site ∷ words)) (words_cut rest) ∙ at_step site rest (split_word rest)

site_step : (words : List ℕ) (cut : Option (List ℕ × List ℕ))
    → ranges_among ((in_front words cut).0 ∷ option_map_or words_of (in_front words cut).1 [])
    ≡ ((cut >>= λ (c : List ℕ × List ℕ). after_site c.0 c.1) >>= read_all)
unfolding ranges_among
site_step words None = refl
site_step words (Some cut) = with_at cut.0 cut.1

-- the names of some words are those in front and the ones after them
pub names_step : (words : List ℕ) → ranges_in_words words ≡ (split_range words >>= read_all)
names_step words = ap ranges_among (words_cut words) ∙ site_step words (split_word words)

-- so they are where those in front were read
pub names_cut : (words : List ℕ) (names : Range) (after : Option (List ℕ)) → split_range words ≡ Some (names, after)
    → names_left (Some words) ≡ option_map (λ others. names ∷ others) (names_left after)
names_cut words names after is = names_step words ∙ ap (λ (cut : Option Cut). cut >>= read_all) is

-- and there are none where they aren't names
pub names_wrong : (words : List ℕ) → split_range words ≡ None → names_left (Some words) ≡ None
names_wrong words is = names_step words ∙ ap (λ (cut : Option Cut). cut >>= read_all) is

onto : (names : Range) (after : Option (List Range)) (all : List Range) → option_map (λ others. names ∷ others) after ≡ Some all
    → (others : List Range) × (after ≡ Some others) × (all ≡ names ∷ others)
onto names None all is = absurd cc
onto names (Some others) all is = (others, refl, sym (same_Some (names ∷ others) all is))

pub names_cuts : (left : List ℕ) (names : Range) (after : Option (List ℕ)) → split_range left ≡ Some (names, after)
    → Cuts names_left left names after
names_cuts left names after cut all is = onto names (names_left after) all (sym (names_cut left names after cut) ∙ is)
