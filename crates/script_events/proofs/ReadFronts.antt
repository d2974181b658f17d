-- The fronts that the words of a line spell.
use Rattle.std.proofs.Common.{◌≡◌, ℕ, List, [], ◌∷◌, Bool, true, false, ◌==◌, not, Option, Some, None, option_map, refl, sym, ap, ◌∙◌}
use Rattle.std.specs.Prelude.{IfSome, ◌||◌}
use Rattle.std.specs.Option.{option_map_or}
use Rattle.std.proofs.lemmas.Option.{same_Some}
use Rattle.texts.specs.declared.front.Front.{Front}
use Rattle.script_events.specs.FrontWords.{fronts_among, fronts_in, front_of_words, has_front, split_front, with_front, words_of}
use Rattle.script_events.specs.Words.{◌>>=◌, some_if, front_word, split_word}
use Rattle.script_events.proofs.ReadWords.{Cuts, in_front, words_cut}

-- a front, and what stands after it
abbrev Cut : Type 0
Cut = Front × Option (List ℕ)

-- the front, and those after it
abbrev read_all : Cut → Option (List Front)
read_all cut = fronts_in cut.1 >>= λ fronts. with_front cut.0 fronts

abbrev with_rest : Option (List ℕ) → Front → Option Cut
with_rest rest front = Some (front, rest)

by_front : (read : Option Front) (rest : Option (List ℕ))
    → (read >>= λ front. fronts_among (option_map_or words_of rest []) >>= λ fronts. with_front front fronts)
    ≡ ((read >>= with_rest rest) >>= read_all)
unfolding fronts_among
by_front None rest = refl
by_front (Some front) None = refl
by_front (Some front) (Some words) = refl

after_site : (site rest : List ℕ) → fronts_among (site ∷ words_of rest)
    ≡ ((front_of_words site (front_word rest).0 >>= with_rest (front_word rest).1) >>= read_all)
unfolding fronts_among
after_site site rest =
    ap (λ (words : List (List ℕ)). fronts_among (site ∷ words)) (words_cut rest)
    ∙ by_front (front_of_words site (front_word rest).0) (front_word rest).1

step_of : (words : List ℕ) (cut : Option (List ℕ × List ℕ))
    → fronts_among ((in_front words cut).0 ∷ option_map_or words_of (in_front words cut).1 [])
    ≡ ((cut >>= λ (c : List ℕ × List ℕ). front_of_words c.0 (front_word c.1).0 >>= with_rest (front_word c.1).1) >>= read_all)
unfolding fronts_among
step_of words None = refl
step_of words (Some cut) = after_site cut.0 cut.1

-- the fronts of some words are the one in front and those after it
pub fronts_step : (words : List ℕ) → fronts_in (Some words) ≡ (split_front words >>= read_all)
fronts_step words = ap fronts_among (words_cut words) ∙ step_of words (split_word words)

-- so they are where the one in front was read
pub fronts_cut : (words : List ℕ) (front : Front) (after : Option (List ℕ)) → split_front words ≡ Some (front, after)
    → fronts_in (Some words) ≡ (fronts_in after >>= λ fronts. with_front front fronts)
fronts_cut words front after is =
    fronts_step words ∙ ap (λ (cut : Option Cut). cut >>= read_all) is

-- and none are where it isn't one
pub fronts_wrong : (words : List ℕ) → split_front words ≡ None → fronts_in (Some words) ≡ None
fronts_wrong words is =
    fronts_step words ∙ ap (λ (cut : Option Cut). cut >>= read_all) is

-- a site that has none yet
apart : (front : Front) (after : Option (List Front)) (found : Bool) → IfSome after (λ fronts. found ≡ has_front fronts front.site)
    → found ≡ false → (after >>= λ fronts. with_front front fronts) ≡ option_map (λ fronts. front ∷ fronts) after
apart front None found is new = refl
apart front (Some fronts) found is new =
    ap (λ (b : Bool). some_if (not b) (front ∷ fronts)) (sym is ∙ new)

-- and one that has one
twice : (front : Front) (after : Option (List Front)) (found : Bool) → IfSome after (λ fronts. found ≡ has_front fronts front.site)
    → found ≡ true → (after >>= λ fronts. with_front front fronts) ≡ None
twice front None found is same = refl
twice front (Some fronts) found is same =
    ap (λ (b : Bool). some_if (not b) (front ∷ fronts)) (sym is ∙ same)

-- where a site has no front after it, it stands before those
pub fronts_apart : (left : List ℕ) (front : Front) (after : Option (List ℕ)) (found : Bool) → split_front left ≡ Some (front, after)
    → IfSome (fronts_in after) (λ fronts. found ≡ has_front fronts front.site) → found ≡ false
    → fronts_in (Some left) ≡ option_map (λ fronts. front ∷ fronts) (fronts_in after)
fronts_apart left front after found cut is new = fronts_cut left front after cut ∙ apart front (fronts_in after) found is new

-- and where it has one, they are none
pub fronts_twice : (left : List ℕ) (front : Front) (after : Option (List ℕ)) (found : Bool) → split_front left ≡ Some (front, after)
    → IfSome (fronts_in after) (λ fronts. found ≡ has_front fronts front.site) → found ≡ true → fronts_in (Some left) ≡ None
fronts_twice left front after found cut is same = fronts_cut left front after cut ∙ twice front (fronts_in after) found is same

of_value : {P : List Front → Type 0} (o : Option (List Front)) → ((fronts : List Front) → o ≡ Some fronts → P fronts) → IfSome o P
of_value None f = tt
of_value (Some fronts) f = f fronts refl

of_test : (test : Bool) (fronts some : List Front) → some_if test fronts ≡ Some some → some ≡ fronts
of_test true fronts some is = sym (same_Some fronts some is)
of_test false fronts some is = absurd cc

-- a front was before the others
cut_front : (front : Front) (after : Option (List Front)) (fronts : List Front) → (after >>= λ others. with_front front others) ≡ Some fronts
    → (others : List Front) × (after ≡ Some others) × (fronts ≡ front ∷ others)
cut_front front None fronts is = absurd cc
cut_front front (Some others) fronts is = (others, refl, of_test (not (has_front others front.site)) (front ∷ others) fronts is)

pub front_cuts : (left : List ℕ) (front : Front) (after : Option (List ℕ)) → split_front left ≡ Some (front, after)
    → Cuts fronts_in left front after
front_cuts left front after cut fronts is = cut_front front (fronts_in after) fronts (sym (fronts_cut left front after cut) ∙ is)

-- whether a site has a front is seen of those that are left
abbrev pub IsLeft : (whole rest : Option (List ℕ)) → (site : ℕ) → Type 0
IsLeft whole rest site = (fronts : List Front) → fronts_in whole ≡ Some fronts
    → (others : List Front) × (fronts_in rest ≡ Some others) × (has_front fronts site ≡ has_front others site)

one_more : (front : Front) (others : List Front) (site : ℕ) (test : Bool) → (front.site == site) ≡ test
    → has_front (front ∷ others) site ≡ (test || has_front others site)
one_more front others site test is = ap (λ (b : Bool). b || has_front others site) is

pub left_goes_on : (whole : Option (List ℕ)) (left : List ℕ) (front : Front) (after : Option (List ℕ)) (site : ℕ)
    → IsLeft whole (Some left) site → split_front left ≡ Some (front, after) → (front.site == site) ≡ false → IsLeft whole after site
left_goes_on whole left front after site to cut other fronts is =
    let others = to fronts is in
    let parts = front_cuts left front after cut others.0 others.1 in
    (parts.0, parts.1, others.2 ∙ ap (λ (xs : List Front). has_front xs site) parts.2 ∙ one_more front parts.0 site false other)

pub left_found : (whole : Option (List ℕ)) (left : List ℕ) (front : Front) (after : Option (List ℕ)) (site : ℕ)
    → IsLeft whole (Some left) site → split_front left ≡ Some (front, after) → (front.site == site) ≡ true
    → IfSome (fronts_in whole) (λ fronts. true ≡ has_front fronts site)
left_found whole left front after site to cut same = of_value (fronts_in whole) (λ fronts is.
    let others = to fronts is in
    let parts = front_cuts left front after cut others.0 others.1 in
    sym (others.2 ∙ ap (λ (xs : List Front). has_front xs site) parts.2 ∙ one_more front parts.0 site true same))

pub left_wrong : (whole : Option (List ℕ)) (left : List ℕ) (site : ℕ) (found : Bool) → IsLeft whole (Some left) site
    → split_front left ≡ None → IfSome (fronts_in whole) (λ fronts. found ≡ has_front fronts site)
left_wrong whole left site found to cut = of_value (fronts_in whole) (λ fronts is.
    let others = to fronts is in
    let none : ◌≡◌ {A = Option (List Front)} None (Some others.0) = sym (fronts_wrong left cut) ∙ others.1 in
    absurd cc)

pub none_left : (whole : Option (List ℕ)) (site : ℕ) → IsLeft whole None site
    → IfSome (fronts_in whole) (λ fronts. false ≡ has_front fronts site)
none_left whole site to = of_value (fronts_in whole) (λ fronts is.
    let others = to fronts is in
    sym (others.2 ∙ ap (λ (xs : List Front). has_front xs site) (sym (same_Some [] others.0 others.1))))
