-- What clap's matches say of the options.
use Rattle.std.proofs.Common.{◌≡◌, ◌∙◌, ◌⊎◌, ℕ, List, [], ◌∷◌, Bool, true, false, Option, Some, None, Result, Ok, Err, IfOk, inl, inr, refl, sym, subst, ap, codes}
use Rattle.std.specs.Prelude.{if◌then◌else◌, IfErr, IsErrAnd}
use Rattle.clap.specs.Words.{App, FailsBy, HasKind, HasMatchesOf, Kinds, fault_of, first_of, first_value, found_of, is_simple, is_simple_and_free, kind_of, matches_of}
use Rattle.clap.specs.Kinds.{or_else}
use Rattle.clap.specs.declared.error.Error.{Error}
use Rattle.clap.specs.declared.error.kind.ErrorKind.TheVariants.{ValueValidation, OutOfMemory}
use Rattle.clap.specs.declared.parser.matches.ArgMatches.{ArgMatches}
use Rattle.clap.proofs.OnLiterals.{clap_on_literals}
use Rattle.clap.proofs.WalkLemmas.{first_value-rows}
use Rattle.script_sites.specs.declared.settings.Settings.{Settings}
use Rattle.script_sites.specs.declared.settings.TheConstants.{MAX_FIRST, MAX_SITES, MIN_WIDTH, MAX_WIDTH, MIN_HEIGHT, MAX_HEIGHT}
use Rattle.site_cli.specs.Numbers.{number_found}
use Rattle.site_cli.specs.Finding.{FindsSettings, are_found, are_some, count_found, height_found, width_found}
use Rattle.site_cli.specs.CommandLine.{Gives, are_numbers, count_in, faults_in, first_in, program, width_in}

-- ---- four numbers, one of which is missing

pub lacks_first : (a b c d : Option ℕ) → a ≡ None → are_some a b c d ≡ false
lacks_first a b c d e = rw e refl

pub lacks_count : (a b c d : Option ℕ) → b ≡ None → are_some a b c d ≡ false
lacks_count None b c d e = refl
lacks_count (Some x) b c d e = rw e refl

pub lacks_width : (a b c d : Option ℕ) → c ≡ None → are_some a b c d ≡ false
lacks_width None b c d e = refl
lacks_width (Some x) None c d e = refl
lacks_width (Some x) (Some y) c d e = rw e refl

pub lacks_height : (a b c d : Option ℕ) → d ≡ None → are_some a b c d ≡ false
lacks_height None b c d e = refl
lacks_height (Some x) None c d e = refl
lacks_height (Some x) (Some y) None d e = refl
lacks_height (Some x) (Some y) (Some z) d e = rw e refl

pub has_four : (a b c d : Option ℕ) (w x y z : ℕ) → a ≡ Some w → b ≡ Some x → c ≡ Some y → d ≡ Some z → are_some a b c d ≡ true
has_four a b c d w x y z e f g h = rw (e, f, g, h) refl

-- ---- the program is one of which clap says all

simple : is_simple program ≡ true
unfolding clap_on_literals
simple = refl

pub simple_and_free : is_simple_and_free program ≡ true
unfolding clap_on_literals
simple_and_free = refl

-- what was found for an option is what the words say
found-words : (m : ArgMatches) (a : App) (words : List (List ℕ)) (name : List ℕ) → a ≡ program → HasMatchesOf a words m
    → first_value (found_of m) name ≡ first_of name (matches_of program words)
found-words m a words name is h =
    first_value-rows (found_of m) name
    ∙ ap (first_of name) ((h (ap is_simple is ∙ simple)).0 ∙ ap (λ b. matches_of b words) is)

-- ---- faults

fails_first : (first next : Kinds) (e : Error) → HasKind first e → HasKind (or_else first next) e
fails_first [] next e (inl h) = inl h
fails_first [] next e (inr h) = absurd h
fails_first (k ∷ ks) next e h = h

-- what clap refuses is refused
pub told : {T : Type 0} (r : Result T Error) (why : Error) (a : App) (words : List (List ℕ)) (next : Kinds) → a ≡ program
    → IsErrAnd r (λ e. e ≡ why) → HasKind (fault_of a words) why → FailsBy (or_else (fault_of program words) next) r
told (Ok x) why a words next is same has = absurd same
told (Err e) why a words next is same has =
    subst (λ y. HasKind (or_else (fault_of program words) next) y) (sym same)
    (fails_first (fault_of program words) next why (subst (λ b. HasKind (fault_of b words) why) is has))

fails_next : (first : Kinds) (all : Bool) (e : Error) → first ≡ [] → (kind_of e ≡ OutOfMemory) ⊎ ((kind_of e ≡ ValueValidation) × (all ≡ false))
    → HasKind (or_else first (if all then [] else ValueValidation ∷ [])) e
fails_next first all e none (inl h) = inl h
fails_next first all e none (inr h) = rw (none, h.1) (inr (inl h.0))

pub fails_never : (first : Kinds) (all : Bool) → first ≡ [] → all ≡ true → or_else first (if all then [] else ValueValidation ∷ []) ≡ []
fails_never first all none e = rw (none, e) refl

-- a parse that clap takes, and what is made of its numbers
module _ (m : ArgMatches) (a : App) (words : List (List ℕ)) (is : a ≡ program) (has : HasMatchesOf a words m) where
  found : (name : List ℕ) → first_value (found_of m) name ≡ first_of name (matches_of program words)
  found name = found-words m a words name is has

  pub gives-found : (s : Settings) → FindsSettings (found_of m) s → Gives words s
  gives-found s h = (
    ap (number_found 1 MAX_FIRST) (sym (found (codes "first"))) ∙ h.0,
    ap (number_found 1 MAX_SITES) (sym (found (codes "count"))) ∙ h.1,
    ap (number_found MIN_WIDTH MAX_WIDTH) (sym (found (codes "width"))) ∙ h.2,
    ap (number_found MIN_HEIGHT MAX_HEIGHT) (sym (found (codes "height"))) ∙ h.3,
  )

  found-numbers : are_found (found_of m) ≡ are_numbers words
  found-numbers =
      let f = found_of m in
      ap (λ (o : Option (List ℕ)). are_some (number_found 1 MAX_FIRST o) (count_found f) (width_found f) (height_found f)) (found (codes "first"))
      ∙ ap (λ (o : Option (List ℕ)). are_some (first_in words) (number_found 1 MAX_SITES o) (width_found f) (height_found f)) (found (codes "count"))
      ∙ ap (λ (o : Option (List ℕ)). are_some (first_in words) (count_in words) (number_found MIN_WIDTH MAX_WIDTH o) (height_found f)) (found (codes "width"))
      ∙ ap (λ (o : Option (List ℕ)). are_some (first_in words) (count_in words) (width_in words) (number_found MIN_HEIGHT MAX_HEIGHT o)) (found (codes "height"))

  pub fails-read : (r : Result Settings Error) → fault_of a words ≡ [] → IfOk r (FindsSettings (found_of m))
      → IfErr r (λ e. (kind_of e ≡ OutOfMemory) ⊎ ((kind_of e ≡ ValueValidation) × (are_found (found_of m) ≡ false)))
      → FailsBy (faults_in words) r
  fails-read (Ok s) none ok err =
      let g = gives-found s ok in
      fails_never (fault_of program words) (are_numbers words) (sym (ap (λ b. fault_of b words) is) ∙ none) (has_four _ _ _ _ _ _ _ _ g.0 g.1 g.2 g.3)
  fails-read (Err e) none ok (inl memory) = inl memory
  fails-read (Err e) none ok (inr h) =
      fails_next (fault_of program words) (are_numbers words) e (sym (ap (λ b. fault_of b words) is) ∙ none) (inr (h.0, sym found-numbers ∙ h.1))
