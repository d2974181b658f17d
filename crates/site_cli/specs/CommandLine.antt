-- The program's options, and what they say of a run.
use Rattle.std.specs.Prelude.{◌≡◌, ℕ, List, [], ◌∷◌, Bool, true, false, if◌then◌else◌, Option, Some, codes}
use Rattle.clap.specs.Words.{App, Kinds, Rule, fault_of, first_of, matches_of, new_app, new_rule, with_rule}
use Rattle.clap.specs.Kinds.{or_else}
use Rattle.clap.specs.declared.error.kind.ErrorKind.{ErrorKind}
use Rattle.clap.specs.declared.error.kind.ErrorKind.TheVariants.{DisplayHelp, ValueValidation}
use Rattle.script_sites.specs.declared.settings.Settings.{Settings}
use Rattle.script_sites.specs.declared.settings.TheConstants.{MAX_FIRST, MAX_SITES, MIN_WIDTH, MAX_WIDTH}
use Rattle.script_sites.specs.declared.settings.TheConstants.{MIN_HEIGHT, MAX_HEIGHT}
use Rattle.site_cli.specs.Numbers.{number_found}
use Rattle.site_cli.specs.Finding.{are_some}

-- an option `--name N` with a default
abbrev pub option_rule : (name default : List ℕ) → Rule
option_rule name default =
    record (new_rule name) { long = Some name; value_names = 1; defaults = default ∷ [] }

-- the program with its four options
abbrev pub program : App
program = with_rule (with_rule (with_rule (with_rule (new_app (codes "site_cli"))
    (option_rule (codes "first") (codes "1"))) (option_rule (codes "count") (codes "2")))
    (option_rule (codes "width") (codes "80"))) (option_rule (codes "height") (codes "24"))

-- the number of an option: what the words say, or else its default
abbrev pub option_number : (name : List ℕ) → (least most : ℕ) → (words : List (List ℕ)) → Option ℕ
option_number name least most words = number_found least most (first_of name (matches_of program words))

abbrev pub first_in : List (List ℕ) → Option ℕ
first_in = option_number (codes "first") 1 MAX_FIRST

abbrev pub count_in : List (List ℕ) → Option ℕ
count_in = option_number (codes "count") 1 MAX_SITES

abbrev pub width_in : List (List ℕ) → Option ℕ
width_in = option_number (codes "width") MIN_WIDTH MAX_WIDTH

abbrev pub height_in : List (List ℕ) → Option ℕ
height_in = option_number (codes "height") MIN_HEIGHT MAX_HEIGHT

-- the words give these settings
abbrev pub Gives : List (List ℕ) → Settings → Type 0
Gives words s =
    (first_in words ≡ Some s.first) × (count_in words ≡ Some s.count)
    × (width_in words ≡ Some s.width) × (height_in words ≡ Some s.height)

-- each option has a decimal number in its range
abbrev pub are_numbers : List (List ℕ) → Bool
are_numbers words =
    are_some (first_in words) (count_in words) (width_in words) (height_in words)

-- what is wrong with the words: what clap finds wrong, or else a value
abbrev pub faults_in : List (List ℕ) → Kinds
faults_in words =
    or_else (fault_of program words) (if are_numbers words then [] else ValueValidation ∷ [])

abbrev pub is_help : ErrorKind → Bool
is_help DisplayHelp = true
is_help kind = false
