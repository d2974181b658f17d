-- What private calls alone need: the numbers that a parse found.
use Rattle.std.specs.Prelude.{◌≡◌, ℕ, Bool, ◌&&◌, Option, Some, is_some, codes}
use Rattle.clap.specs.Words.{first_value}
use Rattle.clap.specs.declared.parser.matches.Found.{Found}
use Rattle.script_sites.specs.declared.settings.Settings.{Settings}
use Rattle.script_sites.specs.declared.settings.TheConstants.{MAX_FIRST, MAX_SITES, MIN_WIDTH, MAX_WIDTH}
use Rattle.script_sites.specs.declared.settings.TheConstants.{MIN_HEIGHT, MAX_HEIGHT}
use Rattle.site_cli.specs.Numbers.{number_found}

-- there are four numbers
abbrev pub are_some : (first count width height : Option ℕ) → Bool
are_some first count width height = is_some first && (is_some count && (is_some width && is_some height))

abbrev pub first_found : Found → Option ℕ
first_found f = number_found 1 MAX_FIRST (first_value f (codes "first"))

abbrev pub count_found : Found → Option ℕ
count_found f = number_found 1 MAX_SITES (first_value f (codes "count"))

abbrev pub width_found : Found → Option ℕ
width_found f = number_found MIN_WIDTH MAX_WIDTH (first_value f (codes "width"))

abbrev pub height_found : Found → Option ℕ
height_found f = number_found MIN_HEIGHT MAX_HEIGHT (first_value f (codes "height"))

-- these settings were found
abbrev pub FindsSettings : Found → Settings → Type 0
FindsSettings f s = (first_found f ≡ Some s.first) × (count_found f ≡ Some s.count)
    × (width_found f ≡ Some s.width) × (height_found f ≡ Some s.height)

abbrev pub are_found : Found → Bool
are_found f = are_some (first_found f) (count_found f) (width_found f) (height_found f)
