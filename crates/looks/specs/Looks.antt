use Rattle.std.specs.Prelude.{◌≤◌, codes, pos, FitsSigned}
use Rattle.std.specs.Int.{w8}
use Rattle.looks.specs.FontName.{IsFontName}
use Rattle.looks.specs.declared.colour.TheConstants.{MAX_COLOUR}
use Rattle.looks.specs.declared.looks.Looks.{Looks}

-- the default looks
abbrev pub plain_looks : Looks
plain_looks = record { font = codes "Oberon10.Scn.Fnt"; colour = 1; offset = pos 0 }

-- looks that there are: a font's name, a colour to 15, an offset that fits a signed byte
pub record IsLooks (looks : Looks) : Type 0 where
  pub font : IsFontName looks.font
  pub colour : looks.colour ≤ MAX_COLOUR
  pub offset : FitsSigned w8 looks.offset
