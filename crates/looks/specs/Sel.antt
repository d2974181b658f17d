use Rattle.std.specs.Prelude.{ℕ, Bool, ◌+◌, if◌then◌else◌}

-- which attributes are selected
pub record Selection : Type 0 where
  pub font : Bool
  pub colour : Bool
  pub offset : Bool

-- bit 0 for the font, bit 1 for the colour, bit 2 for the offset
abbrev pub bits_of : Selection → ℕ
bits_of s = (if s.font then 1 else 0) + (if s.colour then 2 else 0) + (if s.offset then 4 else 0)
