use Rattle.std.specs.Prelude.{ℕ}

-- the off-th byte that the site ever inserted in a text
pub record CharName : Type 0 where
  pub site : ℕ
  pub off : ℕ
