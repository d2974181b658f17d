use Rattle.std.specs.Prelude.{Bool, ◌||◌, ◌&&◌, ◌==◌, nat_lt}
use Rattle.looks.specs.declared.key.Key.{Key}

-- keys are compared by stamp, then by site
abbrev pub is_below : Key → Key → Bool
is_below a b = nat_lt a.stamp b.stamp || (a.stamp == b.stamp && nat_lt a.site b.site)
