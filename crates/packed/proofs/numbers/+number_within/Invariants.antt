use Rattle.packed.proofs.numbers.+number_within.Given as goal

-- so many sevens of bits may still come
abbrev pub decreases-number_within : goal.decreases-number_within
decreases-number_within l = l.fuel
