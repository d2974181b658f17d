-- Fronts that somebody names, and the operations up to them and beyond.
use Rattle.std.specs.Prelude.{ℕ, List, [], ◌∷◌, Bool, not, filter, nat_lt, ◌==◌, if◌then◌else◌}
use Rattle.operations.specs.Operation.{Operation}
use Rattle.texts.specs.declared.front.Front.{Front}

-- the seq that fronts give a site: of the first that is its, 0 where there is none
abbrev pub front_in : List Front → (site : ℕ) → ℕ
front_in [] site = 0
front_in (front ∷ fronts) site = if front.site == site then front.seq else front_in fronts site

-- whether an operation is beyond the fronts
abbrev pub is_beyond : List Front → Operation → Bool
is_beyond fronts op = nat_lt (front_in fronts op.site) op.seq

-- the operations beyond the fronts, in their order
abbrev pub beyond : List Front → List Operation → List Operation
beyond fronts ops = filter (λ op. is_beyond fronts op) ops

-- the operations up to the fronts, in their order
abbrev pub up_to_fronts : List Front → List Operation → List Operation
up_to_fronts fronts ops = filter (λ op. not (is_beyond fronts op)) ops
