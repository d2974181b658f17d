-- Where the operations beyond fronts begin.
use Rattle.std.specs.Prelude.{◌≡◌, ℕ, ◌≤◌, true, List, length, slice_get, Some, IfSome}
use Rattle.operations.specs.Operation.{Operation}
use Rattle.texts.specs.Fronts.{is_beyond}
use Rattle.texts.specs.declared.front.Front.{Front}

-- what stands at this place, if something does, is beyond the fronts, and none of the site's is before that
pub record BeginsBeyond (fronts : List Front) (ops : List Operation) (site place : ℕ) : Type 0 where
  pub within : place ≤ length ops
  pub here : IfSome (slice_get ops place) (λ op. is_beyond fronts op ≡ true)
  pub before : (k : ℕ) (op : Operation) → slice_get ops k ≡ Some op → op.site ≡ site → is_beyond fronts op ≡ true → place ≤ k
