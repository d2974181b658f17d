-- What a handle owns: the block of a box, or nothing at null.
use Rattle.std.specs.Prelude.{◌≡◌, Option, Some, None}
use Rattle.std.specs.Global.{Global}
use Rattle.std.specs.contracts.impls.GlobalAllocator.TheImpl.{ghosts}
use Rattle.std_alloc.specs.Box.Ownership.{box_owns}
use base.Fml.{Fml, ftrue, fex}
use denote.RattleType.{RattleType}
use denote.RawPtr.{Ptr, null_ptr}

-- the box of a value, or null where there is none
abbrev pub owned : (R : RattleType) → Ptr → Option R.Denot → Fml
owned R p None = fex (p ≡ null_ptr) (λ _. ftrue)
owned R p (Some x) = fex Global (λ heap. box_owns (ghosts.dealloc_token heap) R p x)
