-- The nodes that a ring has in reserve.
use Rattle.std.specs.Prelude.{◌≡◌, ℕ, ◌-◌, min, Option, vec_len, vec_capacity}
use Rattle.std.specs.declared.vec.Vec.{Vec}
use Rattle.std.specs.declared.alloc.Global.{Global}
use Rattle.piece_raw.specs.declared.TheConstants.{MAX_TAGS}
use Rattle.piece_raw.specs.declared.block.Block.{Block}
use Rattle.piece_raw.specs.declared.nodes.Member.{Member}
use Rattle.piece_raw.specs.declared.spares.Spare.{Spare}
use Rattle.piece_raw.specs.Tied.{IsBlock}

module _ {T : Type 0} where
  -- the block is of the room
  abbrev pub IsSpare : Spare T → Type 0
  IsSpare s = (s.block.node.ptr ≡ s.room.ptr) × IsBlock s.block

  -- how many pushes take no memory: there is a node for each, a place in the table, and a tag
  abbrev pub ring_room : Vec (Block (Option (Member T)) Global) Global → Vec (Spare T) Global → ℕ
  ring_room table spare = min (min (vec_capacity table) MAX_TAGS - vec_len table) (vec_len spare)
