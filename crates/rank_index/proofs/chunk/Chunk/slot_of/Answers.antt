use Rattle.std.proofs.Common.{◌↔◌, IfSome, IsSome, subst}
use Rattle.piece_raw.specs.Ring.{HasTag}
use Rattle.rank_index.specs.Slots.{IsSlot}
use Rattle.rank_index.proofs.Tagged.{Members}
use Rattle.rank_index.proofs.chunk.Chunk.slot_of.Goals as goal

pub returns-clause-slot : goal.returns-clause-slot
returns-clause-slot c =
    subst (λ (l : Members). IfSome c.slot_in.result (IsSlot l c.args.tag)) c.members.ensures.members
    c.slot_in.ensures.slot

pub returns-clause-here : goal.returns-clause-here
returns-clause-here c =
    subst (λ (l : Members). IsSome c.slot_in.result ↔ HasTag l c.args.tag) c.members.ensures.members
    c.slot_in.ensures.here
