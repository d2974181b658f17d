use Rattle.std.proofs.Common.{◌↔◌, Bool, IsTrue, sym, subst}
use Rattle.piece_raw.specs.Ring.{HasTag}
use Rattle.rank_index.proofs.chunk.Chunk.has.Goals as goal

pub returns : goal.returns
returns c =
    subst (λ (b : Bool). IsTrue b ↔ HasTag c.args.self.now.members c.args.tag) (sym c.is_some.ensures)
    c.slot_of.ensures.here
