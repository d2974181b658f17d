use Rattle.std.proofs.Common.{arith}
use Rattle.piece_list.specs.Pieces.{IsPiece}
use Rattle.piece_list.proofs.SplitList.{is_piece}
use Rattle.piece_list.proofs.Placing.{parted_there, parted_split}
use Rattle.piece_list.proofs.list.pieces.Pieces.split_after.Goals as goal

pub overflow_add-n : goal.overflow_add-n
overflow_add-n c =
    let (p, member, within) =
    rw (← c.self.view_is) at c.requires.spot in
    let is : IsPiece p =
    is_piece c.self.inside.ring.items c.args.spot.piece p c.self.invariant.entered.pieces member in
    omega (arith, is.1, within)

pub returns-then-n-len-clause-parted : goal.returns-then-n-len-clause-parted
returns-then-n-len-clause-parted c =
    rw (← c.self.view_is)
    (parted_split c.self.inside.ring.items c.split.new.self.items c.self.invariant.numbered c.args.spot
    c.split.result
    (rw (← c.self.view_is) at c.split.ensures.split))

pub returns-else-n-len-clause-parted : goal.returns-else-n-len-clause-parted
returns-else-n-len-clause-parted c =
    rw (← c.self.view_is)
    (parted_there c.self.inside.ring.items c.self.invariant.numbered c.args.spot c.piece_at.result
    c.piece_at.ensures (omega (arith, c.if-n-len.false, c.len-len.ensures)))
