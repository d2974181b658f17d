use Rattle.std.proofs.Common.{sym, ap, ◌∙◌}
use denote.RawPtr.{Ptr}
use Rattle.piece_raw.specs.Tied.{members, nodes_from, spots}
use Rattle.piece_raw.proofs.Left.{left_from}
use Rattle.piece_raw.proofs.members.Members.from.Goals as goal

pub returns : goal.returns
returns g c = λ before left is first.
    let n = c.args.nodes.now in let l = n.links in let (tied, (x, among, s)) = c.requires in
    ap (λ (p : Ptr). members (nodes_from p l.nodes)) (c.find.ensures x among s)
    ∙ left_from l.trailer l.nodes l.apart (spots n.table.items) tied.matches.held tied.trailer_empty before left is
    among.0 x among.1 among.2 (s ∙ sym first)
