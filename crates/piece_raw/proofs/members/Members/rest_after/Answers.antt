use Rattle.std.proofs.Common.{sym, ap, ◌∙◌}
use denote.RawPtr.{Ptr}
use Rattle.piece_raw.specs.Tied.{members, nodes_from, spots}
use Rattle.piece_raw.proofs.Left.{left_after}
use Rattle.piece_raw.proofs.Matching.{step_after, pointer_after}
use Rattle.piece_raw.proofs.members.Members.rest_after.Goals as goal

pub next-requires : goal.next-requires
next-requires g c =
    let l = c.args.nodes.now.links in let (x, among, s) = c.requires.1 in (
      (step_after l.trailer l.nodes among.0 x among.1 among.2).0.at,
      pointer_after l.trailer l.nodes among.0 x among.1 among.2 c.find.result.ptr (c.find.ensures x among s),
    )

pub invariant_of-result : goal.invariant_of-result
invariant_of-result g c =
    let l = c.args.nodes.now.links in let (x, among, s) = c.requires.1 in
    let step = step_after l.trailer l.nodes among.0 x among.1 among.2 in (
      c.requires.0,
      (
        step.0,
        step.3,
        sym (c.next.ensures step.0.at (pointer_after l.trailer l.nodes among.0 x among.1 among.2
            c.find.result.ptr (c.find.ensures x among s))),
      ),
    )

pub returns : goal.returns
returns g c = λ before left is last.
    let n = c.args.nodes.now in let l = n.links in let (tied, (x, among, s)) = c.requires in
    let step = step_after l.trailer l.nodes among.0 x among.1 among.2 in
    ap (λ (p : Ptr). members (nodes_from p l.nodes)) (c.next.ensures step.0.at (pointer_after l.trailer l.nodes
    among.0 x among.1 among.2 c.find.result.ptr (c.find.ensures x among s)))
    ∙ left_after l.trailer l.nodes l.apart (spots n.table.items) tied.matches.held tied.trailer_empty before left is
    among.0 x among.1 among.2 (s ∙ sym last)
