use Rattle.std.proofs.Common.{Option, ℕ, sym, subst}
use Rattle.piece_raw.specs.Ring.{Follows}
use Rattle.piece_raw.specs.Tied.{members, spots}
use Rattle.piece_raw.proofs.Matching.{prev_stop}
use Rattle.piece_raw.proofs.nodes.Nodes.prev.Goals as goal

pub prev-node-requires : goal.prev-node-requires
prev-node-requires g c =
    let l = c.args.self.now.links in let (x, among, s) = c.requires.1 in
    let y = prev_stop l.trailer l.nodes c.args.stop (x, among, s) c.find.result.ptr (c.find.ensures x among s) in
    (y.0.at, y.1)

pub stop_at-requires : goal.stop_at-requires
stop_at-requires g c =
    let l = c.args.self.now.links in let (x, among, s) = c.requires.1 in
    let y = prev_stop l.trailer l.nodes c.args.stop (x, among, s) c.find.result.ptr (c.find.ensures x among s) in
    (y.0, y.2, sym (c.prev-node.ensures y.0.at y.1))

pub returns-clause-follows : goal.returns-clause-follows
returns-clause-follows g c =
    let n = c.args.self.now in let l = n.links in let (tied, (x, among, s)) = c.requires in
    let y = prev_stop l.trailer l.nodes c.args.stop (x, among, s) c.find.result.ptr (c.find.ensures x among s) in
    subst (λ (q : Option ℕ). Follows (members l.nodes) q c.args.stop)
    (sym (c.stop_at.ensures y.0 y.2 (sym (c.prev-node.ensures y.0.at y.1))))
    (y.3 (spots n.table.items) tied.trailer_empty tied.matches.held)

pub returns-clause-there : goal.returns-clause-there
returns-clause-there g c =
    let l = c.args.self.now.links in let (x, among, s) = c.requires.1 in
    let y = prev_stop l.trailer l.nodes c.args.stop (x, among, s) c.find.result.ptr (c.find.ensures x among s) in
    (y.0, y.2, sym (c.stop_at.ensures y.0 y.2 (sym (c.prev-node.ensures y.0.at y.1))))
