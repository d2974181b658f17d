use Rattle.std.proofs.Common.{◌≡◌, Some, sym, ◌∙◌, subst}
use Rattle.piece_raw.specs.Ring.{IsMember}
use Rattle.piece_raw.specs.Tied.{members}
use Rattle.piece_raw.proofs.Standing.{among, stops, is_member, of_member, stop-member}
use Rattle.piece_raw.proofs.nodes.Nodes.value.Goals as goal

pub find-requires : goal.find-requires
find-requires g c = let (tied, has) = c.requires in (tied, stop-member c.args.self.now tied c.args.tag has)

pub value-requires : goal.value-requires
value-requires g c =
    let n = c.args.self.now in let tag = c.args.tag in let on = of_member n c.requires.0 tag c.requires.1 in
    let all = among n tag on in (all.0, on.node, all.1, all.2, sym (c.find.ensures on.node all (stops n tag on)))

pub unreachable-requires : goal.unreachable-requires
unreachable-requires g c =
    let n = c.args.self.now in let tag = c.args.tag in let on = of_member n c.requires.0 tag c.requires.1 in
    let all = among n tag on in
    let ptr = sym (c.find.ensures on.node all (stops n tag on)) in
    let read = sym on.held ∙ sym (c.value.ensures all.0 on.node all.1 all.2 ptr) ∙ c.in-None.is in cc

pub returns : goal.returns
returns g c =
    let n = c.args.self.now in let tag = c.args.tag in let on = of_member n c.requires.0 tag c.requires.1 in
    let all = among n tag on in
    let ptr = sym (c.find.ensures on.node all (stops n tag on)) in
    let read : Some on.member ≡ Some c.in-Some.member = sym on.held ∙
    sym (c.value.ensures all.0 on.node all.1 all.2 ptr) ∙ c.in-Some.is in
    let same : on.member ≡ c.in-Some.member = cc in
    subst (λ m. IsMember (members n.links.nodes) tag m.value) same (is_member n tag on)
