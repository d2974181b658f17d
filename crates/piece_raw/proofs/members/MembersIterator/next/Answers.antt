use Rattle.std.proofs.Common.{◌≡◌, ◌<◌, ◌∷◌, option_map, length, rules, sym, ap, ◌∙◌, arith}
use Rattle.std.proofs.lemmas.Grind.{common_steps}
use denote.RawPtr.{Ptr}
use Rattle.piece_raw.specs.Tied.{members, nodes_from, spots}
use Rattle.piece_raw.proofs.Left.{left_steps, left_ends}
use Rattle.piece_raw.proofs.Matching.{step_after, pointer_after}
use Rattle.piece_raw.proofs.members.MembersIterator.next.Goals as goal

pub next-self-inside-requires : goal.next-self-inside-requires
next-self-inside-requires g c =
    let l = c.self.inside.nodes.now.links in let (x, among, at) = c.self.invariant.1 in (
      (step_after l.trailer l.nodes among.0 x among.1 among.2).0.at,
      pointer_after l.trailer l.nodes among.0 x among.1 among.2 c.self.inside.at.ptr (sym at),
    )

pub invariant_of-self : goal.invariant_of-self
invariant_of-self g c =
    let l = c.self.inside.nodes.now.links in let (x, among, at) = c.self.invariant.1 in
    let step = step_after l.trailer l.nodes among.0 x among.1 among.2 in (
      c.self.invariant.0,
      (
        step.0,
        step.3,
        sym (c.next-self-inside.ensures step.0.at (pointer_after l.trailer l.nodes among.0 x among.1 among.2
            c.self.inside.at.ptr (sym at))),
      ),
    )

pub returns-in-Some-clause-steps : goal.returns-in-Some-clause-steps
returns-in-Some-clause-steps g c =
    let n = c.self.inside.nodes.now in let l = n.links in let (tied, (x, among, at)) = c.self.invariant in
    let step = step_after l.trailer l.nodes among.0 x among.1 among.2 in
    let m = c.in-Some.member in
    sym c.self.view_is ∙ ap (λ (p : Ptr). members (nodes_from p l.nodes)) (sym at)
    ∙ left_steps l.trailer l.nodes l.apart (spots n.table.items) tied.matches.held tied.trailer_empty among.0 x
    among.1 among.2 m (sym (c.value.ensures among.0 x among.1 among.2 at) ∙ c.in-Some.is)
    ∙ ap (λ (p : Ptr). (m.tag, m.value) ∷ members (nodes_from p l.nodes))
    (sym (c.next-self-inside.ensures step.0.at (pointer_after l.trailer l.nodes among.0 x among.1 among.2
    c.self.inside.at.ptr (sym at))))

pub returns-in-None-clause-steps : goal.returns-in-None-clause-steps
returns-in-None-clause-steps g c =
    let n = c.self.inside.nodes.now in let l = n.links in let (tied, (x, among, at)) = c.self.invariant in
    let ends = sym c.self.view_is ∙ ap (λ (p : Ptr). members (nodes_from p l.nodes)) (sym at)
    ∙ left_ends l.trailer l.nodes l.apart (spots n.table.items) tied.matches.held tied.trailer_empty among.0 x
    among.1 among.2 (ap (option_map (λ m. m.tag)) (sym (c.value.ensures among.0 x among.1 among.2 at) ∙
    c.in-None.is)) in
    (ends, ends)

pub returns-in-Some-clause-goes : goal.returns-in-Some-clause-goes
returns-in-Some-clause-goes g c =
    let l = c.self.inside.nodes.now.links in let m = c.in-Some.member in
    let rest = members (nodes_from c.next-self-inside.result.ptr l.nodes) in
    let steps : c.args.self.now ≡ (m.tag, m.value) ∷ rest = returns-in-Some-clause-steps g c in
    let fewer : length rest < length c.args.self.now = omega (arith, ap length steps) in
    first_of (search rules, grind (arith, common_steps, fewer))
