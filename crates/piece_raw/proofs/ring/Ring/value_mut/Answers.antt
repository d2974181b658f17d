use Rattle.std.proofs.Common.{◌≡◌, ◌∷◌, Some, refl, sym, ap, ◌∙◌, subst}
use denote.RawPtr.{Ptr}
use Rattle.piece_raw.specs.Linked.{set_value}
use Rattle.piece_raw.specs.Ring.{ring, IsMember, with_value, with_value_at}
use Rattle.piece_raw.specs.Spares.{ring_room}
use Rattle.piece_raw.specs.Tied.{members, spots, IsStop, Matches, all_nodes}
use Rattle.piece_raw.proofs.Apart.{apart_places}
use Rattle.piece_raw.proofs.Standing.{among, stops, is_member, of_stop, some_of}
use Rattle.piece_raw.proofs.Writing.{written, stop-kept, Matches-kept, members-kept}
use Rattle.piece_raw.proofs.ring.Ring.value_mut.Goals as goal

pub value_mut-requires : goal.value_mut-requires
value_mut-requires g c =
    let n = c.self.inside.nodes in let at = some_of c.self.inside.cursor (rw (← c.self.view_is) at c.requires) in
    let on = of_stop n c.self.invariant.0 at.0 (subst (IsStop (all_nodes n)) at.1 c.self.invariant.1) in
    let ptr = c.find-node.ensures on.node (among n at.0 on) (stops n at.0 on ∙ sym at.1) in
    (on.before, on.node, on.after, on.cut, sym ptr)

pub unreachable-requires : goal.unreachable-requires
unreachable-requires g c =
    let n = c.self.inside.nodes in let at = some_of c.self.inside.cursor (rw (← c.self.view_is) at c.requires) in
    let on = of_stop n c.self.invariant.0 at.0 (subst (IsStop (all_nodes n)) at.1 c.self.invariant.1) in
    let ptr = c.find-node.ensures on.node (among n at.0 on) (stops n at.0 on ∙ sym at.1) in
    let read = sym on.held ∙ sym (c.value_mut.ensures.value on.before on.node on.after on.cut (sym ptr)) ∙
    c.in-None.is in cc

pub invariant_of-self-lent : goal.invariant_of-self-lent
invariant_of-self-lent g c =
    λ w. let n = c.self.inside.nodes in let l = n.links in let tied = c.self.invariant.0 in
    let ps = spots n.table.items in let m = c.in-Some.member in
    let at = some_of c.self.inside.cursor (rw (← c.self.view_is) at c.requires) in
    let on = of_stop n tied at.0 (subst (IsStop (all_nodes n)) at.1 c.self.invariant.1) in
    let ptr = c.find-node.ensures on.node (among n at.0 on) (stops n at.0 on ∙ sym at.1) in
    let is : on.node.value ≡ Some m = sym (c.value_mut.ensures.value on.before on.node on.after on.cut (sym ptr)) ∙
    c.in-Some.is in
    let apart = apart_places l.trailer.at l.nodes l.apart in
    let matched = subst (λ (p : Ptr). Matches ps (set_value p (written m w) l.nodes)) (sym ptr)
    (Matches-kept ps l.nodes on.before on.node on.after m tied.matches apart on.cut is w) in
    let stopped = subst (λ (p : Ptr). IsStop (l.trailer ∷ set_value p (written m w) l.nodes)
    c.self.inside.cursor) (sym ptr)
    (stop-kept ps l.nodes on.before on.node on.after m tied.matches apart on.cut is w l.trailer c.self.inside.cursor
    c.self.invariant.1) in
    rw c.in-Some.is (
      record {
        matches = matched;
        deeds = tied.deeds;
        trailer_at = tied.trailer_at;
        trailer_empty = tied.trailer_empty;
        trailer_block = tied.trailer_block;
      },
      stopped,
      c.self.invariant.2,
    )

pub returns : goal.returns
returns g c =
    let n = c.self.inside.nodes in let l = n.links in let tied = c.self.invariant.0 in
    let m = c.in-Some.member in
    let at = some_of c.self.inside.cursor (rw (← c.self.view_is) at c.requires) in
    let on = of_stop n tied at.0 (subst (IsStop (all_nodes n)) at.1 c.self.invariant.1) in
    let ptr = c.find-node.ensures on.node (among n at.0 on) (stops n at.0 on ∙ sym at.1) in
    let is : on.node.value ≡ Some m = sym (c.value_mut.ensures.value on.before on.node on.after on.cut (sym ptr)) ∙
    c.in-Some.is in
    let both : Some m ≡ Some on.member = sym is ∙ on.held in
    let same : m ≡ on.member = cc in
    let tag = ap (λ k. k.tag) same ∙ on.tagged in
    let put = λ (w : g.row.T.Denot). ap (λ (p : Ptr). members (set_value p (written m w) l.nodes)) ptr ∙
    members-kept (spots n.table.items) l.nodes on.before on.node on.after m tied.matches
    (apart_places l.trailer.at l.nodes l.apart) on.cut is w
    ∙ ap (λ k. with_value k w (members l.nodes)) tag ∙ ap (λ s. with_value_at s w (members l.nodes))
    (sym at.1) in
    rw (← c.self.view_is) (
      (
        refl,
        λ w. rw c.in-Some.is (λ i. ring (put w i) c.self.inside.cursor (ring_room n.table
            c.self.inside.spare)),
      ),
      record {
        writes_back = tt;
        value = rw c.in-Some.is (
          at.0,
          at.1,
          subst (λ k. IsMember (members l.nodes) at.0 k.value) (sym same) (is_member n at.0 on),
        );
      },
    )
