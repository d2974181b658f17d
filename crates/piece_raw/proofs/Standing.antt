-- Where a cursor can stand in nodes that are tied, and what it stands on.
use Rattle.std.proofs.Common.{◌≡◌, ℕ, IsSome, IfSome, List, [], ◌∷◌, ◌++◌, Option, Some, None, option_map}
use Rattle.std.proofs.Common.{refl, sym, ap, ◌∙◌, subst}
use Rattle.std.specs.List.{AllByRecursion}
use Rattle.piece_raw.specs.declared.nodes.Member.{Member}
use Rattle.piece_raw.specs.declared.nodes.Nodes.{Nodes}
use Rattle.piece_raw.specs.Ring.{IsMember, HasTag}
use Rattle.piece_raw.specs.Tied.{members, spots, stop_of, IsNodeAmong, IsStop, HoldsMember, IsTied, all_nodes}
use Rattle.piece_raw.proofs.Splits.{cons_head, cons_tail, all_right}
use Rattle.piece_raw.proofs.Matching.{N, members-append, members-cons, stop-some, split_members}

module _ {T : Type 0} (n : Nodes T) (tag : ℕ) where
  -- the node that holds the member of a tag
  pub record Standing : Type 0 where
    pub before : List (N T)
    pub node : N T
    pub after : List (N T)
    pub member : Member T
    pub cut : n.links.nodes ≡ before ++ node ∷ after
    pub held : node.value ≡ Some member
    pub tagged : member.tag ≡ tag

  module _ (on : Standing) where
    pub among : IsNodeAmong (all_nodes n) on.node
    among = (n.links.trailer ∷ on.before, on.after, ap (λ ns. n.links.trailer ∷ ns) on.cut)

    pub stops : stop_of on.node ≡ Some tag
    stops = stop-some on.node on.member on.held ∙ ap Some on.tagged

    pub is_member : IsMember (members n.links.nodes) tag on.member.value
    is_member = (
      members on.before,
      members on.after,
      ap members on.cut ∙ members-append on.before (on.node ∷ on.after) ∙
          ap (λ l. members on.before ++ l) (members-cons on.node on.member on.after on.held) ∙
          ap (λ k. members on.before ++ (k, on.member.value) ∷ members on.after) on.tagged,
    )

module _ {T : Type 0} (n : Nodes T) (tied : IsTied n) where
  pub of_member : (tag : ℕ) → HasTag (members n.links.nodes) tag → Standing n tag
  of_member tag has =
      let on = split_members (spots n.table.items) n.links.nodes tied.matches.held has.1.0 tag has.0 has.1.1
      has.1.2 in
      record {
        before = on.0;
        node = on.1;
        after = on.2;
        member = on.3;
        cut = on.4;
        held = on.5;
        tagged = ap (λ (p : ℕ × T). p.0) on.6;
      }

  stands : (tag : ℕ) (xs : List (N T)) (x : N T) (ys : List (N T)) → all_nodes n ≡ xs ++ x ∷ ys →
      stop_of x ≡ Some tag → Standing n tag
  stands tag [] x ys c s = let same = cons_head n.links.trailer x n.links.nodes ys c in
      let at = sym (ap (option_map (λ (m : Member T). m.tag)) tied.trailer_empty) ∙ ap stop_of same ∙ s in cc
  stands tag (z ∷ xs) x ys c s =
      let ps = spots n.table.items in let rest = cons_tail n.links.trailer z n.links.nodes (xs ++ x ∷ ys) c in
      let here = (all_right (HoldsMember ps) xs (x ∷ ys)
      (subst (AllByRecursion (HoldsMember ps)) rest tied.matches.held)).0 in
      let both : Some here.0.tag ≡ Some tag = sym (stop-some x here.0 here.1) ∙ s in
      let same : here.0.tag ≡ tag = cc in
      record { before = xs; node = x; after = ys; member = here.0; cut = rest; held = here.1; tagged = same }

  -- where a cursor stands there is a member
  pub of_stop : (tag : ℕ) → IsStop (all_nodes n) (Some tag) → Standing n tag
  of_stop tag s = stands tag s.1.0 s.0 s.1.1 s.1.2 s.2

  -- a cursor can stand on each member
  pub stop-member : (tag : ℕ) → HasTag (members n.links.nodes) tag → IsStop (all_nodes n) (Some tag)
  stop-member tag has = let on = of_member tag has in (on.node, among n tag on, stops n tag on)

  pub stop-trailer : IsStop (all_nodes n) None
  stop-trailer = (
    n.links.trailer,
    ([], n.links.nodes, refl),
    ap (option_map (λ (m : Member T). m.tag)) tied.trailer_empty,
  )

  -- where there is a member, or nothing is named, a cursor can stand
  pub stop-member-if : (stop : Option ℕ) → IfSome stop (HasTag (members n.links.nodes)) → IsStop (all_nodes n) stop
  stop-member-if None has = stop-trailer
  stop-member-if (Some tag) has = stop-member tag has

  pub has-stop : (tag : ℕ) → IsStop (all_nodes n) (Some tag) → HasTag (members n.links.nodes) tag
  has-stop tag s = let on = of_stop tag s in (on.member.value, is_member n tag on)

  pub has-stop-if : (stop : Option ℕ) → IsStop (all_nodes n) stop → IfSome stop (HasTag (members n.links.nodes))
  has-stop-if None s = tt
  has-stop-if (Some tag) s = has-stop tag s

pub some_of : {X : Type 0} (o : Option X) → IsSome o → (x : X) × (o ≡ Some x)
some_of None h = cc
some_of (Some x) h = (x, refl)
