use Rattle.std.proofs.Common.{◌≡◌, List, [], ◌∷◌, ◌++◌, length, option_map, sym, ap, ◌∙◌, subst, arith}
use Rattle.std.specs.List.{AllByRecursion}
use Rattle.std.proofs.lemmas.List.{length-map, map-append}
use denote.RawPtr.{Ptr}
use Rattle.piece_raw.specs.declared.nodes.Member.{Member}
use Rattle.piece_raw.specs.Linked.{Linked, linked}
use Rattle.piece_raw.specs.Tied.{Held, members, stop_of, spots, IsBlock, HoldsMember, Matches}
use Rattle.piece_raw.proofs.Splits.{all_left, all_both}
use Rattle.piece_raw.proofs.Matching.{split_after, places_last, last_is, last_tag-members, members-append}
use Rattle.piece_raw.proofs.Matching.{members-cons, Matches-pushed}
use Rattle.piece_raw.proofs.nodes.Nodes.push.Goals as goal

pub attach-requires : goal.attach-requires
attach-requires g c =
    let l = c.args.self.now.links in let x = c.requires.tied.1.0 in let among = c.requires.tied.1.1 in
    let at = split_after l.trailer l.nodes among.0 x among.1 among.2 in (
      at.0,
      among.1,
      (
        at.1,
        places_last l.trailer at.0 ∙ ap (λ n. n.at) at.2 ∙
            sym (c.find-at.ensures x among c.requires.tied.1.2),
      ),
    )

pub returns-clause-tied : goal.returns-clause-tied
returns-clause-tied g c =
    let n = c.args.self.now in let table = n.table in let tied = c.requires.tied.0 in
    let put = c.attach.ensures.nodes in
    let m : Member g.row.T.Denot = record { tag = c.len-tag.result; value = c.args.value } in
    let new = linked c.fill-node.result.ptr c.fill-node.result.value in
    let tag : c.len-tag.result ≡ length (spots table.items)
    = omega (arith, c.len-tag.ensures, table.ok.0, length-map table.items (λ b. b.node.ptr)) in
    let long : spots table.items ++ new.at ∷ [] ≡ spots c.push_reserved.new.self.items =
    (λ i. spots table.items ++ (c.fill-node.ensures.0 ∙ sym c.requires.block.0) i ∷ []) ∙
    sym (ap spots c.push_reserved.ensures.items ∙ map-append (λ b. b.node.ptr)
    table.items (c.args.block ∷ [])) in
    let made : Matches (spots table.items ++ new.at ∷ []) (put.0 ++ new ∷ put.1)
    = Matches-pushed (spots table.items) n.links.nodes put.0 put.1 new m tied.matches put.2.0
    c.fill-node.ensures.1 tag in
    record {
      matches = subst (λ (p : List Ptr × List (Linked (Held g.row.T.Denot))). Matches p.0 p.1)
          (λ i. (long i, sym put.3 i)) made;
      deeds = subst (AllByRecursion IsBlock) (sym c.push_reserved.ensures.items)
          (all_both IsBlock table.items (c.args.block ∷ []) tied.deeds (c.requires.block.1, tt));
      trailer_at = tied.trailer_at ∙ ap (λ t. t.at) (sym c.attach.ensures.trailer);
      trailer_empty = ap (λ t. t.value) c.attach.ensures.trailer ∙ tied.trailer_empty;
      trailer_block = tied.trailer_block;
    }

pub returns-clause-members : goal.returns-clause-members
returns-clause-members g c =
    let n = c.args.self.now in let l = n.links in let tied = c.requires.tied.0 in
    let put = c.attach.ensures.nodes in
    let x = c.requires.tied.1.0 in let among = c.requires.tied.1.1 in let s = c.requires.tied.1.2 in
    let m : Member g.row.T.Denot = record { tag = c.len-tag.result; value = c.args.value } in
    let new = linked c.fill-node.result.ptr c.fill-node.result.value in
    let ps = spots n.table.items in
    let last = last_is l.trailer l.nodes put.0 put.1 among.0 x among.1 l.apart put.2.0 among.2 (put.2.1 ∙
    c.find-at.ensures x among s) in (
      members put.0,
      members put.1,
      ap members put.2.0 ∙ members-append put.0 put.1,
      last_tag-members ps l.trailer tied.trailer_empty put.0 (all_left (HoldsMember ps)
          put.0 put.1 (subst (AllByRecursion (HoldsMember ps)) put.2.0 tied.matches.held)) ∙ ap stop_of last ∙ s,
      ap members put.3 ∙ members-append put.0 (new ∷ put.1) ∙
          ap (λ k. members put.0 ++ k) (members-cons new m put.1 c.fill-node.ensures.1),
    )

pub returns-clause-there : goal.returns-clause-there
returns-clause-there g c =
    let l = c.args.self.now.links in let put = c.attach.ensures.nodes in
    let new = linked c.fill-node.result.ptr c.fill-node.result.value in (
      new,
      (
        c.attach.new.self.trailer ∷ put.0,
        put.1,
        ap (λ ns. c.attach.new.self.trailer ∷ ns)
            put.3,
      ),
      ap (option_map (λ m. m.tag)) c.fill-node.ensures.1,
    )
