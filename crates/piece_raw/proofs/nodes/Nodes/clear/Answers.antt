use Rattle.std.proofs.Common.{[], ◌∷◌, sym, refl, ap, ◌∙◌, subst}
use Rattle.std.specs.List.{AllByRecursion}
use Rattle.piece_raw.specs.Tied.{IsBlock, spots, Matches}
use Rattle.piece_raw.proofs.Splits.{all_left, all_right}
use Rattle.piece_raw.proofs.Apart.{apart_places}
use Rattle.piece_raw.proofs.Matching.{Matches-popped, last_block}
use Rattle.piece_raw.proofs.nodes.Nodes.clear.Goals as goal

pub detach-requires : goal.detach-requires
detach-requires g c =
    let n = c.loop-block.self in
    let last = (last_block n.table.items c.pop.new.self.items c.in-Some.block c.in-Some.ensures.items
    n.links.nodes c.loop-block.invariant.matches).1 in
    (last.0, last.1, last.2, last.3, last.4)

pub deallocate-requires : goal.deallocate-requires
deallocate-requires g c =
    let n = c.loop-block.self in let b = c.in-Some.block in let items = c.pop.new.self.items in
    let last = (last_block n.table.items items b c.in-Some.ensures.items n.links.nodes
    c.loop-block.invariant.matches).1 in
    let out = c.detach.ensures.nodes last.0 last.1 last.2 last.3 last.4 in
    let block = (all_right IsBlock items (b ∷ []) (subst (AllByRecursion IsBlock)
    c.in-Some.ensures.items c.loop-block.invariant.deeds)).0 in
    (block ∙ sym last.4 ∙ ap (λ m. m.at) out.1 ∙ sym c.take-held.ensures.1, refl)

pub loop-block-preserved : goal.loop-block-preserved
loop-block-preserved g c =
    let n = c.loop-block.self in let l = n.links in let tied = c.loop-block.invariant in
    let b = c.in-Some.block in let items = c.pop.new.self.items in
    let (whole, last) = last_block n.table.items items b c.in-Some.ensures.items l.nodes tied.matches in
    let out = c.detach.ensures.nodes last.0 last.1 last.2 last.3 last.4 in
    record {
      matches = subst (Matches (spots items)) (sym out.0) (Matches-popped (spots items)
          b.node.ptr l.nodes last.0 last.1 last.2 (apart_places l.trailer.at l.nodes l.apart)
          whole last.3 last.4 last.5);
      deeds = all_left IsBlock items (b ∷ []) (subst (AllByRecursion IsBlock)
          c.in-Some.ensures.items tied.deeds);
      trailer_at = tied.trailer_at ∙ ap (λ t. t.at) (sym c.detach.ensures.trailer);
      trailer_empty = ap (λ t. t.value) c.detach.ensures.trailer ∙ tied.trailer_empty;
      trailer_block = tied.trailer_block;
    }
