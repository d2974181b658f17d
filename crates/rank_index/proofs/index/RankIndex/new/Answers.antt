use Rattle.std.proofs.Common.{◌≡◌, ℕ, ◌-◌, ◌^◌, List, [], ◌∷◌, ◌++◌, length, sym, ap, subst, ◌∙◌, arith}
use Rattle.std.proofs.lemmas.List.Elements.{All-nil}
use Rattle.rank_index.specs.Chunks.{ChunkSeen, members_of, AreEmpty, AreTied}
use Rattle.rank_index.specs.Ranked.{weight_of}
use Rattle.rank_index.proofs.Grouped.{groups_alone}
use Rattle.rank_index.proofs.Inserted.{tied_empty}
use Rattle.rank_index.proofs.InSlots.{placed_alone}
use Rattle.rank_index.proofs.Keyed.{least_alone}
use Rattle.rank_index.proofs.Lows.{lows_alone}
use Rattle.rank_index.proofs.Tagged.{Members}
use Rattle.rank_index.proofs.index.RankIndex.new.Goals as goal

pub invariant_of-result : goal.invariant_of-result
invariant_of-result c =
    let chunk = c.in_ok-new.field-0 in
    let none : chunk.members ≡ [] = ap (λ (s : ChunkSeen). s.members) c.in_ok-new.ensures.ok in
    let one : c.push.new.self.items ≡ chunk ∷ [] =
    c.in_ok-push.ensures.items ∙ ap (λ (l : List ChunkSeen). l ++ chunk ∷ []) c.new-chunks.ensures.items in
    let first : chunk.home ≡ 0 = ap (λ (s : ChunkSeen). s.home) c.in_ok-new.ensures.ok in
    let slots : c.push-2.new.self.items ≡ 0 ∷ [] =
    c.in_ok-push-2.ensures.items ∙ ap (λ (l : List ℕ). l ++ 0 ∷ []) c.new-slots.ensures.items in
    let groups : c.push-3.new.self.items ≡ 0 ∷ [] =
    c.in_ok-push-3.ensures.items ∙ ap (λ (l : List ℕ). l ++ 0 ∷ []) c.new-groups.ensures.items in
    let lows : c.push-4.new.self.items ≡ (2 ^ 64 - 1) ∷ [] =
    c.in_ok-push-4.ensures.items ∙ ap (λ (l : List ℕ). l ++ (2 ^ 64 - 1) ∷ []) c.new-lows.ensures.items in
    let weightless : weight_of (members_of c.push.new.self.items) ≡ 0 =
    ap (λ (l : List ChunkSeen). weight_of (members_of l)) one ∙ ap (λ (l : Members). weight_of (l ++ [])) none in (
      subst (λ (l : List ChunkSeen). AreTied c.new-2.result.items l) (sym one)
          (subst (λ (l : List ℕ). AreTied l (chunk ∷ [])) (sym c.new-2.ensures.items) (tied_empty chunk none)),
      subst AreEmpty (sym c.new-4.ensures.items) (All-nil (λ (s : ChunkSeen). s.members ≡ [])),
      omega (arith, c.new-4.ensures.len, c.push.new.self.ok),
      sym weightless,
      omega (arith, weightless),
      rw (one, slots) (placed_alone chunk first),
      omega (arith, c.new-4.ensures.len, ap length one, ap length slots, c.push.new.self.ok, c.push-2.new.self.ok),
      rw (one, groups) (groups_alone chunk none),
      omega (arith, c.new-4.ensures.len, ap length one, ap length groups, c.push.new.self.ok, c.push-3.new.self.ok),
      omega (arith, c.new-2.ensures.len, c.new-3.ensures.len),
      rw (one, c.new-3.ensures.items) (least_alone chunk c.in_ok-new.ensures.ok),
      rw (one, lows) (lows_alone chunk (ap (λ (s : ChunkSeen). s.least) c.in_ok-new.ensures.ok)),
      omega (arith, c.new-4.ensures.len, ap length one, ap length lows, c.push.new.self.ok, c.push-4.new.self.ok),
    )
