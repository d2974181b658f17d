use Rattle.std.proofs.Common.{◌≡◌, ℕ, ◌+◌, ◌-◌, ◌*◌, ◌∷◌, ◌++◌, [], List, length, take, drop, min, ap, ◌∙◌, arith}
use Rattle.std.proofs.lemmas.List.{length-append}
use Rattle.rank_index.specs.declared.groups.TheConstants.{GROUP}
use Rattle.rank_index.specs.Chunks.{ChunkSeen}
use Rattle.rank_index.specs.Groups.{least_among}
use Rattle.rank_index.proofs.Lows.{low_more}
use Rattle.rank_index.proofs.groups.find_lows.Goals as goal

pub loop-done-init : goal.loop-done-init
loop-done-init c = record {
  told = λ k lt. absurd (omega (arith, lt, ap length c.clear.ensures.items));
  within = omega arith;
  all = omega arith;
  few = omega (arith, ap length c.clear.ensures.items);
  whole = λ lt. omega (arith, ap length c.clear.ensures.items);
  room = omega (arith, c.clear.ensures.capacity);
}

pub push_reserved-requires : goal.push_reserved-requires
push_reserved-requires c =
    omega (
      arith,
      c.loop-done.invariant.few,
      c.loop-done.invariant.room,
      c.loop-done.lows.ok.0,
      c.loop-done-test.true,
      c.requires.room,
    )

pub loop-done-preserved : goal.loop-done-preserved
loop-done-preserved c =
    let lows : List ℕ = c.loop-done.lows.items in
    let chunks : List ChunkSeen = c.args.chunks.now in
    let low : ℕ = c.least_in.result in
    let pushed : c.push_reserved.new.self.items ≡ lows ++ low ∷ [] = c.push_reserved.ensures.items in
    let count : length c.push_reserved.new.self.items ≡ length lows + 1 =
    omega (arith, ap length pushed, length-append lows (low ∷ [])) in
    let at : c.loop-done.done ≡ GROUP * length lows = c.loop-done.invariant.whole c.loop-done-test.true in
    let n : c.loop-done.done + c.min.result - c.loop-done.done ≡ c.min.result = omega arith in
    let told : low ≡ least_among (take c.min.result (drop (GROUP * length lows) chunks)) =
    c.least_in.ensures ∙ (λ i. least_among (take (n i) (drop (at i) chunks))) in
    let capped : c.min.result ≡ min GROUP (length chunks - GROUP * length lows) =
    c.min.ensures ∙ ap (λ (m : ℕ). min GROUP (length chunks - m)) at in
    record {
      told = rw pushed (low_more lows chunks c.min.result low c.loop-done.invariant.told capped told);
      within = omega (arith, c.min.ensures, c.loop-done-test.true);
      all = omega (arith, count, at, c.min.ensures);
      few = omega (arith, count, at, c.min.ensures, c.loop-done.invariant.few, c.loop-done-test.true);
      whole = λ lt. omega (arith, count, at, c.min.ensures, lt);
      room = omega (arith, c.loop-done.invariant.room, c.push_reserved.ensures.capacity);
    }

pub returns-clause-lows : goal.returns-clause-lows
returns-clause-lows c = record {
  told = c.loop-done.invariant.told;
  all = omega (arith, c.loop-done.invariant.all, c.loop-done-test.false);
}

pub returns-clause-room : goal.returns-clause-room
returns-clause-room c = c.loop-done.invariant.room
