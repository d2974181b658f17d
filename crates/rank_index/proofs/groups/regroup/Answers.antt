use Rattle.std.proofs.Common.{◌≡◌, ℕ, ◌+◌, ◌-◌, ◌*◌, ◌∷◌, ◌++◌, [], List, length, take, drop, min, ap, ◌∙◌, arith}
use Rattle.std.proofs.lemmas.List.{length-append}
use Rattle.rank_index.specs.declared.groups.TheConstants.{GROUP}
use Rattle.rank_index.specs.Chunks.{ChunkSeen, members_of}
use Rattle.rank_index.specs.Ranked.{weight_of}
use Rattle.rank_index.proofs.Grouped.{weight_to-more, group_more}
use Rattle.rank_index.proofs.Weights.{weight_to-most}
use Rattle.rank_index.proofs.groups.regroup.Goals as goal

pub loop-done-init : goal.loop-done-init
loop-done-init c = record {
  sums = λ k lt. absurd (omega (arith, lt, ap length c.clear.ensures.items));
  within = omega arith;
  all = omega arith;
  few = omega (arith, ap length c.clear.ensures.items);
  whole = λ lt. omega (arith, ap length c.clear.ensures.items);
  room = omega (arith, c.clear.ensures.capacity);
}

pub weight_in-requires : goal.weight_in-requires
weight_in-requires c =
    let n : ℕ = c.loop-done.done + c.min.result - c.loop-done.done in
    omega (
      arith,
      weight_to-more c.args.chunks.now c.loop-done.done n,
      weight_to-most c.args.chunks.now (c.loop-done.done + n),
      c.requires.total,
    )

pub push_reserved-requires : goal.push_reserved-requires
push_reserved-requires c =
    omega (
      arith,
      c.loop-done.invariant.few,
      c.loop-done.invariant.room,
      c.loop-done.groups.ok.0,
      c.loop-done-test.true,
      c.requires.room,
    )

pub loop-done-preserved : goal.loop-done-preserved
loop-done-preserved c =
    let groups : List ℕ = c.loop-done.groups.items in
    let chunks : List ChunkSeen = c.args.chunks.now in
    let sum : ℕ = c.weight_in.result in
    let pushed : c.push_reserved.new.self.items ≡ groups ++ sum ∷ [] = c.push_reserved.ensures.items in
    let count : length c.push_reserved.new.self.items ≡ length groups + 1 =
    omega (arith, ap length pushed, length-append groups (sum ∷ [])) in
    let at : c.loop-done.done ≡ GROUP * length groups = c.loop-done.invariant.whole c.loop-done-test.true in
    let n : c.loop-done.done + c.min.result - c.loop-done.done ≡ c.min.result = omega arith in
    let told : sum ≡ weight_of (members_of (take c.min.result (drop (GROUP * length groups) chunks))) =
    c.weight_in.ensures ∙ (λ i. weight_of (members_of (take (n i) (drop (at i) chunks)))) in
    let capped : c.min.result ≡ min GROUP (length chunks - GROUP * length groups) =
    c.min.ensures ∙ ap (λ (m : ℕ). min GROUP (length chunks - m)) at in
    record {
      sums = rw pushed (group_more groups chunks c.min.result sum c.loop-done.invariant.sums capped told);
      within = omega (arith, c.min.ensures, c.loop-done-test.true);
      all = omega (arith, count, at, c.min.ensures);
      few = omega (arith, count, at, c.min.ensures, c.loop-done.invariant.few, c.loop-done-test.true);
      whole = λ lt. omega (arith, count, at, c.min.ensures, lt);
      room = omega (arith, c.loop-done.invariant.room, c.push_reserved.ensures.capacity);
    }

pub returns-clause-groups : goal.returns-clause-groups
returns-clause-groups c = record {
  sums = c.loop-done.invariant.sums;
  all = omega (arith, c.loop-done.invariant.all, c.loop-done-test.false);
}

pub returns-clause-room : goal.returns-clause-room
returns-clause-room c = c.loop-done.invariant.room
