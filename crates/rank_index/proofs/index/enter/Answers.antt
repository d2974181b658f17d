use Rattle.std.proofs.Common.{◌≡◌, ℕ, ◌<◌, length, get_or, refl, arith, rules, subst}
use Rattle.piece_raw.specs.Ring.{HasTag}
use Rattle.rank_index.proofs.Homes.{entered_more, others_more, read_same, HasTag-read}
use Rattle.rank_index.proofs.Tagged.{Members, HasTag-nil}
use Rattle.rank_index.proofs.index.enter.Goals as goal

pub loop-member-init : goal.loop-member-init
loop-member-init c = record {
  entered = λ tag h. absurd (HasTag-nil tag h);
  others = λ tag h. refl;
}

pub bounds-homes-member : goal.bounds-homes-member
bounds-homes-member c =
    let members : Members = c.members-members.result.now in
    let k : ℕ = c.loop-member.member-index in
    let here : HasTag members (get_or members k (0, 0)).0 =
    HasTag-read members k (0, 0) c.loop-member-test.true in
    let in_chunk : HasTag c.args.chunk.now.members (get_or members k (0, 0)).0 =
    subst (λ (l : Members). HasTag l (get_or members k (0, 0)).0) c.members-members.ensures.members here in
    omega (arith, c.requires (get_or members k (0, 0)).0 in_chunk, c.loop-member.auto.homes)

pub offset_bounds-homes-member : goal.offset_bounds-homes-member
offset_bounds-homes-member c =
    let lt : (get_or c.members-members.result.now c.loop-member.member-index (0, 0)).0 < length c.args.homes.now =
    omega (arith, bounds-homes-member c, c.loop-member.auto.homes) in
    first_of (search rules, omega arith)

pub loop-member-preserved : goal.loop-member-preserved
loop-member-preserved c =
    let members : Members = c.members-members.result.now in
    let k : ℕ = c.loop-member.member-index in
    let m : ℕ × ℕ = get_or members k (0, 0) in
    let is : m ≡ get_or members k m = read_same members k (0, 0) c.loop-member-test.true in
    record {
      entered = entered_more c.loop-member.homes c.home-home.result members k m c.loop-member-test.true is
          (bounds-homes-member c) c.loop-member.invariant.entered;
      others = others_more c.loop-member.homes c.home-home.result members k m c.loop-member-test.true is
          c.args.homes.now c.loop-member.invariant.others;
    }
