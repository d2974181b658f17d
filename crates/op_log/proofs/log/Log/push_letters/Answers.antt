use Rattle.std.proofs.Common.{rules, ◌≡◌, ℕ, ◌+◌, ◌-◌, ◌<◌, max, List, ◌++◌, length, refl, sym, subst, arith}
use Rattle.operations.specs.Letters.{letters}
use Rattle.operations.specs.Operation.{Operation}
use Rattle.set_laws.specs.Fronts.{file_len}
use Rattle.op_log.specs.Seen.{LogSeen}
use Rattle.op_log.specs.Logged.{AreLogged}
use Rattle.operations.proofs.Typed.{AreInRange, in_range}
use Rattle.op_log.proofs.PushedLetters.{pushed_letters}
use Rattle.op_log.proofs.Rooms.{room_told}
use Rattle.op_log.proofs.log.Log.push_letters.Goals as goal
use Rattle.op_log.proofs.log.Log.push_letters.Goals.{Else-is_empty}

some : (c : Else-is_empty) → 0 < length c.args.bytes.now
some c = search rules

range : (c : Else-is_empty) → AreInRange c.args.typing.now (length c.args.bytes.now)
range c = in_range c.args.typing.now c.args.bytes.now (some c) c.requires.spelled

pub overflow_add-first : goal.overflow_add-first
overflow_add-first c =
    let at = (goal.at.overflow_add-first c).Else-is_empty in
    omega (arith, some at, (range at).in_file)

pub push_letters-requires-2-clause-room : goal.push_letters-requires-2-clause-room
push_letters-requires-2-clause-room c =
    let room = rw (← c.self.view_is) at c.requires.reserved in
    omega (arith, room.2, room_told c.self.inside.sites c.args.typing.now.site)

pub push_letters-requires-2-clause-few : goal.push_letters-requires-2-clause-few
push_letters-requires-2-clause-few c =
    let next = rw (← c.self.view_is) at c.requires.next in
    omega (
      arith,
      next,
      (c.self.invariant.by_site c.args.typing.now.site).front,
      (range (goal.at.push_letters-requires-2-clause-few c).Else-is_empty).seq,
    )

pub push_letters-requires-2-clause-stamp : goal.push_letters-requires-2-clause-stamp
push_letters-requires-2-clause-stamp c =
    omega (arith, (range (goal.at.push_letters-requires-2-clause-stamp c).Else-is_empty).stamp)

pub push_letters-requires-2-clause-end : goal.push_letters-requires-2-clause-end
push_letters-requires-2-clause-end c =
    omega (arith, (range (goal.at.push_letters-requires-2-clause-end c).Else-is_empty).in_file)

pub overflow_add-typing : goal.overflow_add-typing
overflow_add-typing c =
    omega (arith, (range (goal.at.overflow_add-typing c).Else-is_empty).stamp)

pub invariant_of-self : goal.invariant_of-self
invariant_of-self c =
    let l = c.self.inside in
    let t = c.args.typing.now in
    let bytes : List ℕ = c.args.bytes.now in
    let next = rw (← c.self.view_is) at c.requires.next in
    let begins : t.at ≡ file_len l.ops.items t.site =
    subst (λ (seen : LogSeen). t.at ≡ file_len seen.ops t.site) (sym c.self.view_is) c.requires.begins in
    let most : c.max-self-inside.result ≡ max (t.stamp + (length bytes - 1)) l.stamp = search rules in
    let index : c.len-index.result ≡ length l.ops.items = search rules in
    subst (λ (xs : List Operation). AreLogged xs c.push_letters-2.new.self c.max-self-inside.result)
    (sym c.push_letters.ensures)
    (subst (λ (n : ℕ). AreLogged (l.ops.items ++ letters t bytes) c.push_letters-2.new.self n) (sym most)
    (pushed_letters bytes (some (goal.at.invariant_of-self c).Else-is_empty) c.self.invariant c.push_letters-2.new.self t (record {
      stamp = t.stamp;
      end = t.at + 1;
      index = c.len-index.result;
    }) next begins c.requires.spelled refl refl index c.push_letters-2.ensures.entries c.push_letters-2.ensures.others))
