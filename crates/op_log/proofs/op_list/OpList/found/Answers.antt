use Rattle.std.proofs.Common.{rules, ◌≡◌, ℕ, List, ◌+◌, ◌-◌, ◌<◌, ◌≤◌, length, get_or, Some, slice_get, sym, ap, subst, arith}
use Rattle.op_log.specs.declared.stretch.Stretch.{Stretch}
use Rattle.op_log.specs.declared.stretch.Stretch.TheVariants.{Typed, Deleted, Single}
use Rattle.op_log.specs.Stretches.{Shared, all_ops, letter_of_run, one_delete, shared}
use Rattle.op_log.proofs.Stretches.{IsFound, byte_there, deleted_found, found_in, letter_found, single_found, spelled_at}
use Rattle.op_log.proofs.op_list.OpList.found.Goals as goal
use Rattle.op_log.proofs.op_list.OpList.found.Goals.{After-index-2}

-- the stretch, and where in it
at : (c : After-index-2) → IsFound (shared c.self.inside.bytes.items c.self.inside.looks.items c.self.inside.singles.items)
    c.self.inside.stretches.items c.args.at c.index-2.result.now (c.args.at - c.index.result.now)
at c =
    let l = c.self.inside in
    let is : length c.deref.result.now ≡ length l.firsts.items = ap length c.deref.ensures.value in
    let within : c.slot_of-slot.result < length l.firsts.items = omega (arith, is, c.slot_of-slot.ensures.within) in
    let lt : c.args.at < l.len = search rules in
    found_in (shared l.bytes.items l.looks.items l.singles.items) l.stretches.items l.firsts.items l.len c.self.invariant.0
    c.slot_of-slot.result c.args.at c.index-2.result.now c.index.result.now within (sym c.index-2.ensures) c.index.ensures
    (subst (λ (ns : List ℕ). (d : ℕ) → get_or ns c.slot_of-slot.result d ≤ c.args.at) c.deref.ensures.value c.slot_of-slot.ensures.low)
    (subst (λ (ns : List ℕ). (d : ℕ) → c.slot_of-slot.result + 1 < length ns → c.args.at < get_or ns (c.slot_of-slot.result + 1) d)
    c.deref.ensures.value c.slot_of-slot.ensures.high)
    lt

pub index-requires-in-Typed : goal.index-requires-in-Typed
index-requires-in-Typed c =
    let l = c.self.inside in
    let s : Shared = shared l.bytes.items l.looks.items l.singles.items in
    let k : ℕ = c.args.at - c.index.result.now in
    let found : IsFound s l.stretches.items c.args.at (Typed c.in-Typed.run') k =
    subst (λ (st : Stretch). IsFound s l.stretches.items c.args.at st k) c.in-Typed.is
    (at (goal.at.index-requires-in-Typed c).After-index-2) in
    omega (arith, byte_there s l.stretches.items c.args.at c.in-Typed.run' k found, l.bytes.ok.0)

pub returns-in-Typed : goal.returns-in-Typed
returns-in-Typed c =
    let l = c.self.inside in
    let s : Shared = shared l.bytes.items l.looks.items l.singles.items in
    let k : ℕ = c.args.at - c.index.result.now in
    let found : IsFound s l.stretches.items c.args.at (Typed c.in-Typed.run') k =
    subst (λ (st : Stretch). IsFound s l.stretches.items c.args.at st k) c.in-Typed.is
    (at (goal.at.returns-in-Typed c).After-index-2) in
    let is : slice_get (all_ops s l.stretches.items) c.args.at
    ≡ Some (letter_of_run l.looks.items c.in-Typed.run' k c.index-in-Typed.result.now) =
    letter_found s l.stretches.items c.args.at c.in-Typed.run' k found c.index-in-Typed.result.now c.index-in-Typed.ensures in
    rw (← c.self.view_is) (
      is,
      (
        found.there.2,
        spelled_at (all_ops s l.stretches.items) c.self.invariant.0.spelled c.args.at
            (letter_of_run l.looks.items c.in-Typed.run' k c.index-in-Typed.result.now) is,
        found.there.3,
      ),
    )

pub returns-in-Deleted : goal.returns-in-Deleted
returns-in-Deleted c =
    let l = c.self.inside in
    let s : Shared = shared l.bytes.items l.looks.items l.singles.items in
    let k : ℕ = c.args.at - c.index.result.now in
    let found : IsFound s l.stretches.items c.args.at (Deleted c.in-Deleted.one) k =
    subst (λ (st : Stretch). IsFound s l.stretches.items c.args.at st k) c.in-Deleted.is
    (at (goal.at.returns-in-Deleted c).After-index-2) in
    let is : slice_get (all_ops s l.stretches.items) c.args.at ≡ Some (one_delete c.in-Deleted.one) =
    deleted_found s l.stretches.items c.args.at c.in-Deleted.one k found in
    rw (← c.self.view_is) (
      is,
      spelled_at (all_ops s l.stretches.items) c.self.invariant.0.spelled c.args.at (one_delete c.in-Deleted.one) is,
    )

pub returns-in-Single : goal.returns-in-Single
returns-in-Single c =
    let l = c.self.inside in
    let s : Shared = shared l.bytes.items l.looks.items l.singles.items in
    let k : ℕ = c.args.at - c.index.result.now in
    let found : IsFound s l.stretches.items c.args.at (Single c.in-Single.single) k =
    subst (λ (st : Stretch). IsFound s l.stretches.items c.args.at st k) c.in-Single.is
    (at (goal.at.returns-in-Single c).After-index-2) in
    rw (← c.self.view_is) (
      single_found s l.stretches.items c.args.at c.in-Single.single k found c.index-in-Single.result.now
          c.index-in-Single.ensures,
      tt,
    )
