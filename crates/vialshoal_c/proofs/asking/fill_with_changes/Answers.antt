use Rattle.std.proofs.Common.{◌+◌, ◌<◌, ◌∷◌, ℕ, List, length, drop, get_or, set, ap, subst, sym, arith, refl}
use Rattle.std.proofs.lemmas.List.{drop_all, drop_more}
use Rattle.list_changes.specs.declared.change.Change.{Change}
use Rattle.list_changes.specs.declared.change.ChangeKind.TheVariants.{Insert}
use Rattle.vialshoal_c.specs.declared.outputs.TextChange.{TextChange}
use Rattle.vialshoal_c.proofs.Filling.{IsFilled, change_of, fill_begins, fill_ends, fill_more, has_room}
use Rattle.vialshoal_c.proofs.asking.fill_with_changes.Goals as goal

abbrev none : Change
none = record { kind = Insert; beg = 0; end = 0 }

pub loop-change-init : goal.loop-change-init
loop-change-init c = record { same = refl; filled = fill_begins change_of c.args.changes.now c.args.room.now c.requires }

left : (changes : List Change) (old new : List TextChange) (i at : ℕ) → i < length changes
    → IsFilled change_of changes (drop i changes) old new at
    → IsFilled change_of changes (get_or changes i none ∷ drop (i + 1) changes) old new at
left changes old new i at lt is = subst (λ (l : List Change). IsFilled change_of changes l old new at) (drop_more changes i none lt) is

pub bounds-room-at : goal.bounds-room-at
bounds-room-at c =
    has_room change_of _ _ _ _ _ _ (left c.args.changes.now c.args.room.now c.loop-change.room c.loop-change.change-index
    c.loop-change.at c.loop-change-test.true c.loop-change.invariant.filled)

pub loop-change-preserved : goal.loop-change-preserved
loop-change-preserved c =
    let x : Change = get_or c.args.changes.now c.loop-change.change-index none in
    let more = fill_more change_of _ _ _ _ _ _ (left c.args.changes.now c.args.room.now c.loop-change.room
    c.loop-change.change-index c.loop-change.at c.loop-change-test.true c.loop-change.invariant.filled) in
    record {
      same = ap (λ (n : ℕ). n + 1) c.loop-change.invariant.same;
      filled = subst (λ (n : ℕ). IsFilled change_of c.args.changes.now (drop (c.loop-change.change-index + 1) c.args.changes.now)
          c.args.room.now (set c.loop-change.room c.loop-change.at (record { kind = n; beg = x.beg; end = x.end }))
          (c.loop-change.at + 1)) (sym c.number_of_kind.ensures) more;
    }

pub returns : goal.returns
returns c =
    fill_ends change_of c.args.changes.now c.args.room.now c.loop-change.room c.loop-change.at
    (subst (λ (l : List Change). IsFilled change_of c.args.changes.now l c.args.room.now c.loop-change.room c.loop-change.at)
    (drop_all c.loop-change.change-index c.args.changes.now (omega (arith, c.loop-change-test.false))) c.loop-change.invariant.filled)
