use Rattle.std.proofs.Common.{◌≡◌, ◌+◌, length, refl, sym, subst, arith, Some, None, Ok}
use Rattle.std.specs.Prelude.{max, min}
use Rattle.texts.specs.TextState.{TextState, shown_of}
use Rattle.machine.specs.Windows.{selected_by}
use Rattle.desk_windows.specs.Pointing.{IsPointed}
use Rattle.desk_windows.specs.Windows.{AreOf, WindowsSeen, screened}
use Rattle.desk_windows.proofs.Comes.{comes_done}
use Rattle.desk_windows.proofs.Pointed.{selecting_spots, selection_spot}
use Rattle.desk_windows.proofs.windows.Windows.select.Goals as goal

pub returns-clause-comes : goal.returns-clause-comes
returns-clause-comes c =
    let i = c.self.inside in let d = c.args.texts.now in
    let old : WindowsSeen = record { viewers = i.viewers; caret = i.caret; selected = i.selected } in
    let from = c.in-Some.from in let to = c.in-Some-pointed.to in let now : TextState = c.replica-replica.result.now in
    let there : IsPointed d old c.args.beg.0 c.args.beg.1 (Some from) =
    subst (λ (w : WindowsSeen). IsPointed d w c.args.beg.0 c.args.beg.1 (Some from)) (sym c.self.view_is) c.in-Some.ensures in
    let other : IsPointed d old c.args.end.0 c.args.end.1 (Some to) =
    subst (λ (w : WindowsSeen). IsPointed d w c.args.end.0 c.args.end.1 (Some to)) (sym c.self.view_is) c.in-Some-pointed.ensures in
    let test = c.if-from-to.false in
    let same : from.viewer ≡ to.viewer = omega (arith, test) in
    let new : WindowsSeen = record { viewers = i.viewers; caret = i.caret; selected = Some c.in-Some-between.selection } in
    rw (← c.self.view_is)
    (comes_done (selected_by d (screened old) c.args.beg.0 c.args.beg.1 c.args.end.0 c.args.end.1) old new (λ _. None) (Ok tt)
    tt refl
    (selecting_spots d old from there.0 there.2 now c.replica-replica.ensures c.args.beg.0 c.args.beg.1 c.args.end.0
    c.args.end.1 to other.0 c.in-Some-between.selection there.1 other.1 other.2 same (sym c.in-Some-between.ensures)))

pub returns-clause-of : goal.returns-clause-of
returns-clause-of c =
    let i = c.self.inside in let d = c.args.texts.now in
    let old : WindowsSeen = record { viewers = i.viewers; caret = i.caret; selected = i.selected } in
    let are : AreOf d old = subst (λ (w : WindowsSeen). AreOf d w) (sym c.self.view_is) c.requires in
    let from = c.in-Some.from in let now : TextState = c.replica-replica.result.now in
    let there : IsPointed d old c.args.beg.0 c.args.beg.1 (Some from) =
    subst (λ (w : WindowsSeen). IsPointed d w c.args.beg.0 c.args.beg.1 (Some from)) (sym c.self.view_is) c.in-Some.ensures in
    let to = c.in-Some-pointed.to in
    selection_spot d old from there.0 there.2 now c.replica-replica.ensures (min from.pos to.pos)
    (min (max from.pos to.pos + 1) (length (shown_of now))) c.in-Some-between.selection are c.lemma_is_text.ensures
    (sym c.in-Some-between.ensures)
