use Rattle.std.proofs.Common.{◌≡◌, true, false, refl, sym, ap, ◌∙◌, subst, arith, None, Ok, Err}
use Rattle.std.specs.Prelude.{nat_le}
use Rattle.std.proofs.lemmas.Grind.{common_steps}
use Rattle.std.proofs.lemmas.Result.{err_from_is_err_and}
use Rattle.viewers.specs.Viewers.{ViewersSeen, with_top}
use Rattle.machine.specs.Windows.{Screened, is_open, moved_to}
use Rattle.desk_windows.specs.Windows.{AllShow, AreOf, WindowSeen, WindowsSeen, screened}
use Rattle.desk_windows.proofs.Comes.{comes_done, comes_refused}
use Rattle.desk_windows.proofs.Going.{moved_are}
use Rattle.desk_windows.proofs.Said.{lands, moved_is, moved_refused, not_below}
use Rattle.desk_windows.proofs.Standing.{all_moved}
use Rattle.desk_windows.proofs.windows.Windows.move_top.Goals as goal

pub returns-in_err-move_top-clause-comes : goal.returns-in_err-move_top-clause-comes
returns-in_err-move_top-clause-comes c =
    let i = c.self.inside in
    let old : WindowsSeen = record { viewers = i.viewers; caret = i.caret; selected = i.selected } in
    let new : WindowsSeen = record { viewers = c.move_top.new.self; caret = i.caret; selected = i.selected } in
    let why = c.in_err-move_top.field-0.0 in
    let stands : is_open (screened old) c.args.viewer ≡ true = first_of (cc, grind (arith, common_steps)) in
    let above : nat_le i.viewers.tracks.height c.args.row ≡ false =
    not_below i.viewers.tracks.height c.args.row (omega arith) in
    let said = moved_refused old c.args.viewer c.args.row why stands above
    (sym c.move_top.ensures.value ∙ c.in_err-move_top.was) in
    let kept = c.move_top.ensures.after ∙ said.1 in
    let p = err_from_is_err_and c.from_residual.result c.from_residual.ensures.1 in
    rw (← c.self.view_is)
    (comes_refused (moved_to (screened old) c.args.viewer c.args.row) old new (λ _. None) c.from_residual.result why
    (p.1 ∙ ap Err p.2) (λ t. record { viewers = kept t; caret = i.caret; selected = i.selected }) said.0)

pub returns-in_err-move_top-clause-of : goal.returns-in_err-move_top-clause-of
returns-in_err-move_top-clause-of c =
    let d = c.args.texts.now in let i = c.self.inside in
    let old : WindowsSeen = record { viewers = i.viewers; caret = i.caret; selected = i.selected } in
    let why = c.in_err-move_top.field-0.0 in
    let stands : is_open (screened old) c.args.viewer ≡ true = first_of (cc, grind (arith, common_steps)) in
    let above : nat_le i.viewers.tracks.height c.args.row ≡ false =
    not_below i.viewers.tracks.height c.args.row (omega arith) in
    let said = moved_refused old c.args.viewer c.args.row why stands above
    (sym c.move_top.ensures.value ∙ c.in_err-move_top.was) in
    let kept = c.move_top.ensures.after ∙ said.1 in
    let are : AreOf d old = subst (λ (w : WindowsSeen). AreOf d w) (sym c.self.view_is) c.requires in
    subst (λ (s : ViewersSeen WindowSeen). AreOf d (record { viewers = s; caret = i.caret; selected = i.selected })) (sym kept) are

pub fit_all-requires : goal.fit_all-requires
fit_all-requires c =
    let d = c.args.texts.now in
    let all : AllShow d c.self.inside.viewers = subst (λ (w : WindowsSeen). AllShow d w.viewers) (sym c.self.view_is) c.requires.shown.texts in
    subst (λ (s : ViewersSeen WindowSeen). AllShow d s) (sym c.move_top.ensures.after)
    (all_moved d c.self.inside.viewers c.args.viewer c.args.row all)

pub returns-clause-comes : goal.returns-clause-comes
returns-clause-comes c =
    let i = c.self.inside in
    let old : WindowsSeen = record { viewers = i.viewers; caret = i.caret; selected = i.selected } in
    let new : WindowsSeen = record { viewers = c.fit_all.new.viewers; caret = i.caret; selected = i.selected } in
    let stands : is_open (screened old) c.args.viewer ≡ true = first_of (cc, grind (arith, common_steps)) in
    let above : nat_le i.viewers.tracks.height c.args.row ≡ false =
    not_below i.viewers.tracks.height c.args.row (omega arith) in
    let said = moved_is old c.args.viewer c.args.row c.in_ok-move_top.field-0 stands above
    (sym c.move_top.ensures.value ∙ c.in_ok-move_top.was) in
    rw (← c.self.view_is)
    (comes_done (moved_to (screened old) c.args.viewer c.args.row) old new (λ _. None) (Ok tt) tt refl
    (said ∙ ap (λ (s : Screened). Ok (s, None))
    (lands (with_top i.viewers c.args.viewer c.args.row) c.move_top.new.self c.fit_all.new.viewers i.caret i.selected
    c.move_top.ensures.after c.fit_all.ensures.same)))

pub returns-clause-of : goal.returns-clause-of
returns-clause-of c =
    let d = c.args.texts.now in let i = c.self.inside in
    let old : WindowsSeen = record { viewers = i.viewers; caret = i.caret; selected = i.selected } in
    let new : WindowsSeen = record { viewers = c.fit_all.new.viewers; caret = i.caret; selected = i.selected } in
    let are : AreOf d old = subst (λ (w : WindowsSeen). AreOf d w) (sym c.self.view_is) c.requires in
    moved_are d old c.args.viewer c.args.row c.move_top.new.self new are c.move_top.ensures.after c.fit_all.ensures.same
    c.fit_all.ensures.shown refl refl
