use Rattle.std.proofs.Common.{◌≡◌, refl, sym, ap, ◌∙◌, subst, None, Ok, Err}
use Rattle.std.proofs.lemmas.Result.{err_from_is_err_and}
use Rattle.viewers.specs.Viewers.{ViewersSeen, content_of}
use Rattle.machine.specs.Windows.{closed_at}
use Rattle.desk_windows.specs.Windows.{AllShow, AreOf, WindowSeen, WindowsSeen, screened}
use Rattle.desk_windows.proofs.Comes.{comes_done, comes_refused}
use Rattle.desk_windows.proofs.Going.{closed_are}
use Rattle.desk_windows.proofs.Said.{closed_comes, closed_not, none_by_err, open_is, some_by_ok}
use Rattle.desk_windows.proofs.Standing.{all_closed}
use Rattle.desk_windows.proofs.windows.Windows.close.Goals as goal

pub returns-in_err-_window-clause-comes : goal.returns-in_err-_window-clause-comes
returns-in_err-_window-clause-comes c =
    let i = c.self.inside in
    let old : WindowsSeen = record { viewers = i.viewers; caret = i.caret; selected = i.selected } in
    let new : WindowsSeen = record { viewers = c.close.new.self; caret = i.caret; selected = i.selected } in
    let why = c.in_err-_window.field-0.0 in
    let none = none_by_err (content_of i.viewers.contents c.args.viewer) why
    (sym c.close.ensures.value ∙ c.in_err-_window.was) in
    let p = err_from_is_err_and c.from_residual.result c.from_residual.ensures.1 in
    let kept : c.close.new.self ≡ i.viewers = rw c.in_err-_window.was at c.close.ensures.err in
    rw (← c.self.view_is)
    (comes_refused (closed_at (screened old) c.args.viewer) old new (λ _. None) c.from_residual.result why
    (p.1 ∙ ap Err p.2)
    (λ t. record { viewers = kept t; caret = i.caret; selected = i.selected })
    (closed_not old c.args.viewer (open_is i.viewers c.args.viewer c.lemma_are_viewers.ensures ∙ none.0) ∙ ap Err none.1))

pub fit_all-requires : goal.fit_all-requires
fit_all-requires c =
    let d = c.args.texts.now in
    let all : AllShow d c.self.inside.viewers = subst (λ (w : WindowsSeen). AllShow d w.viewers) (sym c.self.view_is) c.requires.shown.texts in
    subst (λ (s : ViewersSeen WindowSeen). AllShow d s) (sym c.close.ensures.after)
    (all_closed d c.self.inside.viewers c.args.viewer all)

pub returns-clause-comes : goal.returns-clause-comes
returns-clause-comes c =
    let i = c.self.inside in
    let old : WindowsSeen = record { viewers = i.viewers; caret = i.caret; selected = i.selected } in
    let new : WindowsSeen = record {
      viewers = c.fit_all.new.viewers;
      caret = c.caret_without-self-inside.result;
      selected = c.selection_without-self-inside.result;
    } in
    let some = some_by_ok (content_of i.viewers.contents c.args.viewer) c.in_ok-_window._window
    (sym c.close.ensures.value ∙ c.in_ok-_window.was) in
    rw (← c.self.view_is)
    (comes_done (closed_at (screened old) c.args.viewer) old new (λ _. None) (Ok tt) tt refl
    (closed_comes old c.args.viewer c.close.new.self c.fit_all.new.viewers c.caret_without-self-inside.result
    c.selection_without-self-inside.result c.lemma_are_viewers.ensures some c.close.ensures.after c.fit_all.ensures.same
    c.caret_without-self-inside.ensures c.selection_without-self-inside.ensures))

pub returns-clause-of : goal.returns-clause-of
returns-clause-of c =
    let d = c.args.texts.now in let i = c.self.inside in
    let old : WindowsSeen = record { viewers = i.viewers; caret = i.caret; selected = i.selected } in
    let new : WindowsSeen = record {
      viewers = c.fit_all.new.viewers;
      caret = c.caret_without-self-inside.result;
      selected = c.selection_without-self-inside.result;
    } in
    let are : AreOf d old = subst (λ (w : WindowsSeen). AreOf d w) (sym c.self.view_is) c.requires in
    closed_are d old c.args.viewer c.close.new.self new are c.close.ensures.after c.fit_all.ensures.same
    c.fit_all.ensures.shown c.caret_without-self-inside.ensures c.selection_without-self-inside.ensures
