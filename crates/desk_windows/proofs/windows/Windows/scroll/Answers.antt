use Rattle.std.proofs.Common.{refl, sym, subst, None, Ok, Err}
use Rattle.looks.specs.declared.refusal.Refusal.TheVariants.{NoViewer}
use Rattle.viewers.specs.Viewers.{with_content}
use Rattle.machine.specs.Windows.{scrolled_in}
use Rattle.desk_windows.specs.Windows.{AllShow, AreOf, ShowTexts, WindowsSeen, screened}
use Rattle.desk_windows.proofs.Comes.{comes_done, comes_refused}
use Rattle.desk_windows.proofs.Going.{all_of, goes_set}
use Rattle.desk_windows.proofs.Scrolling.{scrolled_is, scrolled_not, scrolled_shows}
use Rattle.desk_windows.proofs.windows.Windows.scroll.Goals as goal

pub returns-in_default-clause-comes : goal.returns-in_default-clause-comes
returns-in_default-clause-comes c =
    let i = c.self.inside in
    let old : WindowsSeen = record { viewers = i.viewers; caret = i.caret; selected = i.selected } in
    rw (← c.self.view_is)
    (comes_refused (scrolled_in c.args.texts.now (screened old) c.args.viewer c.args.line) old old (λ _. None) (Err NoViewer)
    NoViewer refl refl (scrolled_not c.args.texts.now old c.args.viewer c.args.line (sym c.in_default.ensures.value)))

pub scroll-requires : goal.scroll-requires
scroll-requires c =
    let d = c.args.texts.now in
    let all : AllShow d c.self.inside.viewers = subst (λ (w : WindowsSeen). AllShow d w.viewers) (sym c.self.view_is) c.requires.shown.texts in
    (all c.args.viewer c.in-Some.window.now (sym c.in-Some.ensures.value)).on_desk

pub returns-clause-comes : goal.returns-clause-comes
returns-clause-comes c =
    let i = c.self.inside in
    let old : WindowsSeen = record { viewers = i.viewers; caret = i.caret; selected = i.selected } in
    let new : WindowsSeen = record {
      viewers = with_content i.viewers c.args.viewer c.scroll.new.self;
      caret = i.caret;
      selected = i.selected;
    } in
    let shown = c.scroll.ensures.shown in
    rw (← c.self.view_is)
    (comes_done (scrolled_in c.args.texts.now (screened old) c.args.viewer c.args.line) old new (λ _. None) (Ok tt) tt refl
    (scrolled_is c.args.texts.now old c.args.viewer c.args.line c.in-Some.window.now c.scroll.new.self shown.0
    (sym c.in-Some.ensures.value) shown.1 c.scroll.ensures.text shown.2))

pub returns-clause-of : goal.returns-clause-of
returns-clause-of c =
    let i = c.self.inside in let d = c.args.texts.now in
    let old : WindowsSeen = record { viewers = i.viewers; caret = i.caret; selected = i.selected } in
    let new : WindowsSeen = record {
      viewers = with_content i.viewers c.args.viewer c.scroll.new.self;
      caret = i.caret;
      selected = i.selected;
    } in
    let are : AreOf d old = subst (λ (w : WindowsSeen). AreOf d w) (sym c.self.view_is) c.requires in
    let there = sym c.in-Some.ensures.value in
    let shown = c.scroll.ensures.shown in
    let shows : ShowTexts d new.viewers =
    scrolled_shows d old c.args.viewer c.args.line c.in-Some.window.now c.scroll.new.self shown.0 are.shown there shown.1
    c.scroll.ensures.text c.scroll.ensures.width c.scroll.ensures.rows shown.3 in
    all_of d d old new are shows refl refl
    (goes_set d i.viewers.contents c.args.viewer c.in-Some.window.now c.scroll.new.self there c.scroll.ensures.text)
