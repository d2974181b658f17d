use Rattle.std.proofs.Common.{◌≡◌, Some, sym, ap, ◌∙◌, subst}
use Rattle.viewers.specs.Viewers.{content_of}
use Rattle.machine.specs.Windows.{Selected}
use Rattle.text_frames.specs.Marks.{range_in}
use Rattle.desk_windows.specs.Windows.{AreOf, WindowSeen, WindowsSeen}
use Rattle.desk_windows.proofs.Pointed.{marks_stretch, nothing_marked}
use Rattle.desk_windows.proofs.windows.Windows.marked.Goals as goal

pub replica-requires : goal.replica-requires
replica-requires c =
    let i = c.self.inside in let d = c.args.texts.now in
    let old : WindowsSeen = record { viewers = i.viewers; caret = i.caret; selected = i.selected } in
    let are : AreOf d old = subst (λ (w : WindowsSeen). AreOf d w) (sym c.self.view_is) c.requires in
    let x : WindowSeen = record { text = c.window.inside.text; frame = c.window.inside.frame } in
    let shown : content_of i.viewers.contents c.selection.inside.viewer ≡ Some x =
    sym c.in-Some-content_at.ensures ∙ ap Some (sym c.window.view_is) in
    (are.shown.texts c.selection.inside.viewer x shown).on_desk

pub returns-in_default-range-clause-stretch : goal.returns-in_default-range-clause-stretch
returns-in_default-range-clause-stretch c =
    let i = c.self.inside in let d = c.args.texts.now in
    let old : WindowsSeen = record { viewers = i.viewers; caret = i.caret; selected = i.selected } in
    let s : Selected = record {
      viewer = c.selection.inside.viewer;
      first = c.selection.inside.first;
      last = c.selection.inside.last;
    } in
    let x : WindowSeen = record { text = c.window.inside.text; frame = c.window.inside.frame } in
    let shown : content_of i.viewers.contents c.selection.inside.viewer ≡ Some x =
    sym c.in-Some-content_at.ensures ∙ ap Some (sym c.window.view_is) in
    rw (← c.self.view_is)
    (nothing_marked d old s x c.replica.result.now (c.in-Some.is ∙ ap Some (sym c.selection.view_is)) shown c.replica.ensures
    (ap (range_in c.replica.result.now) c.selection.view_is ∙ sym c.in_default-range.ensures))

pub returns-clause-stretch : goal.returns-clause-stretch
returns-clause-stretch c =
    let i = c.self.inside in let d = c.args.texts.now in
    let old : WindowsSeen = record { viewers = i.viewers; caret = i.caret; selected = i.selected } in
    let s : Selected = record {
      viewer = c.selection.inside.viewer;
      first = c.selection.inside.first;
      last = c.selection.inside.last;
    } in
    let x : WindowSeen = record { text = c.window.inside.text; frame = c.window.inside.frame } in
    let shown : content_of i.viewers.contents c.selection.inside.viewer ≡ Some x =
    sym c.in-Some-content_at.ensures ∙ ap Some (sym c.window.view_is) in
    rw (← c.self.view_is)
    (marks_stretch d old s x c.replica.result.now (c.in-Some.is ∙ ap Some (sym c.selection.view_is)) shown c.replica.ensures
    c.in-Some-range.beg c.in-Some-range.end
    (ap (range_in c.replica.result.now) c.selection.view_is ∙ sym c.in-Some-range.ensures))

pub returns-clause-on_desk : goal.returns-clause-on_desk
returns-clause-on_desk c =
    let i = c.self.inside in let d = c.args.texts.now in
    let old : WindowsSeen = record { viewers = i.viewers; caret = i.caret; selected = i.selected } in
    let are : AreOf d old = subst (λ (w : WindowsSeen). AreOf d w) (sym c.self.view_is) c.requires in
    let x : WindowSeen = record { text = c.window.inside.text; frame = c.window.inside.frame } in
    let shown : content_of i.viewers.contents c.selection.inside.viewer ≡ Some x =
    sym c.in-Some-content_at.ensures ∙ ap Some (sym c.window.view_is) in
    (are.shown.texts c.selection.inside.viewer x shown).on_desk
