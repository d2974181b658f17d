use Rattle.std.proofs.Common.{refl, sym, subst}
use Rattle.viewers.specs.Viewers.{with_contents}
use Rattle.desk_windows.specs.Windows.{AreOf, WindowsSeen}
use Rattle.desk_windows.proofs.Changed.{all_told, all_windows, told_each, told_once}
use Rattle.desk_windows.proofs.Going.{told_are}
use Rattle.desk_windows.proofs.windows.Windows.tell.Goals as goal

pub returns-clause-screen : goal.returns-clause-screen
returns-clause-screen c =
    let i = c.self.inside in let ws = c.tell_each.new.windows in
    let changes = c.args.changes.now in let now = c.replica-replica.result.now in
    let (long, told) = told_each c.args.text changes now i.viewers.contents c.contents_mut.result.now ws
    c.contents_mut.ensures.value c.tell_each.ensures.len c.tell_each.ensures.told in
    rw (← c.self.view_is) (λ t. record {
      tracks = i.viewers.tracks;
      next = i.viewers.next;
      windows = all_windows c.args.text changes now i.viewers ws long told t;
      caret = i.caret;
      selected = i.selected;
    })

pub returns-clause-of : goal.returns-clause-of
returns-clause-of c =
    let i = c.self.inside in let ws = c.tell_each.new.windows in
    let changes = c.args.changes.now in let now = c.replica-replica.result.now in
    let (long, told) = told_each c.args.text changes now i.viewers.contents c.contents_mut.result.now ws
    c.contents_mut.ensures.value c.tell_each.ensures.len c.tell_each.ensures.told in
    let old : WindowsSeen = record { viewers = i.viewers; caret = i.caret; selected = i.selected } in
    let new : WindowsSeen = record { viewers = with_contents i.viewers ws; caret = i.caret; selected = i.selected } in
    λ d are_of in_text.
    let are : AreOf d old = subst (λ (w : WindowsSeen). AreOf d w) (sym c.self.view_is) are_of in
    told_are d c.args.texts.now c.args.text changes old new are in_text
    (all_told c.args.text changes now i.viewers ws long told d c.args.texts.now c.replica-replica.ensures are.shown in_text)
    (all_windows c.args.text changes now i.viewers ws long told) refl refl

pub returns-clause-once : goal.returns-clause-once
returns-clause-once c =
    let i = c.self.inside in let ws = c.tell_each.new.windows in
    let changes = c.args.changes.now in let now = c.replica-replica.result.now in
    let (long, told) = told_each c.args.text changes now i.viewers.contents c.contents_mut.result.now ws
    c.contents_mut.ensures.value c.tell_each.ensures.len c.tell_each.ensures.told in
    (now, c.replica-replica.ensures, rw (← c.self.view_is) (told_once c.args.text changes now i.viewers ws long told))
