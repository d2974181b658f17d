use Rattle.std.proofs.Common.{◌≡◌, length, refl, sym, ap, ◌∙◌, subst, arith, Err}
use Rattle.std.proofs.lemmas.Option.{slice_get_read}
use Rattle.std.proofs.lemmas.Result.{err_from_is_err_and}
use Rattle.std.specs.List.{remove, zip}
use Rattle.std.specs.Option.{ok_or}
use Rattle.looks.specs.declared.refusal.Refusal.TheVariants.{NoViewer}
use Rattle.viewers.specs.Viewers.{AreNumbered, index_of}
use Rattle.viewers.proofs.Entries.{all_kept, content_at_index, content_nowhere, removed_at}
use Rattle.viewers.proofs.Numbers.{index_there}
use Rattle.viewers.proofs.Screens.{closing_nowhere, closing_there, numbered_closed}
use Rattle.viewers.proofs.screen.Screen.close.Goals as goal

pub invariant_of-self : goal.invariant_of-self
invariant_of-self g c =
    let i = c.self.inside in
    let nowhere = closing_nowhere i.tracks i.next c.args.viewer i.numbers.items c.in_err-close.field-0.0 c.self.invariant.0
    (sym c.close.ensures.value ∙ c.in_err-close.was) in (
      subst (λ t. AreNumbered t i.next i.numbers.items) (sym nowhere.2 ∙ sym c.close.ensures.after) c.self.invariant.0,
      c.self.invariant.1,
      c.self.invariant.2,
    )

pub returns-in_err-close-clause-value : goal.returns-in_err-close-clause-value
returns-in_err-close-clause-value g c =
    let i = c.self.inside in
    let nowhere = closing_nowhere i.tracks i.next c.args.viewer i.numbers.items c.in_err-close.field-0.0 c.self.invariant.0
    (sym c.close.ensures.value ∙ c.in_err-close.was) in
    let none = content_nowhere i.numbers.items i.contents.items c.args.viewer c.self.invariant.1 nowhere.1 in
    let p = err_from_is_err_and c.from_residual.result c.from_residual.ensures.1 in
    rw (p.1, p.2, ← c.self.view_is) (ap Err nowhere.0 ∙ sym (ap (λ o. ok_or o NoViewer) none))

pub returns-in_err-close-clause-after : goal.returns-in_err-close-clause-after
returns-in_err-close-clause-after g c =
    let i = c.self.inside in
    let nowhere = closing_nowhere i.tracks i.next c.args.viewer i.numbers.items c.in_err-close.field-0.0 c.self.invariant.0
    (sym c.close.ensures.value ∙ c.in_err-close.was) in
    let kept = all_kept i.numbers.items i.contents.items c.args.viewer nowhere.1 in
    rw (← c.self.view_is) (λ t. record { tracks = c.close.ensures.after t; next = i.next; contents = sym kept t })

pub remove-requires : goal.remove-requires
remove-requires g c =
    let i = c.self.inside in
    let there = closing_there i.tracks i.next c.args.viewer i.numbers.items c.self.invariant.0
    (sym c.close.ensures.value ∙ c.in_ok-close.was) in
    let at = (index_there i.numbers.items c.args.viewer there).0 in
    let is : c.index_of-index.result ≡ index_of i.numbers.items c.args.viewer =
    c.index_of-index.ensures ∙ ap (λ l. index_of l c.args.viewer) c.as_slice.ensures.value in
    (omega arith, omega (arith, at, is))

pub remove-requires-2 : goal.remove-requires-2
remove-requires-2 g c =
    let i = c.self.inside in
    let there = closing_there i.tracks i.next c.args.viewer i.numbers.items c.self.invariant.0
    (sym c.close.ensures.value ∙ c.in_ok-close.was) in
    let at = (index_there i.numbers.items c.args.viewer there).0 in
    let is : c.index_of-index.result ≡ index_of i.numbers.items c.args.viewer =
    c.index_of-index.ensures ∙ ap (λ l. index_of l c.args.viewer) c.as_slice.ensures.value in
    let even = c.self.invariant.1 in let long = i.contents.ok.0 in omega (arith, at, is, even, long)

pub invariant_of-self-2 : goal.invariant_of-self-2
invariant_of-self-2 g c =
    let i = c.self.inside in
    let ok = sym c.close.ensures.value ∙ c.in_ok-close.was in
    let there = closing_there i.tracks i.next c.args.viewer i.numbers.items c.self.invariant.0 ok in
    let is : c.index_of-index.result ≡ index_of i.numbers.items c.args.viewer =
    c.index_of-index.ensures ∙ ap (λ l. index_of l c.args.viewer) c.as_slice.ensures.value in
    let even = c.self.invariant.1 in let long = i.contents.ok.0 in let short = c.remove-2.new.self.ok.0 in
    let room = c.self.invariant.2 in (
      rw (c.close.ensures.after, c.remove.ensures.items, is)
          (numbered_closed i.tracks i.next c.args.viewer i.numbers.items c.self.invariant.0 there ok),
      omega (arith, even, long, short),
      omega (arith, room),
    )

pub returns-clause-value : goal.returns-clause-value
returns-clause-value g c =
    let i = c.self.inside in
    let ok = sym c.close.ensures.value ∙ c.in_ok-close.was in
    let there = closing_there i.tracks i.next c.args.viewer i.numbers.items c.self.invariant.0 ok in
    let at = (index_there i.numbers.items c.args.viewer there).0 in
    let is : c.index_of-index.result ≡ index_of i.numbers.items c.args.viewer =
    c.index_of-index.ensures ∙ ap (λ l. index_of l c.args.viewer) c.as_slice.ensures.value in
    let even = c.self.invariant.1 in
    let read = slice_get_read i.contents.items (length i.contents.items) (index_of i.numbers.items c.args.viewer) c.remove-2.result
    refl (omega (arith, at, even)) (rw (← is) c.remove-2.ensures.value) in
    rw (← c.self.view_is)
    (sym (ap (λ o. ok_or o NoViewer) (content_at_index i.numbers.items i.contents.items c.args.viewer even ∙ read)))

pub returns-clause-after : goal.returns-clause-after
returns-clause-after g c =
    let i = c.self.inside in
    let is : c.index_of-index.result ≡ index_of i.numbers.items c.args.viewer =
    c.index_of-index.ensures ∙ ap (λ l. index_of l c.args.viewer) c.as_slice.ensures.value in
    let rest = removed_at 1 i.next c.args.viewer c.index_of-index.result i.numbers.items c.remove.new.self.items
    i.contents.items c.remove-2.new.self.items c.self.invariant.0.rising c.self.invariant.1 is c.remove.ensures.items
    c.remove-2.ensures.items in
    rw (← c.self.view_is)
    (λ t. record { tracks = c.close.ensures.after t; next = i.next; contents = rest t })
