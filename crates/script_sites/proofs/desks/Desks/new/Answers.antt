use Rattle.std.proofs.Common.{◌≡◌, ◌+◌, ◌++◌, ◌∷◌, [], ℕ, List, map, sym, ap, ◌∙◌, arith}
use Rattle.std.specs.List.{range_with_len}
use Rattle.std.proofs.lemmas.List.{length-map}
use Rattle.std.proofs.lemmas.List.FromFn.{length-range_with_len}
use Rattle.desk_texts.proofs.Counted.{map-range-more}
use Rattle.machine.specs.Windows.{blank_screen}
use Rattle.commands.specs.Steps.{DeskSeen}
use Rattle.script_sites.proofs.Standing.{begins_new, new_seen}
use Rattle.script_sites.proofs.desks.Desks.new.Goals as goal

pub loop-i-preserved : goal.loop-i-preserved
loop-i-preserved c =
    let made = new_seen (blank_screen c.args.settings.width c.args.settings.height) in
    let site_is : c.unwrap-site.result ≡ c.args.settings.first + c.loop-i.i = rw c.unwrap-site.ensures at c.new.ensures.value in
    let desk_is : c.in_ok-new.field-0 ≡ made (c.args.settings.first + c.loop-i.i) = rw (site_is, c.from.ensures, c.from-in-loop-i.ensures) at c.in_ok-new.ensures.ok in
    let more = map-range-more made c.args.settings.first c.loop-i.i in
    c.in_ok-push.ensures.items ∙ ap (λ (x : DeskSeen). c.loop-i.desks.items ++ x ∷ []) desk_is ∙ ap (λ (xs : List DeskSeen). xs ++ made (c.args.settings.first + c.loop-i.i) ∷ []) c.loop-i.invariant ∙ sym more

pub invariant_of-result : goal.invariant_of-result
invariant_of-result c = (rw c.loop-i.invariant (simp (length-map, length-range_with_len) (omega arith)), omega (arith, c.in_ok-bytes.ensures.capacity), omega (arith, c.in_ok-fronts.ensures.capacity), omega (arith, c.in_ok-names.ensures.capacity))

pub returns-clause-ok : goal.returns-clause-ok
returns-clause-ok c = λ files.
    let first = c.args.settings.first in
    let width = c.args.settings.width in
    let height = c.args.settings.height in
    let made = new_seen (blank_screen width height) in
    let all : c.loop-i.i ≡ c.args.settings.count = omega (arith, c.loop-i-test.false, c.loop-i.auto.i-end) in
    let desks : c.loop-i.desks.items ≡ map made (range_with_len first c.args.settings.count) = c.loop-i.invariant ∙ ap (λ (n : ℕ). map made (range_with_len first n)) all in
    rw (desks, c.new-2.ensures) (begins_new first c.args.settings.count width height files)
