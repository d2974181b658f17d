use Rattle.std.proofs.Common.{rules, ◌≡◌, ◌↔◌, ◌-◌, ◌∙◌, sym, ap, length, arith}
use Rattle.char_files.specs.CharName.{CharName}
use Rattle.operations.specs.NameSet.{IsIn}
use Rattle.operations.specs.Operation.{insert, InsertsBy}
use Rattle.operations.specs.Seen.{kind_of}
use Rattle.tree_order.specs.SortedPaths.{names_of_paths, Gains}
use Rattle.tree_order.proofs.SortedPathsLemmas.{gains_next, gains_as}
use Rattle.tree_order.proofs.sorting.put_chars.Goals as goal

pub loop-off-preserved : goal.loop-off-preserved
loop-off-preserved c =
    let site = c.args.op.now.site in
    let named : c.unwrap-name.result ≡ record { site = site; off = c.loop-off.off } = search rules in
    let one : Gains (names_of_paths c.loop-off.paths.items) (names_of_paths c.put_char.new.paths.items)
    (λ (d : CharName). d ≡ record { site = site; off = c.loop-off.off }) =
    rw named at c.in_ok-put_char.ensures.gains in
    record {
      paths = c.in_ok-put_char.ensures.paths;
      gains = gains_next _ _ _ site c.in-Insert.at c.loop-off.off c.loop-off.auto.off
          c.loop-off.invariant.gains one;
    }

pub returns-after-loop-off-clause-gains : goal.returns-after-loop-off-clause-gains
returns-after-loop-off-clause-gains c =
    let site = c.args.op.now.site in
    let is : insert c.in-Insert.cause c.in-Insert.at c.in-Insert.looks c.in-Insert.bytes.items
    ≡ c.args.op.now.kind = sym (ap kind_of c.in-Insert.is) ∙ c.kind.ensures in
    let long : length c.in-Insert.bytes.items ≡ c.loop-off.off - c.in-Insert.at =
    omega (arith, c.in-Insert.bytes.ok.0) in
    let same : (d : CharName) → IsIn (record {
      site = site;
      at = c.in-Insert.at;
      len =
          c.loop-off.off - c.in-Insert.at;
    }) d ↔ InsertsBy site c.args.op.now.kind d =
    λ d. rw (← is, ← long) (λ h. h, λ h. h) in
    gains_as _ _ _ _ same c.loop-off.invariant.gains
