use Rattle.std.proofs.Common.{◌-◌, arith, ap}
use Rattle.std.proofs.lemmas.List.{get_or_default}
use Rattle.op_log.specs.declared.site_log.Entry.{Entry}
use Rattle.op_log.proofs.site_log.low_index.Goals as goal

pub returns-else-off-entries-clause-low : goal.returns-else-off-entries-clause-low
returns-else-off-entries-clause-low c = λ k d lt.
    let entries = c.args.entries.now in
    let last = c.loop-slot.slot - 1 in
    omega (
      arith,
      c.requires.rising k last d (omega arith) (omega (arith, c.loop-slot.invariant.within, c.requires.within)),
      ap (λ (e : Entry). e.end) (get_or_default entries last d (record { index = 0; end = 0; stamp = 0 })
          (omega (arith, c.loop-slot.invariant.within, c.requires.within, c.loop-slot-test.true))),
      c.if-off-entries.false,
    )
