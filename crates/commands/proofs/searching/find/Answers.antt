use Rattle.std.proofs.Common.{arith, ◌+◌}
use Rattle.std.proofs.lemmas.List.{length-map}
use Rattle.char_files.specs.declared.character.Char.{Char}
use Rattle.texts.specs.TextState.{shown_of}
use Rattle.machine.specs.Windows.{bytes_shown}
use Rattle.commands.proofs.Standing.{none_further, none_past}
use Rattle.commands.proofs.searching.find.Goals as goal

pub loop-pos-preserved : goal.loop-pos-preserved
loop-pos-preserved c =
    none_further c.args.bytes.now (bytes_shown c.args.replica.now) c.args.from c.loop-pos.pos c.loop-pos.invariant
    (λ stands. grind (arith, c.if-stand_at.false, c.stand_at.ensures.1 stands))

pub returns-else-stand_at-clause-none : goal.returns-else-stand_at-clause-none
returns-else-stand_at-clause-none c =
    none_past c.args.bytes.now (bytes_shown c.args.replica.now) c.args.from (c.loop-pos.pos + 1)
    (none_further c.args.bytes.now (bytes_shown c.args.replica.now) c.args.from c.loop-pos.pos c.loop-pos.invariant
    (λ stands. grind (arith, c.if-stand_at.false, c.stand_at.ensures.1 stands)))
    (grind (
      arith,
      c.loop-pos-test.true,
      c.checked_sub.ensures,
      c.in_ok-last.ensures,
      c.in_ok-last.is,
      c.in_ok-last.was,
      c.shown_len.ensures,
      length-map (shown_of c.args.replica.now) (λ (x : Char). x.byte),
    ))
