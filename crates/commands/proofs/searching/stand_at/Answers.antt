use Rattle.std.proofs.Common.{refl, arith, ℕ}
use Rattle.machine.specs.Windows.{bytes_shown}
use Rattle.commands.proofs.Standing.{stands_by_each}
use Rattle.std.proofs.lemmas.List.{length-map}
use Rattle.texts.specs.TextState.{shown_of}
use Rattle.char_files.specs.declared.character.Char.{Char}
use Rattle.commands.proofs.searching.stand_at.Goals as goal

pub returns : goal.returns
returns c = (
  λ is. stands_by_each c.args.bytes.now (bytes_shown c.args.replica.now) c.args.pos
      (omega (arith, c.requires, length-map (shown_of c.args.replica.now) (λ (x : Char). x.byte)))
      (λ (k : ℕ) at. c.loop-i.invariant k (omega (arith, at, c.loop-i-test.false, c.loop-i.auto.i-end))),
  λ stands. refl,
)
