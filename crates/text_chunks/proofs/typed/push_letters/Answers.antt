use Rattle.std.proofs.Common.{◌≡◌, ◌∷◌, [], true, ap, length, length-append, arith, rules}
use Rattle.text_chunks.proofs.Rows.{one_typed}
use Rattle.text_chunks.proofs.typed.push_letters.Goals as goal

pub loop-op-preserved : goal.loop-op-preserved
loop-op-preserved c =
    let so : c.push_letter.result ≡ true = search rules in
    let (byte, pushed, is) = c.push_letter.ensures.pushed so in
    let bytes = c.loop-op.bytes.items in (
      omega (arith, ap length pushed, length-append bytes (byte ∷ [])),
      λ ops first. one_typed ops c.loop-op.left.now c.in-Some.rest.now c.in-Some.op.now c.args.typing.now bytes byte
          c.push_letter.new.bytes.items (c.loop-op.invariant.1 ops first) c.in-Some.ensures.cases.0 (c.push_letter.ensures.few so) is
          c.push_letter.ensures.spelled pushed,
    )
