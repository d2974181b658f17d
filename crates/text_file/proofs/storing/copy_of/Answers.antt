use Rattle.std.proofs.Common.{arith}
use Rattle.text_file.proofs.Stored.{copied_more, in_looks_more}
use Rattle.text_file.proofs.storing.copy_of.Goals as goal

pub loop-pos-preserved : goal.loop-pos-preserved
loop-pos-preserved g c = record {
  so_far =
      copied_more (g.S.Source.items c.args.source.now) c.loop-pos.text c.push_char.new.text c.loop-pos.pos
      c.at-byte.result (omega (arith, c.loop-pos-test.true, c.len-pos-end.ensures)) c.loop-pos.invariant.so_far
      c.at-byte.ensures c.in_ok-push_char.ensures.ok;
  looks = in_looks_more c.loop-pos.text c.push_char.new.text c.at-byte.result c.in_ok-push_char.ensures.ok
      c.loop-pos.invariant.looks c.lemma_are_in_range.ensures;
}
