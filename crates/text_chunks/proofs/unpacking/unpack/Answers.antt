use Rattle.std.proofs.Common.{sym, ◌∙◌}
use Rattle.std.proofs.lemmas.Bool.{eqb-true, not-false}
use Rattle.text_chunks.proofs.Handed.{few, handed}
use Rattle.text_chunks.proofs.unpacking.unpack.Goals as goal

pub hand_in_all-requires : goal.hand_in_all-requires
hand_in_all-requires c =
    let (ps, are, is) = c.in-Ok.ensures.ok in
    few c.in-Ok.chunk.text ps c.args.bytes.now c.in-Ok.chunk.operations.items is are

pub returns-in-Ok-2 : goal.returns-in-Ok-2
returns-in-Ok-2 c =
    let (ps, are, is) = c.in-Ok.ensures.ok in
    handed c.args.replica.now c.hand_in_all.new.replica c.args.bytes.now c.in-Ok.chunk.text ps
    c.in-Ok.chunk.operations.items c.hand_in_all.result is are
    (eqb-true c.in-Ok.chunk.text c.text.result (not-false _ (sym c.ne.ensures ∙ c.if-ne.false)) ∙ c.text.ensures) c.hand_in_all.ensures
