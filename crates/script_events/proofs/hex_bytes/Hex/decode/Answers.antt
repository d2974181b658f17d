use Rattle.std.proofs.Common.{◌<◌, ◌∷◌, [], length, length-append, sym, ◌∙◌, arith}
use Rattle.std.proofs.lemmas.Bool.{eqb-false, eqb-true}
use Rattle.script_events.specs.Script.{split_hex_byte, hex_pairs}
use Rattle.script_events.proofs.HexPairs.{hex_pairs-cut, hex_pairs-end, hex_pairs-wrong}
use Rattle.script_events.proofs.Spelling.{IsDecoded-cuts, IsDecoded-more, IsDecoded-within, IsDecoded-all}
use Rattle.script_events.proofs.hex_bytes.Hex.decode.Goals as goal

pub unwrap-byte-requires : goal.unwrap-byte-requires
unwrap-byte-requires c =
    let rest = c.loop-rest.rest.now in
    let left : 0 < length rest = omega (arith, eqb-false _ _ (sym c.is_empty.ensures ∙ c.loop-rest-test.true)) in
    IsDecoded-cuts _ c.split_hex_byte.result (hex_pairs rest) (split_hex_byte rest) c.loop-rest.invariant.0 (hex_pairs-wrong rest left) c.split_hex_byte.ensures.value

pub push_reserved-requires : goal.push_reserved-requires
push_reserved-requires c =
    let cut_is = rw c.unwrap-byte.ensures at c.split_hex_byte.ensures.value in
    let more = IsDecoded-more c.unwrap-byte.result.0 (hex_pairs c.unwrap-byte.result.1.now) c.loop-rest.invariant.0 (hex_pairs-cut c.loop-rest.rest.now _ _ cut_is) in
    omega (arith, IsDecoded-within more, length-append c.loop-rest.out.items (c.unwrap-byte.result.0 ∷ []), length-append c.args.out.now.items c.args.self.now)

pub loop-rest-preserved : goal.loop-rest-preserved
loop-rest-preserved c =
    let cut_is = rw c.unwrap-byte.ensures at c.split_hex_byte.ensures.value in
    let more = IsDecoded-more c.unwrap-byte.result.0 (hex_pairs c.unwrap-byte.result.1.now) c.loop-rest.invariant.0 (hex_pairs-cut c.loop-rest.rest.now _ _ cut_is) in
    rw c.push_reserved.ensures.items (more, c.push_reserved.ensures.capacity ∙ c.loop-rest.invariant.1)

pub returns-clause-bytes : goal.returns-clause-bytes
returns-clause-bytes c = IsDecoded-all c.loop-rest.invariant.0 (hex_pairs-end c.loop-rest.rest.now (eqb-true _ _ (sym c.is_empty.ensures ∙ c.loop-rest-test.false)))
