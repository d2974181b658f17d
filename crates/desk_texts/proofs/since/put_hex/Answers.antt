use Rattle.std.proofs.Common.{ℕ, ◌+◌, List, [], ◌∷◌, ◌++◌, drop, get_or, sym, ap, ◌∙◌, append-nil, append_assoc}
use Rattle.std.proofs.lemmas.List.{drop_all, drop_more}
use Rattle.hex.specs.Hex.{encode_lower}
use Rattle.desk_texts.proofs.HexDigits.{encode_lower-append, encode_lower-nil}
use Rattle.desk_texts.proofs.since.put_hex.Goals as goal

pub loop-byte-preserved : goal.loop-byte-preserved
loop-byte-preserved c =
    let before = c.loop-byte.out.items in
    let i = c.loop-byte.byte-index in
    let bytes = c.args.bytes.now in
    let byte = get_or bytes i 0 in
    let left = drop (i + 1) bytes in
    ap (λ (items : List ℕ). items ++ encode_lower left) c.in_ok-put_hex_byte.ensures
    ∙ append_assoc before (encode_lower (byte ∷ [])) (encode_lower left)
    ∙ ap (λ (digits : List ℕ). before ++ digits)
    (sym (encode_lower-append (byte ∷ []) left) ∙ ap encode_lower (sym (drop_more bytes i 0 c.loop-byte-test.true)))
    ∙ c.loop-byte.invariant

pub returns : goal.returns
returns c =
    let before = c.loop-byte.out.items in
    sym (append-nil before) ∙ ap (λ (digits : List ℕ). before ++ digits) (sym encode_lower-nil)
    ∙ ap (λ (left : List ℕ). before ++ encode_lower left) (sym (drop_all c.loop-byte.byte-index c.args.bytes.now c.loop-byte-test.false))
    ∙ c.loop-byte.invariant
