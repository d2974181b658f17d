use Rattle.std.proofs.Common.{◌++◌, ◌∷◌, [], List, take, get_or, ap, sym, ◌∙◌, append_assoc, arith}
use Rattle.operations.specs.Letters.{letter, letters}
use Rattle.operations.specs.Operation.{Operation}
use Rattle.chunks.specs.Rows.{typed_at}
use Rattle.chunks.proofs.TypedRows.{letter_spelled, letters_more}
use Rattle.chunks.proofs.rows.push_letters.Goals as goal

pub letter_at-requires : goal.letter_at-requires
letter_at-requires c =
    letter_spelled c.args.typing.now c.args.bytes.now c.loop-k.k 0 c.requires.spelled (omega (arith, c.loop-k-test.true))

pub loop-k-preserved : goal.loop-k-preserved
loop-k-preserved c =
    let t = c.args.typing.now in
    let bytes = c.args.bytes.now in
    let k = c.loop-k.k in
    let before : List Operation = c.args.operations.now.items in
    let so_far : List Operation = letters t (take k bytes) in
    let last : Operation = letter (typed_at t k) (get_or bytes k 0) in
    c.in_ok-push.ensures.items
    ∙ ap (λ (op : Operation). c.loop-k.operations.items ++ op ∷ []) c.in_ok-letter_at.ensures.ok
    ∙ ap (λ (l : List Operation). l ++ last ∷ []) c.loop-k.invariant
    ∙ append_assoc before so_far (last ∷ [])
    ∙ ap (λ (l : List Operation). before ++ l) (sym (letters_more t bytes k 0 (omega (arith, c.loop-k-test.true))))
