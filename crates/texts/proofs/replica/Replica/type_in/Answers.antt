use Rattle.std.proofs.Common.{map, arith}
use Rattle.std.proofs.lemmas.Bool.{false≢true}
use Rattle.looks.specs.Looks.{plain_looks}
use Rattle.texts.proofs.Unmade.{first_len_of}
use Rattle.texts.proofs.replica.Replica.type_in.Goals as goal

pub returns-in-Err : goal.returns-in-Err
returns-in-Err c =
    c.unmade.ensures c.args.pos (map (λ b. (b, plain_looks)) c.args.bytes.now) c.args.outbox.now c.requires.in_text
    (first_len_of plain_looks c.args.bytes.now c.min.result (λ none. false≢true (c.in-Err.ensures.empty none))
    (λ few. omega (arith, few, c.min.ensures)) (λ many. omega (arith, many, c.min.ensures)))
