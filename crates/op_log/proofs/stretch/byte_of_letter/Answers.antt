use Rattle.std.proofs.Common.{rules, ◌≡◌, ℕ, ◌+◌, ◌∷◌, [], sym, ap, ◌∙◌}
use Rattle.looks.specs.declared.looks.Looks.{Looks}
use Rattle.char_files.specs.declared.name.Anchor.{Anchor}
use Rattle.operations.specs.Operation.{Operation, insert}
use Rattle.op_log.specs.Stretches.{cause_of, looks_in}
use Rattle.op_log.proofs.Stretches.{is_letter, looks_at, one_byte}
use Rattle.op_log.proofs.stretch.byte_of_letter.Goals as goal

pub returns-then-len-eq1-clause-some : goal.returns-then-len-eq1-clause-some
returns-then-len-eq1-clause-some c =
    let op : Operation = c.args.op.now in
    let cause : c.in-Insert.cause ≡ cause_of c.args.run.now c.args.k = search rules in
    let at : c.in-Insert.at ≡ c.args.run.now.at + c.args.k = search rules in
    let looks : c.in-Insert.own ≡ looks_in c.args.looks.now c.args.run.now =
    looks_at c.in-Insert.own c.index-looks-run.result c.args.looks.now c.args.run.now c.requires.looks c.index-looks-run.is
    (sym c.eq-then-at-run.ensures ∙ c.if-eq-2.true) in
    let len : c.in-Insert.bytes.len ≡ 1 = search rules in
    let bytes : c.in-Insert.bytes.items ≡ c.index.result.now ∷ [] =
    one_byte c.in-Insert.bytes.items c.index.result.now (sym c.in-Insert.bytes.ok.0 ∙ len) (sym c.index.ensures) in
    let kind : op.kind ≡ insert c.in-Insert.cause c.in-Insert.at c.in-Insert.own c.in-Insert.bytes.items = search rules in
    is_letter op c.args.looks.now c.args.run.now c.args.k c.index.result.now (search rules) (search rules) (search rules)
    (search rules)
    (kind ∙ ap (λ (a : Anchor). insert a c.in-Insert.at c.in-Insert.own c.in-Insert.bytes.items) cause
    ∙ ap (λ (n : ℕ). insert (cause_of c.args.run.now c.args.k) n c.in-Insert.own c.in-Insert.bytes.items) at
    ∙ ap (λ (l : Looks). insert (cause_of c.args.run.now c.args.k) (c.args.run.now.at + c.args.k) l c.in-Insert.bytes.items) looks
    ∙ ap (insert (cause_of c.args.run.now c.args.k) (c.args.run.now.at + c.args.k) (looks_in c.args.looks.now c.args.run.now)) bytes)
