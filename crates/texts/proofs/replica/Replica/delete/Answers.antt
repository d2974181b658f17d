use Rattle.std.proofs.Common.{◌<◌, ℕ, Result, length, subst, sym, arith}
use Rattle.std.proofs.lemmas.Bool.{cond-true, lt-ltb}
use Rattle.operations.specs.Operation.{delete}
use Rattle.texts.specs.Edit.{deletion, names_shown, own_op}
use Rattle.texts.specs.Outcome.{EditsSending}
use Rattle.texts.specs.TextState.{shown_of}
use Rattle.texts.specs.declared.edit_refusal.EditRefusal.{EditRefusal}
use Rattle.texts.proofs.Sending.{in_range, one_sent}
use Rattle.texts.proofs.replica.Replica.delete.Goals as goal

pub returns : goal.returns
returns c =
    let t = c.args.self.now in
    let beg = c.args.beg in
    let end = c.args.end in
    let op = own_op t (delete (names_shown t beg end)) in
    let some : beg < end = omega (arith, c.requires.range, c.if-beg-end.false) in
    subst (λ (a : Result ℕ EditRefusal). EditsSending t (deletion beg end) a c.delete_some.new.self c.args.outbox.now c.delete_some.new.outbox)
    (sym c.answer_of_one.ensures)
    (one_sent t (deletion beg end) c.lemma_is_text.ensures
    (in_range beg end (length (shown_of t)) c.requires.range c.requires.in_text) c.args.outbox.now op
    (cond-true _ _ _ (lt-ltb beg end some)) c.delete_some.result c.delete_some.new.self c.delete_some.new.outbox
    c.delete_some.ensures)
