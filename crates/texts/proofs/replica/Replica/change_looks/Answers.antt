use Rattle.std.proofs.Common.{◌<◌, ℕ, Result, length, subst, sym, arith}
use Rattle.std.proofs.lemmas.Bool.{cond-false, cond-true, lt-ltb, le-ltb}
use Rattle.looks.specs.Looks.{plain_looks}
use Rattle.operations.specs.Operation.{change_looks}
use Rattle.texts.specs.Edit.{looks_change, names_shown, own_op}
use Rattle.texts.specs.Order.{with_selected}
use Rattle.texts.specs.Outcome.{EditsSending}
use Rattle.texts.specs.TextState.{shown_of}
use Rattle.texts.specs.declared.edit_refusal.EditRefusal.{EditRefusal}
use Rattle.texts.proofs.Sending.{in_range, none_sent, one_sent}
use Rattle.texts.proofs.replica.Replica.change_looks.Goals as goal

pub returns-then-beg-end : goal.returns-then-beg-end
returns-then-beg-end c =
    let t = c.args.self.now in
    let beg = c.args.beg in
    let end = c.args.end in
    none_sent t (looks_change beg end c.args.sel c.args.looks.now) c.lemma_is_text.ensures
    (in_range beg end (length (shown_of t)) c.requires.range c.requires.in_text) c.args.outbox.now
    (cond-false _ _ _ (le-ltb beg end (omega (arith, c.if-beg-end.true))))

pub returns : goal.returns
returns c =
    let t = c.args.self.now in
    let beg = c.args.beg in
    let end = c.args.end in
    let op = own_op t (change_looks c.args.sel (with_selected c.args.sel c.args.looks.now plain_looks) (names_shown t beg end)) in
    let e = looks_change beg end c.args.sel c.args.looks.now in
    let some : beg < end = omega (arith, c.requires.range, c.if-beg-end.false) in
    subst (λ (a : Result ℕ EditRefusal). EditsSending t e a c.dress_some.new.self c.args.outbox.now c.dress_some.new.outbox)
    (sym c.answer_of_one.ensures)
    (one_sent t e c.lemma_is_text.ensures
    (in_range beg end (length (shown_of t)) c.requires.range c.requires.in_text) c.args.outbox.now op
    (cond-true _ _ _ (lt-ltb beg end some)) c.dress_some.result c.dress_some.new.self c.dress_some.new.outbox
    c.dress_some.ensures)
