use Rattle.std.proofs.Common.{◌≡◌, ◌-◌, ◌<◌, take, drop, sym, ◌∙◌, subst, arith}
use Rattle.reader_scanner.specs.ReaderState.{ReaderState, item_bytes}
use Rattle.reader_scanner.specs.Tokens.{IsTokenAt}
use Rattle.command_words.specs.Commands.{name_of}
use Rattle.command_words.proofs.Words.{IsNear, is_near, word_is, word_of_call, ends_after, named_short}
use Rattle.command_words.proofs.calls.command_at.Goals as goal

pub returns-then-end-pos-clause-none : goal.returns-then-end-pos-clause-none
returns-then-end-pos-clause-none g c =
    let bytes = item_bytes (g.S.Source.items c.args.source.now) in
    let near : IsNear bytes c.args.pos c.word_begin-beg.result c.word_end-end.result =
    is_near (g.S.Source.items c.args.source.now) c.args.pos c.word_begin-beg.result c.word_end-end.result
    c.word_begin-beg.ensures.order c.word_end-end.ensures.order c.word_end-end.ensures.within
    c.word_begin-beg.ensures.each c.word_end-end.ensures.each c.word_begin-beg.ensures.before
    c.word_end-end.ensures.after in
    λ _ call is.
    let some : c.args.pos < c.word_end-end.result =
    ends_after bytes c.args.pos c.word_begin-beg.result c.word_end-end.result near call is in
    absurd (omega (arith, some, c.if-end-pos.true))

pub returns-in_err-command-clause-none : goal.returns-in_err-command-clause-none
returns-in_err-command-clause-none g c =
    let bytes = item_bytes (g.S.Source.items c.args.source.now) in
    let beg = c.word_begin-beg.result in
    let end = c.word_end-end.result in
    let near : IsNear bytes c.args.pos c.word_begin-beg.result c.word_end-end.result =
    is_near (g.S.Source.items c.args.source.now) c.args.pos c.word_begin-beg.result c.word_end-end.result
    c.word_begin-beg.ensures.order c.word_end-end.ensures.order c.word_end-end.ensures.within
    c.word_begin-beg.ensures.each c.word_end-end.ensures.each c.word_begin-beg.ensures.before
    c.word_end-end.ensures.after in
    λ _ call is.
    let word : name_of call.command ≡ take (end - beg) (drop beg bytes) =
    word_of_call bytes c.args.pos beg end near call is in
    let looked : c.as_slice.result.now ≡ take (end - beg) (drop beg bytes) =
    c.as_slice.ensures.value ∙ c.word_between.ensures in
    c.named.ensures.none c.in_err-command.was call.command (word ∙ sym looked)

pub returns-clause-some : goal.returns-clause-some
returns-clause-some g c =
    let bytes = item_bytes (g.S.Source.items c.args.source.now) in
    let beg = c.word_begin-beg.result in
    let end = c.word_end-end.result in
    let near : IsNear bytes c.args.pos c.word_begin-beg.result c.word_end-end.result =
    is_near (g.S.Source.items c.args.source.now) c.args.pos c.word_begin-beg.result c.word_end-end.result
    c.word_begin-beg.ensures.order c.word_end-end.ensures.order c.word_end-end.ensures.within
    c.word_begin-beg.ensures.each c.word_end-end.ensures.each c.word_begin-beg.ensures.before
    c.word_end-end.ensures.after in
    let looked : c.as_slice.result.now ≡ take (end - beg) (drop beg bytes) =
    c.as_slice.ensures.value ∙ c.word_between.ensures in
    let named : take (end - beg) (drop beg bytes) ≡ name_of c.in_ok-command.command =
    sym (c.in_ok-command.ensures.some ∙ looked) in
    let short : end - beg < 32 = named_short bytes beg end c.in_ok-command.command near.within named in
    let some : c.args.pos < end = omega (arith, c.word_end-end.ensures.order, c.if-end-pos.false) in
    record {
      beg = beg;
      end = end;
      word = word_is bytes c.args.pos beg end near some short;
      named = named;
      token = subst (λ (p : ReaderState). IsTokenAt (item_bytes p.items) p.pos c.scan-token.result) c.open.ensures
          c.scan-token.ensures.token;
    }
