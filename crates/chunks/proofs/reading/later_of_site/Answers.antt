use Rattle.std.proofs.Common.{◌≡◌, ◌∙◌, sym, true, false, ◌∙◌}
use Rattle.chunks.proofs.Firsts.{reads_later}
use Rattle.chunks.proofs.reading.later_of_site.Goals as goal

pub returns-else-is_first-clause-ok : goal.returns-else-is_first-clause-ok
returns-else-is_first-clause-ok c =
    reads_later c.args.history.now c.args.text c.args.bytes.now c.requires.opened c.requires.later c.in-Ok.op
    c.in-Ok.rest.now c.in-Ok.ensures.next c.in-Ok.ensures.bytes c.next_packed.new.history
    (λ one. differ (sym c.if-is_first.false ∙ c.is_first.ensures.1 one)) c.in-Ok.ensures.told
  where
    differ : false ≡ true → ⊥
    differ e = cc
