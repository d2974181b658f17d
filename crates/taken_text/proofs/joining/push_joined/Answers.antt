use Rattle.std.proofs.Common.{◌≡◌, ◌+◌, ◌++◌, List, ap, sym, ◌∙◌, arith}
use Rattle.operations.specs.NameSet.{Range, names_in, names_of}
use Rattle.taken_text.proofs.Alike.{range}
use Rattle.taken_text.proofs.SameNames.{names_longer}
use Rattle.taken_text.proofs.joining.push_joined.Goals as goal

pub returns-then-end_of-at-clause-ok : goal.returns-then-end_of-at-clause-ok
returns-then-end_of-at-clause-ok c =
    let longer : c.new.result ≡ range c.in-Some.last.site c.in-Some.last.at (c.in-Some.last.len + c.args.range.len) =
    c.new.ensures
    ∙ (λ k. range (c.site-then-end_of-at.ensures k) (c.at-then-end_of-at.ensures k)
    (c.len.ensures.value k + c.len-then-end_of-at.ensures.value k)) in
    ap names_in c.push_reserved.ensures.items
    ∙ names_longer c.pop.new.self.items c.in-Some.last c.args.range c.new.result
    (omega (arith, c.site.ensures, c.get.ensures.value, c.site-2.ensures, c.get-2.ensures.value, c.if-get.true))
    (omega (arith, c.end_of.ensures.value, c.at.ensures, c.if-end_of-at.true)) longer
    ∙ ap (λ (ranges : List Range). names_in ranges ++ names_of c.args.range) (sym c.in-Some.ensures.items)
