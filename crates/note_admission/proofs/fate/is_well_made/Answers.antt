use Rattle.std.proofs.Common.{◌≡◌, ◌<◌, ◌↔◌, Contains, sym, ap, subst, ◌∙◌}
use Rattle.std.specs.Prelude.{IsTrue}
use Rattle.operations.specs.Operation.{Operation}
use Rattle.tree_order.specs.Good.{IsPredecessor}
use Rattle.note_laws.specs.Note.{Saying}
use Rattle.note_admission.proofs.Verdicts.{told_fits}
use Rattle.note_admission.proofs.fate.is_well_made.Goals as goal

pub returns : goal.returns
returns c =
    let ops = c.args.log.now.ops in
    let s = c.args.saying.now in
    let fit = (told_fits ops s.op c.requires.follows c.args.verdict c.requires.judged).0
    (sym c.is_fit.ensures ∙ c.if-not-is_fit.false) in
    let says = c.says_where_it_must.ensures.0 c.if-not-says_where_it_must.false in
    let op_is : c.saying.inside.op ≡ s.op = ap (λ (x : Saying). x.op) c.saying.view_is in
    let above = subst (λ (o : Operation). IsTrue c.is_above_previous.result
    ↔ ((p : Operation) → Contains ops p → IsPredecessor p o → p.stamp < o.stamp)) op_is c.is_above_previous.ensures in
    (λ e. record { above = above.0 e; fits = fit; says = says }, λ made. above.1 made.above)
