use Rattle.std.proofs.Common.{◌≡◌, ℕ, ◌+◌, sym, ap, subst, ◌∙◌}
use Rattle.std.proofs.lemmas.Option.{IfSome_then}
use Rattle.set_laws.specs.Fronts.{front_of}
use Rattle.note_admission.specs.Growing.{IsNextOfNumber, TextSeen}
use Rattle.note_admission.specs.Places.{StandsInChain}
use Rattle.note_admission.proofs.Heads.{if_none_then, from_next, next_op, to_next}
use Rattle.note_admission.proofs.text_admission.TextAdmission.next.Goals as goal

pub returns-clause-placed : goal.returns-clause-placed
returns-clause-placed g c =
    let ops = c.self.inside.log.ops in
    let front = c.front-front.ensures in
    IfSome_then c.at.result c.at.ensures.placed (λ s is.
    let at : s.now.op.seq ≡ front_of ops c.args.site + 1 = is.2 ∙ ap (λ (n : ℕ). n + 1) front in
    subst (λ (t : TextSeen). IsNextOfNumber t.text t.ops c.args.site s.now.op) c.self.view_is
    (next_op c.self.inside.text ops c.self.invariant.good c.self.invariant.known c.args.site s.now.op is.0 is.1 at))

pub returns-clause-some : goal.returns-clause-some
returns-clause-some g c =
    let t = c.args.self.now in
    let site = c.args.site in
    let front : c.front-front.result ≡ front_of t.ops site =
    c.front-front.ensures ∙ ap (λ (x : TextSeen). front_of x.ops site) c.self.view_is in
    let text : c.self.inside.text ≡ t.text = ap (λ (x : TextSeen). x.text) c.self.view_is in
    IfSome_then c.at.result c.at.ensures.some (λ s stands note entries admitted chains taken.
    to_next note entries t admitted taken site c.last.result s.now (c.last.ensures note entries admitted taken)
    (subst (λ (x : ℕ). StandsInChain note entries x site (front_of t.ops site + 1) c.last.result s.now) text
    (subst (λ (n : ℕ). StandsInChain note entries c.self.inside.text site (n + 1) c.last.result s.now) front
    (stands note entries chains))))

pub returns-clause-none : goal.returns-clause-none
returns-clause-none g c =
    let t = c.args.self.now in
    let site = c.args.site in
    let front : c.front-front.result ≡ front_of t.ops site =
    c.front-front.ensures ∙ ap (λ (x : TextSeen). front_of x.ops site) c.self.view_is in
    let text : c.self.inside.text ≡ t.text = ap (λ (x : TextSeen). x.text) c.self.view_is in
    if_none_then c.at.result c.at.ensures.none (λ none note entries admitted chains taken s on next.
    none note entries chains s
    (subst (λ (x : ℕ). StandsInChain note entries x site (c.front-front.result + 1) c.last.result s) (sym text)
    (subst (λ (n : ℕ). StandsInChain note entries t.text site (n + 1) c.last.result s) (sym front)
    (from_next note entries t admitted taken site c.last.result s (c.last.ensures note entries admitted taken) on next))))
