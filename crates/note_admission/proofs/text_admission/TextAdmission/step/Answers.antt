use Rattle.std.proofs.Common.{List, [], ◌∷◌, ◌++◌, sym, ap, subst, ◌∙◌}
use Rattle.std.proofs.lemmas.Bool.{false≢true}
use Rattle.operations.specs.Operation.{Operation}
use Rattle.note_laws.specs.Admission.{MeetsFate}
use Rattle.note_admission.specs.declared.fate.Fate.{Fate}
use Rattle.note_admission.specs.Fates.{fate_of}
use Rattle.note_admission.specs.Growing.{TextSeen}
use Rattle.note_admission.specs.Kept.{IsKeptOf}
use Rattle.note_admission.proofs.Growth.{none_counts, taken_more, taken_still}
use Rattle.note_admission.proofs.Heads.{none_at, some_at}
use Rattle.note_admission.proofs.text_admission.TextAdmission.step.Goals as goal

pub admit-requires-clause-ready : goal.admit-requires-clause-ready
admit-requires-clause-ready g c = c.in_ok-fate-in-Some.ensures.ready (c.counts.ensures.0 c.if-counts.true)

pub returns-in_err-admit-in-Some-clause-taken : goal.returns-in_err-admit-in-Some-clause-taken
returns-in_err-admit-in-Some-clause-taken g c =
    let t = c.args.self.now in
    let u = c.admit.new.self in
    λ note entries admitted of taken. (
      [],
      taken_still note entries t u admitted taken
          (ap (λ (x : TextSeen). x.text) c.admit.ensures.rest ∙ ap (λ (x : TextSeen). x.text) c.self.view_is)
          (c.in_err-admit-in-Some.ensures.same ∙ ap (λ (x : TextSeen). x.ops) c.self.view_is)
          (λ kept. c.in_err-admit-in-Some.ensures.still note admitted
          (subst (λ (x : TextSeen). IsKeptOf note admitted x.kept) (sym c.self.view_is) kept)),
    )

pub returns-in_ok-admit-in-Some-clause-taken : goal.returns-in_ok-admit-in-Some-clause-taken
returns-in_ok-admit-in-Some-clause-taken g c =
    let t = c.args.self.now in
    let u = c.admit.new.self in
    let s = c.in-Some.saying.now in
    let ops = ap (λ (x : TextSeen). x.ops) c.self.view_is in
    λ note entries admitted of taken.
    let comes = some_at _ c.in_ok-next.field-0 c.in-Some.saying c.in-Some.is c.in_ok-next.ensures.some note entries
    admitted of.same_chains taken in
    let meets = c.in_ok-fate-in-Some.ensures.ok note admitted (taken.logged ∙ sym ops)
    (subst (λ (x : TextSeen). IsKeptOf note admitted x.kept) (sym c.self.view_is) taken.tables) of.same_digest in
    let counts = subst (λ (fate : Fate). MeetsFate note admitted s (fate_of fate))
    (c.counts.ensures.0 c.if-counts.true) meets in (
      s ∷ [],
      taken_more note entries t u admitted taken
          (ap (λ (x : TextSeen). x.text) c.admit.ensures.rest ∙ ap (λ (x : TextSeen). x.text) c.self.view_is) s
          (comes, counts) (c.in_ok-admit-in-Some.ensures.ops ∙ ap (λ (xs : List Operation). xs ++ s.op ∷ []) ops)
          (λ kept. c.in_ok-admit-in-Some.ensures.kept note admitted
          (subst (λ (x : TextSeen). IsKeptOf note admitted x.kept) (sym c.self.view_is) kept)),
    )

pub returns-in-None-clause-none : goal.returns-in-None-clause-none
returns-in-None-clause-none g c =
    λ same note entries admitted of taken s on counts.
    none_at _ c.in_ok-next.field-0 c.in-None.is c.in_ok-next.ensures.none note entries admitted of.same_chains taken s on
    counts.0

pub returns-else-counts-clause-none : goal.returns-else-counts-clause-none
returns-else-counts-clause-none g c =
    let t = c.args.self.now in
    let ops = ap (λ (x : TextSeen). x.ops) c.self.view_is in
    let next = c.in_ok-next.field-0 in
    let saying = c.in-Some.saying in
    λ same note entries admitted of taken.
    let comes = some_at _ next saying c.in-Some.is c.in_ok-next.ensures.some note entries admitted of.same_chains
    taken in
    let on = (some_at _ next saying c.in-Some.is c.in_ok-next.ensures.placed).of_site in
    let meets = c.in_ok-fate-in-Some.ensures.ok note admitted (taken.logged ∙ sym ops)
    (subst (λ (x : TextSeen). IsKeptOf note admitted x.kept) (sym c.self.view_is) taken.tables) of.same_digest in
    none_counts note entries t.text admitted saying.now c.in_ok-fate-in-Some.fate c.args.site taken.in_turn of.base
    of.told comes on meets (λ is. false≢true (sym c.if-counts.false ∙ c.counts.ensures.1 is))
