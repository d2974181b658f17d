use Rattle.std.proofs.Common.{ℕ, List, ◌∷◌, [], Contains, sym, ap, subst}
use Rattle.std.proofs.lemmas.List.Elements.{Contains-append_left}
use Rattle.note_admission.specs.Growing.{TextSeen}
use Rattle.note_admission.proofs.Expecting.{stays}
use Rattle.note_admission.proofs.text_admission.TextAdmission.expect.Goals as goal

pub returns-in_ok-push-clause-stays : goal.returns-in_ok-push-clause-stays
returns-in_ok-push-clause-stays c =
    let x = c.self.inside in
    let is = c.self.view_is in
    let new : TextSeen =
    record { text = x.text; ops = x.log.ops; kept = x.admitted; sites = c.push.new.self.items; unsettled = x.unsettled } in
    stays c.args.self.now new (ap (λ (t : TextSeen). t.text) is) (ap (λ (t : TextSeen). t.ops) is)
    (ap (λ (t : TextSeen). t.kept) is) (ap (λ (t : TextSeen). t.unsettled) is)
    (λ y held. subst (λ (xs : List ℕ). Contains xs y) (sym c.in_ok-push.ensures.items)
    (Contains-append_left x.sites.items (c.args.site ∷ []) y (subst (λ (t : TextSeen). Contains t.sites y) (sym is) held)))
