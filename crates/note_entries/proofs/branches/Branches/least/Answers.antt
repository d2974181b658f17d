use Rattle.std.proofs.Common.{List, Contains, inl, inr, refl, sym, subst}
use Rattle.std.specs.Map.{values_of}
use Rattle.std.proofs.lemmas.List.Elements.{Contains-append_right, Contains-append_cases}
use Rattle.std.proofs.lemmas.Option.{IfSome_then}
use Rattle.note_laws.specs.Note.{Saying}
use Rattle.note_entries.specs.Branches.{is_same_place, place_in_chain}
use Rattle.note_entries.proofs.Entered.{looked_none, looked_some}
use Rattle.note_entries.proofs.Places.{one_place, places}
use Rattle.note_entries.proofs.Standing.{IfNone_then}
use Rattle.note_entries.proofs.branches.Branches.least.Goals as goal

pub returns-in-None-clause-some : goal.returns-in-None-clause-some
returns-in-None-clause-some c = IfSome_then c.get.result
    (looked_some is_same_place places one_place place_in_chain c.self.inside.aside.entries c.self.invariant.keyed
    (values_of c.self.inside.aside.entries) refl c.args.place c.get.result c.get.ensures.value)
    (λ s is. (
      subst (λ (all : List Saying). Contains all s.now) c.self.view_is
          (Contains-append_right c.self.inside.rows (values_of c.self.inside.aside.entries) s.now is.0),
      is.1,
    ))

pub returns-in-None-clause-none : goal.returns-in-None-clause-none
returns-in-None-clause-none c = IfNone_then c.get.result
    (looked_none is_same_place places one_place place_in_chain c.self.inside.aside.entries c.self.invariant.keyed
    (values_of c.self.inside.aside.entries) refl c.args.place c.get.result c.get.ensures.value)
    (λ none s held same.
    let all = subst (λ (all : List Saying). Contains all s) (sym c.self.view_is) held in
    elim (Contains-append_cases c.self.inside.rows (values_of c.self.inside.aside.entries) s all) [
      | inl in_row ↦ c.in-None.ensures.none s in_row same
      | inr aside ↦ none s aside same
    ])
