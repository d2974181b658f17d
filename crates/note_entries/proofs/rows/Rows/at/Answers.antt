use Rattle.std.proofs.Common.{◌≡◌, List, Contains, Some, None, sym, ap, subst, ◌∙◌}
use Rattle.std.specs.Map.{lookup}
use Rattle.std.proofs.lemmas.Option.{IfSome_then, same_Some}
use Rattle.note_laws.specs.Note.{Saying}
use Rattle.note_entries.specs.Branches.{Place, is_same_place, place_in_chain}
use Rattle.note_entries.specs.Rows.{IsRow, row_begin}
use Rattle.note_entries.proofs.Standing.{IfNone_then, finds_row, found_row, of_any, of_found}
use Rattle.note_entries.proofs.rows.Rows.at.Goals as goal

pub returns-in_err-get-clause-none : goal.returns-in_err-get-clause-none
returns-in_err-get-clause-none c = of_any c.from_residual.result (λ s held same.
    let inside = subst (λ (all : List Saying). Contains all s) (sym c.self.view_is) held in
    let (row, at, _) = finds_row c.self.inside.rows.entries c.self.invariant s inside in
    let none : lookup (is_same_place (row_begin (place_in_chain s))) c.self.inside.rows.entries ≡ None
    = ap (λ (p : Place). lookup (is_same_place p) c.self.inside.rows.entries) (ap row_begin same ∙ sym c.begin.ensures)
    ∙ sym c.in_err-get.ensures.value in
    cc)

pub at-requires : goal.at-requires
at-requires c =
    subst (λ (b : Place). IsRow b c.in_ok-get.field-0.now) c.begin.ensures
    (found_row c.self.inside.rows.entries c.self.invariant c.begin.result c.in_ok-get.field-0.now (sym c.in_ok-get.ensures.value))

pub returns-clause-some : goal.returns-clause-some
returns-clause-some c = IfSome_then c.at.result c.at.ensures.some (λ s is. (
  subst (λ (all : List Saying). Contains all s.now) c.self.view_is
      (of_found c.self.inside.rows.entries c.self.invariant c.begin.result c.in_ok-get.field-0.now s.now
      (sym c.in_ok-get.ensures.value) is.0),
  is.1,
))

pub returns-clause-none : goal.returns-clause-none
returns-clause-none c = IfNone_then c.at.result c.at.ensures.none (λ none s held same.
    let inside = subst (λ (all : List Saying). Contains all s) (sym c.self.view_is) held in
    let (row, at, has) = finds_row c.self.inside.rows.entries c.self.invariant s inside in
    let one : Some row ≡ Some c.in_ok-get.field-0.now = sym at
    ∙ (ap (λ (p : Place). lookup (is_same_place p) c.self.inside.rows.entries) (ap row_begin same ∙ sym c.begin.ensures)
    ∙ sym c.in_ok-get.ensures.value) in
    none s (subst (λ (r : List Saying). Contains r s) (same_Some row c.in_ok-get.field-0.now one) has) same)
