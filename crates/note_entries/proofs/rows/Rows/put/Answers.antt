use Rattle.std.proofs.Common.{◌≡◌, List, None, IsSome, Contains, refl, sym, ap, subst, ◌∙◌}
use Rattle.std.specs.Map.{lookup}
use Rattle.std.proofs.lemmas.Map.Keys.{IsDistinct-from_sorted}
use Rattle.std.proofs.lemmas.Option.{none-some}
use Rattle.note_laws.specs.Note.{Saying}
use Rattle.note_entries.specs.Branches.{IsPutSaying, Place, is_same_place, place_cmp, place_in_chain}
use Rattle.note_entries.specs.Rows.{IsRow, PutsOrReturns, row_begin, said_in}
use Rattle.note_entries.proofs.Entered.{IsPutIn}
use Rattle.note_entries.proofs.Places.{one_place, places}
use Rattle.note_entries.proofs.Standing.{IfOk_then, OnErr_then, found_row, none_in_rows, puts_all, rows_with, same_rows}
use Rattle.note_entries.proofs.rows.Rows.put.Goals as goal
use Rattle.note_entries.proofs.rows.Rows.put.Goals.{After-self-in-Some-1}

pub put-requires : goal.put-requires
put-requires c =
    subst (λ (b : Place). IsRow b c.in-Some.row.now) (c.begin.ensures ∙ ap row_begin c.of.ensures)
    (found_row c.self.inside.rows.entries c.self.invariant c.begin.result c.in-Some.row.now (sym c.in-Some.ensures.value))

-- where its row begins
begins : (c : After-self-in-Some-1) → row_begin (place_in_chain c.args.saying) ≡ c.begin.result
begins c = sym (c.begin.ensures ∙ ap row_begin c.of.ensures)

is_row : (c : After-self-in-Some-1) → IsRow c.begin.result c.put.new.self
is_row c = subst (λ (b : Place). IsRow b c.put.new.self) (begins c) c.put.ensures.row

-- what is written through the row
is_put : (c : After-self-in-Some-1) → IsPutIn is_same_place places one_place (λ (r : List Saying). c.begin.result)
    c.self.inside.rows.entries c.put.new.self (c.get_mut.follows.lender c.put.new.self).entries
is_put c =
    let writes = c.get_mut.follows.holds c.put.new.self in
    (writes.3 (subst IsSome c.in-Some.ensures.value refl)).0

pub invariant_of-self : goal.invariant_of-self
invariant_of-self c =
    let writes = c.get_mut.follows.holds c.put.new.self in
    rows_with c.self.inside.rows.entries (c.get_mut.follows.lender c.put.new.self).entries c.self.invariant c.begin.result
    c.put.new.self (is_row c) (IsDistinct-from_sorted place_cmp _ writes.4) (is_put c)

pub returns-in-Some-clause-ok : goal.returns-in-Some-clause-ok
returns-in-Some-clause-ok c =
    let writes = c.get_mut.follows.holds c.put.new.self in
    IfOk_then c.put.result c.put.ensures.ok (λ back puts.
    subst (λ (old : List Saying). PutsOrReturns old c.args.saying back (said_in (c.get_mut.follows.lender c.put.new.self).entries)) c.self.view_is
    (puts_all c.self.inside.rows.entries (c.get_mut.follows.lender c.put.new.self).entries c.self.invariant c.begin.result
    c.in-Some.row.now c.put.new.self (sym c.in-Some.ensures.value) writes.0 (is_row c)
    (IsDistinct-from_sorted place_cmp _ writes.4) (is_put c) c.args.saying (begins c) back puts))

pub returns-in-Some-clause-err : goal.returns-in-Some-clause-err
returns-in-Some-clause-err c =
    let writes = c.get_mut.follows.holds c.put.new.self in
    OnErr_then c.put.result c.put.ensures.err (λ stays.
    ap said_in (same_rows c.self.inside.rows.entries (c.get_mut.follows.lender c.put.new.self).entries c.self.invariant
    c.begin.result c.in-Some.row.now c.put.new.self (sym c.in-Some.ensures.value) writes.0 stays) ∙ c.self.view_is)

pub returns-then-seq-ne1-clause-ok : goal.returns-then-seq-ne1-clause-ok
returns-then-seq-ne1-clause-ok c =
    let same : said_in c.get_mut.follows.lender-at-none.entries ≡ c.args.self.now
    = ap (λ m. said_in m.entries) c.get_mut.follows.holds-at-none ∙ c.self.view_is in
    let begins : row_begin (place_in_chain c.args.saying) ≡ c.begin.result = sym (c.begin.ensures ∙ ap row_begin c.of.ensures) in (
      refl,
      same,
      λ kept held. none_in_rows c.self.inside.rows.entries c.self.invariant c.args.saying None
          (ap (λ (q : Place). lookup (is_same_place q) c.self.inside.rows.entries) begins ∙ sym c.in_default.ensures.value)
          (λ r one. absurd (none-some r one)) kept
          (subst (λ (all : List Saying). Contains all kept) (sym c.self.view_is) held),
    )

pub begin-requires-2-clause-none : goal.begin-requires-2-clause-none
begin-requires-2-clause-none c =
    let begins : row_begin (place_in_chain c.args.saying) ≡ c.begin.result = sym (c.begin.ensures ∙ ap row_begin c.of.ensures) in
    ap (λ m. lookup (is_same_place (row_begin (place_in_chain c.args.saying))) m.entries) c.get_mut.follows.holds-at-none
    ∙ (ap (λ (q : Place). lookup (is_same_place q) c.self.inside.rows.entries) begins ∙ sym c.in_default.ensures.value)

pub returns-clause-ok : goal.returns-clause-ok
returns-clause-ok c =
    let same : said_in c.get_mut.follows.lender-at-none.entries ≡ c.args.self.now
    = ap (λ m. said_in m.entries) c.get_mut.follows.holds-at-none ∙ c.self.view_is in
    subst (λ (old : List Saying). IsPutSaying old c.args.saying (said_in c.begin-2.new.rows.entries)) same c.in_ok-begin.ensures.ok
