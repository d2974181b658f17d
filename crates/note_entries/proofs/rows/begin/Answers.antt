use Rattle.std.proofs.Common.{◌≡◌, [], ◌∷◌, ◌++◌, List, sym, ap, subst, ◌∙◌}
use Rattle.std.specs.Map.{lookup}
use Rattle.std.proofs.lemmas.Map.Keys.{IsDistinct-from_sorted}
use Rattle.note_laws.specs.Note.{Saying}
use Rattle.note_entries.specs.Branches.{Place, is_same_place, place_cmp, place_in_chain}
use Rattle.note_entries.specs.Rows.{IsRow, row_begin}
use Rattle.note_entries.proofs.Standing.{first_row, put_first, rows_with}
use Rattle.note_entries.proofs.rows.begin.Goals as goal

-- where the row begins, and what it has
begins : (c : goal.Joined-branch-3) → row_begin (place_in_chain c.args.saying) ≡ c.begin-place.result
begins c = sym (c.begin-place.ensures ∙ ap row_begin c.of.ensures)

one : (c : goal.Joined-branch-3) → c.push.new.self.items ≡ c.args.saying ∷ []
one c = c.in_ok-push.ensures.items ∙ ap (λ (items : List Saying). items ++ c.args.saying ∷ []) c.new-said.ensures.items

is_row : (c : goal.Joined-branch-3) → IsRow c.begin-place.result c.push.new.self.items
is_row c = subst (IsRow c.begin-place.result) (sym (one c)) (first_row c.begin-place.result c.args.saying (begins c) c.requires.first)

pub returns-clause-rows : goal.returns-clause-rows
returns-clause-rows c =
    rows_with c.args.rows.now.entries c.insert.new.self.entries c.requires.rows c.begin-place.result c.push.new.self.items (is_row c)
    (IsDistinct-from_sorted place_cmp _ c.insert.ensures.ordered) c.in_ok-insert.ensures.updates.0

pub returns-clause-ok : goal.returns-clause-ok
returns-clause-ok c =
    put_first c.args.rows.now.entries c.insert.new.self.entries c.requires.rows c.begin-place.result c.push.new.self.items (is_row c)
    (IsDistinct-from_sorted place_cmp _ c.insert.ensures.ordered) c.in_ok-insert.ensures.updates.0 c.args.saying (begins c)
    (ap (λ (q : Place). lookup (is_same_place q) c.args.rows.now.entries) (sym (begins c)) ∙ c.requires.none) (one c)
