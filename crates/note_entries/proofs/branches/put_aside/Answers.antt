use Rattle.std.proofs.Common.{◌≡◌, Some, cond, subst}
use Rattle.std.specs.Map.{lookup}
use Rattle.std.proofs.lemmas.Map.Keys.{IsDistinct-from_sorted}
use Rattle.note_entries.specs.Branches.{Place, is_same_place, place_cmp, place_in_chain}
use Rattle.note_entries.proofs.Entered.{IsPutIn, keyed_with, values_with}
use Rattle.note_entries.proofs.Places.{one_place, places, said_put}
use Rattle.note_entries.proofs.branches.put_aside.Goals as goal

-- it stands in its place now
is_put : (c : goal.Joined-branch-2) → IsPutIn is_same_place places one_place place_in_chain
    c.args.aside.now.entries c.args.saying c.insert.new.self.entries
is_put c =
    subst (λ (p : Place). (q : Place) → lookup (is_same_place q) c.insert.new.self.entries
    ≡ cond (is_same_place p q) (Some c.args.saying) (lookup (is_same_place q) c.args.aside.now.entries))
    c.of.ensures c.in_ok-insert.ensures.updates.0

pub returns-clause-keyed : goal.returns-clause-keyed
returns-clause-keyed c =
    keyed_with is_same_place places one_place place_in_chain c.args.aside.now.entries c.insert.new.self.entries
    c.args.saying c.requires (IsDistinct-from_sorted place_cmp _ c.insert.ensures.ordered) (is_put c)

pub returns-clause-ok : goal.returns-clause-ok
returns-clause-ok c =
    said_put _ _ c.args.saying (values_with is_same_place places one_place place_in_chain c.args.aside.now.entries
    c.insert.new.self.entries c.args.saying c.requires (IsDistinct-from_sorted place_cmp _ c.insert.ensures.ordered) (is_put c))
