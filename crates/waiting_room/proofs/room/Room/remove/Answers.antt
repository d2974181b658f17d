use Rattle.std.proofs.Common.{◌≡◌, List, Some, sym, ap, subst, ◌∙◌, option_map, slice_get}
use Rattle.std.specs.Map.{values_of}
use Rattle.std.proofs.lemmas.Option.{slice_get-map, slice_get_within}
use Rattle.operations.specs.Operation.{Operation}
use Rattle.waiting_room.specs.Room.{AreInRoom, without}
use Rattle.waiting_room.proofs.Entries.{Key, left, left_waiting}
use Rattle.waiting_room.proofs.room.Room.remove.Goals as goal

pub invariant_of-self : goal.invariant_of-self
invariant_of-self c =
    let entries = c.self.inside.ops.entries in
    let there : slice_get entries c.args.index ≡ Some (c.in-Some.field-0-0, c.in-Some.waiting) =
    sym c.in-Some.ensures.entry in
    subst AreInRoom (sym c.in-Some.ensures.entries) (left entries c.self.invariant c.args.index
    (slice_get_within entries c.args.index _ there))

pub returns-clause-value : goal.returns-clause-value
returns-clause-value c =
    let entries = c.self.inside.ops.entries in
    let there : slice_get entries c.args.index ≡ Some (c.in-Some.field-0-0, c.in-Some.waiting) =
    sym c.in-Some.ensures.entry in
    subst (λ (ops : List Operation). slice_get ops c.args.index ≡ Some c.into_op.result) c.self.view_is
    (slice_get-map (λ (e : Key × Operation). e.1) entries c.args.index
    ∙ ap (option_map (λ (e : Key × Operation). e.1)) there
    ∙ ap (λ (op : Operation). Some op) (sym c.into_op.ensures))

pub returns-clause-others : goal.returns-clause-others
returns-clause-others c =
    let entries = c.self.inside.ops.entries in
    ap (values_of {K = Key} {X = Operation}) c.in-Some.ensures.entries ∙ left_waiting entries c.args.index
    ∙ ap (λ (ops : List Operation). without ops c.args.index) c.self.view_is
