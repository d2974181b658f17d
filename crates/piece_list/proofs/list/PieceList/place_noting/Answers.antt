use Rattle.std.proofs.Common.{◌≡◌, ◌++◌, ℕ, List, Option, ap, sym, subst, refl, ◌∙◌}
use Rattle.std.specs.Prelude.{IfSome, IsSome}
use Rattle.char_files.specs.CharName.{CharName}
use Rattle.list_changes.specs.Changes.{IsOfKind}
use Rattle.list_changes.specs.declared.change.Change.{Change}
use Rattle.list_changes.specs.declared.change.ChangeKind.TheVariants.{Insert}
use Rattle.tree_order.specs.Registers.{Atom}
use Rattle.piece_list.specs.Held.{PiecesSeen}
use Rattle.piece_list.specs.Noted.{Notes, appearances}
use Rattle.piece_list.specs.Pieces.{piece_of}
use Rattle.piece_list.specs.Placing.{compared, IsAnchorSpot, IsParted, IsPartedAt, IsInsertedInGap, IsSkip}
use Rattle.piece_list.specs.Shown.{AreShownTo}
use Rattle.piece_list.specs.Spelled.{spelled, HasName}
use Rattle.piece_list.specs.Typed.{AreTypedIn}
use Rattle.piece_list.proofs.NotedRun.{first_is_here, room_for_run, run_entered, typed_entered}
use Rattle.piece_list.proofs.Placing.{parted_spells, skip_part, insert_in_gap, placed_in_gap}
use Rattle.piece_list.proofs.Positions.{Items}
use Rattle.piece_list.proofs.list.PieceList.place_noting.Goals as goal
use Rattle.piece_list.proofs.list.PieceList.place_noting.Goals.{After-end_at-end, After-insert, After-shown_to}

-- the pieces are parted after the cause
parted_at : (c : After-end_at-end)
    → IsPartedAt c.args.self.now.items c.end_at-end.new.self.items c.end_at-end.result c.args.cause
parted_at c =
    let same : c.reserve_names.new.self.items ≡ c.args.self.now.items =
    c.reserve_names.ensures.items ∙ c.reserve-2.ensures.items
    ∙ ap (λ (v : PiecesSeen). v.items) (c.self.view_is ∙ c.locate_cause-found.ensures.seen) in
    subst (λ (l : Items). IsAnchorSpot l c.args.cause c.locate_cause-found.result
    → IsPartedAt l c.end_at-end.new.self.items c.end_at-end.result c.args.cause) same
    (c.end_at-end.ensures.parted c.args.cause) c.locate_cause-found.ensures.spot

pub insert-requires-clause-part : goal.insert-requires-clause-part
insert-requires-clause-part c =
    let old : Items = c.args.self.now.items in
    let items : Items = c.end_at-end.new.self.items in
    let parted = parted_at (goal.at.insert-requires-clause-part c).After-end_at-end in
    skip_part old items c.args.run.key c.end_at-end.result c.skip-last.result c.self.inside.steps
    c.skip-last.new.steps c.args.cause parted c.skip-last.ensures

pub insert-requires-clause-new : goal.insert-requires-clause-new
insert-requires-clause-new c = λ d is has.
    let old : Items = c.args.self.now.items in
    let items : Items = c.end_at-end.new.self.items in
    let parted = parted_at (goal.at.insert-requires-clause-new c).After-end_at-end in
    c.requires.new d is
    (subst (λ (ks : List Atom). HasName ks d) (parted_spells old items c.end_at-end.result c.args.cause parted)
    has)

-- the run is inserted into its gap
insert_is : (c : After-insert)
    → IsPartedAt c.args.self.now.items c.end_at-end.new.self.items c.end_at-end.result c.args.cause
    → (g : IsInsertedInGap c.args.cause (piece_of c.args.run) c.args.self.now.items c.insert.new.self.items c.skip-last.new.steps)
    × (c.end_at-end.new.self.items ≡ g.before ++ g.skipped ++ g.after)
insert_is c parted =
    let old : Items = c.args.self.now.items in
    let items : Items = c.end_at-end.new.self.items in
    let steps : c.self.inside.steps ≡ compared c.args.cause =
    ap (λ (v : PiecesSeen). v.steps) (c.self.view_is ∙ c.locate_cause-found.ensures.seen) in
    let last : Option ℕ = c.skip-last.result in
    insert_in_gap old items c.insert.new.self.items c.args.cause (piece_of c.args.run) c.end_at-end.result last
    c.skip-last.new.steps parted
    (subst (λ (n : ℕ). (before after : Items) → IsParted items c.end_at-end.result before after
    → IsSkip c.args.run.key before after last n c.skip-last.new.steps) steps c.skip-last.ensures)
    c.insert.ensures.insert

-- what is answered for the run's first name
count : (c : After-shown_to) → IfSome c.shown_to.result
    (AreShownTo (spelled c.insert.new.self.items) (record { site = c.args.run.site; off = c.args.run.off }))
count c =
    subst (λ (name : CharName). IfSome c.shown_to.result (AreShownTo (spelled c.insert.new.self.items) name))
    c.in-Some.ensures.value c.shown_to.ensures.count

-- the first name is found
is_found : (c : After-shown_to)
    → IsInsertedInGap c.args.cause (piece_of c.args.run) c.args.self.now.items c.insert.new.self.items c.skip-last.new.steps
    → IsSome c.shown_to.result
is_found c insert =
    c.shown_to.ensures.here.1 (subst (HasName (spelled c.insert.new.self.items)) (sym c.in-Some.ensures.value)
    (first_is_here c.args.cause (piece_of c.args.run) c.args.self.now.items c.insert.new.self.items
    c.skip-last.new.steps insert c.requires.run.0 refl))

pub note_run-requires-clause-here : goal.note_run-requires-clause-here
note_run-requires-clause-here c =
    let at = goal.at.note_run-requires-clause-here c in
    is_found at.After-shown_to (insert_is at.After-insert (parted_at at.After-end_at-end)).0

pub note_run-requires-clause-some : goal.note_run-requires-clause-some
note_run-requires-clause-some c =
    let at = goal.at.note_run-requires-clause-some c in
    let insert = (insert_is at.After-insert (parted_at at.After-end_at-end)).0 in
    (room_for_run c.args.cause (piece_of c.args.run) c.args.self.now.items c.insert.new.self.items
    c.skip-last.new.steps insert c.requires.run.0 refl c.shown_to.result c.requires.run.1
    c.lemma_shown_is_countable.ensures (count at.After-shown_to)).0

pub note_run-requires-clause-small : goal.note_run-requires-clause-small
note_run-requires-clause-small c =
    let at = goal.at.note_run-requires-clause-small c in
    let insert = (insert_is at.After-insert (parted_at at.After-end_at-end)).0 in
    (room_for_run c.args.cause (piece_of c.args.run) c.args.self.now.items c.insert.new.self.items
    c.skip-last.new.steps insert c.requires.run.0 refl c.shown_to.result c.requires.run.1
    c.lemma_shown_is_countable.ensures (count at.After-shown_to)).1

pub returns-clause-steps : goal.returns-clause-steps
returns-clause-steps c =
    let at = goal.at.returns-clause-steps c in
    (insert_is at.After-insert (parted_at at.After-end_at-end)).0

pub returns-clause-placed : goal.returns-clause-placed
returns-clause-placed c =
    let at = goal.at.returns-clause-placed c in
    let (gap, whole) = insert_is at.After-insert (parted_at at.After-end_at-end) in
    placed_in_gap c.args.self.now.items c.end_at-end.new.self.items c.insert.new.self.items c.args.cause (piece_of c.args.run)
    c.skip-last.new.steps c.insert.ensures.pieces gap whole

pub returns-clause-typed : goal.returns-clause-typed
returns-clause-typed c = λ rises.
    let at = (goal.at.returns-clause-typed c).After-shown_to in
    subst (λ (note : List Change). AreTypedIn c.args.run.len c.args.run c.args.cause note c.note_run.new.note.items
    (spelled c.args.self.now.items) (spelled c.insert.new.self.items)) c.reserve.ensures.items
    (typed_entered c.args.cause c.args.run c.args.self.now.items c.insert.new.self.items c.requires.run.0
    c.shown_to.result c.reserve.new.self.items c.note_run.new.note.items
    (is_found at (returns-clause-steps c)) (returns-clause-placed c) (count at) c.note_run.ensures rises)

pub returns-clause-noted : goal.returns-clause-noted
returns-clause-noted c =
    let at = (goal.at.returns-clause-noted c).After-shown_to in
    subst (λ (note : List Change). Notes (IsOfKind Insert) note c.note_run.new.note.items
    (appearances c.args.self.now.items) (appearances c.insert.new.self.items)) c.reserve.ensures.items
    (run_entered c.args.cause c.args.run c.args.self.now.items c.insert.new.self.items c.requires.run.0
    c.skip-last.new.steps (returns-clause-steps c) c.shown_to.result c.reserve.new.self.items c.note_run.new.note.items
    (is_found at (returns-clause-steps c)) (returns-clause-placed c) (count at) c.note_run.ensures)
