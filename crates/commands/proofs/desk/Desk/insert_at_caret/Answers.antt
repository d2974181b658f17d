use Rattle.std.proofs.Common.{arith}
use Rattle.desk_windows.specs.Windows.{screened}
use Rattle.commands.proofs.AtCaret.{in_text, is_long, moved_step, no_caret_step, room_then, stayed_step, put_at, was_long}
use Rattle.commands.proofs.Lifting.{edit_grows}
use Rattle.commands.specs.Inserting.{edit_inserting, items_in}
use Rattle.commands.proofs.desk.Desk.insert_at_caret.Goals as goal

pub returns-in_default : goal.returns-in_default
returns-in_default c =
    no_caret_step c.args.self.now c.self.inside.texts (screened c.self.inside.windows) c.self.view_is
    c.in_default.ensures.place (items_in c.args.what) c.args.outbox.now

pub overflow_add-pos : goal.overflow_add-pos
overflow_add-pos c =
    let put_so =
    put_at c.self.inside.texts c.insert_into-outcome.new.texts c.tell.new.texts c.self.inside.windows c.tell.new.windows
    c.in-Some.place (items_in c.args.what) c.insert_into-outcome.result c.args.outbox.now
    c.insert_into-outcome.new.outbox c.self.invariant.0 c.in-Some.ensures.place c.lemma_has_text.ensures c.insert_into-outcome.ensures
    c.tell.ensures.told c.tell.ensures.screen in
    let room = room_then put_so c.shown_len-before.result c.shown_len-after.result
    (was_long put_so c.replica.result.now c.shown_len-before.result c.replica.ensures c.shown_len-before.ensures)
    (is_long put_so c.replica-2.result.now c.shown_len-after.result c.replica-2.ensures c.shown_len-after.ensures) in
    omega arith

pub move_caret-requires-clause-of : goal.move_caret-requires-clause-of
move_caret-requires-clause-of c =
    (c.tell.ensures.shown c.self.inside.texts c.self.invariant.0 c.self.invariant.1
    (edit_grows c.self.inside.texts c.insert_into-outcome.new.texts c.in-Some.place.0
    (edit_inserting (items_in c.args.what) c.in-Some.place.1) c.insert_into-outcome.result
    c.args.outbox.now c.insert_into-outcome.new.outbox c.lemma_has_text.ensures c.insert_into-outcome.ensures)).0

pub move_caret-requires-clause-in_text : goal.move_caret-requires-clause-in_text
move_caret-requires-clause-in_text c =
    let put_so =
    put_at c.self.inside.texts c.insert_into-outcome.new.texts c.tell.new.texts c.self.inside.windows c.tell.new.windows
    c.in-Some.place (items_in c.args.what) c.insert_into-outcome.result c.args.outbox.now
    c.insert_into-outcome.new.outbox c.self.invariant.0 c.in-Some.ensures.place c.lemma_has_text.ensures c.insert_into-outcome.ensures
    c.tell.ensures.told c.tell.ensures.screen in
    in_text put_so c.shown_len-before.result c.shown_len-after.result
    (was_long put_so c.replica.result.now c.shown_len-before.result c.replica.ensures c.shown_len-before.ensures)
    (is_long put_so c.replica-2.result.now c.shown_len-after.result c.replica-2.ensures c.shown_len-after.ensures)

pub invariant_of-self : goal.invariant_of-self
invariant_of-self c = (
  c.move_caret.ensures.of,
  (c.tell.ensures.shown c.self.inside.texts c.self.invariant.0 c.self.invariant.1
      (edit_grows c.self.inside.texts c.insert_into-outcome.new.texts c.in-Some.place.0
      (edit_inserting (items_in c.args.what) c.in-Some.place.1) c.insert_into-outcome.result
      c.args.outbox.now c.insert_into-outcome.new.outbox c.lemma_has_text.ensures c.insert_into-outcome.ensures)).1,
)

pub invariant_of-self-else-before-after : goal.invariant_of-self-else-before-after
invariant_of-self-else-before-after c =
    c.tell.ensures.shown c.self.inside.texts c.self.invariant.0 c.self.invariant.1
    (edit_grows c.self.inside.texts c.insert_into-outcome.new.texts c.in-Some.place.0
    (edit_inserting (items_in c.args.what) c.in-Some.place.1) c.insert_into-outcome.result
    c.args.outbox.now c.insert_into-outcome.new.outbox c.lemma_has_text.ensures c.insert_into-outcome.ensures)

pub returns-then-before-after : goal.returns-then-before-after
returns-then-before-after c =
    let put_so =
    put_at c.self.inside.texts c.insert_into-outcome.new.texts c.tell.new.texts c.self.inside.windows c.tell.new.windows
    c.in-Some.place (items_in c.args.what) c.insert_into-outcome.result c.args.outbox.now
    c.insert_into-outcome.new.outbox c.self.invariant.0 c.in-Some.ensures.place c.lemma_has_text.ensures c.insert_into-outcome.ensures
    c.tell.ensures.told c.tell.ensures.screen in
    moved_step put_so c.shown_len-before.result c.shown_len-after.result
    (was_long put_so c.replica.result.now c.shown_len-before.result c.replica.ensures c.shown_len-before.ensures)
    (is_long put_so c.replica-2.result.now c.shown_len-after.result c.replica-2.ensures c.shown_len-after.ensures) c.args.self.now c.move_caret.new.self
    c.self.view_is c.if-before-after.true c.move_caret.ensures.moved

pub returns-else-before-after : goal.returns-else-before-after
returns-else-before-after c =
    let put_so =
    put_at c.self.inside.texts c.insert_into-outcome.new.texts c.tell.new.texts c.self.inside.windows c.tell.new.windows
    c.in-Some.place (items_in c.args.what) c.insert_into-outcome.result c.args.outbox.now
    c.insert_into-outcome.new.outbox c.self.invariant.0 c.in-Some.ensures.place c.lemma_has_text.ensures c.insert_into-outcome.ensures
    c.tell.ensures.told c.tell.ensures.screen in
    stayed_step put_so c.shown_len-before.result c.shown_len-after.result
    (was_long put_so c.replica.result.now c.shown_len-before.result c.replica.ensures c.shown_len-before.ensures)
    (is_long put_so c.replica-2.result.now c.shown_len-after.result c.replica-2.ensures c.shown_len-after.ensures) c.args.self.now c.self.view_is c.if-before-after.false
