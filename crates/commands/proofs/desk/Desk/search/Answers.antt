use Rattle.std.proofs.Common.{◌+◌, List, ℕ, Err, Ok, ap, length}
use Rattle.std.specs.Option.{option_copied}
use Rattle.looks.specs.declared.refusal.Refusal.TheVariants.{BadParameter, NoCaret}
use Rattle.texts.specs.declared.edit_refusal.EditRefusal.TheVariants.{Whole}
use Rattle.machine.specs.Events.{Task, search}
use Rattle.commands.proofs.Tasks.{found_task, no_caret_task, not_found_task, place_within_text, refused_task, told_so, untold}
use Rattle.desk_windows.specs.Windows.{screened}
use Rattle.commands.specs.declared.answer.Answer.TheVariants.{Found, NotFound}
use Rattle.commands.specs.Steps.{DeskSeen, IsTaskStep}
use Rattle.commands.proofs.desk.Desk.search.Goals as goal

pub returns-in_default : goal.returns-in_default
returns-in_default c =
    let seen : DeskSeen = c.args.self.now in
    untold (λ (task : Task). IsTaskStep seen task (Err (Whole BadParameter)) seen) (option_copied c.args.bytes) search
    (ap option_copied c.in_default.is) (refused_task seen BadParameter)

pub returns-in_default-caret_place : goal.returns-in_default-caret_place
returns-in_default-caret_place c =
    let seen : DeskSeen = c.args.self.now in
    told_so (λ (task : Task). IsTaskStep seen task (Err (Whole NoCaret)) seen) (option_copied c.args.bytes) c.in-Some.bytes.now
    search (ap option_copied c.in-Some.is)
    (no_caret_task seen c.self.inside.texts c.self.inside.windows c.self.view_is c.in-Some.bytes.now
    c.in_default-caret_place.ensures.place)

pub find-requires : goal.find-requires
find-requires c =
    place_within_text c.args.self.now c.self.inside.texts c.self.inside.windows c.self.view_is c.in-Some.bytes.now
    c.in-Some-caret_place.place c.replica-replica.result.now c.in-Some-caret_place.ensures.place c.replica-replica.ensures
    c.self.invariant.0 c.lemma_is_text.ensures

pub returns-in_default-find : goal.returns-in_default-find
returns-in_default-find c =
    let seen : DeskSeen = c.args.self.now in
    told_so (λ (task : Task). IsTaskStep seen task (Ok NotFound) seen) (option_copied c.args.bytes) c.in-Some.bytes.now search
    (ap option_copied c.in-Some.is)
    (not_found_task seen c.self.inside.texts c.self.inside.windows c.self.view_is c.in-Some.bytes.now c.in-Some-caret_place.place
    c.replica-replica.result.now c.in-Some-caret_place.ensures.place c.replica-replica.ensures c.in_default-find.ensures.none)

pub returns : goal.returns
returns c =
    let seen : DeskSeen = c.args.self.now in let bytes : List ℕ = c.in-Some.bytes.now in
    let new : DeskSeen = record { texts = c.self.inside.texts; screen = screened c.move_caret.new.self } in
    told_so (λ (task : Task). IsTaskStep seen task (Ok (Found (c.in-Some-find.at + length bytes))) new) (option_copied c.args.bytes)
    bytes search (ap option_copied c.in-Some.is)
    (found_task seen c.self.inside.texts c.self.inside.windows c.self.view_is bytes c.in-Some-caret_place.place
    c.replica-replica.result.now c.in-Some-caret_place.ensures.place c.replica-replica.ensures c.in-Some-find.at
    c.move_caret.new.self c.in-Some-find.ensures.found c.move_caret.ensures.moved)
