use Rattle.std.proofs.Common.{◌≡◌, None, Some, Err, ap, refl, subst, sym, ◌∙◌}
use Rattle.std.specs.Prelude.{IsSome}
use Rattle.looks.specs.declared.refusal.Refusal.TheVariants.{NoViewer, UnknownCommand}
use Rattle.texts.specs.declared.edit_refusal.EditRefusal.TheVariants.{Whole}
use Rattle.command_words.specs.Calls.{IsCallAt}
use Rattle.machine.specs.Commands.{IsTaskOfCall, clicked}
use Rattle.machine.specs.Events.{refuse}
use Rattle.machine.specs.Windows.{window_of}
use Rattle.desk_windows.specs.Pointing.{IsClick}
use Rattle.commands.proofs.Clicks.{call_there, clicked_shows, no_call_there, nothing_there}
use Rattle.commands.proofs.Shelves.{click_step, task_over}
use Rattle.commands.proofs.Tasks.{refused_task}
use Rattle.shelved_texts.specs.Filing.{shelf_seen}
use Rattle.commands.specs.Steps.{DeskSeen}
use Rattle.commands.proofs.desk.Desk.click.Goals as goal

pub returns-in_default-clause-step : goal.returns-in_default-clause-step
returns-in_default-clause-step g c =
    let seen : DeskSeen = c.args.self.now in let sent = c.args.outbox.now in
    let told = shelf_seen (g.S.Shelf.files c.args.shelf.now) (g.S.Shelf.faults c.args.shelf.now) in
    let none : clicked seen.texts seen.screen c.args.col c.args.row ≡ None =
    subst (λ (x : DeskSeen). clicked x.texts x.screen c.args.col c.args.row ≡ None) c.self.view_is c.in_default.ensures.meets in
    click_step seen seen c.args.col c.args.row (refuse NoViewer) (Err (Whole NoViewer)) sent sent told told
    (nothing_there seen.texts seen.screen c.args.col c.args.row none)
    (task_over seen seen (refuse NoViewer) told (Err (Whole NoViewer)) sent (refused_task seen NoViewer))

pub returns-in_default-call_at-clause-step : goal.returns-in_default-call_at-clause-step
returns-in_default-call_at-clause-step g c =
    let seen : DeskSeen = c.args.self.now in let sent = c.args.outbox.now in
    let told = shelf_seen (g.S.Shelf.files c.args.shelf.now) (g.S.Shelf.faults c.args.shelf.now) in
    let (at, met, met_so) = c.in-Some.ensures.meets in
    let is : clicked seen.texts seen.screen c.args.col c.args.row ≡ Some at =
    subst (λ (x : DeskSeen). clicked x.texts x.screen c.args.col c.args.row ≡ Some at) c.self.view_is met in
    let click : IsClick seen.texts at c.in-Some.at = subst (λ (x : DeskSeen). IsClick x.texts at c.in-Some.at) c.self.view_is met_so in
    click_step seen seen c.args.col c.args.row (refuse UnknownCommand) (Err (Whole UnknownCommand)) sent sent told told
    (no_call_there seen.texts seen.screen c.args.col c.args.row at is (c.call_at.ensures.none at click c.in_default-call_at.is))
    (task_over seen seen (refuse UnknownCommand) told (Err (Whole UnknownCommand)) sent (refused_task seen UnknownCommand))

pub execute-requires : goal.execute-requires
execute-requires g c =
    let seen : DeskSeen = c.args.self.now in
    let (at, met, met_so) = c.in-Some.ensures.meets in
    let is : clicked seen.texts seen.screen c.args.col c.args.row ≡ Some at =
    subst (λ (x : DeskSeen). clicked x.texts x.screen c.args.col c.args.row ≡ Some at) c.self.view_is met in
    let (shown, there, text_is) = clicked_shows seen.texts seen.screen c.args.col c.args.row at is in record {
      on_screen = subst IsSome (sym there ∙ ap (window_of seen.texts seen.screen) (sym met_so.viewer)) refl;
    }

pub returns-clause-step : goal.returns-clause-step
returns-clause-step g c =
    let seen : DeskSeen = c.args.self.now in let call = c.in-Some-call_at.call in
    let (at, met, met_so) = c.in-Some.ensures.meets in
    let is : clicked seen.texts seen.screen c.args.col c.args.row ≡ Some at =
    subst (λ (x : DeskSeen). clicked x.texts x.screen c.args.col c.args.row ≡ Some at) c.self.view_is met in
    let click : IsClick seen.texts at c.in-Some.at = subst (λ (x : DeskSeen). IsClick x.texts at c.in-Some.at) c.self.view_is met_so in
    let is_call : IsCallAt at.bytes at.pos call = c.in-Some-call_at.ensures.some at click in
    let viewer = c.in-Some.at.viewer in let text = c.in-Some.at.text in
    let (shown, there, text_is) = clicked_shows seen.texts seen.screen c.args.col c.args.row at is in
    let (task, of_call, step) =
    c.execute.ensures.step shown (subst (λ n. window_of seen.texts seen.screen n ≡ Some shown) (sym click.viewer) there) in
    click_step seen c.execute.new.self c.args.col c.args.row task c.execute.result c.args.outbox.now c.execute.new.outbox
    (shelf_seen (g.S.Shelf.files c.args.shelf.now) (g.S.Shelf.faults c.args.shelf.now)) (shelf_seen (g.S.Shelf.files c.execute.new.shelf) (g.S.Shelf.faults c.execute.new.shelf))
    (call_there seen.texts seen.screen c.args.col c.args.row at is c.in-Some.at call task click is_call
    (subst (λ n. IsTaskOfCall seen.texts seen.screen call viewer n task) (sym text_is ∙ sym click.text) of_call))
    step
