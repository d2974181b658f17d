use Rattle.std.proofs.Common.{◌≡◌, ℕ, ◌≤◌, Err, IfSome, Some, sym, subst}
use Rattle.std.specs.Prelude.{IsSome}
use Rattle.texts.specs.declared.edit_refusal.EditRefusal.TheVariants.{Whole}
use Rattle.machine.specs.Commands.{IsTaskOfCall, task_of}
use Rattle.machine.specs.Events.{refuse}
use Rattle.machine.specs.Windows.{window_of}
use Rattle.machine.specs.declared.TheConstants.{MAX_TEXT}
use Rattle.commands.proofs.Clicks.{text_shown, text_there}
use Rattle.commands.proofs.Faultless.{no_selection_sound}
use Rattle.commands.proofs.Shelves.{task_over}
use Rattle.commands.proofs.Tasks.{refused_task}
use Rattle.shelved_texts.specs.Filing.{shelf_seen}
use Rattle.commands.specs.Steps.{DeskSeen}
use Rattle.commands.proofs.desk.Desk.execute.Goals as goal

pub unwrap-text-requires : goal.unwrap-text-requires
unwrap-text-requires g c =
    let d = c.self.inside.texts in let windows = c.self.inside.windows in
    text_there d windows c.args.viewer c.text_of.result
    (subst (λ (x : DeskSeen). IsSome (window_of x.texts x.screen c.args.viewer)) (sym c.self.view_is) c.requires.on_screen)
    (c.text_of.ensures.text d c.self.invariant.0)

pub perform-requires : goal.perform-requires
perform-requires g c = record {
  on_desk = subst (λ o. IfSome o (λ text. text ≤ MAX_TEXT)) c.unwrap-text.ensures
      (c.text_of.ensures.on_desk c.self.inside.texts c.self.invariant.0);
}

pub returns-in-Ok-clause-step : goal.returns-in-Ok-clause-step
returns-in-Ok-clause-step g c = λ shown at.
    let seen : DeskSeen = c.args.self.now in let text = c.unwrap-text.result in
    let same : text ≡ shown.0.text =
    text_shown c.self.inside.texts c.self.inside.windows c.args.viewer text c.text_of.result shown c.unwrap-text.ensures
    (c.text_of.ensures.text c.self.inside.texts c.self.invariant.0)
    (subst (λ (x : DeskSeen). window_of x.texts x.screen c.args.viewer ≡ Some shown) (sym c.self.view_is) at) in (
      task_of seen.texts seen.screen c.args.call.command c.in-Ok.value c.args.viewer text,
      subst (λ (n : ℕ). IsTaskOfCall seen.texts seen.screen c.args.call c.args.viewer n
          (task_of seen.texts seen.screen c.args.call.command c.in-Ok.value c.args.viewer text)) same
          (c.in-Ok.ensures.task c.args.viewer text),
      c.perform.ensures.step,
    )

pub returns-in-Err-clause-step : goal.returns-in-Err-clause-step
returns-in-Err-clause-step g c = λ shown at.
    let seen : DeskSeen = c.args.self.now in let why = c.in-Err.why in
    let told = shelf_seen (g.S.Shelf.files c.args.shelf.now) (g.S.Shelf.faults c.args.shelf.now) in (
      refuse why,
      c.in-Err.ensures.task c.args.viewer shown.0.text,
      task_over seen seen (refuse why) told (Err (Whole why)) c.args.outbox.now (refused_task seen why),
    )

pub returns-in-Err-clause-fault : goal.returns-in-Err-clause-fault
returns-in-Err-clause-fault g c = λ fault. absurd (no_selection_sound c.in-Err.why c.in-Err.ensures.errors fault)
