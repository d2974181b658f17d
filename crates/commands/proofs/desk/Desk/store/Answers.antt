use Rattle.std.proofs.Common.{List, ℕ, Err, Result, ap, sym, subst}
use Rattle.std.specs.Option.{option_copied}
use Rattle.looks.specs.declared.refusal.Refusal.TheVariants.{BadParameter}
use Rattle.texts.specs.declared.edit_refusal.EditRefusal.{EditRefusal}
use Rattle.texts.specs.declared.edit_refusal.EditRefusal.TheVariants.{Whole}
use Rattle.machine.specs.Events.{Task, ask, refuse, store}
use Rattle.desk_windows.specs.Windows.{screened}
use Rattle.commands.proofs.Shelves.{store_step, task_over}
use Rattle.commands.proofs.Tasks.{refused_task, told_so, untold}
use Rattle.commands.specs.declared.answer.Answer.{Answer}
use Rattle.shelved_texts.specs.Filing.{shelf_seen}
use Rattle.commands.specs.Steps.{DeskSeen, IsShelfStep, written_answer}
use Rattle.commands.proofs.desk.Desk.store.Goals as goal

pub returns-in_default-clause-step : goal.returns-in_default-clause-step
returns-in_default-clause-step g c = λ sent.
    let seen : DeskSeen = c.args.self.now in let told = shelf_seen (g.S.Shelf.files c.args.shelf.now) (g.S.Shelf.faults c.args.shelf.now) in
    untold (λ (task : Task). IsShelfStep seen (λ i. ask i task) (Err (Whole BadParameter)) seen sent sent told told)
    (option_copied c.args.name) (store c.args.text) (ap option_copied c.in_default.is)
    (task_over seen seen (refuse BadParameter) told (Err (Whole BadParameter)) sent (refused_task seen BadParameter))

pub returns-clause-step : goal.returns-clause-step
returns-clause-step g c = λ sent.
    let seen : DeskSeen = c.args.self.now in let told = shelf_seen (g.S.Shelf.files c.args.shelf.now) (g.S.Shelf.faults c.args.shelf.now) in
    let told' = shelf_seen (g.S.Shelf.files c.write_text.new.shelf) (g.S.Shelf.faults c.write_text.new.shelf) in let name : List ℕ = c.in-Some.name.now in
    told_so (λ (task : Task). IsShelfStep seen (λ i. ask i task) c.written.result seen sent sent told told')
    (option_copied c.args.name) name (store c.args.text) (ap option_copied c.in-Some.is)
    (subst (λ (r : Result Answer EditRefusal). IsShelfStep seen (λ i. ask i (store c.args.text name)) r seen sent sent told told')
    (sym c.written.ensures)
    (subst (λ (x : DeskSeen). IsShelfStep x (λ i. ask i (store c.args.text name)) (written_answer c.write_text.result) x sent sent
    told told') c.self.view_is
    (store_step c.self.inside.texts (screened c.self.inside.windows) c.args.text c.replica.result.now c.replica.ensures name told
    told' sent c.write_text.result c.write_text.ensures.writes)))
