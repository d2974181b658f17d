use Rattle.std.proofs.Common.{Result, sym, subst}
use Rattle.texts.specs.declared.edit_refusal.EditRefusal.{EditRefusal}
use Rattle.machine.specs.Events.{ask, keep}
use Rattle.desk_windows.specs.Windows.{screened}
use Rattle.commands.proofs.Shelves.{keep_step}
use Rattle.commands.specs.declared.answer.Answer.{Answer}
use Rattle.shelved_texts.specs.Filing.{shelf_seen}
use Rattle.commands.specs.Steps.{DeskSeen, IsShelfStep, written_answer}
use Rattle.commands.proofs.desk.Desk.keep.Goals as goal

pub returns-clause-step : goal.returns-clause-step
returns-clause-step g c = λ sent.
    let seen : DeskSeen = c.args.self.now in let told = shelf_seen (g.S.Shelf.files c.args.shelf.now) (g.S.Shelf.faults c.args.shelf.now) in
    let told' = shelf_seen (g.S.Shelf.files c.write_site.new.shelf) (g.S.Shelf.faults c.write_site.new.shelf) in let name = c.args.name.now in
    subst (λ (r : Result Answer EditRefusal). IsShelfStep seen (λ i. ask i (keep c.args.form c.args.text name)) r seen sent sent told told')
    (sym c.written.ensures)
    (subst (λ (x : DeskSeen). IsShelfStep x (λ i. ask i (keep c.args.form c.args.text name)) (written_answer c.write_site.result) x sent sent
    told told') c.self.view_is
    (keep_step c.self.inside.texts (screened c.self.inside.windows) c.args.text c.replica.result.now c.replica.ensures name told
    told' sent c.write_site.result c.args.form c.write_site.ensures.writes))
