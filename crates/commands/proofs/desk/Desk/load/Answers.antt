use Rattle.std.proofs.Common.{List, ℕ, Err, Result, sym, ap, subst}
use Rattle.std.specs.Option.{option_copied}
use Rattle.looks.specs.declared.refusal.Refusal.TheVariants.{BadParameter, NoCaret}
use Rattle.texts.specs.declared.edit_refusal.EditRefusal.{EditRefusal}
use Rattle.texts.specs.declared.edit_refusal.EditRefusal.TheVariants.{Whole}
use Rattle.machine.specs.Events.{Task, ask, load, insert_at_caret, refuse}
use Rattle.desk_windows.specs.Windows.{screened}
use Rattle.commands.proofs.Faultless.{edit_step_sound}
use Rattle.commands.proofs.Shelves.{load_fails, load_inserts, load_without_caret, task_over}
use Rattle.commands.proofs.Tasks.{refused_task, told_so, untold}
use Rattle.commands.specs.declared.answer.Answer.{Answer}
use Rattle.shelved_texts.specs.Filing.{shelf_seen}
use Rattle.commands.specs.Steps.{DeskSeen, IsEditStep, IsFault, IsShelfStep, sent_answer}
use Rattle.commands.proofs.desk.Desk.load.Goals as goal

pub returns-in_default-clause-step : goal.returns-in_default-clause-step
returns-in_default-clause-step g c =
    let seen : DeskSeen = c.args.self.now in let sent = c.args.outbox.now in
    let told = shelf_seen (g.S.Shelf.files c.args.shelf.now) (g.S.Shelf.faults c.args.shelf.now) in
    untold (λ (task : Task). IsShelfStep seen (λ i. ask i task) (Err (Whole BadParameter)) seen sent sent told told)
    (option_copied c.args.name) load (ap option_copied c.in_default.is)
    (task_over seen seen (refuse BadParameter) told (Err (Whole BadParameter)) sent (refused_task seen BadParameter))

pub returns-in_default-caret_place-clause-step : goal.returns-in_default-caret_place-clause-step
returns-in_default-caret_place-clause-step g c =
    let seen : DeskSeen = c.args.self.now in let sent = c.args.outbox.now in
    let told = shelf_seen (g.S.Shelf.files c.args.shelf.now) (g.S.Shelf.faults c.args.shelf.now) in let name : List ℕ = c.in-Some.name.now in
    told_so (λ (task : Task). IsShelfStep seen (λ i. ask i task) (Err (Whole NoCaret)) seen sent sent told told)
    (option_copied c.args.name) name load (ap option_copied c.in-Some.is)
    (subst (λ (x : DeskSeen). IsShelfStep x (λ i. ask i (load name)) (Err (Whole NoCaret)) x sent sent told told) c.self.view_is
    (load_without_caret c.self.inside.texts (screened c.self.inside.windows) name told sent
    c.in_default-caret_place.ensures.place))

pub returns-in-Ok-clause-step : goal.returns-in-Ok-clause-step
returns-in-Ok-clause-step g c =
    let seen : DeskSeen = c.args.self.now in let sent = c.args.outbox.now in
    let told = shelf_seen (g.S.Shelf.files c.args.shelf.now) (g.S.Shelf.faults c.args.shelf.now) in let told' = shelf_seen (g.S.Shelf.files c.read_text.new.shelf) (g.S.Shelf.faults c.read_text.new.shelf) in
    let name : List ℕ = c.in-Some.name.now in
    let (caret, shown, is_caret, shows, text, pos) = c.in-Some-caret_place.ensures.place in
    let (file, has, of, unfailed) = c.in-Ok.ensures.reads in
    let old : DeskSeen = record { texts = c.self.inside.texts; screen = screened c.self.inside.windows } in
    let put_step : IsEditStep old (λ i. ask i (insert_at_caret c.in-Ok.items)) c.insert_at_caret.result c.insert_at_caret.new.self sent c.insert_at_caret.new.outbox =
    subst (λ (x : DeskSeen). IsEditStep x (λ i. ask i (insert_at_caret c.in-Ok.items)) c.insert_at_caret.result c.insert_at_caret.new.self sent c.insert_at_caret.new.outbox)
    (sym c.self.view_is) c.insert_at_caret.ensures in
    told_so (λ (task : Task). IsShelfStep seen (λ i. ask i task) c.sent.result c.insert_at_caret.new.self sent c.insert_at_caret.new.outbox told told')
    (option_copied c.args.name) name load (ap option_copied c.in-Some.is)
    (subst (λ (r : Result Answer EditRefusal). IsShelfStep seen (λ i. ask i (load name)) r c.insert_at_caret.new.self sent c.insert_at_caret.new.outbox told told')
    (sym c.sent.ensures)
    (subst (λ (x : DeskSeen). IsShelfStep x (λ i. ask i (load name)) (sent_answer c.insert_at_caret.result) c.insert_at_caret.new.self sent c.insert_at_caret.new.outbox told told')
    c.self.view_is
    (load_inserts c.self.inside.texts (screened c.self.inside.windows) name told told' c.in-Ok.ensures.files caret shown is_caret
    shows file c.in-Ok.items of c.insert_at_caret.new.self c.insert_at_caret.result sent c.insert_at_caret.new.outbox has unfailed put_step)))

pub returns-in-Ok-clause-fault : goal.returns-in-Ok-clause-fault
returns-in-Ok-clause-fault g c = λ fault.
    absurd (edit_step_sound c.args.self.now c.insert_at_caret.new.self (insert_at_caret c.in-Ok.items) c.insert_at_caret.result c.args.outbox.now c.insert_at_caret.new.outbox tt
    c.insert_at_caret.ensures (subst IsFault c.sent.ensures fault))

pub returns-in-Err-clause-step : goal.returns-in-Err-clause-step
returns-in-Err-clause-step g c =
    let seen : DeskSeen = c.args.self.now in let sent = c.args.outbox.now in
    let told = shelf_seen (g.S.Shelf.files c.args.shelf.now) (g.S.Shelf.faults c.args.shelf.now) in let told' = shelf_seen (g.S.Shelf.files c.read_text.new.shelf) (g.S.Shelf.faults c.read_text.new.shelf) in
    let name : List ℕ = c.in-Some.name.now in let why = c.in-Err.why in
    let (caret, shown, is_caret, shows, text, pos) = c.in-Some-caret_place.ensures.place in
    told_so (λ (task : Task). IsShelfStep seen (λ i. ask i task) (Err (Whole why)) seen sent sent told told')
    (option_copied c.args.name) name load (ap option_copied c.in-Some.is)
    (subst (λ (x : DeskSeen). IsShelfStep x (λ i. ask i (load name)) (Err (Whole why)) x sent sent told told') c.self.view_is
    (load_fails c.self.inside.texts (screened c.self.inside.windows) name told told' c.in-Err.ensures.files caret shown is_caret
    shows why sent c.in-Err.ensures.reads))
