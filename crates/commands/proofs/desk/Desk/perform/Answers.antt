use Rattle.std.proofs.Common.{List, ℕ, None, Option, Result, sym, subst}
use Rattle.std.specs.Option.{option_copied}
use Rattle.viewers.specs.declared.screen.Track.TheVariants.{User, System}
use Rattle.command_words.specs.declared.command.Command.TheVariants as command
use Rattle.texts.specs.Edit.{restoration}
use Rattle.texts.specs.declared.edit_refusal.EditRefusal.{EditRefusal}
use Rattle.machine.specs.Commands.{Change, dress_marked, task_with_value}
use Rattle.machine.specs.Events.{Task, arrange, ask, change, forget, load, recall_at_caret, search, store}
use Rattle.machine.specs.declared.asked.Arrangement.TheVariants.{Close, Open}
use Rattle.commands.proofs.Faultless.{dressed_sound, edit_step_sound, task_sound, told_sound}
use Rattle.commands.proofs.Shelves.{commanded, edit_over, task_over}
use Rattle.commands.proofs.Tasks.{change_step}
use Rattle.commands.specs.declared.answer.Answer.{Answer}
use Rattle.shelved_texts.specs.Filing.{shelf_seen}
use Rattle.commands.specs.Steps.{DeskSeen, IsFault, IsShelfStep}
use Rattle.commands.proofs.desk.Desk.perform.Goals as goal

pub returns-in-SystemOpen-clause-step : goal.returns-in-SystemOpen-clause-step
returns-in-SystemOpen-clause-step g c =
    let seen : DeskSeen = c.args.self.now in let sent = c.args.outbox.now in
    let told = shelf_seen (g.S.Shelf.files c.args.shelf.now) (g.S.Shelf.faults c.args.shelf.now) in
    commanded (λ (task : Task). IsShelfStep seen (λ i. ask i task) c.open_given.result c.open_given.new.self sent sent told told) seen.texts seen.screen
    c.args.command command.SystemOpen c.args.value.now c.args.viewer c.args.text c.in-SystemOpen.is
    (subst (λ (o : Option ℕ). IsShelfStep seen (λ i. ask i (task_with_value o (λ n. arrange (Open System n None)))) c.open_given.result c.open_given.new.self sent sent told told)
    c.text_parameter.ensures.told
    (task_over seen c.open_given.new.self (task_with_value c.text_parameter.result (λ n. arrange (Open System n None))) told c.open_given.result sent c.open_given.ensures))

pub returns-in-SystemOpen-clause-fault : goal.returns-in-SystemOpen-clause-fault
returns-in-SystemOpen-clause-fault g c = λ fault.
    let seen : DeskSeen = c.args.self.now in
    absurd (task_sound seen c.open_given.new.self (task_with_value c.text_parameter.result (λ n. arrange (Open System n None))) c.open_given.result
    (told_sound c.text_parameter.result (λ n. arrange (Open System n None)) (λ n. tt)) c.open_given.ensures fault)

pub returns-in-EditOpen-clause-step : goal.returns-in-EditOpen-clause-step
returns-in-EditOpen-clause-step g c =
    let seen : DeskSeen = c.args.self.now in let sent = c.args.outbox.now in
    let told = shelf_seen (g.S.Shelf.files c.args.shelf.now) (g.S.Shelf.faults c.args.shelf.now) in
    commanded (λ (task : Task). IsShelfStep seen (λ i. ask i task) c.open_given-in-EditOpen.result c.open_given-in-EditOpen.new.self sent sent told told) seen.texts seen.screen
    c.args.command command.EditOpen c.args.value.now c.args.viewer c.args.text c.in-EditOpen.is
    (subst (λ (o : Option ℕ). IsShelfStep seen (λ i. ask i (task_with_value o (λ n. arrange (Open User n None)))) c.open_given-in-EditOpen.result c.open_given-in-EditOpen.new.self sent sent told told)
    c.text_parameter-in-EditOpen.ensures.told
    (task_over seen c.open_given-in-EditOpen.new.self (task_with_value c.text_parameter-in-EditOpen.result (λ n. arrange (Open User n None))) told c.open_given-in-EditOpen.result sent c.open_given-in-EditOpen.ensures))

pub returns-in-EditOpen-clause-fault : goal.returns-in-EditOpen-clause-fault
returns-in-EditOpen-clause-fault g c = λ fault.
    let seen : DeskSeen = c.args.self.now in
    absurd (task_sound seen c.open_given-in-EditOpen.new.self (task_with_value c.text_parameter-in-EditOpen.result (λ n. arrange (Open User n None))) c.open_given-in-EditOpen.result
    (told_sound c.text_parameter-in-EditOpen.result (λ n. arrange (Open User n None)) (λ n. tt)) c.open_given-in-EditOpen.ensures fault)

pub returns-in-SystemClose-clause-step : goal.returns-in-SystemClose-clause-step
returns-in-SystemClose-clause-step g c =
    let seen : DeskSeen = c.args.self.now in let sent = c.args.outbox.now in
    let told = shelf_seen (g.S.Shelf.files c.args.shelf.now) (g.S.Shelf.faults c.args.shelf.now) in
    commanded (λ (task : Task). IsShelfStep seen (λ i. ask i task) c.close_clicked.result c.close_clicked.new.self sent sent told told) seen.texts seen.screen
    c.args.command command.SystemClose c.args.value.now c.args.viewer c.args.text c.in-SystemClose.is
    (task_over seen c.close_clicked.new.self (arrange (Close c.args.viewer)) told c.close_clicked.result sent
    c.close_clicked.ensures)

pub returns-in-SystemClose-clause-fault : goal.returns-in-SystemClose-clause-fault
returns-in-SystemClose-clause-fault g c = λ fault.
    let seen : DeskSeen = c.args.self.now in
    absurd (task_sound seen c.close_clicked.new.self (arrange (Close c.args.viewer)) c.close_clicked.result tt
    c.close_clicked.ensures fault)

pub returns-in-EditLoad-clause-step : goal.returns-in-EditLoad-clause-step
returns-in-EditLoad-clause-step g c =
    let seen : DeskSeen = c.args.self.now in let sent = c.args.outbox.now in
    let told = shelf_seen (g.S.Shelf.files c.args.shelf.now) (g.S.Shelf.faults c.args.shelf.now) in
    commanded (λ (task : Task). IsShelfStep seen (λ i. ask i task) c.load.result c.load.new.self sent c.load.new.outbox told (shelf_seen (g.S.Shelf.files c.load.new.shelf) (g.S.Shelf.faults c.load.new.shelf))) seen.texts seen.screen
    c.args.command command.EditLoad c.args.value.now c.args.viewer c.args.text c.in-EditLoad.is
    (subst (λ (o : Option (List ℕ)). IsShelfStep seen (λ i. ask i (task_with_value o load)) c.load.result c.load.new.self sent c.load.new.outbox
    told (shelf_seen (g.S.Shelf.files c.load.new.shelf) (g.S.Shelf.faults c.load.new.shelf))) c.file_parameter.ensures c.load.ensures.step)

pub returns-in-EditStore-clause-step : goal.returns-in-EditStore-clause-step
returns-in-EditStore-clause-step g c =
    let seen : DeskSeen = c.args.self.now in let sent = c.args.outbox.now in
    let told = shelf_seen (g.S.Shelf.files c.args.shelf.now) (g.S.Shelf.faults c.args.shelf.now) in
    commanded (λ (task : Task). IsShelfStep seen (λ i. ask i task) c.store.result seen sent sent told (shelf_seen (g.S.Shelf.files c.store.new.shelf) (g.S.Shelf.faults c.store.new.shelf))) seen.texts seen.screen
    c.args.command command.EditStore c.args.value.now c.args.viewer c.args.text c.in-EditStore.is
    (subst (λ (o : Option (List ℕ)). IsShelfStep seen (λ i. ask i (task_with_value o (store c.args.text))) c.store.result seen sent sent
    told (shelf_seen (g.S.Shelf.files c.store.new.shelf) (g.S.Shelf.faults c.store.new.shelf))) c.file_parameter-in-EditStore.ensures (c.store.ensures.step sent))

pub returns-in-EditRecall-clause-step : goal.returns-in-EditRecall-clause-step
returns-in-EditRecall-clause-step g c =
    let seen : DeskSeen = c.args.self.now in let sent = c.args.outbox.now in
    let told = shelf_seen (g.S.Shelf.files c.args.shelf.now) (g.S.Shelf.faults c.args.shelf.now) in
    commanded (λ (task : Task). IsShelfStep seen (λ i. ask i task) c.sent.result c.insert_at_caret.new.self sent c.insert_at_caret.new.outbox told told) seen.texts seen.screen
    c.args.command command.EditRecall c.args.value.now c.args.viewer c.args.text c.in-EditRecall.is
    (subst (λ (r : Result Answer EditRefusal). IsShelfStep seen (λ i. ask i recall_at_caret) r c.insert_at_caret.new.self sent c.insert_at_caret.new.outbox told told)
    (sym c.sent.ensures)
    (edit_over seen c.insert_at_caret.new.self recall_at_caret told c.insert_at_caret.result sent c.insert_at_caret.new.outbox
    c.insert_at_caret.ensures))

pub returns-in-EditRecall-clause-fault : goal.returns-in-EditRecall-clause-fault
returns-in-EditRecall-clause-fault g c = λ fault.
    let seen : DeskSeen = c.args.self.now in
    absurd (edit_step_sound seen c.insert_at_caret.new.self recall_at_caret c.insert_at_caret.result c.args.outbox.now c.insert_at_caret.new.outbox tt
    c.insert_at_caret.ensures (subst IsFault c.sent.ensures fault))

pub returns-in-EditRestore-clause-step : goal.returns-in-EditRestore-clause-step
returns-in-EditRestore-clause-step g c =
    let seen : DeskSeen = c.args.self.now in let sent = c.args.outbox.now in
    let told = shelf_seen (g.S.Shelf.files c.args.shelf.now) (g.S.Shelf.faults c.args.shelf.now) in
    commanded (λ (task : Task). IsShelfStep seen (λ i. ask i task) c.sent-in-EditRestore.result c.restore.new.self sent c.restore.new.outbox told told) seen.texts seen.screen
    c.args.command command.EditRestore c.args.value.now c.args.viewer c.args.text c.in-EditRestore.is
    (subst (λ (r : Result Answer EditRefusal). IsShelfStep seen (λ i. ask i (change c.args.text restoration)) r c.restore.new.self sent c.restore.new.outbox told told)
    (sym c.sent-in-EditRestore.ensures)
    (edit_over seen c.restore.new.self (change c.args.text restoration) told c.restore.result sent c.restore.new.outbox
    (change_step seen c.restore.new.self c.args.text restoration c.restore.result c.args.outbox.now c.restore.new.outbox
    c.restore.ensures)))

pub returns-in-EditRestore-clause-fault : goal.returns-in-EditRestore-clause-fault
returns-in-EditRestore-clause-fault g c = λ fault.
    let seen : DeskSeen = c.args.self.now in
    absurd (edit_step_sound seen c.restore.new.self (change c.args.text restoration) c.restore.result c.args.outbox.now c.restore.new.outbox tt
    (change_step seen c.restore.new.self c.args.text restoration c.restore.result c.args.outbox.now c.restore.new.outbox
    c.restore.ensures) (subst IsFault c.sent-in-EditRestore.ensures fault))

pub returns-in-EditChangeFont-clause-step : goal.returns-in-EditChangeFont-clause-step
returns-in-EditChangeFont-clause-step g c =
    let seen : DeskSeen = c.args.self.now in let sent = c.args.outbox.now in
    let told = shelf_seen (g.S.Shelf.files c.args.shelf.now) (g.S.Shelf.faults c.args.shelf.now) in
    commanded (λ (task : Task). IsShelfStep seen (λ i. ask i task) c.sent-in-EditChangeFont.result c.dress.new.self sent c.dress.new.outbox told told) seen.texts seen.screen
    c.args.command command.EditChangeFont c.args.value.now c.args.viewer c.args.text c.in-EditChangeFont.is
    (subst (λ (o : Option Change). IsShelfStep seen (λ i. ask i (task_with_value o (dress_marked seen.texts seen.screen))) c.sent-in-EditChangeFont.result c.dress.new.self
    sent c.dress.new.outbox told told) c.font_parameter.ensures
    (subst (λ (r : Result Answer EditRefusal). IsShelfStep seen (λ i. ask i (task_with_value c.font_parameter.result (dress_marked seen.texts seen.screen))) r c.dress.new.self sent c.dress.new.outbox told told)
    (sym c.sent-in-EditChangeFont.ensures)
    (edit_over seen c.dress.new.self (task_with_value c.font_parameter.result (dress_marked seen.texts seen.screen)) told c.dress.result sent c.dress.new.outbox
    c.dress.ensures)))

pub returns-in-EditChangeFont-clause-fault : goal.returns-in-EditChangeFont-clause-fault
returns-in-EditChangeFont-clause-fault g c = λ fault.
    let seen : DeskSeen = c.args.self.now in
    absurd (edit_step_sound seen c.dress.new.self (task_with_value c.font_parameter.result (dress_marked seen.texts seen.screen)) c.dress.result
    c.args.outbox.now c.dress.new.outbox
    (told_sound c.font_parameter.result (dress_marked seen.texts seen.screen) (dressed_sound seen.texts seen.screen)) c.dress.ensures
    (subst IsFault c.sent-in-EditChangeFont.ensures fault))

pub returns-in-EditChangeColor-clause-step : goal.returns-in-EditChangeColor-clause-step
returns-in-EditChangeColor-clause-step g c =
    let seen : DeskSeen = c.args.self.now in let sent = c.args.outbox.now in
    let told = shelf_seen (g.S.Shelf.files c.args.shelf.now) (g.S.Shelf.faults c.args.shelf.now) in
    commanded (λ (task : Task). IsShelfStep seen (λ i. ask i task) c.sent-in-EditChangeColor.result c.dress-in-EditChangeColor.new.self sent c.dress-in-EditChangeColor.new.outbox told told) seen.texts seen.screen
    c.args.command command.EditChangeColor c.args.value.now c.args.viewer c.args.text c.in-EditChangeColor.is
    (subst (λ (o : Option Change). IsShelfStep seen (λ i. ask i (task_with_value o (dress_marked seen.texts seen.screen))) c.sent-in-EditChangeColor.result c.dress-in-EditChangeColor.new.self
    sent c.dress-in-EditChangeColor.new.outbox told told) c.colour_parameter.ensures
    (subst (λ (r : Result Answer EditRefusal). IsShelfStep seen (λ i. ask i (task_with_value c.colour_parameter.result (dress_marked seen.texts seen.screen))) r c.dress-in-EditChangeColor.new.self sent c.dress-in-EditChangeColor.new.outbox told told)
    (sym c.sent-in-EditChangeColor.ensures)
    (edit_over seen c.dress-in-EditChangeColor.new.self (task_with_value c.colour_parameter.result (dress_marked seen.texts seen.screen)) told c.dress-in-EditChangeColor.result sent c.dress-in-EditChangeColor.new.outbox
    c.dress-in-EditChangeColor.ensures)))

pub returns-in-EditChangeColor-clause-fault : goal.returns-in-EditChangeColor-clause-fault
returns-in-EditChangeColor-clause-fault g c = λ fault.
    let seen : DeskSeen = c.args.self.now in
    absurd (edit_step_sound seen c.dress-in-EditChangeColor.new.self (task_with_value c.colour_parameter.result (dress_marked seen.texts seen.screen)) c.dress-in-EditChangeColor.result
    c.args.outbox.now c.dress-in-EditChangeColor.new.outbox
    (told_sound c.colour_parameter.result (dress_marked seen.texts seen.screen) (dressed_sound seen.texts seen.screen)) c.dress-in-EditChangeColor.ensures
    (subst IsFault c.sent-in-EditChangeColor.ensures fault))

pub returns-in-EditChangeOffset-clause-step : goal.returns-in-EditChangeOffset-clause-step
returns-in-EditChangeOffset-clause-step g c =
    let seen : DeskSeen = c.args.self.now in let sent = c.args.outbox.now in
    let told = shelf_seen (g.S.Shelf.files c.args.shelf.now) (g.S.Shelf.faults c.args.shelf.now) in
    commanded (λ (task : Task). IsShelfStep seen (λ i. ask i task) c.sent-in-EditChangeOffset.result c.dress-in-EditChangeOffset.new.self sent c.dress-in-EditChangeOffset.new.outbox told told) seen.texts seen.screen
    c.args.command command.EditChangeOffset c.args.value.now c.args.viewer c.args.text c.in-EditChangeOffset.is
    (subst (λ (o : Option Change). IsShelfStep seen (λ i. ask i (task_with_value o (dress_marked seen.texts seen.screen))) c.sent-in-EditChangeOffset.result c.dress-in-EditChangeOffset.new.self
    sent c.dress-in-EditChangeOffset.new.outbox told told) c.offset_parameter.ensures
    (subst (λ (r : Result Answer EditRefusal). IsShelfStep seen (λ i. ask i (task_with_value c.offset_parameter.result (dress_marked seen.texts seen.screen))) r c.dress-in-EditChangeOffset.new.self sent c.dress-in-EditChangeOffset.new.outbox told told)
    (sym c.sent-in-EditChangeOffset.ensures)
    (edit_over seen c.dress-in-EditChangeOffset.new.self (task_with_value c.offset_parameter.result (dress_marked seen.texts seen.screen)) told c.dress-in-EditChangeOffset.result sent c.dress-in-EditChangeOffset.new.outbox
    c.dress-in-EditChangeOffset.ensures)))

pub returns-in-EditChangeOffset-clause-fault : goal.returns-in-EditChangeOffset-clause-fault
returns-in-EditChangeOffset-clause-fault g c = λ fault.
    let seen : DeskSeen = c.args.self.now in
    absurd (edit_step_sound seen c.dress-in-EditChangeOffset.new.self (task_with_value c.offset_parameter.result (dress_marked seen.texts seen.screen)) c.dress-in-EditChangeOffset.result
    c.args.outbox.now c.dress-in-EditChangeOffset.new.outbox
    (told_sound c.offset_parameter.result (dress_marked seen.texts seen.screen) (dressed_sound seen.texts seen.screen)) c.dress-in-EditChangeOffset.ensures
    (subst IsFault c.sent-in-EditChangeOffset.ensures fault))

pub returns-in-EditSearch-clause-step : goal.returns-in-EditSearch-clause-step
returns-in-EditSearch-clause-step g c =
    let seen : DeskSeen = c.args.self.now in let sent = c.args.outbox.now in
    let told = shelf_seen (g.S.Shelf.files c.args.shelf.now) (g.S.Shelf.faults c.args.shelf.now) in
    commanded (λ (task : Task). IsShelfStep seen (λ i. ask i task) c.search.result c.search.new.self sent sent told told) seen.texts seen.screen
    c.args.command command.EditSearch c.args.value.now c.args.viewer c.args.text c.in-EditSearch.is
    (subst (λ (o : Option (List ℕ)). IsShelfStep seen (λ i. ask i (task_with_value o search)) c.search.result c.search.new.self sent sent told
    told) c.bytes_parameter.ensures
    (task_over seen c.search.new.self (task_with_value (option_copied c.bytes_parameter.result) search) told c.search.result sent
    c.search.ensures))

pub returns-in-EditSearch-clause-fault : goal.returns-in-EditSearch-clause-fault
returns-in-EditSearch-clause-fault g c = λ fault.
    let seen : DeskSeen = c.args.self.now in
    absurd (task_sound seen c.search.new.self (task_with_value (option_copied c.bytes_parameter.result) search) c.search.result
    (told_sound (option_copied c.bytes_parameter.result) search (λ n. tt)) c.search.ensures fault)

pub returns-in-ShareForget-clause-step : goal.returns-in-ShareForget-clause-step
returns-in-ShareForget-clause-step g c =
    let seen : DeskSeen = c.args.self.now in let sent = c.args.outbox.now in
    let told = shelf_seen (g.S.Shelf.files c.args.shelf.now) (g.S.Shelf.faults c.args.shelf.now) in
    commanded (λ (task : Task). IsShelfStep seen (λ i. ask i task) c.forget.result c.forget.new.self sent sent told told) seen.texts seen.screen
    c.args.command command.ShareForget c.args.value.now c.args.viewer c.args.text c.in-ShareForget.is
    (task_over seen c.forget.new.self (forget c.args.text) told c.forget.result sent c.forget.ensures)

pub returns-in-ShareForget-clause-fault : goal.returns-in-ShareForget-clause-fault
returns-in-ShareForget-clause-fault g c = λ fault.
    let seen : DeskSeen = c.args.self.now in
    absurd (task_sound seen c.forget.new.self (forget c.args.text) c.forget.result tt c.forget.ensures fault)
