use Rattle.std.proofs.Common.{◌≡◌, Err, None, Some, sym, subst}
use Rattle.looks.specs.declared.refusal.Refusal.TheVariants.{BadParameter, NoSelection}
use Rattle.texts.specs.declared.edit_refusal.EditRefusal.TheVariants.{Whole}
use Rattle.machine.specs.Commands.{Change, dress_marked}
use Rattle.machine.specs.Events.{Task, ask}
use Rattle.machine.specs.Windows.{marked}
use Rattle.commands.proofs.Tasks.{dressed_step, dresses_none, refused_edit, told_so, untold}
use Rattle.commands.specs.Steps.{DeskSeen, IsEditStep}
use Rattle.commands.proofs.desk.Desk.dress.Goals as goal

pub returns-in_default : goal.returns-in_default
returns-in_default c =
    let seen : DeskSeen = c.args.self.now in let sent = c.args.outbox.now in
    untold (λ (task : Task). IsEditStep seen (λ i. ask i task) (Err (Whole BadParameter)) seen sent sent) c.args.change
    (dress_marked seen.texts seen.screen) c.in_default.is (refused_edit seen BadParameter sent)

pub returns-in_default-marked : goal.returns-in_default-marked
returns-in_default-marked c =
    let seen : DeskSeen = c.args.self.now in let sent = c.args.outbox.now in
    let dressed : Change = c.in-Some.change in
    let none : marked seen.texts seen.screen ≡ None =
    subst (λ (x : DeskSeen). marked x.texts x.screen ≡ None) c.self.view_is c.in_default-marked.ensures.stretch in
    told_so (λ (task : Task). IsEditStep seen (λ i. ask i task) (Err (Whole NoSelection)) seen sent sent) c.args.change dressed
    (dress_marked seen.texts seen.screen) c.in-Some.is
    (subst (λ (task : Task). IsEditStep seen (λ i. ask i task) (Err (Whole NoSelection)) seen sent sent)
    (sym (dresses_none seen.texts seen.screen dressed none)) (refused_edit seen NoSelection sent))

pub returns : goal.returns
returns c =
    let seen : DeskSeen = c.args.self.now in let sent = c.args.outbox.now in
    let dressed : Change = c.in-Some.change in
    let there = c.in-Some-marked.ensures.stretch in
    told_so (λ (task : Task). IsEditStep seen (λ i. ask i task) c.looks.result c.looks.new.self sent c.looks.new.outbox)
    c.args.change dressed (dress_marked seen.texts seen.screen) c.in-Some.is
    (dressed_step seen c.looks.new.self dressed there.0 c.in-Some-marked.marked.text c.in-Some-marked.marked.beg
    c.in-Some-marked.marked.end c.looks.result sent c.looks.new.outbox
    (subst (λ (x : DeskSeen). marked x.texts x.screen ≡ Some there.0) c.self.view_is there.1)
    there.3 there.4 there.5 c.looks.ensures)
