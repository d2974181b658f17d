use Rattle.std.proofs.Common.{◌≡◌, Err, refl}
use Rattle.texts.specs.declared.edit_refusal.EditRefusal.TheVariants.{Whole}
use Rattle.desk_texts.proofs.Lifting.{desk_left, same_text}
use Rattle.desk_texts.proofs.TextEdits.{position_in, text_copied, text_not_copied}
use Rattle.desk_texts.proofs.site_texts.Texts.save.Goals as goal

pub insert-requires : goal.insert-requires
insert-requires c =
    let t = c.replica.result.now in
    let u = c.replica-2.result.now in
    let same : u ≡ c.replica_mut.result.now =
    same_text c.args.self.now c.args.other u _ c.replica-2.ensures c.replica_mut.ensures.value in
    let (in_texts, few, items) = c.in-Ok.ensures in
    record { in_text = rw (← same) (position_in t u c.args.beg c.args.end c.args.pos in_texts) }

pub returns-in-Ok : goal.returns-in-Ok
returns-in-Ok c =
    let d = c.args.self.now in
    let t = c.replica.result.now in
    let u = c.replica_mut.result.now in
    let same : c.replica-2.result.now ≡ u =
    same_text d c.args.other c.replica-2.result.now u c.replica-2.ensures c.replica_mut.ensures.value in
    let (in_texts, few, items) = c.in-Ok.ensures in
    let edits = rw items at c.insert.ensures in
    let copies = text_copied t u c.args.beg c.args.end c.args.pos c.args.outbox.now (rw same at in_texts) few
    c.insert.result c.insert.new.self c.insert.new.outbox edits in
    (t, c.replica.ensures, (u, c.insert.new.self, c.replica_mut.ensures.value, copies, refl))

pub returns-in-Err : goal.returns-in-Err
returns-in-Err c =
    let d = c.args.self.now in
    let t = c.replica.result.now in
    let u = c.replica-2.result.now in
    let sent = c.args.outbox.now in
    let refused = Err (Whole c.in-Err.why) in
    let copies = text_not_copied t u c.args.beg c.args.end c.args.pos sent c.in-Err.why c.in-Err.ensures in
    desk_left d c.args.other u c.args.text c.args.beg c.args.end c.args.pos refused sent sent c.replica-2.ensures
    (t, c.replica.ensures, (u, u, c.replica-2.ensures, copies, refl))
