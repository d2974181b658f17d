use Rattle.std.proofs.Common.{◌++◌, length, drop}
use Rattle.machine.specs.Events.{arrange, ask, click, copy, edit, edit_by_names, keep, merge, merge_reply, print, insert_at_caret, query, reopen, settle}
use Rattle.machine.specs.Events.{settles, take, take_reply, unpack, unpack_reply}
use Rattle.shelved_texts.specs.Filing.{shelf_seen}
use Rattle.commands.specs.Steps.{print_reply}
use Rattle.script_events.specs.EventView.{delivery_of, edit_of}
use Rattle.char_files.specs.Plain.{plain_items}
use Rattle.script_events.specs.Script.{query_at}
use Rattle.script_sites.specs.Replying.{reply_of}
use Rattle.script_sites.specs.Seen.{SitesSeen, sent_after, texts_of}
use Rattle.script_sites.specs.Sent.{messages_at}
use Rattle.script_sites.proofs.Replying.{edited_over, other_step, replied_over, stepped_over}
use Rattle.script_sites.proofs.Standing.{desk_read, filed_same, filed_step, replied_same}
use Rattle.script_sites.proofs.desks.Desks.step.Goals as goal

pub returns-in-Edits : goal.returns-in-Edits
returns-in-Edits g c =
    let s = c.args.self.now in
    let before = messages_at (texts_of s) c.args.noted.now in
    let new = c.edit.new.self in
    let asked = edit c.in-Edits.desk c.in-Edits.text (edit_of c.in-Edits.edit) in
    rw c.in-Edits.is (edited_over (shelf_seen (g.S.Shelf.files c.args.shelf.now) (g.S.Shelf.faults c.args.shelf.now)) before s new asked c.edit.result tt c.edit.ensures)

pub returns-in-EditsByNames : goal.returns-in-EditsByNames
returns-in-EditsByNames g c =
    let s = c.args.self.now in
    let before = messages_at (texts_of s) c.args.noted.now in
    let new = c.edit_by_names.new.self in
    let asked = edit_by_names c.in-EditsByNames.desk c.in-EditsByNames.text c.in-EditsByNames.what c.in-EditsByNames.names in
    rw c.in-EditsByNames.is (edited_over (shelf_seen (g.S.Shelf.files c.args.shelf.now) (g.S.Shelf.faults c.args.shelf.now)) before s new asked c.edit_by_names.result tt c.edit_by_names.ensures)

pub returns-in-Saves : goal.returns-in-Saves
returns-in-Saves g c =
    let s = c.args.self.now in
    let before = messages_at (texts_of s) c.args.noted.now in
    let new = c.save.new.self in
    let save = c.in-Saves.save in
    let asked = copy c.in-Saves.desk c.in-Saves.text save.beg save.end save.other save.pos in
    rw c.in-Saves.is (edited_over (shelf_seen (g.S.Shelf.files c.args.shelf.now) (g.S.Shelf.faults c.args.shelf.now)) before s new asked c.save.result tt c.save.ensures)

pub returns-in-Takes : goal.returns-in-Takes
returns-in-Takes g c =
    let s = c.args.self.now in
    let before = messages_at (texts_of s) c.args.noted.now in
    let was : SitesSeen = sent_after before s in
    let new : SitesSeen = sent_after before c.take.new.self in
    let asked = take c.in-Takes.desk c.in-Takes.text (delivery_of c.in-Takes.message) in
    rw c.in-Takes.is (stepped_over (shelf_seen (g.S.Shelf.files c.args.shelf.now) (g.S.Shelf.faults c.args.shelf.now)) was new asked _ (other_step was new asked (take_reply c.take.result) c.take.ensures))

pub returns-in-Unpacks : goal.returns-in-Unpacks
returns-in-Unpacks g c =
    let s = c.args.self.now in
    let before = messages_at (texts_of s) c.args.noted.now in
    let new = c.unpack.new.self in
    let asked = unpack c.in-Unpacks.desk c.in-Unpacks.text c.in-Unpacks.chunk in
    rw c.in-Unpacks.is (replied_over (shelf_seen (g.S.Shelf.files c.args.shelf.now) (g.S.Shelf.faults c.args.shelf.now)) before s new asked (unpack_reply c.unpack.result) tt c.unpack.ensures)

pub returns-in-Settles : goal.returns-in-Settles
returns-in-Settles g c =
    let s = c.args.self.now in
    let before = messages_at (texts_of s) c.args.noted.now in
    let new = c.settle.new.self in
    let settled = c.settle.result in
    let asked = settle c.in-Settles.desk c.in-Settles.text in
    rw c.in-Settles.is (replied_over (shelf_seen (g.S.Shelf.files c.args.shelf.now) (g.S.Shelf.faults c.args.shelf.now)) before s new asked (settles settled.drained settled.dropped settled.stopped) tt c.settle.ensures)

pub returns-in-Merges : goal.returns-in-Merges
returns-in-Merges g c =
    let s = c.args.self.now in
    let before = messages_at (texts_of s) c.args.noted.now in
    let new = c.merge.new.self in
    let asked = merge c.in-Merges.desk c.in-Merges.text c.in-Merges.other in
    rw c.in-Merges.is (replied_over (shelf_seen (g.S.Shelf.files c.args.shelf.now) (g.S.Shelf.faults c.args.shelf.now)) before s new asked (merge_reply c.merge.result) tt c.merge.ensures)

pub returns-in-Queries : goal.returns-in-Queries
returns-in-Queries g c =
    let s : SitesSeen = record { first = c.self.inside.first; desks = c.self.inside.desks.items; sent = c.self.inside.outbox } in
    let before = messages_at (texts_of s) c.args.noted.now in
    let in_run = rw (c.in-Queries.is, ← c.self.view_is) at c.requires.in_run in
    let at = desk_read s c.in-Queries.desk c.index.result.now in_run.0 c.index.ensures in
    let reply = print_reply c.query.result (λ lines. lines.items) in
    let replied_so = replied_same s c.in-Queries.desk c.index.result.now at (λ i. query i c.in-Queries.text c.in-Queries.query) reply c.query.ensures.step in
    let asked = query c.in-Queries.desk c.in-Queries.text c.in-Queries.query in
    rw (c.in-Queries.is, ← c.self.view_is) (replied_over (shelf_seen (g.S.Shelf.files c.args.shelf.now) (g.S.Shelf.faults c.args.shelf.now)) before s s asked reply tt replied_so)

pub returns-in-AsksAt : goal.returns-in-AsksAt
returns-in-AsksAt g c =
    let s = c.args.self.now in
    let before = messages_at (texts_of s) c.args.noted.now in
    let new = c.query_at.new.self in
    let asked = query c.in-AsksAt.desk c.in-AsksAt.text (query_at c.in-AsksAt.side c.in-AsksAt.fronts) in
    let reply = print_reply c.query_at.result (λ lines. lines.items) in
    rw c.in-AsksAt.is (replied_over (shelf_seen (g.S.Shelf.files c.args.shelf.now) (g.S.Shelf.faults c.args.shelf.now)) before s new asked reply tt c.query_at.ensures)

pub returns-in-Keeps : goal.returns-in-Keeps
returns-in-Keeps g c =
    let s : SitesSeen = record { first = c.self-in-Keeps.inside.first; desks = c.self-in-Keeps.inside.desks.items; sent = c.self-in-Keeps.inside.outbox } in
    let before = messages_at (texts_of s) c.args.noted.now in
    let in_run = rw (c.in-Keeps.is, ← c.self-in-Keeps.view_is) at c.requires.in_run in
    let at = desk_read s c.in-Keeps.desk c.index-in-Keeps.result.now in_run.0 c.index-in-Keeps.ensures in
    let step = filed_same s c.in-Keeps.desk c.index-in-Keeps.result.now at before (λ i. ask i (keep c.in-Keeps.form c.in-Keeps.text c.in-Keeps.name.now)) c.keep.result
    (shelf_seen (g.S.Shelf.files c.args.shelf.now) (g.S.Shelf.faults c.args.shelf.now)) (shelf_seen (g.S.Shelf.files c.keep.new.shelf) (g.S.Shelf.faults c.keep.new.shelf)) tt (c.keep.ensures.step s.sent) in
    rw (c.in-Keeps.is, ← c.self-in-Keeps.view_is) step

pub returns-in-Reopens : goal.returns-in-Reopens
returns-in-Reopens g c =
    let s : SitesSeen = record { first = c.self-in-Reopens.inside.first; desks = c.self-in-Reopens.inside.desks.items; sent = c.self-in-Reopens.inside.outbox } in
    let before = messages_at (texts_of s) c.args.noted.now in
    let in_run = rw (c.in-Reopens.is, ← c.self-in-Reopens.view_is) at c.requires.in_run in
    let at = desk_read s c.in-Reopens.desk c.index_mut.result.now in_run.0 c.index_mut.ensures.value in
    let step = filed_step s c.in-Reopens.desk c.index_mut.result.now at before (λ i. ask i (reopen c.in-Reopens.text c.in-Reopens.name.now)) c.reopen.result c.reopen.new.self s.sent
    (shelf_seen (g.S.Shelf.files c.args.shelf.now) (g.S.Shelf.faults c.args.shelf.now)) (shelf_seen (g.S.Shelf.files c.reopen.new.shelf) (g.S.Shelf.faults c.reopen.new.shelf)) tt (c.reopen.ensures.step s.sent) in
    rw (c.in-Reopens.is, ← c.self-in-Reopens.view_is) step

pub returns-in-Arranges : goal.returns-in-Arranges
returns-in-Arranges g c =
    let s = c.args.self.now in
    let before = messages_at (texts_of s) c.args.noted.now in
    let new = c.arrange.new.self in
    let after = drop (length (before ++ s.sent)) (before ++ new.sent) in
    let asked = ask c.in-Arranges.desk (arrange c.in-Arranges.arrangement) in
    rw c.in-Arranges.is (replied_over (shelf_seen (g.S.Shelf.files c.args.shelf.now) (g.S.Shelf.faults c.args.shelf.now)) before s new asked (reply_of c.arrange.result after) tt (c.arrange.ensures after))

pub returns-in-Prints : goal.returns-in-Prints
returns-in-Prints g c =
    let s : SitesSeen = record { first = c.self-in-Prints.inside.first; desks = c.self-in-Prints.inside.desks.items; sent = c.self-in-Prints.inside.outbox } in
    let before = messages_at (texts_of s) c.args.noted.now in
    let in_run = rw (c.in-Prints.is, ← c.self-in-Prints.view_is) at c.requires.in_run in
    let at = desk_read s c.in-Prints.desk c.index-in-Prints.result.now in_run c.index-in-Prints.ensures in
    let reply = print_reply c.view.result (λ lines. lines.items) in
    let replied_so = replied_same s c.in-Prints.desk c.index-in-Prints.result.now at (λ i. ask i (print c.in-Prints.view)) reply c.view.ensures.step in
    let asked = ask c.in-Prints.desk (print c.in-Prints.view) in
    rw (c.in-Prints.is, ← c.self-in-Prints.view_is) (replied_over (shelf_seen (g.S.Shelf.files c.args.shelf.now) (g.S.Shelf.faults c.args.shelf.now)) before s s asked reply tt replied_so)

pub returns-in-Keys : goal.returns-in-Keys
returns-in-Keys g c =
    let s = c.args.self.now in
    let before = messages_at (texts_of s) c.args.noted.now in
    let new = c.key.new.self in
    let asked = ask c.in-Keys.desk (insert_at_caret (plain_items c.in-Keys.bytes)) in
    rw c.in-Keys.is (edited_over (shelf_seen (g.S.Shelf.files c.args.shelf.now) (g.S.Shelf.faults c.args.shelf.now)) before s new asked c.key.result tt c.key.ensures)

pub returns-in-Clicks : goal.returns-in-Clicks
returns-in-Clicks g c =
    let s : SitesSeen = record { first = c.self-in-Clicks.inside.first; desks = c.self-in-Clicks.inside.desks.items; sent = c.self-in-Clicks.inside.outbox } in
    let before = messages_at (texts_of s) c.args.noted.now in
    let in_run = rw (c.in-Clicks.is, ← c.self-in-Clicks.view_is) at c.requires.in_run in
    let at = desk_read s c.in-Clicks.desk c.index_mut-in-Clicks.result.now in_run c.index_mut-in-Clicks.ensures.value in
    let step = filed_step s c.in-Clicks.desk c.index_mut-in-Clicks.result.now at before (λ i. click i c.in-Clicks.cell.col c.in-Clicks.cell.row) c.click-outcome.result c.click-outcome.new.self c.click-outcome.new.outbox
    (shelf_seen (g.S.Shelf.files c.args.shelf.now) (g.S.Shelf.faults c.args.shelf.now)) (shelf_seen (g.S.Shelf.files c.click-outcome.new.shelf) (g.S.Shelf.faults c.click-outcome.new.shelf)) tt c.click-outcome.ensures.step in
    rw (c.in-Clicks.is, ← c.self-in-Clicks.view_is) step
