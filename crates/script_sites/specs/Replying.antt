-- Replies as the code has them, seen as the machine's.
use Rattle.std.specs.Prelude.{ℕ, List}
use Rattle.machine.specs.Events.{Reply as Replied, edit_reply, merge_reply, settles, take_reply, unpack_reply}
use Rattle.commands.specs.Steps.{answer_reply, done_reply, open_reply, print_reply}
use Rattle.script_sites.specs.declared.reply.Reply.{Reply}
use Rattle.script_sites.specs.declared.reply.Reply.TheVariants.{Arranged, Commanded, Edited, Merged, Opened, Printed, Settled}
use Rattle.script_sites.specs.declared.reply.Reply.TheVariants.{Taken, Unpacked}

-- what was replied, with these messages
abbrev pub reply_of : Reply → List (List ℕ) → Replied
reply_of (Edited outcome) messages = edit_reply outcome messages
reply_of (Taken outcome) messages = take_reply outcome
reply_of (Unpacked outcome) messages = unpack_reply outcome
reply_of (Settled settled) messages = settles settled.drained settled.dropped settled.stopped
reply_of (Merged outcome) messages = merge_reply outcome
reply_of (Printed outcome) messages = print_reply outcome (λ lines. lines.items)
reply_of (Opened outcome) messages = open_reply outcome
reply_of (Arranged outcome) messages = done_reply outcome
reply_of (Commanded outcome) messages = answer_reply outcome messages
