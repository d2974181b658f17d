use Rattle.std.proofs.Common.{◌≡◌, ◌++◌, List, take}
use Rattle.script_sites.specs.Seen.{texts_of}
use Rattle.script_sites.specs.Sent.{AreSentOperations, messages_at}
use Rattle.script_sites.specs.declared.sent_at.SentAt.{SentAt}
use Rattle.script_sites.proofs.desks.Desks.note_each.Given as goal

abbrev pub invariant-loop-index : goal.invariant-loop-index
invariant-loop-index l = (more : List SentAt) × (l.noted.items ≡ l.fn.noted.items ++ more) × AreSentOperations (texts_of l.self) more
    × (messages_at (texts_of l.self) more ≡ take l.index l.self.sent)
