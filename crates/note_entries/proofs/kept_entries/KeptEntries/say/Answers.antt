use Rattle.std.proofs.Common.{refl}
use Rattle.note_entries.proofs.Coming.{on_saying}
use Rattle.note_entries.proofs.Holding.{all_with_saying}
use Rattle.note_entries.proofs.kept_entries.KeptEntries.say.Goals as goal

pub returns-clause-kept : goal.returns-clause-kept
returns-clause-kept c =
    rw (← c.self.view_is) (on_saying c.say.result c.args.saying _ _ c.say.ensures.ok refl)

pub returns-clause-places : goal.returns-clause-places
returns-clause-places c =
    rw (← c.self.view_is) (all_with_saying c.say.result c.args.saying _ _ c.say.ensures.ok)
