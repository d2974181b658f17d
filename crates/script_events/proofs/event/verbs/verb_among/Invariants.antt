use Rattle.std.proofs.Common.{◌≡◌}
use Rattle.script_events.proofs.Verbs.{among}
use Rattle.script_events.proofs.event.verbs.verb_among.Given as goal

-- the rows that are left have the verb that all have
abbrev pub invariant-loop-spelled : goal.invariant-loop-spelled
invariant-loop-spelled l = among l.rows l.spelled-index l.word ≡ among l.rows 0 l.word
