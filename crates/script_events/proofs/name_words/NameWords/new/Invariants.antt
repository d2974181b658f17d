use Rattle.std.proofs.Common.{Some, option_map}
use Rattle.script_events.proofs.ReadNames.{names_left}
use Rattle.script_events.proofs.ReadWords.{IsReadTo, steps_left}
use Rattle.script_events.proofs.name_words.NameWords.new.Given as goal

abbrev pub invariant-loop-rest : goal.invariant-loop-rest
invariant-loop-rest l = IsReadTo names_left (Some l.words) (option_map (λ words. words.now) l.rest)

abbrev pub decreases-loop-rest : goal.decreases-loop-rest
decreases-loop-rest l = steps_left (option_map (λ words. words.now) l.rest)
