use Rattle.std.proofs.Common.{option_map}
use Rattle.script_events.specs.FrontWords.{fronts_in}
use Rattle.script_events.proofs.ReadWords.{IsReadTo, steps_left}
use Rattle.script_events.proofs.front_words.FrontWords.new.Given as goal

abbrev pub invariant-loop-rest : goal.invariant-loop-rest
invariant-loop-rest l = IsReadTo fronts_in (option_map (λ words. words.now) l.words) (option_map (λ words. words.now) l.rest)

abbrev pub decreases-loop-rest : goal.decreases-loop-rest
decreases-loop-rest l = steps_left (option_map (λ words. words.now) l.rest)
