use Rattle.std.proofs.Common.{option_map}
use Rattle.script_events.proofs.ReadFronts.{IsLeft}
use Rattle.script_events.proofs.ReadWords.{steps_left}
use Rattle.script_events.proofs.front_words.has_front.Given as goal

abbrev pub invariant-loop-rest : goal.invariant-loop-rest
invariant-loop-rest l = IsLeft (option_map (λ words. words.now) l.words) (option_map (λ words. words.now) l.rest) l.site

abbrev pub decreases-loop-rest : goal.decreases-loop-rest
decreases-loop-rest l = steps_left (option_map (λ words. words.now) l.rest)
