use Rattle.std.proofs.Common.{◌≡◌, ◌++◌, option_map}
use Rattle.std.specs.Prelude.{vec_capacity}
use Rattle.script_events.specs.FrontWords.{fronts_in}
use Rattle.script_events.proofs.ReadWords.{IsDecodedTo, steps_left}
use Rattle.script_events.proofs.front_words.FrontWords.decode.Given as goal

abbrev pub invariant-loop-rest : goal.invariant-loop-rest
invariant-loop-rest l =
    IsDecodedTo fronts_in (l.fn.out.items ++ l.fn.self) l.out.items (option_map (λ words. words.now) l.rest)
    × (vec_capacity l.out ≡ vec_capacity l.fn.out)

abbrev pub decreases-loop-rest : goal.decreases-loop-rest
decreases-loop-rest l = steps_left (option_map (λ words. words.now) l.rest)
