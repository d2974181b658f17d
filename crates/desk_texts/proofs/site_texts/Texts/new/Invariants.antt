use Rattle.std.proofs.Common.{◌≡◌, ◌-◌, map}
use Rattle.std.specs.List.{range_with_len}
use Rattle.texts.specs.TextState.{empty_text}
use Rattle.desk_texts.proofs.site_texts.Texts.new.Given as goal

abbrev pub invariant-loop-number : goal.invariant-loop-number
invariant-loop-number l = l.texts.items ≡ map (λ number. empty_text number l.site) (range_with_len 1 (l.number - 1))
