use Rattle.std.proofs.Common.{[]}
use Rattle.taken_text.proofs.Nothing.{nothing_is_taken}
use Rattle.taken_text.proofs.Noting.{since_now}
use Rattle.taken_text.proofs.taken_text.TakenText.new.Goals as goal

pub invariant_of-result : goal.invariant_of-result
invariant_of-result c =
    rw (c.new.ensures, c.in_ok-new.ensures.ok, c.new-3.ensures, c.new-4.ensures.items)
    (record { taken = nothing_is_taken; noted = since_now [] [] [] nothing_is_taken })
