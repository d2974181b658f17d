use Rattle.std.proofs.Common.{◌≡◌, ◌+◌, length}
use Rattle.text_file.proofs.Filled.{Goes}
use Rattle.text_file.proofs.loading.text_of.Given as goal

-- what is in the text, and what is left, are all
abbrev pub invariant-loop-head : goal.invariant-loop-head
invariant-loop-head l = record {
  len : length l.text + length l.left ≡ length l.chars;
  goes : Goes l.heads l.chars l.text l.rest l.left;
}

abbrev pub decreases-loop-head : goal.decreases-loop-head
decreases-loop-head l = length l.rest
