use Rattle.std.proofs.Common.{◌≡◌, take}
use Rattle.text_file.proofs.Cuts.{InLooks}
use Rattle.text_file.proofs.storing.copy_of.Given as goal

-- the characters so far
abbrev pub invariant-loop-pos : goal.invariant-loop-pos
invariant-loop-pos g l = record {
  so_far : l.text ≡ take l.pos (g.S.Source.items l.source);
  looks : InLooks l.text;
}
