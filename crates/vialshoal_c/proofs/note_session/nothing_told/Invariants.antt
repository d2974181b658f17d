use Rattle.std.proofs.Common.{◌≡◌, [], length, map, replicate}
use Rattle.vialshoal_c.proofs.note_session.nothing_told.Given as goal

abbrev pub invariant-loop : goal.invariant-loop
invariant-loop l = record {
  many : length l.told.items ≡ l.counter;
  none : map (λ changes. changes.items) l.told.items ≡ replicate l.counter [];
}
