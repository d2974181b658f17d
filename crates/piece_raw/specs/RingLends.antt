-- What a ring ends as, once a `&mut` to a member's value has ended.
use Rattle.std.specs.Borrow.{Fml, RattleType, MutBor, Lends}
use Rattle.piece_raw.specs.Ring.{Ring, ring, with_value_at}
use Rattle.piece_raw.specs.contracts.ring.Ring.{the_row}

-- the member at the cursor has the last value written through r
abbrev pub lends_value : (T : RattleType) → MutBor (Ring T.Denot) → MutBor T.Denot → Fml
lends_value T s r = Lends (the_row T) T s r (λ w. ring (with_value_at s.now.cursor w s.now.items)
    s.now.cursor s.now.room)
