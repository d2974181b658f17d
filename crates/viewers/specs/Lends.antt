-- What a screen ends as, where a `&mut` to contents is returned.
use Rattle.std.specs.Prelude.{ℕ, List, Option}
use Rattle.std.specs.Borrow.{Array, Fml, Lends, LendsIf, MutBor, RattleType}
use Rattle.viewers.specs.Viewers.{ViewersSeen, with_content, with_contents}
use Rattle.viewers.specs.contracts.screen.Screen.{the_row}

module _ (C : RattleType) (s : MutBor (ViewersSeen C.Denot)) where
  -- the viewer shows the last value written through r; without one, all is as it was
  abbrev pub lends_content : ℕ → Option (MutBor C.Denot) → Fml
  lends_content v r = LendsIf (the_row C) C s r (with_content s.now v) s.now

  -- the viewers show the last values written through r
  abbrev pub lends_contents : MutBor (List C.Denot) → Fml
  lends_contents r = Lends (the_row C) (Array C 0) s r (with_contents s.now)
