-- What the links end as, once a `&mut` to a value has ended.
use Rattle.std.specs.Borrow.{Fml, RattleType, MutBor, Lends}
use mathlib.Core.Path.{sym, subst}
use mathlib.Core.List.{◌∷◌}
use denote.RawPtr.{Ptr}
use Rattle.piece_raw.specs.Linked.{IsApart, set_value, places-set_value}
use Rattle.piece_raw.specs.declared.links.Links.{Links}
use Rattle.piece_raw.specs.contracts.links.Links.{the_row}

-- the same links with w as the value of the node at p
abbrev pub with_value : {V : Type 0} → Links V → Ptr → V → Links V
with_value l p w = record {
  mark = l.mark;
  trailer = l.trailer;
  nodes = set_value p w l.nodes;
  apart =
      subst (λ ps. IsApart (l.trailer.at ∷ ps)) (sym (places-set_value p w l.nodes)) l.apart;
}

abbrev pub lends_value : (V : RattleType) → MutBor (Links V.Denot) → Ptr → MutBor V.Denot → Fml
lends_value V l p r = Lends (the_row V) V l r (with_value l.now p)
