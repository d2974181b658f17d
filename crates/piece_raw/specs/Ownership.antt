-- What each part of a ring owns and lends, at values of the row V.
use Rattle.std.specs.Prelude.{ℕ, List, [], ◌∷◌, ◌++◌}
use base.Fraction.{full_share}
use base.Fml.{Lft, Fml, ftrue, fsep, fwand}
use mir.Syntax.{Ty, ty_ptr, ty_struct, tcons, tnil}
use mir.Raw.{raw}
use prog.Memory.{align, up}
use denote.RattleType.{RattleType}
use denote.Memory.{lone}
use denote.Sharing.{nothing, beside}
use denote.RawPtr.{Ptr, RawPtr, lies_at, room_for, ◌+ₚ◌}
use denote.Struct.Lending.{lent_at}
use Rattle.piece_raw.specs.Linked.{Linked, places}

-- where the two pointers lie in the node at p
abbrev pub prev_of : Ptr → Ptr
prev_of p = p +ₚ 0

abbrev pub next_of : Ptr → Ptr
next_of p = p +ₚ 8

-- room for the two
abbrev pub link_room : Ptr → Fml
link_room p = fsep (room_for ty_ptr (prev_of p)) (room_for ty_ptr (next_of p))

-- a points forward to b, and b back to a
abbrev pub edge : Ptr → Ptr → Fml
edge a b = fsep (lies_at RawPtr full_share (next_of a) b) (lies_at RawPtr full_share (prev_of b) a)

-- the edges from a through the nodes at ps
abbrev pub path : Ptr → List Ptr → Fml
path a [] = ftrue
path a (p ∷ ps) = fsep (edge a p) (path p ps)

abbrev pub edge_lent : Ptr → Ptr → Lft → Fml
edge_lent a b = beside (lent_at RawPtr (next_of a) b) (lent_at RawPtr (prev_of b) a)

abbrev pub path_lent : Ptr → List Ptr → Lft → Fml
path_lent a [] = nothing
path_lent a (p ∷ ps) = beside (edge_lent a p) (path_lent p ps)

module _ (V : RattleType) where
  -- the type of `Node`, as the machine sees it
  abbrev pub node_type : Ty
  node_type = ty_struct [] (tcons ty_ptr (tcons ty_ptr (tcons (raw (lone V.mir)) tnil)))

  abbrev pub value_offset : ℕ
  value_offset = up (align (lone V.mir)) 16

  abbrev pub value_of : Ptr → Ptr
  value_of p = p +ₚ value_offset

  -- room for the value
  abbrev pub value_room : Ptr → Fml
  value_room p = room_for (raw (lone V.mir)) (value_of p)

  abbrev pub room_owns : Ptr → Fml
  room_owns p = fsep (link_room p) (value_room p)

  -- the allocator's token, and that the three empty fields make the whole block
  abbrev pub deed_owns : (Ty → Ptr → Fml) → Ptr → Fml
  deed_owns token p = fsep (token node_type p) (fwand (room_owns p) (room_for node_type p))

  abbrev pub value_owns : Ptr → V.Denot → Fml
  value_owns p v = lies_at V full_share (value_of p) v

  abbrev pub detached_owns : Ptr → V.Denot → Fml
  detached_owns p v = fsep (link_room p) (value_owns p v)

  abbrev pub values_own : List (Linked V.Denot) → Fml
  values_own [] = ftrue
  values_own (n ∷ ns) = fsep (value_owns n.at n.value) (values_own ns)

  abbrev pub links_own : Linked V.Denot → List (Linked V.Denot) → Fml
  links_own t ns = fsep (path t.at (places ns ++ t.at ∷ [])) (values_own (t ∷ ns))

  abbrev pub value_lent : Linked V.Denot → Lft → Fml
  value_lent n = lent_at V (value_of n.at) n.value

  abbrev pub values_lent : List (Linked V.Denot) → Lft → Fml
  values_lent [] = nothing
  values_lent (n ∷ ns) = beside (value_lent n) (values_lent ns)

  abbrev pub links_lent : Linked V.Denot → List (Linked V.Denot) → Lft → Fml
  links_lent t ns = beside (path_lent t.at (places ns ++ t.at ∷ [])) (values_lent (t ∷ ns))
