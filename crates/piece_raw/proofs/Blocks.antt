-- What `allocate` and `deallocate` share: a block is cut into its four fields, and made of them again.
-- Assumes `Logic`.
use Prim.Native.Nat.{ℕ, ◌+◌}
use mathlib.Core.List.{[], ◌∷◌}
use seplogic.Ra.Ura.{Ura}
use mir.Syntax.{Ty, Tys, Sym, Args, a_type, ty_ptr, ty_struct, tcons, tnil, dcons, dnil}
use base.Logic.{SProp, ent, sep, wand, apply∗}
use base.Fml.{Fml, ftrue, fwand, froom}
use prog.Model.{rooms_at}
use types.Logic.{Logic, sem}
use types.Kit.{‵, raw, ◌⊛◌, ◌$◌, ◌∵◌, !, qed, by, move, drop, use1, use2, group, split, split3, assume}
use types.Kit.{fsplit, fjoin, done}
use denote.RattleType.{RattleType}
use denote.Param.{param, layout, bounded}
use denote.RawPtr.{Ptr, block_ptr, room_for}
use denote.Steps.{nothing}
use Rattle.std.proofs.alloc.Calls.{Al}
use Rattle.std.proofs.RawLayout.{as_raw, as_written}
use Rattle.piece_raw.specs.Ownership.{node_type, room_owns}
use Rattle.piece_raw.specs.contracts.block.Node as N-type
use Rattle.piece_raw.specs.contracts.block.Deed as D-type
use Rattle.piece_raw.specs.contracts.block.Block as B-type
use Rattle.piece_raw.proofs.Memory.{Of, RV, vo}

module _ (E : Of) (Z : Al) where
  abbrev pub args : Args
  args = bounded (a_type ∷ a_type ∷ []) (E.row, (Z.row, tt)) (dcons Z.d (dcons Z.drops dnil))

  abbrev pub RA : RattleType
  RA = param 1 Z.row

  abbrev pub Dd : RattleType
  Dd = D-type.the_row (RV E) RA Z.g

  abbrev pub Bl : RattleType
  Bl = B-type.the_row (RV E) RA Z.g

module _ (E : Of) where
  -- the node's type as the code writes it, and as the allocator is asked for it
  abbrev pub written : Ty
  written = layout (N-type.the_row (RV E))

  abbrev pub block : Ty
  block = node_type (RV E)

  abbrev pub Rejoins : Ptr → Fml
  Rejoins p = fwand (room_owns (RV E) p) (room_for block p)

module _ (E : Of) {M : Type 1} {𝓤 : Ura M} (𝓛 : Logic 𝓤) (b o : ℕ) where
  open 𝓛 use {H}

  abbrev ν : Sym
  ν = (N-type.the_type (RV E)).name

  abbrev fields : Tys
  fields = tcons ty_ptr (tcons ty_ptr (tcons (layout E.row) tnil))

  abbrev Joins : SProp 𝓤
  Joins = wand 𝓤 (rooms_at 𝓤 H fields 0 b o) (H.room (ty_struct ν fields) b o)

  rejoins : ent 𝓤 Joins (sem 𝓛 (Rejoins E (block_ptr b o)))
  rejoins =
      qed 𝓛 (raw Joins ∷ []) ∵ assume ! (‵ (room_owns (RV E) (block_ptr b o))) $ fsplit ! $ fsplit ! $
      move ! (2 ∷ []) $
      as_written ! (layout E.row) b (o + vo E) $ nothing ! $ move ! (2 ∷ 3 ∷ 1 ∷ 0 ∷ []) $ group ! 4 $
      use2 𝓛 (‵ (froom (ty_struct ν fields) b o)) (apply∗ 𝓤 (rooms_at 𝓤 H fields 0 b o)
      (H.room (ty_struct ν fields) b o)) $ by ! (𝓛.laws.room-raw (ty_struct ν fields) b o)

  pub block_split : ent 𝓤 (H.room (block E) b o) (sep 𝓤 (sem 𝓛 (room_owns (RV E) (block_ptr b o)))
      (sem 𝓛 (Rejoins E (block_ptr b o))))
  block_split =
      qed 𝓛 (‵ (froom (block E) b o) ∷ []) ∵ as_written ! (ty_struct ν fields) b o $
      use1 𝓛 ((‵ (froom ty_ptr b (o + 0)) ⊛ ‵ (froom ty_ptr b (o + 8)) ⊛ ‵ (froom (layout E.row)
      b (o + vo E)) ⊛ ‵ ftrue) ⊛ raw Joins)
      (𝓛.laws.room_fields ν fields b o) $ split ! $ split3 ! $ fjoin ! $ move ! (1 ∷ []) $ split ! $
      move ! (1 ∷ []) $ drop ! $
      as_raw ! (layout E.row) b (o + vo E) $ move ! (1 ∷ 0 ∷ []) $ fjoin ! $
      move ! (1 ∷ []) $ use1 𝓛 (‵ (Rejoins E (block_ptr b o))) rejoins $ move ! (1 ∷ []) $ done !

  pub block_glue : ent 𝓤 (sep 𝓤 (sem 𝓛 (room_owns (RV E) (block_ptr b o)))
      (sem 𝓛 (Rejoins E (block_ptr b o)))) (H.room (block E) b o)
  block_glue = apply∗ 𝓤 (sem 𝓛 (room_owns (RV E) (block_ptr b o))) (H.room (block E) b o)
