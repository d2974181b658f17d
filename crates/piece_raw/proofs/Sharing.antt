-- A `&` to the links is made where one to a value is. Assumes `Logic`.
use mathlib.Core.List.{List, [], ◌∷◌, ◌++◌}
use seplogic.Ra.Ura.{Ura}
use base.Fraction.{full_share}
use base.Fml.{Lft, Incl, ftrue}
use contract.BorrowLft.{⊑_static}
use types.Logic.{Logic}
use denote.RattleType.{RattleType, RowLaws}
use denote.Param.Laws.{Laws}
use denote.Param.Shared.{copy_shared}
use denote.RawPtr.{Ptr, RawPtr, lies_at, ptr_row_laws}
use denote.Sharing.{ShrLaws}
use denote.SharingLaws.{beside_shr_laws, nothing_shr_laws}
use denote.Shares.{Shares-less}
use denote.Struct.Field.{RawPtr-field}
use denote.Struct.Laws.{RawPtr-copy}
use denote.Struct.Lending.{Lends, lent_at, lent_at_shr_laws, Lends-lies, Lends-both, Lends-nothing}
use Rattle.piece_raw.specs.Linked.{Linked, places}
use Rattle.piece_raw.specs.Ownership.{prev_of, next_of, edge, path, edge_lent, path_lent, value_of}
use Rattle.piece_raw.specs.Ownership.{value_owns, values_own, links_own, value_lent, values_lent, links_lent}

path_lent_laws : (a : Ptr) (ps : List Ptr) → ShrLaws (path_lent a ps)
path_lent_laws a [] = nothing_shr_laws
path_lent_laws a (p ∷ ps) = beside_shr_laws _ _ (beside_shr_laws _ _ (lent_at_shr_laws RawPtr ptr_row_laws
    (next_of a) p) (lent_at_shr_laws RawPtr ptr_row_laws (prev_of p) a)) (path_lent_laws p ps)

module _ (V : RattleType) (LV : RowLaws V) where
  values_lent_laws : (ns : List (Linked V.Denot)) → ShrLaws (values_lent V ns)
  values_lent_laws [] = nothing_shr_laws
  values_lent_laws (n ∷ ns) = beside_shr_laws _ _ (lent_at_shr_laws V LV (value_of V n.at) n.value)
      (values_lent_laws ns)

  pub links_lent_laws : (t : Linked V.Denot) (ns : List (Linked V.Denot)) → ShrLaws (links_lent V t ns)
  links_lent_laws t ns = beside_shr_laws _ _ (path_lent_laws t.at (places ns ++ t.at ∷ []))
      (values_lent_laws (t ∷ ns))

module _ {M : Type 1} {𝓤 : Ura M} (𝓛 : Logic 𝓤) (l : Lft) where
  pointer : (p x : Ptr) → Lends 𝓛 (lies_at RawPtr full_share p x) (lent_at RawPtr p x) l
  pointer p x = Lends-lies 𝓛 RawPtr l p x (Shares-less 𝓛 RawPtr [] l (⊑_static l)
      ((copy_shared RawPtr-field RawPtr-copy).shares M 𝓤 𝓛) x)

  Lends-path : (a : Ptr) (ps : List Ptr) → Lends 𝓛 (path a ps) (path_lent a ps) l
  Lends-path a [] = Lends-nothing 𝓛 ftrue l
  Lends-path a (p ∷ ps) =
      Lends-both 𝓛 (edge a p) (path p ps) (edge_lent a p) (path_lent p ps) l
      (Lends-both 𝓛 _ _ (lent_at RawPtr (next_of a) p) (lent_at RawPtr (prev_of p) a) l (pointer (next_of a)
      p) (pointer (prev_of p) a)) (Lends-path p ps)

  module _ (V : RattleType) (LV : Laws V) (inc : Incl l V.lives) where
    Lends-values : (ns : List (Linked V.Denot)) → Lends 𝓛 (values_own V ns) (values_lent V ns) l
    Lends-values [] = Lends-nothing 𝓛 ftrue l
    Lends-values (n ∷ ns) = Lends-both 𝓛 (value_owns V n.at n.value) (values_own V ns) (value_lent V n)
        (values_lent V ns) l (Lends-lies 𝓛 V l (value_of V n.at)
        n.value (Shares-less 𝓛 V V.lives l inc (LV.shares 𝓛) n.value)) (Lends-values ns)

    pub Lends-links : (t : Linked V.Denot) (ns : List (Linked V.Denot)) →
        Lends 𝓛 (links_own V t ns) (links_lent V t ns) l
    Lends-links t ns =
        let ps = places ns ++ t.at ∷ [] in
        Lends-both 𝓛 (path t.at ps) (values_own V (t ∷ ns)) (path_lent t.at ps) (values_lent V (t ∷ ns))
        l (Lends-path t.at ps) (Lends-values (t ∷ ns))
