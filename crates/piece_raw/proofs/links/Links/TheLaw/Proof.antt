-- A `&` to the links reaches each pointer and value. Assumes `Logic`.
use mathlib.Core.List.{[], ◌++◌}
use base.Fml.{Incl-trans}
use contract.BorrowLft.{meet_⊑_left}
use denote.RattleType.{RattleType}
use denote.RawPtr.{RawPtr}
use denote.Param.Laws.{Laws}
use denote.Param.Shared.{copy_shared}
use denote.Struct.Laws.{field_copy}
use denote.Struct.Lending.{of_Lends}
use Rattle.std.specs.contracts.marker.PhantomData as marker
use Rattle.piece_raw.specs.contracts.links.Links as C
use Rattle.piece_raw.proofs.links.Links.TheLaw.Statement.{statement}
use Rattle.piece_raw.proofs.Sharing.{links_lent_laws, Lends-links}

pub shares : (V : RattleType) (N : Laws V) → statement V N
shares V N = of_Lends (C.struct V) (C.the_codes V.Denot V.coded (marker.the_row RawPtr).coded) (C.the_heap V)
    (C.the_lent V)
    (λ d p. links_lent_laws V N.shr_laws d.trailer d.nodes) (
      copy_shared (marker.the_field RawPtr)
          (field_copy (marker.the_type RawPtr) tt),
      tt,
    )
    (λ M 𝓤 𝓛 d p.
    Lends-links 𝓛 (C.the_row V).lives V N (Incl-trans (meet_⊑_left (V.lives ++ []) _)
    (meet_⊑_left V.lives [])) d.trailer d.nodes)
