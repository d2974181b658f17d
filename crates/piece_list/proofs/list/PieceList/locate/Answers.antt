use Rattle.std.proofs.Common.{◌↔◌, subst}
use Rattle.std.specs.Prelude.{IfSome, IsSome}
use Rattle.piece_list.specs.Held.{PiecesSeen, IsSpotOf}
use Rattle.piece_list.specs.Spelled.{spelled, HasName}
use Rattle.piece_list.proofs.list.PieceList.locate.Goals as goal

pub returns-clause-spot : goal.returns-clause-spot
returns-clause-spot c =
    subst (λ (v : PiecesSeen). IfSome c.locate.result (λ spot. IsSpotOf v.items spot c.args.name)) c.self.view_is
    c.locate.ensures.spot

pub returns-clause-here : goal.returns-clause-here
returns-clause-here c =
    subst (λ (v : PiecesSeen). IsSome c.locate.result ↔ HasName (spelled v.items) c.args.name) c.self.view_is
    c.locate.ensures.here
