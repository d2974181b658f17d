use Rattle.std.proofs.Common.{sym, subst, arith}
use Rattle.operations.specs.NameSet.{IsIn}
use Rattle.piece_list.specs.Piece.{Piece}
use Rattle.piece_list.specs.Held.{HeldPieces}
use Rattle.piece_list.specs.Pieces.{range_of}
use Rattle.piece_list.specs.Spelled.{spelled, HasName}
use Rattle.piece_list.proofs.Edges.{entered_holds}
use Rattle.piece_list.proofs.Found.{no_some, not_entered}
use Rattle.piece_list.proofs.Positions.{Items}
use Rattle.piece_list.proofs.list.pieces.Pieces.locate.Goals as goal
use Rattle.piece_list.proofs.list.pieces.Pieces.locate.Goals.{Then-not-compare}

pub returns-in_err-tag-clause-here : goal.returns-in_err-tag-clause-here
returns-in_err-tag-clause-here c = (
  λ some. absurd (no_some c.from_residual.result c.from_residual.ensures some),
  λ has. absurd (not_entered c.self.inside.ring.items c.self.inside.tags c.self.invariant.entered c.args.name
      (sym c.in_err-tag.ensures) (subst (λ (h : HeldPieces). HasName (spelled h.items) c.args.name) (sym c.self.view_is) has)),
)

-- what is entered is spelled, so that a name that is compared is found
is_found : (c : Then-not-compare) → ⊥
is_found c =
    let items : Items = c.self.inside.ring.items in
    let p : Piece = c.piece_at-piece.result in
    let held : IsIn (range_of p) c.args.name =
    entered_holds items c.self.inside.tags c.self.invariant.numbered c.self.invariant.entered c.args.name
    (c.self.invariant.entered.known c.args.name c.in_ok-tag.tag (sym c.in_ok-tag.ensures)) c.in_ok-tag.tag p
    c.piece_at-piece.ensures (sym c.in_ok-tag.ensures) in
    let yes = c.compare.ensures.value.1 held in
    grind (arith, yes, c.if-not-compare.true)

pub returns-then-not-compare-clause-here : goal.returns-then-not-compare-clause-here
returns-then-not-compare-clause-here c = absurd (is_found c)

pub returns-then-not-compare-clause-uncounted : goal.returns-then-not-compare-clause-uncounted
returns-then-not-compare-clause-uncounted c = absurd (is_found c)
