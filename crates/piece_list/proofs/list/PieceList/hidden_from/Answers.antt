use Rattle.std.proofs.Common.{◌≡◌, ℕ, ◌+◌, ◌-◌, ◌<◌, ◌≤◌, Contains, ap, sym, subst, arith, ◌∙◌}
use Rattle.char_files.specs.declared.TheConstants.{MAX_FILE}
use Rattle.piece_list.specs.Piece.{Piece}
use Rattle.piece_list.specs.Held.{HeldPieces, PiecesSeen, IsSpotOf}
use Rattle.operations.specs.NameSet.{IsIn}
use Rattle.piece_list.specs.Spelled.{spelled}
use Rattle.piece_list.proofs.ChangedNames.{range}
use Rattle.piece_list.proofs.HiddenNames.{ends_after, end_fits, alike}
use Rattle.piece_list.proofs.Positions.{Items}
use Rattle.piece_list.proofs.list.PieceList.hidden_from.Goals as goal
use Rattle.piece_list.proofs.list.PieceList.hidden_from.Goals.{After-len, In-Some}

-- the name's spot, in the ring
at : (c : In-Some) → IsSpotOf c.pieces.inside.ring.items c.in-Some.spot c.args.name
at c =
    rw (← c.pieces.view_is) at c.in-Some.ensures.spot

-- where the piece ends
end : (c : After-len) → c.off.result + c.len.result ≡ c.piece_at-piece.result.off + c.piece_at-piece.result.len
end c = omega (arith, c.off.ensures, c.len.ensures)

pub overflow_add-result : goal.overflow_add-result
overflow_add-result c =
    let p : Piece = c.piece_at-piece.result in
    let fits : p.off + p.len ≤ MAX_FILE =
    end_fits c.pieces.inside.ring.items c.pieces.inside.tags c.pieces.invariant.numbered c.pieces.invariant.entered
    c.in-Some.spot c.args.name p (at (goal.at.overflow_add-result c).In-Some) c.piece_at-piece.ensures in
    omega (arith, fits, c.off.ensures, c.len.ensures)

pub returns-clause-some : goal.returns-clause-some
returns-clause-some c =
    subst (λ (n : ℕ). c.args.name.off < n) (sym (end (goal.at.returns-clause-some c).After-len))
    (ends_after c.pieces.inside.ring.items c.pieces.inside.tags c.pieces.invariant.numbered c.pieces.invariant.entered
    c.in-Some.spot c.args.name c.piece_at-piece.result (at (goal.at.returns-clause-some c).In-Some)
    c.piece_at-piece.ensures)

pub returns-clause-alike : goal.returns-clause-alike
returns-clause-alike c = λ k has named.
    let items : Items = c.pieces.inside.ring.items in
    let seen : items ≡ c.args.self.now.items =
    ap (λ (v : HeldPieces). v.items) c.pieces.view_is ∙ ap (λ (v : PiecesSeen). v.items) c.self.view_is in
    alike items c.pieces.inside.tags c.pieces.invariant.numbered c.pieces.invariant.entered c.in-Some.spot c.args.name
    c.piece_at-piece.result (at (goal.at.returns-clause-alike c).In-Some) c.piece_at-piece.ensures k
    (subst (λ (l : Items). Contains (spelled l) k) (sym seen) has)
    (subst (λ (n : ℕ). IsIn (range c.args.name.site c.args.name.off (n - c.args.name.off)) k.name)
    (end (goal.at.returns-clause-alike c).After-len) named)
    ∙ sym c.is_hidden.ensures
