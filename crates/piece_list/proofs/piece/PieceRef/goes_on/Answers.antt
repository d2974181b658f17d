use Rattle.std.proofs.Common.{◌≡◌, ◌+◌, ◌≤◌, sym, ◌∙◌, arith}
use Rattle.piece_list.specs.declared.piece.TheConstants.{MAX_PIECE}
use Rattle.piece_list.specs.declared.record.PieceRecord.{PieceRecord}
use Rattle.piece_list.specs.declared.run.Run.{Run}
use Rattle.piece_list.specs.Pieces.{longer, piece_of, rest_of}
use Rattle.piece_list.specs.Values.{FollowsIn, Values, piece_in}
use Rattle.piece_list.proofs.Recorded.{follows_back, follows_there, looks_alike, same_looks}
use Rattle.piece_list.proofs.piece.PieceRef.goes_on.Goals as goal

pub returns-clause-on : goal.returns-clause-on
returns-clause-on c = λ yes.
    let v : Values = c.self.inside.values.now.values in
    let r : PieceRecord = c.self.inside.record.now in
    let run : Run = c.args.run.now in
    let follows : FollowsIn r run = c.is_followed_by.ensures.0 c.if-not-is_followed_by.false in
    let same : c.inserted_with.result.now ≡ run.looks =
    same_looks c.inserted_with.result.now run.looks (sym c.eq.ensures ∙ yes) in
    let there : piece_of run ≡ rest_of r.len (longer run.len (piece_in v r)) =
    follows_there v r run follows (sym c.inserted_with.ensures ∙ same) in
    let fits : r.len + run.len ≤ MAX_PIECE = omega (arith, c.from.ensures, c.if-from-run-gt-MAX_PIECE.false) in
    rw (← c.self.view_is) (there, fits)

pub returns-clause-otherwise : goal.returns-clause-otherwise
returns-clause-otherwise c = λ no rises goes.
    let there = rw (← c.self.view_is) at goes in
    let back = follows_back c.self.inside.values.now.values c.self.inside.record.now c.args.run.now rises there.0 in
    no (c.eq.ensures ∙ looks_alike c.inserted_with.result.now c.args.run.now.looks (c.inserted_with.ensures ∙ back.1))
