use Rattle.std.proofs.Common.{◌≡◌, ℕ, ◌+◌, ◌<◌, ap, arith, ◌∙◌}
use Rattle.std.specs.Prelude.{IsSome}
use Rattle.char_files.specs.CharName.{CharName}
use Rattle.char_files.specs.declared.TheConstants.{MAX_FILE}
use Rattle.piece_list.specs.Held.{HeldPieces, PiecesSeen}
use Rattle.piece_list.proofs.Found.{no_some}
use Rattle.piece_list.proofs.ShownAt.{has_tag, name_fits, is_shown}
use Rattle.piece_list.proofs.Positions.{Items}
use Rattle.piece_list.proofs.list.PieceList.shown_at.Goals as goal

pub piece_at-piece-requires : goal.piece_at-piece-requires
piece_at-piece-requires c =
    let items : Items = c.pieces.inside.ring.items in
    let seen : items ≡ c.args.self.now.items = ap (λ (v : HeldPieces). v.items) c.pieces.view_is ∙ ap (λ (v : PiecesSeen). v.items) c.self.view_is in
    has_tag items c.args.self.now.items seen c.pieces.inside.tags c.pieces.invariant.numbered c.pieces.invariant.entered
    c.locate_pos-spot.result c.args.pos c.requires c.locate_pos-spot.ensures

pub overflow_add-off : goal.overflow_add-off
overflow_add-off c =
    let items : Items = c.pieces.inside.ring.items in
    let seen : items ≡ c.args.self.now.items = ap (λ (v : HeldPieces). v.items) c.pieces.view_is ∙ ap (λ (v : PiecesSeen). v.items) c.self.view_is in
    let fits : c.piece_at-piece.result.off + c.locate_pos-spot.result.within < MAX_FILE =
    name_fits items c.args.self.now.items seen c.pieces.inside.tags c.pieces.invariant.numbered c.pieces.invariant.entered
    c.locate_pos-spot.result c.args.pos c.requires c.locate_pos-spot.ensures c.piece_at-piece.result
    c.piece_at-piece.ensures in
    omega (arith, fits, c.off.ensures)

pub unreachable-requires : goal.unreachable-requires
unreachable-requires c =
    let items : Items = c.pieces.inside.ring.items in
    let seen : items ≡ c.args.self.now.items = ap (λ (v : HeldPieces). v.items) c.pieces.view_is ∙ ap (λ (v : PiecesSeen). v.items) c.self.view_is in
    let fits : c.piece_at-piece.result.off + c.locate_pos-spot.result.within < MAX_FILE =
    name_fits items c.args.self.now.items seen c.pieces.inside.tags
    c.pieces.invariant.numbered c.pieces.invariant.entered c.locate_pos-spot.result c.args.pos c.requires
    c.locate_pos-spot.ensures c.piece_at-piece.result c.piece_at-piece.ensures in
    let some : IsSome c.new.result = c.new.ensures.valid.1 (omega (arith, fits, c.off.ensures)) in
    absurd (no_some c.new.result c.in-None.is some)

pub returns : goal.returns
returns c =
    let named : ℕ → ℕ → CharName = λ (s o : ℕ). record { site = s; off = o + c.locate_pos-spot.result.within } in
    let items : Items = c.pieces.inside.ring.items in
    let seen : items ≡ c.args.self.now.items = ap (λ (v : HeldPieces). v.items) c.pieces.view_is ∙ ap (λ (v : PiecesSeen). v.items) c.self.view_is in
    is_shown items c.args.self.now.items seen c.pieces.inside.tags c.pieces.invariant.numbered c.pieces.invariant.entered
    c.locate_pos-spot.result c.args.pos c.requires c.locate_pos-spot.ensures c.piece_at-piece.result
    c.piece_at-piece.ensures c.in-Some.name c.looks.result
    (c.in-Some.ensures.value ∙ ap (λ (s : ℕ). named s c.off.result) c.site.ensures
    ∙ ap (named c.piece_at-piece.result.site) c.off.ensures)
    c.looks.ensures
