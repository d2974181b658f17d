use Rattle.std.proofs.Common.{◌≡◌, refl, sym, subst, ap, ◌∙◌, arith}
use Rattle.piece_raw.specs.Ring.{HasTag, IsMember, with_value}
use Rattle.piece_list.specs.Held.{AreHeld}
use Rattle.piece_list.specs.Piece.{Piece}
use Rattle.piece_list.specs.Pieces.{GoesOn, IsPiece, longer, piece_of, range_of}
use Rattle.piece_list.proofs.ChangedPiece.{has_tag, value_after}
use Rattle.piece_list.proofs.Entered.{filled_inside, filled_outside, held, tag_below}
use Rattle.piece_list.proofs.Joined.{joined_entered, longer_piece}
use Rattle.piece_list.proofs.Keyed.{keyed_with}
use Rattle.piece_list.proofs.Positions.{Items, own}
use Rattle.piece_list.proofs.SplitList.{is_piece}
use Rattle.piece_list.proofs.Splitting.{written_tags}
use Rattle.piece_list.proofs.Weighed.{Weights, has_weight, set_fits, set_weighed}
use Rattle.piece_list.proofs.list.pieces.Pieces.lengthen.Goals as goal
use Rattle.piece_list.proofs.list.pieces.Pieces.lengthen.Goals.{After-lengthen, After-shown_of-weight}

-- the piece before, and what it is then
abbrev was : After-lengthen → Piece
was c = c.lengthen.ensures.longer.0

abbrev now : After-lengthen → Piece
now c = longer c.args.run.now.len (was c)

on : (c : After-lengthen) → GoesOn (was c) (piece_of c.args.run.now)
on c = (rw (← c.self.view_is) at c.requires.goes_on) (was c) c.lengthen.ensures.longer.1

piece : (c : After-lengthen) → IsPiece (was c)
piece c =
    is_piece c.self.inside.ring.items c.args.tag (was c) c.self.invariant.entered.pieces c.lengthen.ensures.longer.1

is_now : (c : After-lengthen) → IsPiece (now c)
is_now c = longer_piece (was c) (piece_of c.args.run.now) (on c) (piece c) c.requires.piece

set : (c : After-lengthen) → c.lengthen.new.self.items ≡ with_value c.args.tag (now c) c.self.inside.ring.items
set c = c.lengthen.ensures.longer.2

pub lengthen-requires-clause-small : goal.lengthen-requires-clause-small
lengthen-requires-clause-small c = λ p member.
    let is : IsPiece p = is_piece c.self.inside.ring.items c.args.tag p c.self.invariant.entered.pieces member in
    omega (arith, is.1, c.requires.piece.1)

pub piece_at-piece-requires : goal.piece_at-piece-requires
piece_at-piece-requires c =
    let at : After-lengthen = (goal.at.piece_at-piece-requires c).After-lengthen in
    subst (λ (l : Items). HasTag l c.args.tag) (sym (set at))
    (has_tag c.self.inside.ring.items c.args.tag c.args.tag (now at) (was at, c.lengthen.ensures.longer.1))

-- the piece that is read
read : (c : After-shown_of-weight) → c.piece_at-piece.result ≡ longer c.args.run.now.len c.lengthen.ensures.longer.0
read c =
    let w : Piece = longer c.args.run.now.len c.lengthen.ensures.longer.0 in
    value_after c.self.inside.ring.items c.args.tag c.lengthen.ensures.longer.0 w c.piece_at-piece.result c.self.invariant.numbered
    c.lengthen.ensures.longer.1
    (subst (λ (l : Items). IsMember l c.args.tag c.piece_at-piece.result) c.lengthen.ensures.longer.2 c.piece_at-piece.ensures)

weight : (c : After-shown_of-weight) → c.shown_of-weight.result
    ≡ own (longer c.args.run.now.len c.lengthen.ensures.longer.0) (longer c.args.run.now.len c.lengthen.ensures.longer.0).len
weight c =
    c.shown_of-weight.ensures ∙ ap (own c.piece_at-piece.result) c.len.ensures ∙ ap (λ (q : Piece). own q q.len) (read c)

pub fill-requires-clause-tag : goal.fill-requires-clause-tag
fill-requires-clause-tag c =
    let at : After-lengthen = (goal.at.fill-requires-clause-tag c).After-lengthen in
    let items : Items = c.self.inside.ring.items in
    omega (
      arith,
      c.lengthen.ensures.few,
      tag_below items _ c.args.tag c.self.invariant.numbered.1
          (held items c.args.tag (was at, c.lengthen.ensures.longer.1)),
    )

pub set_weight-requires-clause-here : goal.set_weight-requires-clause-here
set_weight-requires-clause-here c =
    has_weight c.self.inside.ring.items c.self.inside.index.items c.args.tag c.self.invariant.indexed
    (c.lengthen.ensures.longer.0, c.lengthen.ensures.longer.1)

pub set_weight-requires-clause-total : goal.set_weight-requires-clause-total
set_weight-requires-clause-total c =
    let at : After-lengthen = (goal.at.set_weight-requires-clause-total c).After-lengthen in
    let by = weight (goal.at.set_weight-requires-clause-total c).After-shown_of-weight in
    let fits = set_fits c.self.inside.ring.items c.self.inside.index.items c.args.tag c.shown_of-weight.result (was at) (now at)
    c.self.invariant.indexed c.lengthen.ensures.longer.1 by c.self.inside.tags c.self.invariant.numbered c.self.invariant.entered
    (is_now at).1 in
    omega (arith, fits)

pub invariant_of-self : goal.invariant_of-self
invariant_of-self c =
    let at : After-lengthen = (goal.at.invariant_of-self c).After-lengthen in
    let items : Items = c.self.inside.ring.items in
    let v : Piece = piece_of c.args.run.now in
    let by = weight (goal.at.invariant_of-self c).After-shown_of-weight in
    let made : AreHeld (with_value c.args.tag (now at) items) c.fill.new.self
    (with_value c.args.tag c.shown_of-weight.result c.self.inside.index.items) c.self.inside.index.keys = record {
      numbered = written_tags c.args.tag (now at) items c.self.invariant.numbered;
      entered = joined_entered items c.args.tag (was at) v c.self.inside.tags c.fill.new.self c.self.invariant.numbered
          c.self.invariant.entered c.lengthen.ensures.longer.1 (on at) c.requires.piece
          (rw (← c.self.view_is) at c.requires.new)
          (filled_inside (range_of v) c.args.tag c.self.inside.tags c.fill.new.self c.fill.ensures.inside
          c.fill.ensures.before c.fill.ensures.after c.fill.ensures.others)
          (filled_outside (range_of v) c.args.tag c.self.inside.tags c.fill.new.self c.fill.ensures.inside
          c.fill.ensures.before c.fill.ensures.after c.fill.ensures.others);
      indexed = set_weighed items c.self.inside.index.items c.args.tag c.shown_of-weight.result (was at) (now at)
          c.self.invariant.indexed c.lengthen.ensures.longer.1 by;
      keyed = keyed_with items c.self.inside.index.keys c.args.tag (was at) (now at) c.self.invariant.keyed
          c.lengthen.ensures.longer.1 refl;
    } in
    subst (λ (l : Items). AreHeld l c.fill.new.self c.set_weight.new.self.items c.set_weight.new.self.keys) (sym (set at))
    (subst (AreHeld (with_value c.args.tag (now at) items) c.fill.new.self c.set_weight.new.self.items) (sym c.set_weight.ensures.keys)
    (subst (λ (l : Weights). AreHeld (with_value c.args.tag (now at) items) c.fill.new.self l c.self.inside.index.keys)
    (sym c.set_weight.ensures.items) made))

pub returns-clause-longer : goal.returns-clause-longer
returns-clause-longer c =
    let at : After-lengthen = (goal.at.returns-clause-longer c).After-lengthen in
    rw (← c.self.view_is) (was at, c.lengthen.ensures.longer.1, set at)

pub returns-clause-pieces : goal.returns-clause-pieces
returns-clause-pieces c = rw (← c.self.view_is) c.self.invariant.entered.pieces
