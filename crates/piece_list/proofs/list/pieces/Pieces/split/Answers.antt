use Rattle.std.proofs.Common.{◌≡◌, ℕ, ◌+◌, ◌-◌, ◌<◌, Some, refl, sym, ap, subst, ◌∙◌, arith}
use Rattle.piece_raw.specs.Ring.{IsPushed, with_value}
use Rattle.rank_index.specs.Ranked.{weight_of}
use Rattle.rank_index.proofs.Tagged.{tags_pushed}
use Rattle.piece_list.specs.Numbers.{AreKeyed, key_number}
use Rattle.piece_list.specs.Piece.{Piece}
use Rattle.piece_list.specs.Held.{IsSplit}
use Rattle.piece_list.specs.Pieces.{IsPiece, range_of, piece_front, rest_of}
use Rattle.piece_list.proofs.SplitList.{is_piece, is_within, rest_fits, split_made, split_entered, split_spot}
use Rattle.piece_list.proofs.Splitting.{written_tags, as_many}
use Rattle.piece_list.proofs.Entered.{filled_inside, filled_outside}
use Rattle.piece_list.proofs.Found.{one_value}
use Rattle.piece_list.proofs.Placing.{split_others}
use Rattle.piece_list.proofs.Keyed.{keyed_pushed, keyed_with}
use Rattle.piece_list.proofs.Positions.{Items}
use Rattle.piece_list.proofs.Weighed.{split_fits, split_rest_fits, split_weighed}
use Rattle.piece_list.proofs.list.pieces.Pieces.split.Goals as goal
use Rattle.piece_list.proofs.list.pieces.Pieces.split.Goals.{After-piece_at-whole, After-shown_of-after, After-split-number}

-- the piece is longer than its front
within : (c : After-piece_at-whole) → c.args.n < c.piece_at-whole.result.len
within c =
    is_within c.self.inside.ring.items c.self.invariant.numbered c.args.tag c.args.n c.piece_at-whole.result
    c.piece_at-whole.ensures (rw (← c.self.view_is) at c.requires.spot)

piece : (c : After-piece_at-whole) → IsPiece c.piece_at-whole.result
piece c =
    is_piece c.self.inside.ring.items c.args.tag c.piece_at-whole.result c.self.invariant.entered.pieces
    c.piece_at-whole.ensures

-- the rest, as its names are entered
abbrev rest : After-shown_of-after → Piece
rest c = record (rest_of c.args.n c.piece_at-whole.result) {
  site = c.site-site.result;
  off = c.off.result + c.args.n;
  len = c.len.result - c.args.n;
}

rest_is : (c : After-shown_of-after) → rest c ≡ rest_of c.args.n c.piece_at-whole.result
rest_is c =
    let v : Piece = c.piece_at-whole.result in
    let made : ℕ → ℕ → ℕ → Piece = λ (s o l : ℕ). record (rest_of c.args.n v) { site = s; off = o + c.args.n; len = l - c.args.n } in
    ap (λ (s : ℕ). made s c.off.result c.len.result) c.site-site.ensures
    ∙ ap (λ (o : ℕ). made v.site o c.len.result) c.off.ensures
    ∙ ap (made v.site v.off) c.len.ensures

-- the rest is inserted after the front
pushed : (c : After-split-number) → IsPushed (with_value c.args.tag (piece_front c.args.n c.piece_at-whole.result) c.self.inside.ring.items)
    (Some c.args.tag) c.split-number.result (rest_of c.args.n c.piece_at-whole.result) c.split-number.new.self.items
pushed c =
    let items : Items = c.self.inside.ring.items in
    let (p, held, made) = c.split-number.ensures.split in
    subst (λ (q : Piece). IsPushed (with_value c.args.tag (piece_front c.args.n q) items) (Some c.args.tag) c.split-number.result
    (rest_of c.args.n q) c.split-number.new.self.items)
    (one_value items c.self.invariant.numbered c.args.tag p c.piece_at-whole.result held c.piece_at-whole.ensures) made

made : (c : After-split-number) → c.args.n < c.piece_at-whole.result.len
    → IsSplit c.args.tag c.args.n c.split-number.result c.self.inside.ring.items c.split-number.new.self.items
made c lt =
    split_made c.self.inside.ring.items c.split-number.new.self.items c.args.tag c.args.n c.split-number.result
    c.piece_at-whole.result c.self.invariant.numbered c.piece_at-whole.ensures lt (pushed c)

pub overflow_add-off : goal.overflow_add-off
overflow_add-off c =
    let at : After-piece_at-whole = (goal.at.overflow_add-off c).After-piece_at-whole in
    omega (arith, c.off.ensures, within at, (piece at).2)

pub overflow_sub-len : goal.overflow_sub-len
overflow_sub-len c =
    omega (arith, c.len.ensures, within (goal.at.overflow_sub-len c).After-piece_at-whole)

pub split-number-requires-clause-within : goal.split-number-requires-clause-within
split-number-requires-clause-within c = λ p held. (
  is_piece c.self.inside.ring.items c.args.tag p c.self.invariant.entered.pieces held,
  is_within c.self.inside.ring.items c.self.invariant.numbered c.args.tag c.args.n p held
      (rw (← c.self.view_is) at c.requires.spot),
)

pub fill-requires-clause-within : goal.fill-requires-clause-within
fill-requires-clause-within c =
    let at : After-shown_of-after = (goal.at.fill-requires-clause-within c).After-shown_of-after in
    rest_fits c.self.inside.ring.items c.self.inside.tags c.self.invariant.entered c.args.tag c.args.n
    c.piece_at-whole.result (rest at) c.piece_at-whole.ensures (within (goal.at.fill-requires-clause-within c).After-piece_at-whole) (rest_is at)

pub set_weight-requires-clause-total : goal.set_weight-requires-clause-total
set_weight-requires-clause-total c =
    let at : After-shown_of-after = (goal.at.set_weight-requires-clause-total c).After-shown_of-after in
    let fits = split_fits c.self.inside.ring.items c.self.inside.tags c.self.inside.index.items c.args.tag c.args.n
    c.shown_of-before.result c.shown_of-after.result c.piece_at-whole.result (piece_front c.args.n c.piece_at-whole.result)
    (rest at) c.self.invariant.numbered c.self.invariant.entered c.self.invariant.indexed c.piece_at-whole.ensures
    (within (goal.at.set_weight-requires-clause-total c).After-piece_at-whole) refl (rest_is at) c.shown_of-before.ensures
    c.shown_of-after.ensures in
    omega (arith, fits)

pub insert_after-requires-clause-total : goal.insert_after-requires-clause-total
insert_after-requires-clause-total c =
    let at : After-shown_of-after = (goal.at.insert_after-requires-clause-total c).After-shown_of-after in
    let fits = split_rest_fits c.self.inside.ring.items c.self.inside.tags c.self.inside.index.items c.args.tag c.args.n
    c.shown_of-before.result c.shown_of-after.result c.piece_at-whole.result (piece_front c.args.n c.piece_at-whole.result)
    (rest at) c.self.invariant.numbered c.self.invariant.entered c.self.invariant.indexed c.piece_at-whole.ensures
    (within (goal.at.insert_after-requires-clause-total c).After-piece_at-whole) refl (rest_is at) c.shown_of-before.ensures
    c.shown_of-after.ensures in
    omega (arith, ap weight_of c.set_weight.ensures.items, fits)

pub invariant_of-self : goal.invariant_of-self
invariant_of-self c =
    let items : Items = c.self.inside.ring.items in
    let new : Items = c.split-number.new.self.items in
    let v : Piece = c.piece_at-whole.result in
    let front : Piece = piece_front c.args.n v in
    let lt = within (goal.at.invariant_of-self c).After-piece_at-whole in
    let at : After-shown_of-after = (goal.at.invariant_of-self c).After-shown_of-after in
    let insert = pushed (goal.at.invariant_of-self c).After-split-number in
    record {
      numbered = tags_pushed (with_value c.args.tag front items) new (Some c.args.tag) c.split-number.result
          (rest_of c.args.n v) (written_tags c.args.tag front items c.self.invariant.numbered)
          (c.split-number.ensures.number.0 ∙ sym (as_many c.args.tag front items)) insert;
      entered = split_entered items new c.args.tag c.args.n c.split-number.result v (rest at) c.self.inside.tags
          c.fill.new.self c.self.invariant.numbered c.self.invariant.entered c.requires.some lt c.piece_at-whole.ensures
          insert (rest_is at)
          (filled_inside (range_of (rest at)) c.split-number.result c.self.inside.tags c.fill.new.self c.fill.ensures.inside
          c.fill.ensures.before c.fill.ensures.after c.fill.ensures.others)
          (filled_outside (range_of (rest at)) c.split-number.result c.self.inside.tags c.fill.new.self c.fill.ensures.inside
          c.fill.ensures.before c.fill.ensures.after c.fill.ensures.others);
      indexed = split_weighed items c.self.inside.tags c.self.inside.index.items c.args.tag c.args.n
          c.shown_of-before.result c.shown_of-after.result v front (rest at)
          c.self.invariant.numbered c.self.invariant.entered c.self.invariant.indexed c.piece_at-whole.ensures lt
          refl (rest_is at) c.shown_of-before.ensures
          c.shown_of-after.ensures new c.set_weight.new.self.items c.insert_after.new.self.items c.split-number.result insert
          c.set_weight.ensures.items c.insert_after.ensures.inserted;
      keyed = keyed_pushed (with_value c.args.tag front items) new c.set_weight.new.self.keys c.insert_after.new.self.keys
          (Some c.args.tag) c.split-number.result c.number_of-key.result (rest_of c.args.n v)
          (subst (AreKeyed (with_value c.args.tag front items)) (sym c.set_weight.ensures.keys)
          (keyed_with items c.self.inside.index.keys c.args.tag v front c.self.invariant.keyed c.piece_at-whole.ensures refl))
          insert c.insert_after.ensures.keyed.0 c.insert_after.ensures.keyed.1
          (c.number_of-key.ensures ∙ ap key_number c.key_at.ensures);
    }

pub returns-clause-split : goal.returns-clause-split
returns-clause-split c =
    rw (← c.self.view_is) (made (goal.at.returns-clause-split c).After-split-number
    (within (goal.at.returns-clause-split c).After-piece_at-whole))

pub returns-clause-spot : goal.returns-clause-spot
returns-clause-spot c =
    rw (← c.self.view_is)
    (split_spot c.self.inside.ring.items c.split-number.new.self.items c.args.tag c.args.n c.split-number.result
    c.self.invariant.numbered (made (goal.at.returns-clause-spot c).After-split-number
    (within (goal.at.returns-clause-spot c).After-piece_at-whole)))

pub returns-clause-others : goal.returns-clause-others
returns-clause-others c =
    rw (← c.self.view_is)
    (split_others c.self.inside.ring.items c.split-number.new.self.items c.args.tag c.args.n c.split-number.result
    c.self.invariant.numbered (made (goal.at.returns-clause-others c).After-split-number
    (within (goal.at.returns-clause-others c).After-piece_at-whole)))

pub key_at-requires-clause-within : goal.key_at-requires-clause-within
key_at-requires-clause-within c = within (goal.at.key_at-requires-clause-within c).After-piece_at-whole

pub key_at-requires-clause-stamps : goal.key_at-requires-clause-stamps
key_at-requires-clause-stamps c = (piece (goal.at.key_at-requires-clause-stamps c).After-piece_at-whole).4
