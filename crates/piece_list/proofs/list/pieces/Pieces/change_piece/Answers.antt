use Rattle.std.proofs.Common.{◌≡◌, ℕ, map, ◌+◌, ◌-◌, ◌++◌, List, [], ◌∷◌, ap, nat_lt, sym, subst, true, ◌∙◌, arith, refl}
use Rattle.std.proofs.lemmas.Bool.Decides.{nat_tests}
use Rattle.std.specs.Prelude.{vec_len, vec_capacity}
use Rattle.operations.specs.NameSet.{Range}
use Rattle.list_changes.specs.declared.change.Change.{Change}
use Rattle.list_changes.specs.declared.change.ChangeKind.{ChangeKind}
use Rattle.tree_order.specs.Registers.{if_named}
use Rattle.piece_raw.specs.Ring.{IsMember, with_value}
use Rattle.piece_list.specs.Piece.{Piece}
use Rattle.piece_list.specs.Changing.{AreTheSame, IsNextEdge, changed_char, changed_piece}
use Rattle.piece_list.specs.Held.{AreHeld}
use Rattle.piece_list.specs.Noted.{AreNoted, setting_kind}
use Rattle.piece_list.specs.Pieces.{range_of}
use Rattle.piece_list.specs.Spelled.{spelled}
use Rattle.piece_list.proofs.ChangedNames.{true_is_not}
use Rattle.piece_list.proofs.ChangedPiece.{IsTurn, turn, same_names, value_after}
use Rattle.piece_list.proofs.SplitList.{is_piece}
use Rattle.piece_list.proofs.Edges.{is_entered}
use Rattle.piece_list.proofs.Found.{none_is_not}
use Rattle.piece_list.proofs.Noted.{noted_turn, noted_still}
use Rattle.piece_list.proofs.Positions.{Items, own}
use Rattle.piece_list.proofs.Spent.{Note, spent_still, spent_turn}
use Rattle.piece_list.proofs.Turned.{IsTurned, is_turned}
use Rattle.piece_list.proofs.Weighed.{Weights}
use Rattle.piece_list.proofs.list.pieces.Pieces.change_piece.Goals as goal
use Rattle.piece_list.proofs.list.pieces.Pieces.change_piece.Goals.{After-shown_of-weight, then-shows_other, else-shows_other}

-- the piece before the change, and after it
abbrev was : After-shown_of-weight → Piece
was c = c.change-shows_other.ensures.changed.0

abbrev now : After-shown_of-weight → Piece
now c = changed_piece c.args.setting.now (was c)

turned : (c : After-shown_of-weight)
    → IsTurned c.args.setting.now c.self.inside.ring.items c.self.inside.tags c.self.inside.index.items c.self.inside.index.keys c.in-Some.tag
    (was c) (now c) c.args.name
turned c =
    let t : IsTurn c.self.inside.ring.items c.in-Some.tag (was c) (now c) c.args.name =
    turn c.args.setting.now c.self.inside.ring.items c.self.inside.tags c.in-Some.tag (was c) (now c) c.args.name
    c.self.invariant.numbered c.self.invariant.entered
    (rw (← c.self.view_is) at c.requires.here)
    (rw (← c.self.view_is) at c.requires.begins)
    c.change-shows_other.ensures.changed.1 c.in-Some.ensures refl in
    is_turned c.args.setting.now c.self.inside.ring.items c.self.inside.tags c.self.inside.index.items c.self.inside.index.keys c.in-Some.tag
    (was c) (now c) c.args.name c.self.invariant t refl
    ((rw (← c.self.view_is) at c.requires.below) c.in-Some.tag (was c) t.member t.held)

-- the ring after the change
set : (c : After-shown_of-weight)
    → c.change-shows_other.new.self.items ≡ with_value c.in-Some.tag (now c) c.self.inside.ring.items
set c = c.change-shows_other.ensures.changed.2

-- the piece that is read after the change
read : (c : After-shown_of-weight) → c.piece_at-piece.result ≡ now c
read c =
    value_after c.self.inside.ring.items c.in-Some.tag (was c) (now c) c.piece_at-piece.result c.self.invariant.numbered
    (turned c).turn.member
    (subst (λ (l : Items). IsMember l c.in-Some.tag c.piece_at-piece.result) (set c) c.piece_at-piece.ensures)

len : (c : After-shown_of-weight) → c.len-len.result ≡ (now c).len
len c = c.len-len.ensures ∙ ap (λ (q : Piece). q.len) (read c)

end : (c : After-shown_of-weight) → c.off-off.result + c.len-len.result ≡ (now c).off + (now c).len
end c = omega (arith, len c, c.off-off.ensures, ap (λ (q : Piece). q.off) (read c))

weight : (c : After-shown_of-weight) → c.shown_of-weight.result ≡ own (now c) (now c).len
weight c =
    c.shown_of-weight.ensures ∙ ap (own c.piece_at-piece.result) (len c) ∙ ap (λ (q : Piece). own q (now c).len) (read c)

pub unreachable-requires : goal.unreachable-requires
unreachable-requires c =
    let (tag, is) = is_entered c.self.inside.ring.items c.self.inside.tags c.self.invariant.entered c.args.name
    (rw (← c.self.view_is) at c.requires.here) in
    none_is_not tag (c.in-None.ensures ∙ is)

pub enter-requires-clause-small : goal.enter-requires-clause-small
enter-requires-clause-small c =
    let at : After-shown_of-weight = (goal.at.enter-requires-clause-small c).After-shown_of-weight in
    omega (arith, len at, (turned at).entry_fits)

pub set_weight-requires-clause-total : goal.set_weight-requires-clause-total
set_weight-requires-clause-total c =
    let at : After-shown_of-weight = (goal.at.set_weight-requires-clause-total c).After-shown_of-weight in
    (turned at).weight_fits c.shown_of-weight.result (weight at)

pub overflow_add-result : goal.overflow_add-result
overflow_add-result c =
    let at : After-shown_of-weight = (goal.at.overflow_add-result c).After-shown_of-weight in
    omega (arith, end at, (turned at).turn.end, (turned at).turn.fits)

pub invariant_of-self : goal.invariant_of-self
invariant_of-self c =
    let at : After-shown_of-weight = (goal.at.invariant_of-self c).After-shown_of-weight in
    subst (λ (l : Items). AreHeld l c.self.inside.tags c.set_weight.new.self.items c.set_weight.new.self.keys) (sym (set at))
    (subst (AreHeld (with_value c.in-Some.tag (now at) c.self.inside.ring.items) c.self.inside.tags c.set_weight.new.self.items)
    (sym c.set_weight.ensures.keys)
    (subst (λ (l : Weights). AreHeld (with_value c.in-Some.tag (now at) c.self.inside.ring.items) c.self.inside.tags l
    c.self.inside.index.keys) (sym c.set_weight.ensures.items) ((turned at).held c.shown_of-weight.result (weight at))))

pub returns-clause-end : goal.returns-clause-end
returns-clause-end c =
    let at : After-shown_of-weight = (goal.at.returns-clause-end c).After-shown_of-weight in
    rw (← c.self.view_is)
    (subst (λ (n : ℕ). IsNextEdge c.args.name n c.self.inside.ring.items) (sym (end at)) (turned at).next_edge)

-- the names of the piece
abbrev names : (c : After-shown_of-weight) → (n : ℕ) → Range
names c n = record { site = c.args.name.site; at = c.args.name.off; len = n - c.args.name.off }

pub returns-clause-changed : goal.returns-clause-changed
returns-clause-changed c =
    let at : After-shown_of-weight = (goal.at.returns-clause-changed c).After-shown_of-weight in
    let items : Items = c.self.inside.ring.items in
    rw (← c.self.view_is)
    (subst (λ (n : ℕ). spelled c.change-shows_other.new.self.items
    ≡ map (if_named (names at n ∷ []) (changed_char c.args.setting.now)) (spelled items)) (sym (end at))
    (ap spelled (set at) ∙ (turned at).names))

pub returns-clause-same : goal.returns-clause-same
returns-clause-same c =
    let at : After-shown_of-weight = (goal.at.returns-clause-same c).After-shown_of-weight in
    rw (← c.self.view_is)
    (subst (AreTheSame c.self.inside.ring.items) (sym (set at)) (turned at).same)

pub returns-clause-noted : goal.returns-clause-noted
returns-clause-noted c =
    let at : After-shown_of-weight = (goal.at.returns-clause-noted c).After-shown_of-weight in
    let t = (turned at).turn in
    let items : Items = c.self.inside.ring.items in
    let v : Piece = was at in
    let w : Piece = now at in
    let Is : List Range → Items → Type 0 = λ (names : List Range) (l : Items).
    AreNoted c.args.setting.now names 1 0 c.args.note.now c.if-shows_other.note items l in
    let told : Is (range_of v ∷ []) (with_value c.in-Some.tag w items) =
    elim c.if-shows_other.branch [
      | then-shows_other o ↦
          let (beg, rank, insert) = o.enter.ensures.entered in
          let entry : ChangeKind → ℕ → Change = λ (kind : ChangeKind) (n : ℕ). record { kind = kind; beg = beg; end = beg + n } in
          record {
            told = λ room. noted_turn c.args.setting.now items c.in-Some.tag v w c.self.invariant.numbered
                refl c.self.inside.index.items beg c.args.note.now.items
                c.if-shows_other.note.items c.self.invariant.indexed t.member
                (is_piece items c.in-Some.tag v c.self.invariant.entered.pieces t.member).0
                (c.change-shows_other.ensures.changed.3 o.if-shows_other.true).1 rank
                (ap (λ n. n.items) o.note-is ∙ insert
                ∙ ap (λ (kind : ChangeKind). c.args.note.now.items ++ entry kind c.len-len.result ∷ []) o.kind.ensures
                ∙ ap (λ (n : ℕ). c.args.note.now.items ++ entry (setting_kind c.args.setting.now) n ∷ []) (len at));
            grows = omega (arith, ap vec_len o.note-is, o.enter.ensures.len);
            few = omega (arith, ap vec_len o.note-is, o.enter.ensures.len);
            spent = spent_turn items c.in-Some.tag v w c.self.invariant.numbered c.args.setting.now c.args.note.now
                c.if-shows_other.note t.member (c.change-shows_other.ensures.changed.3 o.if-shows_other.true).1
                (omega (arith, ap vec_len o.note-is, o.enter.ensures.len));
            capacity = omega (arith, ap vec_capacity o.note-is, o.enter.ensures.capacity);
          }
      | else-shows_other o ↦
          subst (λ (note : Note). AreNoted c.args.setting.now (range_of v ∷ []) 1 0 c.args.note.now note items
          (with_value c.in-Some.tag w items)) (sym o.note-is)
          (record {
            told = λ room.
                let asked : nat_lt c.len.result c.capacity.result ≡ true =
                grind (arith, nat_tests, room, c.len.ensures, c.capacity.ensures) in
                noted_still c.args.setting.now items c.in-Some.tag v w c.self.invariant.numbered
                refl (range_of v ∷ []) c.args.note.now.items t.member
                (c.change-shows_other.ensures.changed.4 asked
                (λ other. true_is_not c.change-shows_other.result other o.if-shows_other.false));
            grows = omega arith;
            few = omega arith;
            spent = spent_still items c.in-Some.tag v w c.self.invariant.numbered c.args.setting.now c.args.note.now
                t.member refl;
            capacity = omega arith;
          })
    ] in
    rw (← c.self.view_is)
    (subst (Is (names at (c.off-off.result + c.len-len.result) ∷ [])) (sym (set at))
    (subst (λ (n : ℕ). Is (names at n ∷ []) (with_value c.in-Some.tag w items)) (sym (end at))
    (subst (λ (r : Range). Is (r ∷ []) (with_value c.in-Some.tag w items))
    (same_names v w c.args.name t.same t.held t.off) told)))
