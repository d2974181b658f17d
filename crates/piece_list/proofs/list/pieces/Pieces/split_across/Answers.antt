use Rattle.std.proofs.Common.{◌≡◌, ℕ, ◌-◌, ◌≤◌, inl, inr, sym, ap, subst, arith}
use Rattle.std.proofs.lemmas.Bool.{cases_lt}
use Rattle.char_files.specs.CharName.{CharName}
use Rattle.char_files.specs.declared.TheConstants.{MAX_FILE}
use Rattle.operations.specs.NameSet.{IsIn}
use Rattle.piece_list.specs.Changing.{IsEdge}
use Rattle.piece_list.specs.Held.{IsSplit}
use Rattle.piece_list.specs.Pieces.{range_of}
use Rattle.piece_list.specs.Piece.{Piece}
use Rattle.piece_list.proofs.ChangedNames.{true_is_not}
use Rattle.piece_list.proofs.Edges.{edge_there, edge_after_split, split_once, not_split}
use Rattle.piece_list.proofs.Found.{no_some}
use Rattle.piece_list.proofs.Positions.{Items}
use Rattle.piece_list.proofs.list.pieces.Pieces.split_across.Goals as goal
use Rattle.piece_list.proofs.list.pieces.Pieces.split_across.Goals.{else-from-off-via-then-from-off+else-compare}
use Rattle.piece_list.proofs.list.pieces.Pieces.split_across.Goals.{else-from-off-via-else-from-off}

-- past the end of a file there is no piece
pub returns-in_default-clause-edge : goal.returns-in_default-clause-edge
returns-in_default-clause-edge c =
    let items : Items = c.self.inside.ring.items in
    let past : MAX_FILE ≤ c.args.off =
    elim (cases_lt c.args.off MAX_FILE) [
      | inl lt ↦ absurd (no_some c.new.result c.in_default.is (c.new.ensures.valid.1 lt))
      | inr ge ↦ ge
    ] in
    rw (← c.self.view_is)
    (λ k d lt own from. omega (arith, (c.self.invariant.entered.pieces k d lt).2, past))

pub returns-then-compare-clause-edge : goal.returns-then-compare-clause-edge
returns-then-compare-clause-edge c =
    edge_after_split c.self.inside.ring.items c.split.new.self.items c.self.inside.tags c.self.invariant.numbered
    c.self.invariant.entered c.in-Some-get.tag c.split.result c.piece_at-piece.result c.in-Some.name c.args.site
    c.args.off c.in-Some.ensures.value c.piece_at-piece.ensures (c.compare.ensures.value.0 c.if-compare.true)
    (subst (λ (o : ℕ). IsSplit c.in-Some-get.tag (c.args.off - o) c.split.result c.self.inside.ring.items c.split.new.self.items)
    c.off-from.ensures (rw (← c.self.view_is) at c.split.ensures.split))

pub returns-then-compare-clause-split : goal.returns-then-compare-clause-split
returns-then-compare-clause-split c =
    rw (← c.self.view_is)
    (split_once c.self.inside.ring.items c.split.new.self.items c.in-Some-get.tag
    (c.args.off - c.off-from.result) c.split.result c.self.invariant.numbered
    (omega (arith, c.if-from-off.true)) (rw (← c.self.view_is) at c.split.ensures.split))

pub returns-else-from-off-clause-edge : goal.returns-else-from-off-clause-edge
returns-else-from-off-clause-edge c =
    let items : Items = c.self.inside.ring.items in
    let p : Piece = c.piece_at-piece.result in
    let name : CharName = c.in-Some.name in
    let off : name.off ≡ c.args.off = ap (λ (d : CharName). d.off) c.in-Some.ensures.value in
    let begins : IsIn (range_of p) name → name.off ≤ p.off =
    elim c.else-from-off.branch [
      | else-from-off-via-then-from-off+else-compare w ↦ λ held.
          absurd (true_is_not w.compare.result (w.compare.ensures.value.1 held) w.if-compare.false)
      | else-from-off-via-else-from-off w ↦ λ held. omega (arith, off, c.off-from.ensures, w.if-from-off.false)
    ] in
    rw (← c.self.view_is)
    (subst (λ (d : CharName). IsEdge d.site d.off items) c.in-Some.ensures.value
    (edge_there items c.self.inside.tags c.self.invariant.numbered c.self.invariant.entered
    c.in-Some-get.tag p name c.piece_at-piece.ensures (sym c.in-Some-get.ensures) begins))

pub returns-else-from-off-clause-split : goal.returns-else-from-off-clause-split
returns-else-from-off-clause-split c = not_split c.args.self.now.items
