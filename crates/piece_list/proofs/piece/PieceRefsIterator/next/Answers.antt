use Rattle.std.proofs.Common.{ℕ, All, subst}
use Rattle.std.proofs.lemmas.List.Elements.{All-head, All-tail}
use Rattle.piece_list.specs.declared.record.PieceRecord.{PieceRecord}
use Rattle.piece_list.specs.Values.{IsWithin}
use Rattle.piece_list.proofs.piece.PieceRefsIterator.next.Goals as goal

pub new-requires : goal.new-requires
new-requires c =
    let Is : ℕ × PieceRecord → Type 0 = λ (m : ℕ × PieceRecord). IsWithin c.self.inside.values.now.values m.1 in
    All-head Is (c.in_ok-number.number, c.in_ok-number.record.now) c.next.new.self
    (subst (All Is) c.in_ok-number.ensures.steps c.self.invariant)

pub invariant_of-self-2 : goal.invariant_of-self-2
invariant_of-self-2 c =
    let Is : ℕ × PieceRecord → Type 0 = λ (m : ℕ × PieceRecord). IsWithin c.self.inside.values.now.values m.1 in
    All-tail Is (c.in_ok-number.number, c.in_ok-number.record.now) c.next.new.self
    (subst (All Is) c.in_ok-number.ensures.steps c.self.invariant)
