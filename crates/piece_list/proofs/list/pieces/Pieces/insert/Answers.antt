use Rattle.std.proofs.Common.{◌≡◌, ℕ, ◌∷◌, ◌++◌, Option, Some, ap, subst, true≢false, sym, ◌∙◌}
use Rattle.std.proofs.lemmas.Option.{same_Some}
use Rattle.piece_raw.specs.Ring.{AreTags, IsMember, with_value}
use Rattle.piece_list.specs.Held.{HeldPieces}
use Rattle.piece_list.specs.Piece.{Piece}
use Rattle.piece_list.specs.Pieces.{GoesOn, longer, piece_of}
use Rattle.piece_list.specs.Placing.{HasPart, IsParted}
use Rattle.piece_list.proofs.Found.{one_value}
use Rattle.piece_list.proofs.Joined.{joined_there}
use Rattle.piece_list.proofs.Parts.{part_has_tag}
use Rattle.piece_list.proofs.Positions.{Items}
use Rattle.piece_list.proofs.Splitting.{written}
use Rattle.piece_list.proofs.list.pieces.Pieces.insert.Goals as goal
use Rattle.piece_list.proofs.list.pieces.Pieces.insert.Goals.{in-Some+else-goes_on, in_default}

pub piece_at-requires : goal.piece_at-requires
piece_at-requires c =
    part_has_tag c.self.inside.ring.items c.in-Some.number
    (subst (HasPart c.self.inside.ring.items) c.in-Some.is (rw (← c.self.view_is) at c.requires.part))

-- the run goes on where this piece ends, whichever way it is found
pub lengthen-requires-clause-goes_on : goal.lengthen-requires-clause-goes_on
lengthen-requires-clause-goes_on c =
    let items : Items = c.self.inside.ring.items in
    let on : GoesOn c.piece_at.result (piece_of c.args.run.now) = c.goes_on.ensures.on c.if-goes_on.true in
    rw (← c.self.view_is) (λ p member. subst (λ (q : Piece). GoesOn q (piece_of c.args.run.now))
    (one_value items c.self.invariant.numbered c.in-Some.number c.piece_at.result p c.piece_at.ensures member) on)

pub returns-then-goes_on-clause-insert : goal.returns-then-goes_on-clause-insert
returns-then-goes_on-clause-insert c =
    let items : Items = c.self.inside.ring.items in
    let (q, member, is) = (rw (← c.self.view_is) at c.lengthen.ensures.longer) in
    let on : GoesOn q (piece_of c.args.run.now) = subst (λ (p : Piece). GoesOn p (piece_of c.args.run.now))
    (one_value items c.self.invariant.numbered c.in-Some.number c.piece_at.result q c.piece_at.ensures member)
    (c.goes_on.ensures.on c.if-goes_on.true) in
    rw (← c.self.view_is) (λ before after parted. joined_there items c.lengthen.new.self.items c.in-Some.number q (piece_of c.args.run.now)
    c.self.invariant.numbered member on c.requires.piece.0 is before after
    (subst (λ (last : Option ℕ). IsParted items last before after) c.in-Some.is parted))

-- the piece is the one of this number
there_is : (items before after : Items) (tag number : ℕ) (last : Option ℕ) (p : Piece) → items ≡ before ++ (tag, p) ∷ after
    → last ≡ Some tag → last ≡ Some number → IsMember items number p
there_is items before after tag number last p is at named =
    let same : tag ≡ number = same_Some tag number (sym at ∙ named) in
    (before, after, is ∙ ap (λ (n : ℕ). before ++ (n, p) ∷ after) same)

pub returns-then-goes_on-clause-joins : goal.returns-then-goes_on-clause-joins
returns-then-goes_on-clause-joins c =
    let items : Items = c.self.inside.ring.items in
    let (q, member, is) = (rw (← c.self.view_is) at c.lengthen.ensures.longer) in
    rw (← c.self.view_is) (λ before after tag p parts at rises goes.
    let number : c.in-Some.number ≡ tag = same_Some c.in-Some.number tag (sym c.in-Some.is ∙ at) in
    let same : q ≡ p =
    one_value items c.self.invariant.numbered c.in-Some.number q p member
    (there_is items before after tag c.in-Some.number c.args.last p parts at c.in-Some.is) in
    is
    ∙ ap (λ (piece : Piece). with_value c.in-Some.number (longer c.args.run.now.len piece) items) same
    ∙ ap (λ (n : ℕ). with_value n (longer c.args.run.now.len p) items) number
    ∙ ap (with_value tag (longer c.args.run.now.len p)) parts
    ∙ written before after tag p (longer c.args.run.now.len p) (subst AreTags parts c.self.invariant.numbered))

pub returns-clause-joins : goal.returns-clause-joins
returns-clause-joins c = λ before after tag p parts at rises goes.
    elim c.match-last.branch [
      | in-Some+else-goes_on w ↦
          let items : Items = w.self.inside.ring.items in
          let parts' : items ≡ before ++ (tag, p) ∷ after = ap (λ (v : HeldPieces). v.items) w.self.view_is ∙ parts in
          let same : w.piece_at.result ≡ p =
          one_value items w.self.invariant.numbered w.in-Some.number w.piece_at.result p w.piece_at.ensures
          (there_is items before after tag w.in-Some.number c.args.last p parts' at w.in-Some.is) in
          absurd (w.goes_on.ensures.otherwise (λ yes. true≢false (sym yes ∙ w.if-goes_on.false)) rises (subst (λ (q : Piece). GoesOn q (piece_of c.args.run.now)) (sym same) goes))
      | in_default w ↦ absurd cc
    ]
