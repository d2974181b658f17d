use Rattle.std.proofs.Common.{◌≡◌, ◌≤◌, List, [], ◌∷◌, drop, map, length, refl, append-nil, ap, subst, sym, ◌∙◌, arith}
use Rattle.std.proofs.lemmas.List.{length-map}
use Rattle.std.proofs.Math.ListN.{drop_of_length-le}
use Rattle.piece_list.specs.Held.{HeldPieces, PiecesSeen}
use Rattle.piece_list.specs.RunSplits.{AreWithin, HasFront, HaveStamps}
use Rattle.piece_list.specs.Shown.{Appearance, appearance_of, shown_runs}
use Rattle.piece_list.specs.Spelled.{spelled, shown_chars}
use Rattle.piece_list.proofs.Positions.{Items, shown_in}
use Rattle.piece_list.proofs.Ranks.{IsFoundAt, found_at}
use Rattle.piece_list.proofs.RunSplits.{told}
use Rattle.piece_list.proofs.Walked.{tells_from, front_from, stamps_from, within_from}
use Rattle.piece_list.proofs.Weighed.{total_is_shown}
use Rattle.piece_list.proofs.list.PieceList.walk_from.Goals as goal
use Rattle.piece_list.proofs.list.PieceList.walk_from.Goals.{After-find-tag, After-from-members}

pub find-tag-requires : goal.find-tag-requires
find-tag-requires c =
    let items : Items = c.pieces.inside.ring.items in
    let seen : shown_in items ≡ shown_in c.args.self.now.items =
    ap (λ (v : HeldPieces). shown_in v.items) c.pieces.view_is ∙ ap (λ (v : PiecesSeen). shown_in v.items) c.self.view_is in
    record {
      within = omega (
        arith,
        total_is_shown items c.pieces.inside.index.items c.pieces.invariant.indexed,
        seen,
        c.if-shown_len-pos.false,
        c.shown_len.ensures,
      );
    }

found : (c : After-find-tag)
    → IsFoundAt c.pieces.inside.ring.items c.args.pos c.find-tag.result.0 c.find-tag.result.1
found c =
    found_at c.pieces.inside.ring.items c.pieces.inside.index.items c.args.pos c.find-tag.result.0 c.find-tag.result.1
    c.pieces.invariant.indexed c.find-tag.ensures.found

pub from-members-requires : goal.from-members-requires
from-members-requires c =
    let at = found (goal.at.from-members-requires c).After-find-tag in
    (at.piece, (at.front, at.after, at.whole))

-- the members from the piece on
left : (c : After-from-members) (at : IsFoundAt c.pieces.inside.ring.items c.args.pos c.find-tag.result.0 c.find-tag.result.1)
    → c.from-members.result ≡ (c.find-tag.result.0, at.piece) ∷ at.after
left c at = c.from-members.ensures at.front ((c.find-tag.result.0, at.piece) ∷ at.after) at.whole refl

pub returns-clause-shown : goal.returns-clause-shown
returns-clause-shown c =
    let at = found (goal.at.returns-clause-shown c).After-find-tag in
    ap (λ (l : Items). drop c.find-tag.result.1 (told (shown_runs l))) (left (goal.at.returns-clause-shown c).After-from-members at)
    ∙ tells_from c.pieces.inside.ring.items at.front at.after c.find-tag.result.0 at.piece at.whole
    c.args.pos c.find-tag.result.1 at.at
    ∙ ap (λ (v : HeldPieces). drop c.args.pos (map appearance_of (shown_chars (spelled v.items)))) c.pieces.view_is
    ∙ ap (λ (v : PiecesSeen). drop c.args.pos (map appearance_of (shown_chars (spelled v.items)))) c.self.view_is

pub returns-clause-front : goal.returns-clause-front
returns-clause-front c =
    let at = found (goal.at.returns-clause-front c).After-find-tag in
    subst (λ (l : Items). HasFront c.find-tag.result.1 (shown_runs l))
    (sym (left (goal.at.returns-clause-front c).After-from-members at))
    (front_from c.pieces.inside.ring.items at.front at.after c.find-tag.result.0 at.piece at.whole
    c.find-tag.result.1 at.inside)

pub returns-clause-within : goal.returns-clause-within
returns-clause-within c =
    let at = found (goal.at.returns-clause-within c).After-find-tag in
    subst (λ (l : Items). AreWithin (shown_runs l)) (sym (left (goal.at.returns-clause-within c).After-from-members at))
    (within_from c.pieces.inside.ring.items at.front at.after c.find-tag.result.0 at.piece at.whole
    c.pieces.invariant.entered.pieces)

pub returns-clause-stamps : goal.returns-clause-stamps
returns-clause-stamps c =
    let at = found (goal.at.returns-clause-stamps c).After-find-tag in
    subst (λ (l : Items). HaveStamps (shown_runs l)) (sym (left (goal.at.returns-clause-stamps c).After-from-members at))
    (stamps_from c.pieces.inside.ring.items at.front at.after c.find-tag.result.0 at.piece at.whole
    c.pieces.invariant.entered.pieces)

pub returns-then-shown_len-pos-clause-shown : goal.returns-then-shown_len-pos-clause-shown
returns-then-shown_len-pos-clause-shown c =
    let shown : List Appearance = map appearance_of (shown_chars (spelled c.args.self.now.items)) in
    let past : length shown ≤ c.args.pos =
    omega (
      arith,
      length-map (shown_chars (spelled c.args.self.now.items)) appearance_of,
      c.shown_len.ensures,
      c.if-shown_len-pos.true,
    ) in
    ap (λ (l : Items). drop 0 (told (shown_runs l))) (c.from-none.ensures c.pieces.inside.ring.items [] (sym (append-nil c.pieces.inside.ring.items)) refl)
    ∙ sym (drop_of_length-le shown past)

pub returns-then-shown_len-pos-clause-front : goal.returns-then-shown_len-pos-clause-front
returns-then-shown_len-pos-clause-front c =
    subst (λ (l : Items). HasFront 0 (shown_runs l))
    (sym (c.from-none.ensures c.pieces.inside.ring.items [] (sym (append-nil c.pieces.inside.ring.items)) refl)) tt

pub returns-then-shown_len-pos-clause-within : goal.returns-then-shown_len-pos-clause-within
returns-then-shown_len-pos-clause-within c =
    subst (λ (l : Items). AreWithin (shown_runs l))
    (sym (c.from-none.ensures c.pieces.inside.ring.items [] (sym (append-nil c.pieces.inside.ring.items)) refl))
    (λ k d lt. absurd (omega arith))

pub returns-then-shown_len-pos-clause-stamps : goal.returns-then-shown_len-pos-clause-stamps
returns-then-shown_len-pos-clause-stamps c =
    subst (λ (l : Items). HaveStamps (shown_runs l))
    (sym (c.from-none.ensures c.pieces.inside.ring.items [] (sym (append-nil c.pieces.inside.ring.items)) refl))
    (λ k d lt. absurd (omega arith))
