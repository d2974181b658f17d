-- What the index answers, of the list's characters.
use Rattle.std.proofs.Common.{◌≡◌, ℕ, ◌+◌, ◌<◌, ◌≤◌, ◌^◌, ◌∷◌, ◌++◌, ap, subst, ◌∙◌, arith}
use Rattle.char_files.specs.CharName.{CharName}
use Rattle.piece_raw.specs.Ring.{AreTags, IsMember}
use Rattle.rank_index.specs.Ranked.{IsRank, IsFound}
use Rattle.piece_list.specs.Piece.{Piece}
use Rattle.piece_list.specs.declared.spot.Spot.{Spot}
use Rattle.piece_list.specs.Held.{AreEntered, IsSpotOf, weighed}
use Rattle.piece_list.specs.Shown.{AreShownTo}
use Rattle.piece_list.specs.Pieces.{IsPiece}
use Rattle.piece_list.specs.Spelled.{spelled, ArePieces}
use Rattle.piece_list.specs.Tables.{Tables}
use Rattle.piece_list.proofs.SplitList.{is_piece}
use Rattle.piece_list.proofs.Found.{one_value}
use Rattle.piece_list.proofs.Positions.{Items, shown_in, own, is_inside, is_visible, sum_fits, counts_to}
use Rattle.piece_list.proofs.Weighed.{Weights, ranked_piece, found_piece}

-- how much stands before a name's piece
module _ (items : Items) (tables : Tables) (index : Weights) (spot : Spot) (c : CharName) (p : Piece)
    (before more : ℕ) (are : AreTags items) (entered : AreEntered items tables) (same : index ≡ weighed items)
    (at : IsSpotOf items spot c) (member : IsMember items spot.piece p)
    (rank : IsRank index spot.piece before) (by : more ≡ own p (spot.within + 1))
  where
    inside : (spot.within < p.len) × (c.site ≡ p.site) × (c.off ≡ p.off + spot.within)
    inside = is_inside items spot c p are member at

    there : (xs ys : Items) × (items ≡ xs ++ (spot.piece, p) ∷ ys) × (before ≡ shown_in xs)
    there =
        let (weight, found) = ranked_piece items index spot.piece before same rank in
        let one : found.piece ≡ p =
        one_value items are spot.piece found.piece p (found.front, found.after, found.whole) member in (
          found.front,
          found.after,
          found.whole ∙ ap (λ (q : Piece). found.front ++ (spot.piece, q) ∷ found.after) one,
          found.before_is,
        )

    pub rank_fits : before + more < 2 ^ 64
    rank_fits =
        let (xs, ys, is, before_is) = there in
        let le : spot.within + 1 ≤ p.len = omega (arith, inside.0) in
        omega (arith, before_is, by, sum_fits items xs ys spot.piece p is tables (spot.within + 1) are entered le)

    -- with its own characters up to the name, it is the count up to it
    pub rank_counts : AreShownTo (spelled items) c (before + more)
    rank_counts =
        let (xs, ys, is, before_is) = there in
        let (lt, site, off) = inside in
        let sum : shown_in xs + own p (spot.within + 1) ≡ before + more = omega (arith, before_is, by) in
        subst (AreShownTo (spelled items) c) sum
        (counts_to items xs ys spot.piece p is tables spot.within c are entered lt site off)

-- the piece that a position lies in
pub record IsFoundAt (items : Items) (pos tag within : ℕ) : Type 0 where
  pub front : Items
  pub after : Items
  pub piece : Piece
  pub whole : items ≡ front ++ (tag, piece) ∷ after
  pub at : pos ≡ shown_in front + within
  pub inside : within < own piece piece.len

pub found_at : (items : Items) (index : Weights) (pos tag within : ℕ) → index ≡ weighed items
    → IsFound index pos tag within → IsFoundAt items pos tag within
found_at items index pos tag within same found =
    let (weight, before, there, at, lt) = found_piece items index pos tag within same found in
    record {
      front = there.front;
      after = there.after;
      piece = there.piece;
      whole = there.whole;
      at = at ∙ ap (λ (n : ℕ). n + within) there.before_is;
      inside = subst (λ (n : ℕ). within < n) there.weight_is lt;
    }

pub found_is_small : (items : Items) (pos tag within : ℕ) → ArePieces items → IsFoundAt items pos tag within
    → within < 4096
found_is_small items pos tag within pieces found =
    let (visible, lt) = is_visible found.piece within found.inside in
    let piece : IsPiece found.piece =
    is_piece items tag found.piece pieces (found.front, found.after, found.whole) in
    omega (arith, lt, piece.1)
