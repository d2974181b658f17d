-- How many characters are shown before a piece, and which one is shown at a position.
use Rattle.std.proofs.Common.{◌≡◌, ℕ, ◌+◌, ◌<◌, ◌≤◌, ◌^◌, Bool, true, false, cond, List, ◌∷◌, ◌++◌}
use Rattle.std.proofs.Common.{length, refl, sym, ap, subst, arith}
use Rattle.std.specs.Prelude.{IfSome, slice_get}
use Rattle.char_files.specs.CharName.{CharName}
use Rattle.piece_raw.specs.Ring.{AreTags, IsMember}
use Rattle.piece_list.specs.Piece.{Piece}
use Rattle.piece_list.specs.declared.spot.Spot.{Spot}
use Rattle.piece_list.specs.Held.{AreEntered, IsSpotOf}
use Rattle.piece_list.specs.Shown.{AreShownTo}
use Rattle.piece_list.specs.Spelled.{spelled, shown_chars}
use Rattle.piece_list.specs.Tables.{Tables}
use Rattle.piece_list.proofs.Few.{few, names_once}
use Rattle.piece_list.proofs.Found.{one_value}
use Rattle.piece_list.proofs.Shown.{count_both, count_cons, shown_at_most, spot_at}
use Rattle.piece_list.proofs.ShownTo.{shown_up_to}

abbrev pub Items : Type 0
Items = List (ℕ × Piece)

-- so many characters of these pieces are shown
abbrev pub shown_in : Items → ℕ
shown_in items = length (shown_chars (spelled items))

-- how many a piece shows of n
abbrev pub own : Piece → ℕ → ℕ
own p n = cond p.hidden.value 0 n

pub own_le : (p : Piece) (n m : ℕ) → n ≤ m → own p n ≤ m
own_le p n m le = go p.hidden.value
  where
    go : (b : Bool) → cond b 0 n ≤ m
    go true = omega arith
    go false = le

-- a list shows fewer than 2^64
pub small_count : (items : Items) (tables : Tables) → AreTags items → AreEntered items tables
    → shown_in items ≤ 2 ^ 40
small_count items tables are entered = omega (arith, shown_at_most items, few items tables are entered)

-- a spot of a piece's number lies in it
pub is_inside : (items : Items) (spot : Spot) (c : CharName) (p : Piece) → AreTags items
    → IsMember items spot.piece p → IsSpotOf items spot c
    → (spot.within < p.len) × (c.site ≡ p.site) × (c.off ≡ p.off + spot.within)
is_inside items spot c p are here (q, held, within, site, off) =
    subst (λ (r : Piece). (spot.within < r.len) × (c.site ≡ r.site) × (c.off ≡ r.off + spot.within))
    (one_value items are spot.piece q p held here) (within, site, off)

-- a position that lies in a piece
in_piece : (p : Piece) (i : ℕ) (hidden : Bool) → p.hidden.value ≡ hidden → i < cond hidden 0 p.len
    → (p.hidden.value ≡ false) × (i < p.len)
in_piece p i true e lt = absurd (omega arith)
in_piece p i false e lt = (e, lt)

pub is_visible : (p : Piece) (i : ℕ) → i < own p p.len → (p.hidden.value ≡ false) × (i < p.len)
is_visible p i lt = in_piece p i p.hidden.value refl lt

-- of a piece with these before it, and these after it
module _ (items xs ys : Items) (tag : ℕ) (p : Piece) (is : items ≡ xs ++ (tag, p) ∷ ys) where
  -- the count of what is shown before, and of what the piece shows of its first n characters, is small
  pub sum_fits : (tables : Tables) (n : ℕ) → AreTags items → AreEntered items tables → n ≤ p.len
      → shown_in xs + own p n < 2 ^ 64
  sum_fits tables n are entered le =
      let small : 2 ^ 40 < 2 ^ 64 = omega arith in
      omega (
        arith,
        ap shown_in is,
        count_both xs ((tag, p) ∷ ys),
        count_cons (tag, p) ys,
        own_more n le,
        small_count items tables are entered,
      )
    where
      own_more : (n : ℕ) → n ≤ p.len → own p n ≤ own p p.len
      own_more n le = go p.hidden.value
        where
          go : (b : Bool) → cond b 0 n ≤ cond b 0 p.len
          go true = omega arith
          go false = le

  -- it is the count up to a name
  pub counts_to : (tables : Tables) (within : ℕ) (c : CharName) → AreTags items → AreEntered items tables
      → within < p.len → c.site ≡ p.site → c.off ≡ p.off + within
      → AreShownTo (spelled items) c (shown_in xs + own p (within + 1))
  counts_to tables within c are entered lt site off =
      shown_up_to items xs ys tag p c within (shown_in xs + own p (within + 1)) is
      (names_once items tables are entered) lt site off refl

  -- a position that lies in the piece
  pub position : (pos i : ℕ) → pos ≡ shown_in xs + i → i < own p p.len
      → IfSome (slice_get (shown_chars (spelled items)) pos)
      (λ k. IsSpotOf items (record { piece = tag; within = i }) k.name)
  position pos i at lt =
      let (shown, small) = is_visible p i lt in
      spot_at items xs ys tag p pos i is (sym at) shown small
