-- A list of pieces with its tables, before and after a piece was split.
use Rattle.std.proofs.Common.{◌≡◌, ℕ, ◌+◌, ◌-◌, ◌<◌, ◌≤◌, inl, inr, List, [], ◌∷◌, ◌++◌, Option}
use Rattle.std.proofs.Common.{Some, None, length}
use Rattle.std.proofs.Common.{get_or, refl, sym, ap, subst, ◌∙◌, arith, append_assoc}
use Rattle.std.proofs.lemmas.Bool.{cases_lt}
use Rattle.std.proofs.lemmas.List.{length-append, get_or_past}
use Rattle.char_files.specs.CharName.{CharName}
use Rattle.operations.specs.NameSet.{IsIn}
use Rattle.piece_raw.specs.Ring.{AreTags, IsMember, IsPushed, with_value}
use Rattle.piece_list.specs.Piece.{Piece}
use Rattle.piece_list.specs.declared.spot.Spot.{Spot}
use Rattle.piece_list.specs.Pieces.{range_of, piece_front, rest_of, IsPiece}
use Rattle.piece_list.specs.Held.{AreEntered, HasSpot, IsSpotOf, IsSplit}
use Rattle.piece_list.specs.Placing.{AreOrAreJoined}
use Rattle.piece_list.specs.Spelled.{spelled, ArePieces}
use Rattle.piece_list.specs.Tables.{Tables, table_of, tag_at}
use Rattle.piece_list.proofs.Split.{split_spells_the_same}
use Rattle.piece_list.proofs.Splitting.{written, written_tags, pushed}
use Rattle.piece_list.proofs.Entered.{entered_after}
use Rattle.piece_list.proofs.Found.{member_at, one_value, entry_of}

abbrev pub Items : Type 0
Items = List (ℕ × Piece)

-- the piece of a spot
pub is_piece : (items : Items) (tag : ℕ) (p : Piece) → ArePieces items → IsMember items tag p → IsPiece p
is_piece items tag p pieces is =
    let m : ℕ × Piece = (tag, p) in
    let (k, lt, at) = member_at items tag p is in
    subst (λ (n : ℕ × Piece). IsPiece n.1) (at m) (pieces k m lt)

pub is_within : (items : Items) → AreTags items → (tag n : ℕ) (p : Piece) → IsMember items tag p
    → HasSpot items (record { piece = tag; within = n }) → n < p.len
is_within items are tag n p is (q, held, within) =
    subst (λ (r : Piece). n < r.len) (one_value items are tag q p held is) within

-- a site's table reaches as far as its pieces
pub table_is_long : (items : Items) (tables : Tables) → AreEntered items tables → (tag : ℕ) (p : Piece)
    → IsMember items tag p → p.off + p.len ≤ length (table_of tables p.site)
table_is_long items tables are tag p is =
    let some : 0 < p.len = (is_piece items tag p are.pieces is).0 in
    let off : ℕ = p.off + (p.len - 1) in
    let c : CharName = record { site = p.site; off = off } in
    let table : List (Option ℕ) = table_of tables p.site in
    let spot : Spot = record { piece = tag; within = p.len - 1 } in
    let entry : tag_at tables c ≡ Some tag =
    entry_of items tables are spot c (p, is, omega arith, refl, refl) in
    elim (cases_lt off (length table)) [
      | inl lt ↦ omega arith
      | inr past ↦
          let none : get_or table off None ≡ None = get_or_past table off None past in
          absurd cc
    ]

-- tags say nothing of the pieces
same_tags : (xs ys : Items) (tag : ℕ) (p w : Piece) → AreTags (xs ++ (tag, p) ∷ ys)
    → AreTags (xs ++ (tag, w) ∷ ys)
same_tags xs ys tag p w are =
    subst AreTags (written xs ys tag p w are) (written_tags tag w (xs ++ (tag, p) ∷ ys) are)

-- the piece is split
split_parts : (xs ys old new : Items) (tag n u : ℕ) (v : Piece) → AreTags old → old ≡ xs ++ (tag, v) ∷ ys
    → IsPushed (with_value tag (piece_front n v) old) (Some tag) u (rest_of n v) new
    → new ≡ xs ++ (tag, piece_front n v) ∷ (u, rest_of n v) ∷ ys
split_parts xs ys old new tag n u v are is insert =
    let here : AreTags (xs ++ (tag, v) ∷ ys) = subst AreTags is are in
    let w : with_value tag (piece_front n v) old ≡ xs ++ (tag, piece_front n v) ∷ ys =
    ap (with_value tag (piece_front n v)) is ∙ written xs ys tag v (piece_front n v) here in
    pushed xs ys tag u (piece_front n v) (rest_of n v) new (same_tags xs ys tag v (piece_front n v) here)
    (subst (λ (l : Items). IsPushed l (Some tag) u (rest_of n v) new) w insert)

pub split_made : (old new : Items) (tag n u : ℕ) (v : Piece) → AreTags old → IsMember old tag v → n < v.len
    → IsPushed (with_value tag (piece_front n v) old) (Some tag) u (rest_of n v) new → IsSplit tag n u old new
split_made old new tag n u v are (xs, ys, is) within insert = record {
  before = xs;
  after = ys;
  piece = v;
  whole = is;
  within = within;
  parts = split_parts xs ys old new tag n u v are is insert;
}

-- and the tables are right, once the rest is entered
pub split_entered : (old new : Items) (tag n u : ℕ) (v rest : Piece) (before after : Tables) → AreTags old
    → AreEntered old before → 0 < n → n < v.len → IsMember old tag v
    → IsPushed (with_value tag (piece_front n v) old) (Some tag) u (rest_of n v) new → rest ≡ rest_of n v
    → ((c : CharName) → IsIn (range_of rest) c → tag_at after c ≡ Some u)
    → ((c : CharName) → (IsIn (range_of rest) c → ⊥) → tag_at after c ≡ tag_at before c)
    → AreEntered new after
split_entered old new tag n u v rest before after are entered some within (xs, ys, is) insert e inside outside =
    subst (λ (l : Items). AreEntered l after) (sym (split_parts xs ys old new tag n u v are is insert))
    (entered_after xs ys tag u n v before after (subst AreTags is are)
    (subst (λ (l : Items). AreEntered l before) is entered) some within
    (subst (λ (b : Piece). (c : CharName) → IsIn (range_of b) c → tag_at after c ≡ Some u) e inside)
    (subst (λ (b : Piece). (c : CharName) → (IsIn (range_of b) c → ⊥)
    → tag_at after c ≡ tag_at before c) e outside))

-- the rest fits into its site's table
pub rest_fits : (items : Items) (tables : Tables) → AreEntered items tables → (tag n : ℕ) (p rest : Piece)
    → IsMember items tag p → n < p.len → rest ≡ rest_of n p
    → rest.off + rest.len ≤ length (table_of tables rest.site)
rest_fits items tables are tag n p rest is within e =
    let fits : p.off + p.len ≤ length (table_of tables p.site) = table_is_long items tables are tag p is in
    subst (λ (r : Piece). r.off + r.len ≤ length (table_of tables r.site)) (sym e) (omega arith)

-- a split changes no character
pub split_spells : (old new : Items) (tag n u : ℕ) → IsSplit tag n u old new → spelled new ≡ spelled old
split_spells old new tag n u split =
    let le : n ≤ split.piece.len = omega (arith, split.within) in
    ap spelled split.parts ∙ split_spells_the_same split.before split.after tag u n split.piece le
    ∙ sym (ap spelled split.whole)

-- nor does joining a piece with the one before it
pub parts_spell : (tag : ℕ) (parts new : Items) → AreOrAreJoined tag parts new → spelled new ≡ spelled parts
parts_spell tag parts new (inl is) = ap spelled is
parts_spell tag parts new (inr (first, n, split)) = sym (split_spells new parts first n tag split)

-- and makes one piece more
pub split_counts : (old new : Items) (tag n u : ℕ) → IsSplit tag n u old new → length new ≡ length old + 1
split_counts old new tag n u split =
    let p : Piece = split.piece in
    let whole : length old ≡ length split.before + length ((tag, p) ∷ split.after) =
    ap length split.whole ∙ length-append split.before ((tag, p) ∷ split.after) in
    let parts : length new ≡ length split.before + length ((tag, piece_front n p) ∷ (u, rest_of n p) ∷ split.after) =
    ap length split.parts ∙ length-append split.before ((tag, piece_front n p) ∷ (u, rest_of n p) ∷ split.after) in
    omega arith

-- and the spot moves to the rest
pub split_spot : (old new : Items) (tag n u : ℕ) → AreTags old → IsSplit tag n u old new → (c : CharName)
    → IsSpotOf old (record { piece = tag; within = n }) c
    → IsSpotOf new (record { piece = u; within = 0 }) c
split_spot old new tag n u are split c (q, held, within, site, off) =
    let p : Piece = split.piece in
    let e : q ≡ p = one_value old are tag q p held (split.before, split.after, split.whole) in
    let site' : c.site ≡ p.site = site ∙ ap (λ (r : Piece). r.site) e in
    let off' : q.off ≡ p.off = ap (λ (r : Piece). r.off) e in
    let front : ℕ × Piece = (tag, piece_front n p) in
    let rest : ℕ × Piece = (u, rest_of n p) in
    let joined : new ≡ split.before ++ front ∷ [] ++ rest ∷ split.after =
    split.parts ∙ sym (append_assoc split.before (front ∷ []) (rest ∷ split.after)) in
    let some : 0 < p.len - n = omega (arith, split.within) in
    (rest_of n p, (split.before ++ front ∷ [], split.after, joined), some, site', omega arith)
