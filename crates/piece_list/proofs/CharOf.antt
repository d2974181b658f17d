-- A character is the one that the piece holding its name has under it.
use Rattle.std.proofs.Common.{◌≡◌, ℕ, ◌+◌, ◌-◌, ◌<◌, Bool, true, false, inl, inr, List, [], ◌∷◌, Some}
use Rattle.std.proofs.Common.{Contains, refl, sym, ap, subst, ◌∙◌, arith}
use Rattle.std.proofs.lemmas.List.Elements.{Contains-append_cases}
use Rattle.looks.specs.declared.key.Key.{Key}
use Rattle.char_files.specs.CharName.{CharName}
use Rattle.operations.specs.NameSet.{IsIn}
use Rattle.piece_raw.specs.Ring.{IsMember, AreTags}
use Rattle.tree_order.specs.Registers.{Atom}
use Rattle.piece_list.specs.Piece.{Piece}
use Rattle.piece_list.specs.declared.spot.Spot.{Spot}
use Rattle.piece_list.specs.Pieces.{range_of, char_of, chars_of, key_from, risen}
use Rattle.piece_list.specs.Held.{IsSpotOf, AreEntered}
use Rattle.piece_list.specs.Spelled.{spelled}
use Rattle.piece_list.specs.Tables.{Tables, tag_at}
use Rattle.piece_list.proofs.Found.{one_value, entry_of, some_is}
use Rattle.piece_list.proofs.Shown.{char_at, count_chars}

abbrev Items : Type 0
Items = List (ℕ × Piece)

-- a character is one of a piece
pub record IsOfPiece (items : Items) (k : Atom) : Type 0 where
  pub tag : ℕ
  pub piece : Piece
  pub member : IsMember items tag piece
  pub name : IsIn (range_of piece) k.name
  pub same : k ≡ char_of piece k.name

of_piece : (p : Piece) (k : Atom) → Contains (chars_of p) k → IsIn (range_of p) k.name × (k ≡ char_of p k.name)
of_piece p k (i, lt, e) =
    let few : i < p.len = omega (arith, count_chars p) in
    let c : CharName = record { site = p.site; off = p.off + i } in
    let is : char_of p c ≡ k = sym (char_at p i k few) ∙ e in
    let name : c ≡ k.name = ap (λ (o : Atom). o.name) is in
    (subst (IsIn (range_of p)) name (refl, omega arith, omega arith), sym is ∙ ap (char_of p) name)

pub is_of_piece : (items : Items) (k : Atom) → Contains (spelled items) k → IsOfPiece items k
is_of_piece [] k (i, lt, e) = absurd (omega arith)
is_of_piece (m ∷ items) k has =
    elim (Contains-append_cases (chars_of m.1) (spelled items) k has) [
      | inl here ↦
          let own : IsIn (range_of m.1) k.name × (k ≡ char_of m.1 k.name) = of_piece m.1 k here in
          record { tag = m.0; piece = m.1; member = ([], items, refl); name = own.0; same = own.1 }
      | inr later ↦
          let there : IsOfPiece items k = is_of_piece items k later in
          let (xs, ys, is) = there.member in
          record {
            tag = there.tag;
            piece = there.piece;
            member = (m ∷ xs, ys, ap (λ (l : Items). m ∷ l) is);
            name = there.name;
            same = there.same;
          }
    ]

pub char_of_spot : (items : Items) (tables : Tables) → AreTags items → AreEntered items tables
    → (spot : Spot) (c : CharName) (p : Piece) → IsSpotOf items spot c → IsMember items spot.piece p
    → (k : Atom) → Contains (spelled items) k → k.name ≡ c → k ≡ char_of p c
char_of_spot items tables are entered spot c p at held k has same =
    let of : IsOfPiece items k = is_of_piece items k has in
    let (site, from, to) = subst (IsIn (range_of of.piece)) same of.name in
    let other : Spot = record { piece = of.tag; within = c.off - of.piece.off } in
    let mine : tag_at tables c ≡ Some spot.piece = entry_of items tables entered spot c at in
    let theirs : tag_at tables c ≡ Some of.tag =
    entry_of items tables entered other c (of.piece, of.member, omega arith, site, omega arith) in
    let one : of.tag ≡ spot.piece = some_is of.tag spot.piece (sym theirs ∙ mine) in
    let piece : of.piece ≡ p =
    one_value items are spot.piece of.piece p (subst (λ (t : ℕ). IsMember items t of.piece) one of.member)
    held in
    of.same ∙ ap (char_of of.piece) same ∙ ap (λ (q : Piece). char_of q c) piece

-- the key of a character is the piece's, so many characters on
key_there : (rising : Bool) (key : Key) (site off within : ℕ)
    → key_from rising key off (record { site = site; off = off + within }) ≡ risen rising within key
key_there false key site off within = refl
key_there true key site off within =
    let same : key.stamp + (off + within) - off ≡ key.stamp + within = omega arith in
    let made : ℕ → Key = λ (stamp : ℕ). record { stamp = stamp; site = key.site } in
    ap made same

pub key_of_spot : (items : Items) (tables : Tables) → AreTags items → AreEntered items tables
    → (spot : Spot) (c : CharName) (p : Piece) → IsSpotOf items spot c → IsMember items spot.piece p
    → (k : Atom) → Contains (spelled items) k → k.name ≡ c → k.key ≡ risen p.rising spot.within p.key
key_of_spot items tables are entered spot c p at held k has same =
    let (q, member, within, site, off) = at in
    let one : q ≡ p = one_value items are spot.piece q p member held in
    let there : c.off ≡ p.off + spot.within = off ∙ ap (λ (r : Piece). r.off + spot.within) one in
    ap (λ (a : Atom). a.key) (char_of_spot items tables are entered spot c p at held k has same)
    ∙ ap (λ (o : ℕ). key_from p.rising p.key p.off (record { site = c.site; off = o })) there
    ∙ key_there p.rising p.key c.site p.off spot.within
