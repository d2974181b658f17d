-- The character that is shown at a position, and the spot that was found for it.
use Rattle.std.proofs.Common.{◌≡◌, ℕ, ◌+◌, ◌<◌, not, inl, inr, List}
use Rattle.std.proofs.Common.{Option, Some, All, Contains, refl, sym, ap, subst, ◌∙◌, arith}
use Rattle.std.specs.Prelude.{IfSome, slice_get}
use Rattle.std.proofs.lemmas.Option.{slice_get_cases, slice_get_within, get_or_from_slice_get}
use Rattle.std.proofs.lemmas.List.Elements.{All-filter, All-contains_itself}
use Rattle.char_files.specs.CharName.{CharName}
use Rattle.char_files.specs.declared.TheConstants.{MAX_FILE}
use Rattle.looks.specs.declared.looks.Looks.{Looks}
use Rattle.piece_raw.specs.Ring.{IsMember, HasTag, AreTags}
use Rattle.tree_order.specs.Registers.{Atom, atom_looks}
use Rattle.piece_list.specs.Piece.{Piece}
use Rattle.piece_list.specs.declared.spot.Spot.{Spot}
use Rattle.piece_list.specs.Held.{IsSpotOf, AreEntered}
use Rattle.piece_list.specs.Pieces.{char_of, IsPiece}
use Rattle.piece_list.specs.Shown.{looks_of}
use Rattle.piece_list.specs.Spelled.{spelled, shown_chars}
use Rattle.piece_list.specs.Tables.{Tables}
use Rattle.piece_list.proofs.CharOf.{char_of_spot}
use Rattle.piece_list.proofs.Found.{one_value, member_at}
use Rattle.piece_list.proofs.Positions.{Items, shown_in}

-- what is shown at a position is one of the characters
one_of_shown : (ks : List Atom) (pos : ℕ) (k : Atom) → slice_get (shown_chars ks) pos ≡ Some k → Contains ks k
one_of_shown ks pos k is =
    let shown : All (Contains ks) (shown_chars ks) =
    All-filter (λ (o : Atom). not o.hidden.value) (Contains ks) ks (All-contains_itself ks) in
    subst (Contains ks) (get_or_from_slice_get (shown_chars ks) pos k k is)
    (shown pos k (slice_get_within (shown_chars ks) pos k is))

-- of a list that is seen as these pieces, and a spot that was found
module _ (items now : Items) (seen : items ≡ now) (tables : Tables) (are : AreTags items)
    (entered : AreEntered items tables) (spot : Spot) (pos : ℕ) (within : pos < shown_in now)
    (at : IfSome (slice_get (shown_chars (spelled now)) pos) (λ k. IsSpotOf now spot k.name)) where
  -- the character, and where it stands
  there : (k : Atom) × (slice_get (shown_chars (spelled now)) pos ≡ Some k) × IsSpotOf items spot k.name
  there =
      elim (slice_get_cases (shown_chars (spelled now)) pos).1 [
        | inl found ↦
            let (k, lt, is, same) = found in (
              k,
              is,
              subst (λ (l : Items). IsSpotOf l spot k.name) (sym seen)
                  (subst (λ (o : Option Atom). IfSome o (λ (j : Atom). IsSpotOf now spot j.name)) is at),
            )
        | inr past ↦ absurd (omega (arith, within, past.0))
      ]

  pub has_tag : HasTag items spot.piece
  has_tag = let (p, held, small, site, off) = there.2 in (p, held)

  module _ (p : Piece) (held : IsMember items spot.piece p) where
    -- the spot lies in the piece
    own : (spot.within < p.len) × (there.0.name.site ≡ p.site) × (there.0.name.off ≡ p.off + spot.within)
    own =
        let (q, member, small, site, off) = there.2 in
        let one : q ≡ p = one_value items are spot.piece q p member held in
        subst (λ (r : Piece). (spot.within < r.len) × (there.0.name.site ≡ r.site)
        × (there.0.name.off ≡ r.off + spot.within)) one (small, site, off)

    -- so its name fits
    pub name_fits : p.off + spot.within < MAX_FILE
    name_fits =
        let m : ℕ × Piece = (spot.piece, p) in
        let (i, lt, is) = member_at items spot.piece p held in
        let piece : IsPiece p =
        subst (λ (n : ℕ × Piece). IsPiece n.1) (is m) (entered.pieces i m lt) in
        omega (arith, own.0, piece.2)

    -- and the piece tells of it
    pub is_shown : (name : CharName) (looks : Looks)
        → name ≡ record { site = p.site; off = p.off + spot.within } → looks ≡ looks_of p
        → IfSome (slice_get (shown_chars (spelled now)) pos) (λ k. (name ≡ k.name) × (looks ≡ atom_looks k))
    is_shown name looks named told =
        let k : Atom = there.0 in
        let has : Contains (spelled items) k =
        subst (λ (l : Items). Contains (spelled l) k) (sym seen) (one_of_shown (spelled now) pos k there.1) in
        let char : k ≡ char_of p k.name =
        char_of_spot items tables are entered spot k.name p there.2 held k has refl in
        let same : name ≡ k.name =
        named ∙ ap (λ (s : ℕ). record { site = s; off = p.off + spot.within }) (sym own.1)
        ∙ ap (λ (o : ℕ). record { site = k.name.site; off = o }) (sym own.2) in
        subst (λ (o : Option Atom). IfSome o (λ (j : Atom). (name ≡ j.name) × (looks ≡ atom_looks j)))
        (sym there.1) (same, told ∙ ap atom_looks (sym char))
