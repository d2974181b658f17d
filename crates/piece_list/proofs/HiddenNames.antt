-- Whether characters of a range are hidden, piece by piece.
use Rattle.std.proofs.Common.{◌≡◌, ℕ, ◌+◌, ◌-◌, ◌<◌, ◌≤◌, true, false, inl, inr, List, [], ◌∷◌, zero, suc, length, get_or}
use Rattle.std.proofs.Common.{Contains, refl, sym, ap, subst, ◌∙◌, arith}
use Rattle.std.specs.Prelude.{IsTrue}
use Rattle.std.proofs.lemmas.Bool.{cases_lt}
use Rattle.std.proofs.lemmas.List.{get_or_default}
use Rattle.char_files.specs.CharName.{CharName}
use Rattle.char_files.specs.declared.TheConstants.{MAX_FILE}
use Rattle.operations.specs.NameSet.{Range, IsIn, IsAmong}
use Rattle.piece_raw.specs.Ring.{IsMember, AreTags}
use Rattle.tree_order.specs.Registers.{Atom}
use Rattle.piece_list.specs.Piece.{Piece}
use Rattle.piece_list.specs.declared.spot.Spot.{Spot}
use Rattle.piece_list.specs.Held.{IsSpotOf, AreEntered}
use Rattle.piece_list.specs.Pieces.{IsPiece}
use Rattle.piece_list.specs.Spelled.{spelled, HasName}
use Rattle.piece_list.specs.Tables.{Tables}
use Rattle.piece_list.proofs.CharOf.{char_of_spot}
use Rattle.piece_list.proofs.ChangedNames.{range}
use Rattle.piece_list.proofs.Found.{one_value, member_at}
use Rattle.piece_list.proofs.Positions.{Items}

-- a piece that holds a name, from the name's spot on
module _ (items : Items) (tables : Tables) (are : AreTags items) (entered : AreEntered items tables)
    (spot : Spot) (c : CharName) (p : Piece) (at : IsSpotOf items spot c)
    (held : IsMember items spot.piece p) where
  is_inside : (spot.within < p.len) × (c.site ≡ p.site) × (c.off ≡ p.off + spot.within)
  is_inside =
      let (q, member, within, site, off) = at in
      let one : q ≡ p = one_value items are spot.piece q p member held in
      subst (λ (r : Piece). (spot.within < r.len) × (c.site ≡ r.site) × (c.off ≡ r.off + spot.within)) one
      (within, site, off)

  pub ends_after : c.off < p.off + p.len
  ends_after = omega (arith, is_inside.0, is_inside.2)

  pub end_fits : p.off + p.len ≤ MAX_FILE
  end_fits =
      let m : ℕ × Piece = (spot.piece, p) in
      let (i, lt, is) = member_at items spot.piece p held in
      let piece : IsPiece p = subst (λ (n : ℕ × Piece). IsPiece n.1) (is m) (entered.pieces i m lt) in
      piece.2

  -- its characters are hidden as it is
  pub alike : (k : Atom) → Contains (spelled items) k → IsIn (range c.site c.off (p.off + p.len - c.off)) k.name
      → k.hidden.value ≡ p.hidden.value
  alike k has (site, from, to) =
      let there : Spot = record { piece = spot.piece; within = k.name.off - p.off } in
      let low : p.off ≤ k.name.off = omega (arith, is_inside.2) in
      let high : k.name.off < p.off + p.len = omega (arith, is_inside.2) in
      let is : IsSpotOf items there k.name = (p, held, omega arith, site ∙ is_inside.1, omega arith) in
      ap (λ (o : Atom). o.hidden.value) (char_of_spot items tables are entered there k.name p is held k has refl)

-- a name that is here is that of a character
pub char_named : (ks : List Atom) (c : CharName) → HasName ks c → (k : Atom) × Contains ks k × (k.name ≡ c)
char_named [] c (i, lt, e) = absurd (omega arith)
char_named (k ∷ ks) c (zero, lt, e) = (k, (0, omega arith, refl), e)
char_named (k ∷ ks) c (suc i, lt, e) =
    let (j, (n, few, is), named) = char_named ks c (i, omega arith, e) in
    (j, (suc n, omega arith, is), named)

-- none of the characters of a range is hidden
abbrev pub NoneHidden : List Atom → Range → Type 0
NoneHidden ks r = (k : Atom) → Contains ks k → IsIn r k.name → k.hidden.value ≡ false

-- where the character of a name is hidden, a range with the name has a hidden one
pub one_hidden : (ks : List Atom) (r : Range) (c : CharName) → HasName ks c → IsIn r c
    → ((k : Atom) → Contains ks k → k.name ≡ c → k.hidden.value ≡ true)
    → (k : Atom) × Contains ks k × IsIn r k.name × IsTrue k.hidden.value
one_hidden ks r c here held hidden =
    let (k, has, named) = char_named ks c here in
    (k, has, subst (IsIn r) (sym named) held, hidden k has named)

-- none of the characters of the first n ranges is hidden
abbrev pub NoneHiddenTo : List Atom → List Range → ℕ → Type 0
NoneHiddenTo ks ranges n = (i : ℕ) (d : Range) → i < n → NoneHidden ks (get_or ranges i d)

pub more_ranges : (ks : List Atom) (ranges : List Range) (n : ℕ) (r : Range) → n < length ranges
    → r ≡ get_or ranges n r → NoneHiddenTo ks ranges n → NoneHidden ks r → NoneHiddenTo ks ranges (n + 1)
more_ranges ks ranges n r lt is shown more = λ i d few.
    elim (cases_lt i n) [
      | inl less ↦ shown i d less
      | inr past ↦
          let same : n ≡ i = omega arith in
          subst (NoneHidden ks) (is ∙ get_or_default ranges n r d lt ∙ ap (λ (j : ℕ). get_or ranges j d) same) more
    ]

pub none_of_all : (ks : List Atom) (ranges : List Range) (n : ℕ) → length ranges ≤ n → NoneHiddenTo ks ranges n
    → (k : Atom) → Contains ks k → IsAmong ranges k.name → k.hidden.value ≡ false
none_of_all ks ranges n le shown k has (i, r, lt, at, held) = shown i r (omega arith) k has (subst (λ (s : Range). IsIn s k.name) (sym at) held)
