-- Which piece holds a name, by its number.
use Rattle.std.proofs.Common.{◌≡◌, ◌≢◌, ℕ, ◌-◌, ◌<◌, ◌==◌, inl, inr, List, [], ◌∷◌, ◌++◌}
use Rattle.std.proofs.Common.{Option, Some, None, length}
use Rattle.std.proofs.Common.{get_or, AllPairs, Contains, refl, sym, ap, subst, ◌∙◌, arith}
use Rattle.std.proofs.lemmas.Bool.{cases_lt}
use Rattle.std.proofs.lemmas.Bool.Decides.{Decides-eqb}
use Rattle.std.proofs.lemmas.List.{map-append, length-append, length-map, get_or-map}
use Rattle.std.proofs.lemmas.List.Elements.{Contains-append_left, Contains-append_right}
use Rattle.std.proofs.lemmas.List.Elements.{Contains-append_cases}
use Rattle.std.proofs.lemmas.Map.Made.{AllPairs-from_IsDistinct}
use Rattle.std.proofs.Math.Seq.{get_or-append_seam}
use Rattle.std.specs.Prelude.{IsSome}
use Rattle.char_files.specs.CharName.{CharName}
use Rattle.operations.specs.NameSet.{IsIn, names_of}
use Rattle.piece_raw.specs.Ring.{IsMember, AreTags, tags}
use Rattle.piece_list.specs.Piece.{Piece}
use Rattle.piece_list.specs.declared.spot.Spot.{Spot}
use Rattle.piece_list.specs.Pieces.{range_of, chars_of}
use Rattle.piece_list.specs.Held.{IsSpotOf, AreEntered}
use Rattle.piece_list.specs.Spelled.{spelled, names_of_atoms, HasName}
use Rattle.piece_list.specs.Tables.{Tables, tag_at}
use Rattle.tree_order.proofs.RunNames.{in_names, names_have}
use Rattle.piece_list.proofs.Gap.{name_only, names_around, names_of_chars}

-- of optional values
pub some_is : {X : Type 0} (a b : X) → Some a ≡ Some b → a ≡ b
some_is a b e = cc

pub none_is_not : {X : Type 0} (a : X) → None ≡ Some a → ⊥
none_is_not a e = absurd cc

pub no_some : {X : Type 0} (r : Option X) → r ≡ None → IsSome r → ⊥
no_some (Some a) e some = none_is_not a (sym e)
no_some None e some = absurd cc

-- where a member stands
pub member_at : (items : List (ℕ × Piece)) (tag : ℕ) (p : Piece) → IsMember items tag p
    → (k : ℕ) × (k < length items) × ((d : ℕ × Piece) → get_or items k d ≡ (tag, p))
member_at items tag p (xs, ys, is) =
    let m : ℕ × Piece = (tag, p) in (
      length xs,
      omega (arith, ap length is, length-append xs (m ∷ ys)),
      λ d. ap (λ (l : List (ℕ × Piece)). get_or l (length xs) d) is ∙ get_or-append_seam xs m ys d,
    )

-- two members don't have one number
pub apart : (items : List (ℕ × Piece)) → AreTags items → (i j : ℕ) (d : ℕ × Piece) → i < j → j < length items
    → (get_or items i d).0 ≢ (get_or items j d).0
apart items are i j d lt within same =
    let tag : ℕ × Piece → ℕ = λ (m : ℕ × Piece). m.0 in
    let pairs : AllPairs (λ (a b : ℕ). a ≢ b) (tags items) =
    AllPairs-from_IsDistinct {eq = ◌==◌} Decides-eqb (tags items) are.0 in
    let all : j < length (tags items) = omega (arith, length-map items tag) in
    pairs i j d.0 lt all (get_or-map tag items i d d.0 (omega arith) ∙ same
    ∙ sym (get_or-map tag items j d d.0 within))

pub one_value : (items : List (ℕ × Piece)) → AreTags items → (tag : ℕ) (p q : Piece)
    → IsMember items tag p → IsMember items tag q → p ≡ q
one_value items are tag p q a b =
    let m : ℕ × Piece = (tag, p) in
    let (i, li, ei) = member_at items tag p a in
    let (j, lj, ej) = member_at items tag q b in
    let same : (get_or items i m).0 ≡ (get_or items j m).0 =
    ap (λ (n : ℕ × Piece). n.0) (ei m) ∙ sym (ap (λ (n : ℕ × Piece). n.0) (ej m)) in
    elim (cases_lt i j) [
      | inl lt ↦ absurd (apart items are i j m lt lj same)
      | inr le ↦ elim (cases_lt j i) [
        | inl lt ↦ absurd (apart items are j i m lt li (sym same))
        | inr ge ↦
            let e : i ≡ j = omega arith in
            ap (λ (n : ℕ × Piece). n.1) (sym (ei m) ∙ ap (λ (k : ℕ). get_or items k m) e ∙ ej m)
      ]
    ]

-- a spot's name is spelled
pub spot_has_name : (items : List (ℕ × Piece)) (spot : Spot) (c : CharName) → IsSpotOf items spot c
    → HasName (spelled items) c
spot_has_name items spot c (p, (xs, ys, is), within, site, off) =
    let own : List CharName = names_of (range_of p) in
    let rest : List CharName = names_of_atoms (spelled ys) in
    let before : List CharName = names_of_atoms (spelled xs) in
    let held : Contains own c = names_have (range_of p) c (site, omega arith, omega arith) in
    let names : before ++ (own ++ rest) ≡ names_of_atoms (spelled items) =
    sym (ap (λ (l : List (ℕ × Piece)). names_of_atoms (spelled l)) is ∙ names_around xs ys spot.piece p) in
    subst (λ (cs : List CharName). Contains cs c) names
    (Contains-append_right before (own ++ rest) c (Contains-append_left own rest c held))

-- and each name that is spelled has a spot
pub name_has_spot : (items : List (ℕ × Piece)) (c : CharName) → HasName (spelled items) c
    → (spot : Spot) × IsSpotOf items spot c
name_has_spot [] c (k, lt, e) = absurd (omega arith)
name_has_spot (m ∷ items) c held =
    let own : List CharName = names_of_atoms (chars_of m.1) in
    let rest : List CharName = names_of_atoms (spelled items) in
    let parts : Contains (own ++ rest) c =
    subst (λ (cs : List CharName). Contains cs c) (map-append name_only (chars_of m.1)
    (spelled items)) held in
    elim (Contains-append_cases own rest c parts) [
      | inl here ↦
          let is : IsIn (range_of m.1) c = in_names (range_of m.1) c
          (subst (λ (cs : List CharName). Contains cs c) (names_of_chars m.1 (names_of
          (range_of m.1))) here) in
          let (site, from, to) = is in (
            record { piece = m.0; within = c.off - m.1.off },
            (
              m.1,
              ([], items, refl),
              omega arith,
              site,
              omega arith,
            ),
          )
      | inr later ↦
          let (spot, (p, (xs, ys, is), within, site, off)) = name_has_spot items c later in
          (spot, (p, (m ∷ xs, ys, ap (λ (l : List (ℕ × Piece)). m ∷ l) is), within, site, off))
    ]

-- the tables have the number of each spot
pub entry_of : (items : List (ℕ × Piece)) (tables : Tables) → AreEntered items tables → (spot : Spot)
    (c : CharName) → IsSpotOf items spot c → tag_at tables c ≡ Some spot.piece
entry_of items tables are spot c (p, held, within, site, off) =
    let m : ℕ × Piece = (spot.piece, p) in
    let (k, lt, at) = member_at items spot.piece p held in
    subst (λ (n : ℕ × Piece). (d : CharName) → IsIn (range_of n.1) d → tag_at tables d ≡ Some n.0) (at m)
    (are.entered k m lt) c (site, omega arith, omega arith)

-- what isn't entered isn't spelled
pub not_entered : (items : List (ℕ × Piece)) (tables : Tables) → AreEntered items tables → (c : CharName)
    → tag_at tables c ≡ None → HasName (spelled items) c → ⊥
not_entered items tables are c none here =
    let (spot, is) = name_has_spot items c here in
    none_is_not spot.piece (sym none ∙ entry_of items tables are spot c is)
