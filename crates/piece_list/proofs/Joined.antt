-- A piece that becomes longer by a run that goes on where it ends.
use Rattle.std.proofs.Common.{◌≡◌, ℕ, ◌+◌, ◌-◌, ◌<◌, ◌==◌, Bool, true, false, cond, inl, inr, [], ◌∷◌, ◌++◌}
use Rattle.std.proofs.Common.{Some, All, map, ne_eqb, eq-eqb, refl, sym, ap, subst, ◌∙◌, append_assoc, arith}
use Rattle.std.proofs.lemmas.Bool.{cases_eq, cases_lt}
use Rattle.std.proofs.lemmas.List.{map-append}
use Rattle.std.proofs.lemmas.List.Elements.{All-append, All-cons, All-head, All-tail}
use Rattle.char_files.specs.CharName.{CharName}
use Rattle.operations.specs.NameSet.{IsIn, range_contains}
use Rattle.piece_raw.specs.Ring.{AreTags, HasTag, IsMember, with_value}
use Rattle.piece_list.specs.Held.{AreEntered, IsSplit, IsSpotOf}
use Rattle.piece_list.specs.Piece.{Piece}
use Rattle.piece_list.specs.Pieces.{range_of, GoesOn, IsPiece, longer}
use Rattle.piece_list.specs.Placing.{AreOrAreJoined, IsParted}
use Rattle.piece_list.specs.Spelled.{spelled, HasName}
use Rattle.piece_list.specs.Tables.{Tables, tag_at}
use Rattle.piece_list.specs.declared.spot.Spot.{Spot}
use Rattle.piece_list.proofs.ChangedPiece.{has_tag}
use Rattle.piece_list.proofs.Changes.{contained, is_contained}
use Rattle.piece_list.proofs.Entered.{stamp_risen}
use Rattle.piece_list.proofs.Found.{name_has_spot, one_value, spot_has_name}
use Rattle.piece_list.proofs.Gap.{all_left, all_right}
use Rattle.piece_list.proofs.Placing.{avoids}
use Rattle.piece_list.proofs.Positions.{Items}
use Rattle.piece_list.proofs.SplitList.{is_piece}
use Rattle.piece_list.proofs.Splitting.{ends_with, written}

-- q and, where it ends, v
module _ (q v : Piece) (on : GoesOn q v) (is_q : IsPiece q) (is_v : IsPiece v) where
  abbrev w : Piece
  w = longer v.len q

  goes_on_site : v.site ≡ q.site
  goes_on_site = ap (λ (p : Piece). p.site) on.0

  goes_on_off : v.off ≡ q.off + q.len
  goes_on_off = ap (λ (p : Piece). p.off) on.0

  pub longer_piece : IsPiece w
  longer_piece = (
    omega (arith, is_q.0),
    on.1,
    omega (arith, goes_on_off, is_v.2),
    is_q.3,
    λ rises.
        let rising : v.rising ≡ true = ap (λ (p : Piece). p.rising) on.0 ∙ rises in
        let stamp : v.key.stamp ≡ q.key.stamp + q.len =
        ap (λ (p : Piece). p.key.stamp) on.0 ∙ stamp_risen q.rising q.len q.key rises in
        omega (arith, stamp, is_v.4 rising),
  )

  -- its names are q's and v's
  own_or_new : (c : CharName) → IsIn (range_of w) c → (IsIn (range_of v) c → ⊥) → IsIn (range_of q) c
  own_or_new c (site, from, to) out =
      elim (cases_lt c.off v.off) [
        | inl lt ↦ (site, from, omega (arith, goes_on_off))
        | inr ge ↦ absurd (out (site ∙ sym goes_on_site, ge, omega (arith, goes_on_off)))
      ]

  pub new_in_longer : (c : CharName) → IsIn (range_of v) c → IsIn (range_of w) c
  new_in_longer c (site, from, to) = (site ∙ goes_on_site, omega (arith, goes_on_off), omega (arith, goes_on_off))

module _ (items : Items) (tag : ℕ) (q v : Piece) (old new : Tables) (tags : AreTags items) (are : AreEntered items old)
    (member : IsMember items tag q) (on : GoesOn q v) (is_v : IsPiece v)
    (fresh : (c : CharName) → IsIn (range_of v) c → HasName (spelled items) c → ⊥)
    (inside : (c : CharName) → IsIn (range_of v) c → tag_at new c ≡ Some tag)
    (outside : (c : CharName) → (IsIn (range_of v) c → ⊥) → tag_at new c ≡ tag_at old c)
  where
    abbrev long : Piece
    long = longer v.len q

    abbrev made : Items
    made = with_value tag long items

    abbrev Entered : Tables → ℕ × Piece → Type 0
    Entered tables m = (c : CharName) → IsIn (range_of m.1) c → tag_at tables c ≡ Some m.0

    is_q : IsPiece q
    is_q = is_piece items tag q are.pieces member

    parts : (xs ys : Items) → items ≡ xs ++ (tag, q) ∷ ys → made ≡ xs ++ (tag, long) ∷ ys
    parts xs ys is = ap (with_value tag long) is ∙ written xs ys tag q long (subst AreTags is tags)

    -- what holds of all pieces holds of all with the longer one, if it holds of that
    replaced : (P : ℕ × Piece → Type 0) → All P items → (P (tag, q) → P (tag, long)) → All P made
    replaced P all turns =
        let (xs, ys, is) = member in
        let here : All P (xs ++ (tag, q) ∷ ys) = subst (All P) is all in
        let after : All P ((tag, q) ∷ ys) = all_right P xs ((tag, q) ∷ ys) here in
        subst (All P) (sym (parts xs ys is))
        (All-append P xs ((tag, long) ∷ ys) (all_left P xs ((tag, q) ∷ ys) here)
        (All-cons P (tag, long) ys (turns (All-head P (tag, q) ys after)) (All-tail P (tag, q) ys after)))

    still_entered : All (Entered new) items
    still_entered = λ i d lt c is.
        outside c (λ has. avoids (range_of v) items fresh i d lt c is has) ∙ are.entered i d lt c is

    longer_entered : Entered new (tag, q) → Entered new (tag, long)
    longer_entered entered c is = go (range_contains (range_of v) c) refl
      where
        go : (b : Bool) → range_contains (range_of v) c ≡ b → tag_at new c ≡ Some tag
        go true has = inside c (is_contained (range_of v) c has)
        go false out = entered c (own_or_new q v on is_q is_v c is (λ has.
            let yes : range_contains (range_of v) c ≡ true = contained (range_of v) c has in
            absurd cc))

    -- each spot stays
    spot_stays : (spot : Spot) (c : CharName) → IsSpotOf items spot c → IsSpotOf made spot c
    spot_stays spot c (p, (xs, ys, is), within, site, off) =
        let s : ℕ = spot.piece in
        let put : ℕ × Piece → ℕ × Piece = λ (m : ℕ × Piece). (m.0, cond (m.0 == tag) long m.1) in
        let there : IsMember made s (cond (s == tag) long p) =
        (map put xs, map put ys, ap (map put) is ∙ map-append put xs ((s, p) ∷ ys)) in
        elim (cases_eq s tag) [
          | inl same ↦
              let own : p ≡ q = one_value items tags tag p q (subst (λ (t : ℕ). IsMember items t p) same (xs, ys, is)) member in
              let off' : p.off ≡ q.off = ap (λ (r : Piece). r.off) own in
              let len : p.len ≡ q.len = ap (λ (r : Piece). r.len) own in (
                long,
                subst (λ (b : Bool). IsMember made s (cond b long p)) (eq-eqb s tag same) there,
                omega (arith, within, len),
                site ∙ ap (λ (r : Piece). r.site) own,
                omega (arith, off, off'),
              )
          | inr differs ↦
              (p, subst (λ (b : Bool). IsMember made s (cond b long p)) (ne_eqb s tag differs) there, within, site, off)
        ]

    held_after : (c : CharName) (s : ℕ) → tag_at new c ≡ Some s → HasTag made s
    held_after c s e = go (range_contains (range_of v) c) refl
      where
        go : (b : Bool) → range_contains (range_of v) c ≡ b → HasTag made s
        go true is =
            let at : tag_at new c ≡ Some tag = inside c (is_contained (range_of v) c is) in
            let same : tag ≡ s = cc in
            subst (HasTag made) same (has_tag items tag tag long (q, member))
        go false out =
            let at : tag_at new c ≡ tag_at old c = outside c (λ has.
            let yes : range_contains (range_of v) c ≡ true = contained (range_of v) c has in
            absurd cc) in
            has_tag items tag s long (are.held c s (sym at ∙ e))

    known_after : (c : CharName) (s : ℕ) → tag_at new c ≡ Some s → HasName (spelled made) c
    known_after c s e = go (range_contains (range_of v) c) refl
      where
        go : (b : Bool) → range_contains (range_of v) c ≡ b → HasName (spelled made) c
        go true is =
            let (xs, ys, whole) = member in
            let (site, from, to) = new_in_longer q v on is_q is_v c (is_contained (range_of v) c is) in
            spot_has_name made (record { piece = tag; within = c.off - q.off }) c
            (long, (xs, ys, parts xs ys whole), omega arith, site, omega arith)
        go false out =
            let at : tag_at new c ≡ tag_at old c = outside c (λ has.
            let yes : range_contains (range_of v) c ≡ true = contained (range_of v) c has in
            absurd cc) in
            let (spot, is) = name_has_spot items c (are.known c s (sym at ∙ e)) in
            spot_has_name made spot c (spot_stays spot c is)

    pub joined_entered : AreEntered made new
    joined_entered = record {
      pieces = replaced (λ m. IsPiece m.1) are.pieces (λ is. longer_piece q v on is is_v);
      entered = replaced (Entered new) still_entered longer_entered;
      held = held_after;
      known = known_after;
    }

-- the longer piece stands for both, wherever the pieces are parted
pub joined_there : (items new : Items) (tag : ℕ) (q v : Piece) → AreTags items → IsMember items tag q → GoesOn q v → 0 < v.len
    → new ≡ with_value tag (longer v.len q) items → (before after : Items) → IsParted items (Some tag) before after
    → (other : ℕ) × AreOrAreJoined other (before ++ (other, v) ∷ after) new
joined_there items new tag q v tags member on some is before after (whole, last) =
    let (f, p, ends) = ends_with before tag last in
    let here : items ≡ f ++ (tag, p) ∷ after =
    whole ∙ ap (λ (l : Items). l ++ after) ends ∙ append_assoc f ((tag, p) ∷ []) after in
    let own : p ≡ q = one_value items tags tag p q (f, after, here) member in
    let there : items ≡ f ++ (tag, q) ∷ after = here ∙ ap (λ (r : Piece). f ++ (tag, r) ∷ after) own in
    let w : Piece = longer v.len q in
    let ends_so : before ≡ f ++ (tag, q) ∷ [] = ends ∙ ap (λ (r : Piece). f ++ (tag, r) ∷ []) own in
    let split : IsSplit tag q.len 0 new (before ++ (0, v) ∷ after) = record {
      before = f;
      after = after;
      piece = w;
      whole = is ∙ ap (with_value tag w) there ∙ written f after tag q w (subst AreTags there tags);
      within = omega arith;
      parts = ap (λ (l : Items). l ++ (0, v) ∷ after) ends_so ∙ append_assoc f ((tag, q) ∷ []) ((0, v) ∷ after)
          ∙ ap (λ (r : Piece). f ++ (tag, q) ∷ (0, r) ∷ after) on.0;
    } in
    (0, inr (tag, q.len, split))
