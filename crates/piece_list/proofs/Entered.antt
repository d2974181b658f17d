-- The tables after a piece was split.
use Rattle.std.proofs.Common.{◌≡◌, ◌≢◌, ℕ, ◌+◌, ◌-◌, ◌<◌, ◌≤◌, ◌⊎◌, Bool, true, false, inl, inr}
use Rattle.std.proofs.Common.{List, [], ◌∷◌}
use Rattle.std.proofs.Common.{◌++◌, Option, Some, All, get_or, refl, sym, ap, subst, ◌∙◌, arith}
use Rattle.std.proofs.lemmas.Bool.{cases_eq, cases_lt}
use Rattle.std.proofs.lemmas.List.Elements.{All-append, All-head, All-tail, All-cons}
use Rattle.looks.specs.declared.key.Key.{Key}
use Rattle.char_files.specs.CharName.{CharName}
use Rattle.operations.specs.NameSet.{Range, IsIn, range_contains}
use Rattle.std.specs.List.{AllByRecursion}
use Rattle.piece_raw.specs.Ring.{AreTags, HasTag, tags}
use Rattle.tree_order.specs.Registers.{Atom}
use Rattle.piece_list.specs.Piece.{Piece}
use Rattle.piece_list.specs.Pieces.{range_of, piece_front, rest_of, risen, IsPiece}
use Rattle.piece_list.specs.Held.{AreEntered}
use Rattle.piece_list.specs.Spelled.{spelled, HasName}
use Rattle.piece_list.specs.Tables.{Tables, tag_in, table_of, tag_at}
use Rattle.piece_list.proofs.Changes.{contained, is_contained}
use Rattle.piece_list.proofs.Split.{split_spells_the_same}
use Rattle.piece_list.proofs.Splitting.{before_others, after_others}
use Rattle.piece_list.proofs.Found.{spot_has_name}
use Rattle.piece_list.proofs.Gap.{all_left, all_right}

abbrev Items : Type 0
Items = List (ℕ × Piece)

-- one of the members has this number
abbrev pub Held : Items → ℕ → Type 0
Held [] tag = ⊥
Held (m ∷ items) tag = (m.0 ≡ tag) ⊎ Held items tag

held_there : (xs ys : Items) (tag : ℕ) (p : Piece) → Held (xs ++ (tag, p) ∷ ys) tag
held_there [] ys tag p = inl refl
held_there (m ∷ xs) ys tag p = inr (held_there xs ys tag p)

pub held : (items : Items) (tag : ℕ) → HasTag items tag → Held items tag
held items tag (p, (xs, ys, is)) = subst (λ (l : Items). Held l tag) (sym is) (held_there xs ys tag p)

pub has_tag : (items : Items) (tag : ℕ) → Held items tag → HasTag items tag
has_tag [] tag h = absurd h
has_tag (m ∷ items) tag (inl e) = (m.1, ([], items, ap (λ (k : ℕ). (k, m.1) ∷ items) e))
has_tag (m ∷ items) tag (inr h) =
    let (p, (xs, ys, is)) = has_tag items tag h in
    (p, (m ∷ xs, ys, ap (λ (l : Items). m ∷ l) is))

-- a number is below how many there are
pub tag_below : (items : Items) (n tag : ℕ) → AllByRecursion (λ t. t < n) (tags items) → Held items tag → tag < n
tag_below [] n tag all h = absurd h
tag_below (m ∷ items) n tag (lt, all) (inl e) = subst (λ (t : ℕ). t < n) e lt
tag_below (m ∷ items) n tag (lt, all) (inr h) = tag_below items n tag all h

still_held : (xs ys : Items) (tag u s : ℕ) (p a b : Piece) → Held (xs ++ (tag, p) ∷ ys) s
    → Held (xs ++ (tag, a) ∷ (u, b) ∷ ys) s
still_held [] ys tag u s p a b (inl e) = inl e
still_held [] ys tag u s p a b (inr h) = inr (inr h)
still_held (m ∷ xs) ys tag u s p a b (inl e) = inl e
still_held (m ∷ xs) ys tag u s p a b (inr h) = inr (still_held xs ys tag u s p a b h)

new_held : (xs ys : Items) (tag u : ℕ) (a b : Piece) → Held (xs ++ (tag, a) ∷ (u, b) ∷ ys) u
new_held [] ys tag u a b = inr (inl refl)
new_held (m ∷ xs) ys tag u a b = inr (new_held xs ys tag u a b)

-- a key that rose has so much greater a stamp
pub stamp_risen : (rising : Bool) (n : ℕ) (key : Key) → rising ≡ true → (risen rising n key).stamp ≡ key.stamp + n
stamp_risen rising n key rises = ap (λ (b : Bool). (risen b n key).stamp) rises

-- what is entered for a range of one site is entered for its names, and for no others
module _ (r : Range) (tag : ℕ) (old new : Tables)
    (within : (at : ℕ) → r.at ≤ at → at < r.at + r.len → tag_in (table_of new r.site) at ≡ Some tag)
    (earlier : (at : ℕ) → at < r.at → tag_in (table_of new r.site) at ≡ tag_in (table_of old r.site) at)
    (later : (at : ℕ) → r.at + r.len ≤ at → tag_in (table_of new r.site) at ≡ tag_in
    (table_of old r.site) at)
    (others : (site : ℕ) → site ≢ r.site → table_of new site ≡ table_of old site) where
  pub filled_inside : (c : CharName) → IsIn r c → tag_at new c ≡ Some tag
  filled_inside c (site, from, to) =
      ap (λ (s : ℕ). tag_in (table_of new s) c.off) site ∙ within c.off from to

  same_site : (c : CharName) → c.site ≡ r.site → tag_in (table_of new r.site) c.off ≡ tag_in
      (table_of old r.site) c.off
      → tag_at new c ≡ tag_at old c
  same_site c site same =
      ap (λ (s : ℕ). tag_in (table_of new s) c.off) site ∙ same
      ∙ ap (λ (s : ℕ). tag_in (table_of old s) c.off) (sym site)

  pub filled_outside : (c : CharName) → (IsIn r c → ⊥) → tag_at new c ≡ tag_at old c
  filled_outside c out =
      elim (cases_eq c.site r.site) [
        | inl site ↦ elim (cases_lt c.off r.at) [
          | inl before ↦ same_site c site (earlier c.off before)
          | inr from ↦ elim (cases_lt c.off (r.at + r.len)) [
            | inl to ↦ absurd (out (site, from, to))
            | inr after ↦ same_site c site (later c.off after)
          ]
        ]
        | inr other ↦ ap (λ (t : List (Option ℕ)). tag_in t c.off) (others c.site other)
      ]

module _ (xs ys : Items) (tag u n : ℕ) (p : Piece) (old new : Tables)
    (tags : AreTags (xs ++ (tag, p) ∷ ys)) (are : AreEntered (xs ++ (tag, p) ∷ ys) old)
    (some : 0 < n) (within : n < p.len)
    (inside : (c : CharName) → IsIn (range_of (rest_of n p)) c → tag_at new c ≡ Some u)
    (outside : (c : CharName) → (IsIn (range_of (rest_of n p)) c → ⊥) → tag_at new c ≡ tag_at old c)
  where
    abbrev Entered : Tables → ℕ × Piece → Type 0
    Entered tables m = (c : CharName) → IsIn (range_of m.1) c → tag_at tables c ≡ Some m.0

    own : All (Entered old) ((tag, p) ∷ ys)
    own = all_right (Entered old) xs ((tag, p) ∷ ys) are.entered

    other_stays : (m : ℕ × Piece) → m.0 ≢ tag → Entered old m → Entered new m
    other_stays m other entered c is =
        outside c (λ (site, from, to).
        let held_too : tag_at old c ≡ Some tag =
        All-head (Entered old) (tag, p) ys own c (site, omega arith, omega arith) in
        let here : tag_at old c ≡ Some m.0 = entered c is in
        let same : m.0 ≡ tag = cc in
        other same) ∙ entered c is

    all_stay : (zs : Items) → All (λ m. m.0 ≢ tag) zs → All (Entered old) zs → All (Entered new) zs
    all_stay zs others entered = λ i d lt. other_stays (get_or zs i d) (others i d lt) (entered i d lt)

    front_entered : Entered new (tag, piece_front n p)
    front_entered c (site, from, to) =
        outside c (λ (s, f, t). omega arith) ∙ All-head (Entered old) (tag, p) ys own c
        (site, omega arith, omega arith)

    rest_entered : Entered new (u, rest_of n p)
    rest_entered = inside

    held_after : (c : CharName) (s : ℕ) → tag_at new c ≡ Some s
        → HasTag (xs ++ (tag, piece_front n p) ∷ (u, rest_of n p) ∷ ys) s
    held_after c s e = go (range_contains (range_of (rest_of n p)) c) refl
      where
        go : (b : Bool) → range_contains (range_of (rest_of n p)) c ≡ b
            → HasTag (xs ++ (tag, piece_front n p) ∷ (u, rest_of n p) ∷ ys) s
        go true is =
            let at : tag_at new c ≡ Some u = inside c (is_contained (range_of (rest_of n p)) c is) in
            let same : u ≡ s = cc in
            subst (HasTag (xs ++ (tag, piece_front n p) ∷ (u, rest_of n p) ∷ ys)) same
            (has_tag (xs ++ (tag, piece_front n p) ∷ (u, rest_of n p) ∷ ys) u
            (new_held xs ys tag u (piece_front n p) (rest_of n p)))
        go false out =
            let at : tag_at new c ≡ tag_at old c = outside c (λ held.
            let yes : range_contains (range_of (rest_of n p)) c ≡ true =
            contained (range_of (rest_of n p)) c held in
            absurd cc) in
            let was : HasTag (xs ++ (tag, p) ∷ ys) s = are.held c s (sym at ∙ e) in
            has_tag (xs ++ (tag, piece_front n p) ∷ (u, rest_of n p) ∷ ys) s
            (still_held xs ys tag u s p (piece_front n p) (rest_of n p) (held (xs ++ (tag, p) ∷ ys) s was))

    spelled_after : (c : CharName) (s : ℕ) → tag_at new c ≡ Some s
        → HasName (spelled (xs ++ (tag, piece_front n p) ∷ (u, rest_of n p) ∷ ys)) c
    spelled_after c s e = subst (λ (l : List Atom). HasName l c)
        (sym (split_spells_the_same xs ys tag u n p (omega (arith, within))))
        (go (range_contains (range_of (rest_of n p)) c) refl)
      where
        go : (b : Bool) → range_contains (range_of (rest_of n p)) c ≡ b
            → HasName (spelled (xs ++ (tag, p) ∷ ys)) c
        go true is =
            let (site, from, to) = is_contained (range_of (rest_of n p)) c is in
            spot_has_name (xs ++ (tag, p) ∷ ys) (record { piece = tag; within = c.off - p.off }) c
            (p, (xs, ys, refl), omega arith, site, omega arith)
        go false out =
            let at : tag_at new c ≡ tag_at old c = outside c (λ held.
            let yes : range_contains (range_of (rest_of n p)) c ≡ true =
            contained (range_of (rest_of n p)) c held in
            absurd cc) in
            are.known c s (sym at ∙ e)

    pub entered_after : AreEntered (xs ++ (tag, piece_front n p) ∷ (u, rest_of n p) ∷ ys) new
    entered_after =
        let Is : ℕ × Piece → Type 0 = λ (m : ℕ × Piece). IsPiece m.1 in
        let here : All Is ((tag, p) ∷ ys) = all_right Is xs ((tag, p) ∷ ys) are.pieces in
        let whole : IsPiece p = All-head Is (tag, p) ys here in
        let after : All (Entered old) ys = All-tail (Entered old) (tag, p) ys own in
        record {
          pieces = All-append Is xs ((tag, piece_front n p) ∷ (u, rest_of n p) ∷ ys)
              (all_left Is xs ((tag, p) ∷ ys) are.pieces)
              (All-cons Is (tag, piece_front n p) ((u, rest_of n p) ∷ ys)
              (some, omega (arith, whole.1), omega (arith, whole.2), whole.3, λ rises. omega (arith, whole.4 rises))
              (All-cons Is (u, rest_of n p) ys (
                omega arith,
                omega (arith, whole.1),
                omega (arith, whole.2),
                whole.3,
                λ rises. omega (arith, whole.4 rises, stamp_risen p.rising n p.key rises),
              )
              (All-tail Is (tag, p) ys here)));
          entered = All-append (Entered new) xs ((tag, piece_front n p) ∷ (u, rest_of n p) ∷ ys)
              (all_stay xs (before_others xs ys tag p tags) (all_left (Entered old) xs
              ((tag, p) ∷ ys) are.entered))
              (All-cons (Entered new) (tag, piece_front n p) ((u, rest_of n p) ∷ ys) front_entered
              (All-cons (Entered new) (u, rest_of n p) ys rest_entered
              (all_stay ys (after_others xs ys tag p tags) after)));
          held = held_after;
          known = spelled_after;
        }
