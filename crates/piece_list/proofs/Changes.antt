-- A change of a piece changes the characters of its names, and no others.
use Rattle.std.proofs.Common.{◌≡◌, ℕ, ◌+◌, ◌<◌, Bool, true, false, cond, List, [], ◌∷◌, ◌++◌, get_or}
use Rattle.std.proofs.Common.{map, All, refl, sym, ap, subst, ◌∙◌, arith}
use Rattle.std.proofs.Math.Bool.{or-false}
use Rattle.std.proofs.lemmas.Bool.Decides.{nat_tests}
use Rattle.std.proofs.lemmas.List.{map-append}
use Rattle.std.proofs.lemmas.List.Elements.{All-head, All-tail}
use Rattle.std.proofs.lemmas.List.FromFn.{length-map-range_with_len, get_or-map-range_with_len}
use Rattle.std.proofs.lemmas.Grind.{flat_map-append}
use Rattle.char_files.specs.CharName.{CharName}
use Rattle.operations.specs.NameSet.{Range, IsIn, range_contains, names_of}
use Rattle.tree_order.specs.Registers.{Atom, if_named}
use Rattle.piece_list.specs.Piece.{Piece}
use Rattle.piece_list.specs.Pieces.{range_of, char_of, chars_of}
use Rattle.piece_list.specs.Spelled.{spelled}
use Rattle.piece_list.specs.Laws.{Avoid, ChangeIsOfItsNames}

pub contained : (r : Range) (c : CharName) → IsIn r c → range_contains r c ≡ true
contained r c is = grind (arith, nat_tests)

pub is_contained : (r : Range) (c : CharName) → range_contains r c ≡ true → IsIn r c
is_contained r c e = grind (arith, nat_tests)

not_contained : (r : Range) (c : CharName) → (IsIn r c → ⊥) → range_contains r c ≡ false
not_contained r c out = go (range_contains r c) refl
  where
    go : (b : Bool) → range_contains r c ≡ b → b ≡ false
    go true e = absurd (out (is_contained r c e))
    go false e = refl

-- a piece's names are in its range
pub in_range : (p : Piece) → All (IsIn (range_of p)) (names_of (range_of p))
in_range p = λ i d lt.
    let name : ℕ → CharName = λ (off : ℕ). record { site = p.site; off = off } in
    let few : i < p.len = omega (arith, length-map-range_with_len name p.off p.len) in
    let at : name (p.off + i) ≡ get_or (names_of (range_of p)) i d =
    sym (get_or-map-range_with_len name p.off p.len i (p.off + i) d few refl) in
    subst (IsIn (range_of p)) at (refl, omega arith, omega arith)

module _ (each : Atom → Atom) (r : Range) where
  abbrev changed : Atom → Atom
  changed = if_named (r ∷ []) each

  -- a character that isn't named stays, and one that is named is changed
  stays : (k : Atom) → (IsIn r k.name → ⊥) → changed k ≡ k
  stays k out =
      ap (λ (b : Bool). cond b (each k) k) (or-false (range_contains r k.name) ∙ not_contained r k.name out)

  changes : (k : Atom) → IsIn r k.name → changed k ≡ each k
  changes k is =
      ap (λ (b : Bool). cond b (each k) k) (or-false (range_contains r k.name) ∙ contained r k.name is)

  -- the same of the characters of these names
  chars_stay : (p : Piece) (cs : List CharName) → All (λ c. IsIn r c → ⊥) cs
      → map changed (map (char_of p) cs) ≡ map (char_of p) cs
  chars_stay p [] out = refl
  chars_stay p (c ∷ cs) out =
      let here = All-head (λ (d : CharName). IsIn r d → ⊥) c cs out in
      let rest = All-tail (λ (d : CharName). IsIn r d → ⊥) c cs out in
      ap (λ (k : Atom). k ∷ map changed (map (char_of p) cs)) (stays (char_of p c) here)
      ∙ ap (λ (ks : List Atom). char_of p c ∷ ks) (chars_stay p cs rest)

  chars_change : (p q : Piece) → ((c : CharName) → IsIn r c → char_of q c ≡ each (char_of p c)) → (cs : List CharName)
      → All (IsIn r) cs → map changed (map (char_of p) cs) ≡ map (char_of q) cs
  chars_change p q by [] is = refl
  chars_change p q by (c ∷ cs) is =
      let here = All-head (IsIn r) c cs is in
      let rest = All-tail (IsIn r) c cs is in
      ap (λ (k : Atom). k ∷ map changed (map (char_of p) cs)) (changes (char_of p c) here ∙ sym (by c here))
      ∙ ap (λ (ks : List Atom). char_of q c ∷ ks) (chars_change p q by cs rest)

  -- pieces that have none of the names stay
  pieces_stay : (items : List (ℕ × Piece)) → Avoid r items → map changed (spelled items) ≡ spelled items
  pieces_stay [] avoid = refl
  pieces_stay (m ∷ items) avoid =
      let P : ℕ × Piece → Type 0 = λ (n : ℕ × Piece). (c : CharName) → IsIn (range_of n.1) c → IsIn r c → ⊥ in
      let here : P m = All-head P m items avoid in
      let out : All (λ (c : CharName). IsIn r c → ⊥) (names_of (range_of m.1)) =
      λ i d lt. here (get_or (names_of (range_of m.1)) i d) (in_range m.1 i d lt) in
      map-append changed (chars_of m.1) (spelled items)
      ∙ ap (λ (ks : List Atom). ks ++ map changed (spelled items)) (chars_stay m.1 (names_of
      (range_of m.1)) out)
      ∙ ap (λ (ks : List Atom). chars_of m.1 ++ ks) (pieces_stay items (All-tail P m items avoid))

pub of_its_names : ChangeIsOfItsNames
of_its_names key change each before after tag p changes_each below avoid_before avoid_after =
    let chars : ℕ × Piece → List Atom = λ (m : ℕ × Piece). chars_of m.1 in
    let r : Range = range_of p in
    let f : Atom → Atom = if_named (r ∷ []) each in
    let a : List Atom = spelled before in
    let c : List Atom = spelled after in
    let (same, by) = changes_each p in
    let own : map f (chars_of p) ≡ chars_of (change p) =
    chars_change each r p (change p) (λ d is. by d (below d is)) (names_of r) (in_range p)
    ∙ ap (λ (s : Range). map (char_of (change p)) (names_of s)) (sym same) in
    let new : map f (spelled (before ++ (tag, p) ∷ after)) ≡ a ++ (chars_of (change p) ++ c) =
    ap (map f) (flat_map-append chars before ((tag, p) ∷ after))
    ∙ map-append f a (chars_of p ++ c)
    ∙ ap (λ (ks : List Atom). map f a ++ ks) (map-append f (chars_of p) c)
    ∙ ap (λ (ks : List Atom). ks ++ (map f (chars_of p) ++ map f c)) (pieces_stay each r before avoid_before)
    ∙ ap (λ (ks : List Atom). a ++ (ks ++ map f c)) own
    ∙ ap (λ (ks : List Atom). a ++ (chars_of (change p) ++ ks)) (pieces_stay each r after avoid_after) in
    flat_map-append chars before ((tag, change p) ∷ after) ∙ sym new
