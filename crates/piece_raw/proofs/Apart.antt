-- The nodes lie at different places, so a pointer names one node.
use Rattle.std.proofs.Common.{◌≡◌, true, false, ◌&&◌, ◌==◌, cond, List, [], ◌∷◌, ◌++◌, map, refl, sym, ap}
use Rattle.std.proofs.Common.{◌∙◌, subst, append_assoc, append-nil, map-id, eqb→eq, T}
use Rattle.std.specs.List.{AllByRecursion, IsDistinct}
use Rattle.std.proofs.lemmas.List.{map-append}
use lib.Dec.{eqb_refl}
use mathlib.Core.Bool.{Bool}
use denote.RawPtr.{Ptr, block_ptr, null_ptr}
use Rattle.piece_raw.specs.Linked.{Linked, linked, same_ptr, last_from, IsApart, HasNext, HasPrev, places}
use Rattle.piece_raw.specs.Linked.{IsAt, AtNode, set_value}
use Rattle.piece_raw.proofs.Splits.{cons_head, cons_tail, split_last, all_left, all_right, distinct_without}
use Rattle.piece_raw.proofs.Splits.{distinct_differs, distinct_with, alike_split, unpush}

true_of : (b : Bool) → T b → b ≡ true
true_of true t = refl
true_of false t = absurd t

pub same_ptr_refl : (p : Ptr) → same_ptr p p ≡ true
same_ptr_refl (block_ptr b o) = λ i. true_of (b == b) (eqb_refl b) i && true_of (o == o) (eqb_refl o) i
same_ptr_refl null_ptr = refl

both : (x y : Bool) → (x && y) ≡ true → T x × T y
both true true e = (tt, tt)
both true false e = cc
both false y e = cc

pub same_ptr_eq : (p q : Ptr) → same_ptr p q ≡ true → p ≡ q
same_ptr_eq (block_ptr b o) (block_ptr c p) e = let t = both (b == c) (o == p) e in
    λ i. block_ptr (eqb→eq b c t.0 i) (eqb→eq o p t.1 i)
same_ptr_eq (block_ptr b o) null_ptr e = cc
same_ptr_eq null_ptr (block_ptr c p) e = cc
same_ptr_eq null_ptr null_ptr e = refl

alike : (x y : Bool) → (x ≡ true → y ≡ true) → (y ≡ true → x ≡ true) → x ≡ y
alike true y f g = sym (f refl)
alike false true f g = g refl
alike false false f g = refl

pub same_ptr_symm : (p q : Ptr) → same_ptr p q ≡ same_ptr q p
same_ptr_symm p q = alike (same_ptr p q) (same_ptr q p)
    (λ e. subst (λ r. same_ptr r p ≡ true) (same_ptr_eq p q e) (same_ptr_refl p))
    (λ e. subst (λ r. same_ptr r q ≡ true) (same_ptr_eq q p e) (same_ptr_refl q))

same_split : {X : Type 0} (f : X → Ptr) (xs : List X) (x : X) (ys us : List X) (y : X) (vs : List X) →
    IsApart (map f (xs ++ x ∷ ys)) → xs ++ x ∷ ys ≡ us ++ y ∷ vs → f x ≡ f y
    → (xs ≡ us) × (x ≡ y) × (ys ≡ vs)
same_split f xs x ys us y vs d e at = alike_split f same_ptr same_ptr_symm xs x ys us y vs d e (subst (λ r.
    same_ptr (f x) r ≡ true) at (same_ptr_refl (f x)))

abbrev pub IsFresh : Ptr → List Ptr → Type 0
IsFresh p = AllByRecursion (λ q. same_ptr p q ≡ false)

mapped : (ps : List Ptr) → IsApart ps → IsApart (map (λ p. p) ps)
mapped ps = subst IsApart (sym (map-id ps))

unmapped : (ps : List Ptr) → IsApart (map (λ p. p) ps) → IsApart ps
unmapped ps = subst IsApart (map-id ps)

apart_without : (xs : List Ptr) (p : Ptr) (ys : List Ptr) → IsApart (xs ++ p ∷ ys) → IsApart (xs ++ ys)
apart_without xs p ys d = unmapped (xs ++ ys) (distinct_without (λ q. q)
    same_ptr xs p ys (mapped (xs ++ p ∷ ys) d))

apart_with : (xs : List Ptr) (p : Ptr) (ys : List Ptr) → IsFresh p (xs ++ ys) → IsApart (xs ++ ys) →
    IsApart (xs ++ p ∷ ys)
apart_with xs p ys h d = unmapped (xs ++ p ∷ ys) (distinct_with (λ q. q)
    same_ptr same_ptr_symm xs p ys h (mapped (xs ++ ys) d))

pub apart_one : (p : Ptr) → IsApart (p ∷ [])
unfolding IsDistinct
apart_one p = (tt, tt)

-- where a list with t at its end has p and q in a row, the list without that t has p
before_end : (zs : List Ptr) (t : Ptr) (xs : List Ptr) (p q : Ptr) (ys : List Ptr) →
    zs ++ t ∷ [] ≡ xs ++ p ∷ q ∷ ys → (ws : List Ptr) × (zs ≡ xs ++ p ∷ ws) × (q ∷ ys ≡ ws ++ t ∷ [])
before_end zs t xs p q ys e =
    let end = split_last q ys in
    let whole : zs ++ t ∷ [] ≡ (xs ++ p ∷ end.0) ++ last_from q ys ∷ [] = e ∙ ap (λ l. xs ++ p ∷ l) end.1 ∙
    sym (append_assoc xs (p ∷ end.0) (last_from q ys ∷ [])) in
    let same = unpush zs (xs ++ p ∷ end.0) t (last_from q ys) whole in
    (end.0, same.0, end.1 ∙ ap (λ r. end.0 ++ r ∷ []) (sym same.1))

pub same_next : (ps : List Ptr) (t p q r : Ptr) → IsApart ps → HasNext (ps ++ t ∷ []) p q →
    HasNext (ps ++ t ∷ []) p r → q ≡ r
same_next ps t p q r d a b =
    let f = before_end ps t a.0 p q a.1 a.2 in let g = before_end ps t b.0 p r b.1 b.2 in
    let same = same_split (λ x. x) a.0 p f.0 b.0 p g.0 (mapped (a.0 ++ p ∷ f.0) (subst IsApart f.1 d))
    (sym f.1 ∙ g.1) refl in
    cons_head q r a.1 b.1 (f.2 ∙ ap (λ ws. ws ++ t ∷ []) same.2 ∙ sym g.2)

-- the trailer last
turned : (t : Ptr) (ps : List Ptr) → IsApart (t ∷ ps) → IsApart (ps ++ t ∷ [])
turned t ps d = apart_with ps t [] (subst (IsFresh t) (sym (append-nil ps)) (distinct_differs (λ q. q)
    same_ptr same_ptr_symm [] t ps (mapped (t ∷ ps) d))) (subst IsApart (sym (append-nil ps))
    (apart_without [] t ps d))

-- where a list that begins with t has q and p in a row, the list without that t has p
after_start : (zs : List Ptr) (t : Ptr) (xs : List Ptr) (q p : Ptr) (ys : List Ptr) →
    t ∷ zs ≡ xs ++ q ∷ p ∷ ys → (ws : List Ptr) × (zs ≡ ws ++ p ∷ ys) × (xs ++ q ∷ [] ≡ t ∷ ws)
after_start zs t [] q p ys e = (
  [],
  cons_tail t q zs (p ∷ ys) e,
  ap (λ r. r ∷ [])
      (sym (cons_head t q zs (p ∷ ys) e)),
)
after_start zs t (x ∷ xs) q p ys e = (
  xs ++ q ∷ [],
  cons_tail t x zs (xs ++ q ∷ p ∷ ys) e ∙
      sym (append_assoc xs (q ∷ []) (p ∷ ys)),
  ap (λ r. r ∷ (xs ++ q ∷ []))
      (sym (cons_head t x zs (xs ++ q ∷ p ∷ ys) e)),
)

pub same_prev : (ps : List Ptr) (t p q r : Ptr) → IsApart (t ∷ ps) → HasPrev (t ∷ (ps ++ t ∷ [])) p q →
    HasPrev (t ∷ (ps ++ t ∷ [])) p r → q ≡ r
same_prev ps t p q r d a b =
    let zs = ps ++ t ∷ [] in
    let f = after_start zs t a.0 q p a.1 a.2 in let g = after_start zs t b.0 r p b.1 b.2 in
    let same = same_split (λ x. x) f.0 p a.1 g.0 p b.1 (mapped (f.0 ++ p ∷ a.1)
    (subst IsApart f.1 (turned t ps d))) (sym f.1 ∙ g.1) refl in
    (unpush a.0 b.0 q r (f.2 ∙ ap (λ ws. t ∷ ws) same.0 ∙ sym g.2)).1

module _ {V : Type 0} where
  -- the places after the trailer, cut
  pub places_joined : (xs ys : List (Linked V)) (t : Ptr) →
      places (xs ++ ys) ++ t ∷ [] ≡ places xs ++ (places ys ++ t ∷ [])
  places_joined xs ys t = ap (λ l. l ++ t ∷ []) (map-append (λ (m : Linked V). m.at) xs ys) ∙
      append_assoc (places xs) (places ys) (t ∷ [])

  pub apart_detached : (h : Ptr) (xs : List (Linked V)) (n : Linked V) (ys : List (Linked V)) →
      IsApart (h ∷ places (xs ++ n ∷ ys)) → IsApart (h ∷ places (xs ++ ys))
  apart_detached h xs n ys d =
      subst (λ l. IsApart (h ∷ l)) (sym (map-append (λ (m : Linked V). m.at) xs ys))
      (apart_without (h ∷ places xs) n.at (places ys) (subst (λ l. IsApart (h ∷ l))
      (map-append (λ (m : Linked V). m.at) xs (n ∷ ys)) d))

  pub apart_attached : (h : Ptr) (xs : List (Linked V)) (n : Linked V) (ys : List (Linked V)) →
      IsFresh n.at (h ∷ places (xs ++ ys)) → IsApart (h ∷ places (xs ++ ys)) →
      IsApart (h ∷ places (xs ++ n ∷ ys))
  apart_attached h xs n ys f d =
      subst (λ l. IsApart (h ∷ l)) (sym (map-append (λ (m : Linked V). m.at) xs (n ∷ ys)))
      (apart_with (h ∷ places xs) n.at (places ys) (subst (λ l. IsFresh n.at (h ∷ l))
      (map-append (λ (m : Linked V). m.at) xs ys) f) (subst (λ l. IsApart (h ∷ l))
      (map-append (λ (m : Linked V). m.at) xs ys) d))

  pub apart_places : (h : Ptr) (ns : List (Linked V)) → IsApart (h ∷ places ns) → IsApart (places ns)
  apart_places h ns d = apart_without [] h (places ns) d

  pub same_node : (ns xs : List (Linked V)) (n : Linked V) (ys us : List (Linked V)) (m : Linked V)
      (vs : List (Linked V)) → IsApart (places ns) → ns ≡ xs ++ n ∷ ys → ns ≡ us ++ m ∷ vs → n.at ≡ m.at
      → (xs ≡ us) × (n ≡ m) × (ys ≡ vs)
  same_node ns xs n ys us m vs d a b at = same_split (λ (k : Linked V). k.at)
      xs n ys us m vs (subst (λ l. IsApart (places l)) a d) (sym a ∙ b) at

  -- what holds of one node at p holds of the node at p
  pub at_node : (ns : List (Linked V)) (p : Ptr) → IsApart (places ns) → (at : IsAt ns p)
      (P : List (Linked V) → Linked V → List (Linked V) → Type 0) → P at.0 at.1 at.2 → AtNode ns p P
  at_node ns p d at P h us m ws cut e =
      let same = same_node ns at.0 at.1 at.2 us m ws d at.3 cut (at.4 ∙ sym e) in
      subst (λ (k : List (Linked V) × Linked V × List (Linked V)). P k.0 k.1 k.2)
      (λ i. (same.0 i, same.1 i, same.2 i)) h

  set_value_elsewhere : (p : Ptr) (w : V) (ns : List (Linked V)) →
      AllByRecursion (λ (m : Linked V). same_ptr p m.at ≡ false) ns → set_value p w ns ≡ ns
  unfolding set_value
  set_value_elsewhere p w [] h = refl
  set_value_elsewhere p w (m ∷ ns) h = λ i. linked m.at (cond ((same_ptr_symm m.at p ∙
      h.0) i) w m.value) ∷ set_value_elsewhere p w ns h.1 i

  pub set_value-cut : (xs : List (Linked V)) (n : Linked V) (ys : List (Linked V)) (w : V) →
      IsApart (places (xs ++ n ∷ ys)) → set_value n.at w (xs ++ n ∷ ys) ≡ xs ++ linked n.at w ∷ ys
  unfolding set_value
  set_value-cut xs n ys w d =
      let P : Linked V → Type 0 = λ m. same_ptr n.at m.at ≡ false in
      let others = distinct_differs (λ (k : Linked V). k.at) same_ptr same_ptr_symm xs n ys d in
      map-append (λ (m : Linked V). linked m.at (cond (same_ptr m.at n.at) w m.value)) xs (n ∷ ys)
      ∙ (λ i. set_value_elsewhere n.at w xs (all_left P xs ys others)
      i ++ linked n.at (cond (same_ptr_refl n.at i) w n.value)
      ∷ set_value_elsewhere n.at w ys (all_right P xs ys others) i)
