-- What C hands in, tested and put into a vector.
use Rattle.std.proofs.Common.{◌≡◌, ℕ, ◌+◌, ◌<◌, ◌≤◌, Bool, true, false, List, [], ◌∷◌, ◌++◌, length, map, drop, get_or, Some, None, cond, refl, sym, ap, subst, ◌∙◌, length-append, arith}
use Rattle.std.specs.List.{list_all}
use Rattle.std.proofs.lemmas.Bool.{and_parts, true≢false}
use Rattle.std.proofs.lemmas.List.{append_assoc, drop_all, drop_more, length-map, append-nil}
use Rattle.std.proofs.lemmas.Option.{same_Some}

-- those before this index are put there, and those from it on are valid, too
pub record IsPut {A B : Type 0} (is : A → Bool) (to : A → B) (xs : List A) (old new : List B) (i : ℕ) : Type 0 where
  pub put : new ++ map to (drop i xs) ≡ old ++ map to xs
  pub valid : list_all is (drop i xs) ≡ true

picked : {B : Type 0} (valid : Bool) (r x : B) → cond valid (Some r) None ≡ Some x → x ≡ r
picked true r x is = sym (same_Some r x is)
picked false r x is = absurd cc

none_picked : {B : Type 0} (valid : Bool) (r : B) → valid ≡ true → cond valid (Some r) None ≡ None → ⊥
none_picked true r is none = absurd cc
none_picked false r is none = true≢false (sym is)

module _ {A B : Type 0} (is : A → Bool) (to : A → B) where
  pub put_begins : (xs : List A) (old : List B) → list_all is xs ≡ true → IsPut is to xs old old 0
  put_begins xs old are = record { put = refl; valid = are }

  pub put_ends : (xs : List A) (old new : List B) (i : ℕ) → length xs ≤ i → IsPut is to xs old new i
      → new ≡ old ++ map to xs
  put_ends xs old new i end at =
      sym (append-nil new) ∙ ap (λ (l : List A). new ++ map to l) (sym (drop_all i xs end)) ∙ at.put

module _ {A B : Type 0} (is : A → Bool) (to : A → B) (xs : List A) (old new : List B) (i : ℕ) (d : A) (lt : i < length xs)
    (at : IsPut is to xs old new i) where
  abbrev n : A
  n = get_or xs i d

  abbrev rest : List A
  rest = drop (i + 1) xs

  next : drop i xs ≡ n ∷ rest
  next = drop_more xs i d lt

  valid_here : (is n ≡ true) × (list_all is rest ≡ true)
  valid_here = and_parts (is n) (list_all is rest) (subst (λ (l : List A). list_all is l ≡ true) next at.valid)

  pub put_more : (x : B) → cond (is n) (Some (to n)) None ≡ Some x → IsPut is to xs old (new ++ x ∷ []) (i + 1)
  put_more x got = record {
    put =
        append_assoc new (x ∷ []) (map to rest) ∙ ap (λ (r : B). new ++ r ∷ map to rest) (picked (is n) (to n) x got)
        ∙ ap (λ (l : List A). new ++ map to l) (sym next) ∙ at.put;
    valid = valid_here.1;
  }

  pub never_none : cond (is n) (Some (to n)) None ≡ None → ⊥
  never_none none = none_picked (is n) (to n) valid_here.0 none

  pub put_within : length new < length old + length xs
  put_within =
      omega (
        arith,
        ap (λ (l : List B). length l) at.put,
        length-append new (map to (drop i xs)),
        length-append old (map to xs),
        length-map xs to,
        length-map (drop i xs) to,
        ap (λ (l : List A). length l) next,
      )
