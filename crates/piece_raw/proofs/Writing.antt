-- Tags are distinct, so that a write to one member changes no other.
use Rattle.std.proofs.Common.{◌≡◌, ℕ, ◌<◌, ◌==◌, true, false, cond, List, [], ◌∷◌, ◌++◌, length, slice_get}
use Rattle.std.proofs.Common.{Option, Some, inl, inr, refl, sym, ap, ◌∙◌, subst, arith, length-append}
use Rattle.std.proofs.Common.{true≢false}
use Rattle.std.specs.List.{AllByRecursion, IsDistinct}
use Rattle.std.proofs.lemmas.List.{map-append}
use Rattle.std.proofs.lemmas.Option.{slice_get_within}
use Rattle.std.proofs.lemmas.Bool.{cases_eq, ne_eqb, eqb-false}
use denote.RawPtr.{Ptr}
use Rattle.piece_raw.specs.declared.nodes.Member.{Member}
use Rattle.piece_raw.specs.Linked.{linked, same_ptr, places, IsApart, set_value}
use Rattle.piece_raw.specs.Ring.{tags, AreTags, with_value}
use Rattle.piece_raw.specs.Tied.{Held, members, stop_of, IsNodeAmong, IsStop, HoldsMember, Matches}
use Rattle.piece_raw.proofs.Splits.{all_left, all_right, all_both, distinct_differs}
use Rattle.piece_raw.proofs.Apart.{same_ptr_refl, set_value-cut}
use Rattle.piece_raw.proofs.Matching.{N, members-append, members-cons, among-with, among-without, stop-some}

same_number : (a b : ℕ) → (a == b) ≡ (b == a)
same_number a b = elim (cases_eq a b) [
  | inl e ↦ (λ i. e i == sym e i)
  | inr ne ↦ ne_eqb a b ne ∙ sym (ne_eqb b a (λ e. ne (sym e)))
]

true_self : (a : ℕ) → (a == a) ≡ true
true_self a = elim (a == a) as (λ y. (a == a) ≡ y → (a == a) ≡ true)
    [ true ↦ λ e. e | false ↦ λ e. absurd (eqb-false a a e refl) ] refl

module _ {T : Type 0} where
  tags-differ : (ps : List Ptr) (x : N T) (m : Member T) → slice_get ps m.tag ≡ Some x.at →
      (ns : List (N T)) → AllByRecursion (HoldsMember ps) ns →
      AllByRecursion (λ q. same_ptr x.at q ≡ false) (places ns)
      → AllByRecursion (λ k. (m.tag == k) ≡ false) (tags (members ns))
  tags-differ ps x m at [] h d = tt
  tags-differ ps x m at (y ∷ ns) h d =
      let n = h.0.0 in
      let here : (m.tag == n.tag) ≡ false = elim (cases_eq m.tag n.tag) [
        | inr ne ↦ ne_eqb m.tag n.tag ne
        | inl e ↦ (
            let both : Some x.at ≡ Some y.at = sym at ∙ ap (slice_get ps) e ∙ h.0.2 in
            let same : x.at ≡ y.at = cc in
            absurd (true≢false (sym (same_ptr_refl x.at) ∙ ap (same_ptr x.at) same ∙ d.0)))
      ] in
      subst (λ (l : List (ℕ × T)). AllByRecursion (λ k. (m.tag == k) ≡ false) (tags l))
      (sym (members-cons y n ns h.0.1)) (here, tags-differ ps x m at ns h.1 d.1)

  tags-distinct : (ps : List Ptr) (ns : List (N T)) → AllByRecursion (HoldsMember ps) ns → IsApart (places ns) →
      IsDistinct ◌==◌ (tags (members ns))
  unfolding IsDistinct
  tags-distinct ps [] h d = tt
  tags-distinct ps (x ∷ ns) h d =
      let m = h.0.0 in
      subst (λ (l : List (ℕ × T)). IsDistinct ◌==◌ (tags l)) (sym (members-cons x m ns h.0.1))
      (tags-differ ps x m h.0.2 ns h.1 d.0, tags-distinct ps ns h.1 d.1)

  length-members : (ps : List Ptr) (ns : List (N T)) → AllByRecursion (HoldsMember ps) ns →
      length (members ns) ≡ length ns
  length-members ps [] h = refl
  length-members ps (x ∷ ns) h = let more = length-members ps ns h.1 in
      omega (arith, ap length (members-cons x h.0.0 ns h.0.1))

  tags-below : (ps : List Ptr) (ns : List (N T)) → AllByRecursion (HoldsMember ps) ns → (n : ℕ) → length ps ≡ n →
      AllByRecursion (λ tag. tag < n) (tags (members ns))
  tags-below ps [] h n e = tt
  tags-below ps (x ∷ ns) h n e =
      let m = h.0.0 in let within = slice_get_within ps m.tag x.at h.0.2 in
      subst (λ (l : List (ℕ × T)). AllByRecursion (λ tag. tag < n) (tags l))
      (sym (members-cons x m ns h.0.1)) (omega arith, tags-below ps ns h.1 n e)

  pub count_members : (ps : List Ptr) (ns : List (N T)) → Matches ps ns → length (members ns) ≡ length ps
  count_members ps ns h = length-members ps ns h.held ∙ h.counted

  pub are_tags : (ps : List Ptr) (ns : List (N T)) → Matches ps ns → IsApart (places ns) →
      AreTags (members ns)
  are_tags ps ns h d = (
    tags-distinct ps ns h.held d,
    tags-below ps ns h.held (length (members ns))
        (sym (count_members ps ns h)),
  )

  with_value-elsewhere : (k : ℕ) (w : T) (items : List (ℕ × T)) →
      AllByRecursion (λ (m : ℕ × T). (k == m.0) ≡ false) items → with_value k w items ≡ items
  with_value-elsewhere k w [] h = refl
  with_value-elsewhere k w (m ∷ items) h = λ i. (
    m.0,
    cond ((same_number m.0 k ∙
        h.0) i) w m.1,
  ) ∷ with_value-elsewhere k w items h.1 i

  with_value-cut : (us : List (ℕ × T)) (k : ℕ) (v : T) (vs : List (ℕ × T)) (w : T) →
      IsDistinct ◌==◌ (tags (us ++ (k, v) ∷ vs)) → with_value k w (us ++ (k, v) ∷ vs) ≡ us ++ (k, w) ∷ vs
  with_value-cut us k v vs w d =
      let P : ℕ × T → Type 0 = λ m. (k == m.0) ≡ false in
      let others : AllByRecursion P (us ++ vs) = distinct_differs (λ (m : ℕ × T). m.0)
      ◌==◌ same_number us (k, v) vs d in
      map-append (λ (m : ℕ × T). (m.0, cond (m.0 == k) w m.1)) us ((k, v) ∷ vs)
      ∙ (λ i. with_value-elsewhere k w us (all_left P us vs others) i ++ (k, cond (true_self k i) w v)
      ∷ with_value-elsewhere k w vs (all_right P us vs others) i)

  -- what is written through a `&mut` to the value of the member m
  abbrev pub written : Member T → T → Held T
  written m w = Some (record { tag = m.tag; value = w })

  module _ (ps : List Ptr) (ns xs : List (N T)) (x : N T) (ys : List (N T)) (m : Member T)
      (h : Matches ps ns) (d : IsApart (places ns)) (cut : ns ≡ xs ++ x ∷ ys) (is : x.value ≡ Some m) (w : T)
    where
      abbrev new : N T
      new = linked x.at (written m w)

      abbrev now : List (N T)
      now = set_value x.at (written m w) ns

      now-cut : now ≡ xs ++ new ∷ ys
      now-cut = ap (set_value x.at (written m w)) cut ∙ set_value-cut xs x ys (written m w)
          (subst (λ l. IsApart (places l)) cut d)

      -- a cursor stands where it stood
      pub stop-kept : (t : N T) (stop : Option ℕ) → IsStop (t ∷ ns) stop → IsStop (t ∷ now) stop
      stop-kept t stop s =
          elim (among-without (t ∷ xs) x ys s.1.0 s.0 s.1.1 (sym (ap (λ l. t ∷ l) cut) ∙ s.1.2)) [
            | inl e ↦ (new, (t ∷ xs, ys, ap (λ l. t ∷ l) now-cut), sym (stop-some x m is) ∙ ap stop_of e ∙ s.2)
            | inr on ↦ (
              s.0,
              subst (λ l. IsNodeAmong (t ∷ l) s.0) (sym now-cut) (among-with (t ∷ xs)
                  new ys on.0 s.0 on.1 on.2),
              s.2,
            )
          ]

      stop-there : (stop : Option ℕ) → IsStop ns stop → IsStop now stop
      stop-there stop s =
          elim (among-without xs x ys s.1.0 s.0 s.1.1 (sym cut ∙ s.1.2)) [
            | inl e ↦ (new, (xs, ys, now-cut), sym (stop-some x m is) ∙ ap stop_of e ∙ s.2)
            | inr on ↦ (
              s.0,
              subst (λ l. IsNodeAmong l s.0) (sym now-cut)
                  (among-with xs new ys on.0 s.0 on.1 on.2),
              s.2,
            )
          ]

      pub Matches-kept : Matches ps now
      Matches-kept =
          let P = HoldsMember ps in let all = subst (AllByRecursion P) cut h.held in
          let here = all_right P xs (x ∷ ys) all in
          let both : Some here.0.0 ≡ Some m = sym here.0.1 ∙ is in let same : here.0.0 ≡ m = cc in
          let put : P new = (
            record { tag = m.tag; value = w },
            refl,
            ap (λ (n : Member T). slice_get ps n.tag)
                (sym same) ∙ here.0.2,
          ) in
          let count = h.counted in
          record {
            held = subst (AllByRecursion P) (sym now-cut) (all_both P xs (new ∷ ys) (all_left P xs (x ∷ ys)
                all) (put, here.1));
            full = λ k p. stop-there (Some k) (h.full k p);
            counted = omega (
              arith,
              ap length now-cut,
              ap length cut,
              length-append xs (new ∷ ys),
              length-append xs (x ∷ ys),
            );
          }

      pub members-kept : members now ≡ with_value m.tag w (members ns)
      members-kept =
          let before = ap members cut ∙ members-append xs (x ∷ ys) ∙
          ap (λ l. members xs ++ l) (members-cons x m ys is) in
          ap members now-cut ∙ members-append xs (new ∷ ys) ∙ sym (with_value-cut (members xs)
          m.tag m.value (members ys) w (subst (λ (l : List (ℕ × T)). IsDistinct ◌==◌ (tags l))
          before (tags-distinct ps ns h.held d))) ∙ ap (with_value m.tag w) (sym before)
