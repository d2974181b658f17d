-- What the links and the table know of one another.
use Rattle.std.proofs.Common.{◌≡◌, ℕ, zero, suc, ◌+◌, ◌<◌, false, List, [], ◌∷◌, ◌++◌, map, length, slice_get}
use Rattle.std.proofs.Common.{Option, Some, None, option_map, ◌⊎◌, inl, inr, refl, sym, ap, ◌∙◌, subst, arith}
use Rattle.std.proofs.Common.{append_assoc, length-append}
use Rattle.std.specs.List.{AllByRecursion}
use Rattle.std.proofs.lemmas.List.{map-append}
use Rattle.std.proofs.lemmas.Option.{slice_get_within}
use denote.RawPtr.{Ptr}
use Rattle.piece_raw.specs.declared.block.Block.{Block}
use Rattle.piece_raw.specs.declared.nodes.Member.{Member}
use Rattle.piece_raw.specs.Linked.{Linked, same_ptr, last_from, places, round, IsApart, HasNext, HasPrev}
use Rattle.piece_raw.specs.Ring.{tags, stops, Follows, last_tag}
use Rattle.piece_raw.specs.Tied.{Held, item_of, members, stop_of, IsNodeAmong, IsStop, HoldsMember, Matches, spots}
use Rattle.piece_raw.proofs.Splits.{cons_head, cons_tail, nil_ne_split, last_from-push, split_last, all_left}
use Rattle.piece_raw.proofs.Splits.{all_right, all_both, distinct_differs}
use Rattle.piece_raw.proofs.Apart.{same_ptr_refl, same_ptr_symm, same_node}

module _ {X : Type 0} where
  pub slice_get-left : (xs ys : List X) (i : ℕ) (x : X) → slice_get xs i ≡ Some x →
      slice_get (xs ++ ys) i ≡ Some x
  slice_get-left [] ys i x e = cc
  slice_get-left (z ∷ xs) ys zero x e = e
  slice_get-left (z ∷ xs) ys (suc i) x e = slice_get-left xs ys i x e

  pub slice_get-short : (xs ys : List X) (i : ℕ) → i < length xs → slice_get (xs ++ ys) i ≡ slice_get xs i
  slice_get-short [] ys i h = absurd (omega arith)
  slice_get-short (z ∷ xs) ys zero h = refl
  slice_get-short (z ∷ xs) ys (suc i) h = slice_get-short xs ys i (omega arith)

  pub slice_get-cut : (xs : List X) (x : X) (ys : List X) → slice_get (xs ++ x ∷ ys) (length xs) ≡ Some x
  slice_get-cut [] x ys = refl
  slice_get-cut (z ∷ xs) x ys = let more : length (z ∷ xs) ≡ suc (length xs) = omega arith in
      ap (slice_get (z ∷ xs ++ x ∷ ys)) more ∙ slice_get-cut xs x ys

below_push : (k n : ℕ) → k < n + 1 → (k < n) ⊎ (k ≡ n)
below_push zero zero h = inr refl
below_push zero (suc n) h = inl (omega arith)
below_push (suc k) zero h = absurd (omega arith)
below_push (suc k) (suc n) h = elim (below_push k n (omega arith)) [
  | inl l ↦ inl (omega arith)
  | inr e ↦ inr (ap suc e)
]

abbrev pub N : Type 0 → Type 0
N T = Linked (Held T)

module _ {T : Type 0} where
  abbrev AllHeld : List Ptr → List (N T) → Type 0
  AllHeld ps = AllByRecursion (HoldsMember ps)

  pub members-append : (xs ys : List (N T)) → members (xs ++ ys) ≡ members xs ++ members ys
  members-append [] ys = refl
  members-append (x ∷ xs) ys = ap (λ l. item_of x.value ++ l) (members-append xs ys) ∙
      sym (append_assoc (item_of x.value) (members xs) (members ys))

  pub members-cons : (x : N T) (m : Member T) (ys : List (N T)) → x.value ≡ Some m →
      members (x ∷ ys) ≡ (m.tag, m.value) ∷ members ys
  members-cons x m ys e = ap (λ v. item_of v ++ members ys) e

  pub stop-some : (x : N T) (m : Member T) → x.value ≡ Some m → stop_of x ≡ Some m.tag
  stop-some x m e = ap (option_map (λ (n : Member T). n.tag)) e

  stop-none : (t : N T) → t.value ≡ None → stop_of t ≡ None
  stop-none t e = ap (option_map (λ (n : Member T). n.tag)) e

  held_at : (ps : List Ptr) (ns xs : List (N T)) (x : N T) (ys : List (N T)) → AllHeld ps ns →
      ns ≡ xs ++ x ∷ ys → HoldsMember ps x
  held_at ps ns xs x ys h c = (all_right (HoldsMember ps) xs (x ∷ ys) (subst (AllHeld ps) c h)).0

  module _ (ps : List Ptr) where
    stops-members : (ns : List (N T)) → AllHeld ps ns → map Some (tags (members ns)) ≡ map stop_of ns
    stops-members [] h = refl
    stops-members (x ∷ ns) h =
        ap (λ l. map Some (tags l)) (members-cons x h.0.0 ns h.0.1) ∙
        (λ i. sym (stop-some x h.0.0 h.0.1) i ∷ stops-members ns h.1 i)

    module _ (t : N T) (none : t.value ≡ None) where
      stops_are : (ns : List (N T)) → AllHeld ps ns → stops (members ns) ≡ map stop_of (t ∷ (ns ++ t ∷ []))
      stops_are ns h =
          let at = stop-none t none in
          (λ i. sym at i ∷ (stops-members ns h i ++ sym at i ∷ [])) ∙
          ap (λ l. stop_of t ∷ l) (sym (map-append stop_of ns (t ∷ [])))

      stops_step : (ns : List (N T)) → AllHeld ps ns → (xs : List (N T)) (x y : N T) (zs : List (N T)) →
          t ∷ (ns ++ t ∷ []) ≡ xs ++ x ∷ y ∷ zs → Follows (members ns) (stop_of x) (stop_of y)
      stops_step ns h xs x y zs e = (
        map stop_of xs,
        map stop_of zs,
        stops_are ns h ∙ ap (map stop_of) e ∙
            map-append stop_of xs (x ∷ y ∷ zs),
      )

      -- a member lies where the table says
      pub found : (ns : List (N T)) → AllHeld ps ns → (xs : List (N T)) (x : N T) (ys : List (N T)) →
          t ∷ ns ≡ xs ++ x ∷ ys → (k : ℕ) → stop_of x ≡ Some k → slice_get ps k ≡ Some x.at
      found ns h [] x ys c k s = let same = cons_head t x ns ys c in let at = sym (stop-none t none) ∙
          ap stop_of same ∙ s in cc
      found ns h (z ∷ xs) x ys c k s =
          let here = held_at ps ns xs x ys h (cons_tail t z ns (xs ++ x ∷ ys) c) in
          let both : Some here.0.tag ≡ Some k = sym (stop-some x here.0 here.1) ∙ s in
          let tag : here.0.tag ≡ k = cc in
          subst (λ j. slice_get ps j ≡ Some x.at) tag here.2

      -- what stands nowhere else is the trailer
      pub trailer_found : (ns : List (N T)) → AllHeld ps ns → (xs : List (N T)) (x : N T) (ys : List (N T)) →
          t ∷ ns ≡ xs ++ x ∷ ys → stop_of x ≡ None → t.at ≡ x.at
      trailer_found ns h [] x ys c s = ap (λ (n : N T). n.at) (cons_head t x ns ys c)
      trailer_found ns h (z ∷ xs) x ys c s =
          let here = held_at ps ns xs x ys h (cons_tail t z ns (xs ++ x ∷ ys) c) in
          let at = sym (stop-some x here.0 here.1) ∙ s in cc

      last_tag-cons : (x : N T) (xs : List (N T)) → AllHeld ps (x ∷ xs) →
          last_tag (members (x ∷ xs)) ≡ stop_of (last_from x xs)
      last_tag-cons x [] h = ap last_tag (members-cons x h.0.0 [] h.0.1) ∙ sym (stop-some x h.0.0 h.0.1)
      last_tag-cons x (y ∷ xs) h =
          let m = h.0.0 in let n = h.1.0.0 in
          let rest : members (y ∷ xs) ≡ (n.tag, n.value) ∷ members xs = members-cons y n xs h.1.0.1 in
          ap last_tag (members-cons x m (y ∷ xs) h.0.1 ∙ ap (λ l. (m.tag, m.value) ∷ l) rest) ∙
          ap last_tag (sym rest) ∙ last_tag-cons y xs h.1

      pub last_tag-members : (xs : List (N T)) → AllHeld ps xs →
          last_tag (members xs) ≡ stop_of (last_from t xs)
      last_tag-members [] h = sym (stop-none t none)
      last_tag-members (x ∷ xs) h = last_tag-cons x xs h

  -- the node after x, around the ring
  unfoldable pub step_after : (t : N T) (ns xs : List (N T)) (x : N T) (ys : List (N T)) → t ∷ ns ≡ xs ++ x ∷ ys →
      (y : N T) × (zs : List (N T)) × (t ∷ (ns ++ t ∷ []) ≡ xs ++ x ∷ y ∷ zs) × IsNodeAmong (t ∷ ns) y
  step_after t ns xs x [] c = (
    t,
    [],
    ap (λ l. l ++ t ∷ []) c ∙
        append_assoc xs (x ∷ []) (t ∷ []),
    ([], ns, refl),
  )
  step_after t ns xs x (y ∷ ys) c = (
    y,
    ys ++ t ∷ [],
    ap (λ l. l ++ t ∷ []) c ∙ append_assoc xs (x ∷ y ∷ ys)
        (t ∷ []),
    (xs ++ x ∷ [], ys, c ∙ sym (append_assoc xs (x ∷ []) (y ∷ ys))),
  )

  -- the node before x
  step_before : (t : N T) (ns xs : List (N T)) (x : N T) (ys : List (N T)) → t ∷ ns ≡ xs ++ x ∷ ys →
      (y : N T) × (us : List (N T)) × (vs : List (N T)) × (t ∷ (ns ++ t ∷ []) ≡ us ++ y ∷ x ∷ vs)
      × IsNodeAmong (t ∷ ns) y
  step_before t ns [] x ys c =
      let last = split_last t ns in let y = last_from t ns in (
        y,
        last.0,
        [],
        ap (λ l. l ++ t ∷ []) last.1 ∙ append_assoc last.0 (y ∷ []) (t ∷ []) ∙
            ap (λ z. last.0 ++ y ∷ z ∷ []) (cons_head t x ns ys c),
        (last.0, [], last.1),
      )
  step_before t ns (z ∷ xs) x ys c =
      let last = split_last z xs in let y = last_from z xs in
      let cut : t ∷ ns ≡ last.0 ++ y ∷ x ∷ ys = c ∙ ap (λ l. l ++ x ∷ ys) last.1 ∙
      append_assoc last.0 (y ∷ []) (x ∷ ys) in (
        y,
        last.0,
        ys ++ t ∷ [],
        ap (λ l. l ++ t ∷ []) cut ∙
            append_assoc last.0 (y ∷ x ∷ ys) (t ∷ []),
        (last.0, x ∷ ys, cut),
      )

  round_step : (t : N T) (ns xs : List (N T)) (x y : N T) (zs : List (N T)) →
      t ∷ (ns ++ t ∷ []) ≡ xs ++ x ∷ y ∷ zs → HasNext (round t ns) x.at y.at
  round_step t ns xs x y zs e = (
    places xs,
    places zs,
    ap (λ l. t.at ∷ l) (sym (map-append (λ (n : N T). n.at) ns (t ∷ []))) ∙
        ap places e ∙ map-append (λ (n : N T). n.at) xs (x ∷ y ∷ zs),
  )

  -- the pointer of the node after x comes directly after that of x
  pub pointer_after : (t : N T) (ns xs : List (N T)) (x : N T) (ys : List (N T)) (c : t ∷ ns ≡ xs ++ x ∷ ys)
      (p : Ptr) → p ≡ x.at → HasNext (round t ns) p (step_after t ns xs x ys c).0.at
  pointer_after t ns xs x ys c p at =
      let step = step_after t ns xs x ys c in
      subst (λ (q : Ptr). HasNext (round t ns) q step.0.at) (sym at)
      (round_step t ns xs x step.0 step.1 step.2)

  -- the node after that of a stop, of which it is the next one
  pub next_stop : (t : N T) (ns : List (N T)) (stop : Option ℕ) (s : IsStop (t ∷ ns) stop) (p : Ptr) → p ≡ s.0.at →
      (y : N T) × HasNext (round t ns) p y.at × IsNodeAmong (t ∷ ns) y
      × ((ps : List Ptr) → t.value ≡ None → AllHeld ps ns → Follows (members ns) stop (stop_of y))
  next_stop t ns stop (x, among, is) p at =
      let step = step_after t ns among.0 x among.1 among.2 in (
        step.0,
        pointer_after t ns among.0 x among.1 among.2 p at,
        step.3,
        λ ps none held. subst (λ (c : Option ℕ). Follows (members ns) c (stop_of step.0)) is
            (stops_step ps t none ns held among.0 x step.0 step.1 step.2),
      )

  -- the node before that of a stop, of which it is the one before
  pub prev_stop : (t : N T) (ns : List (N T)) (stop : Option ℕ) (s : IsStop (t ∷ ns) stop) (p : Ptr) → p ≡ s.0.at →
      (y : N T) × HasPrev (round t ns) p y.at × IsNodeAmong (t ∷ ns) y
      × ((ps : List Ptr) → t.value ≡ None → AllHeld ps ns → Follows (members ns) (stop_of y) stop)
  prev_stop t ns stop (x, among, is) p at =
      let step = step_before t ns among.0 x among.1 among.2 in (
        step.0,
        subst (λ (q : Ptr). HasPrev (round t ns) q step.0.at) (sym at)
            (round_step t ns step.1 step.0 x step.2 step.3),
        step.4,
        λ ps none held. subst (λ (c : Option ℕ). Follows (members ns) (stop_of step.0) c) is
            (stops_step ps t none ns held step.1 step.0 x step.2 step.3),
      )

  pub places_last : (t : N T) (xs : List (N T)) → last_from t.at (places xs) ≡ (last_from t xs).at
  places_last t [] = refl
  places_last t (x ∷ xs) = places_last x xs

  pub split_after : (t : N T) (ns us : List (N T)) (x : N T) (vs : List (N T)) → t ∷ ns ≡ us ++ x ∷ vs →
      (xs : List (N T)) × (ns ≡ xs ++ vs) × (last_from t xs ≡ x)
  split_after t ns [] x vs e = ([], cons_tail t x ns vs e, cons_head t x ns vs e)
  split_after t ns (u ∷ us) x vs e = (
    us ++ x ∷ [],
    cons_tail t u ns (us ++ x ∷ vs) e ∙
        sym (append_assoc us (x ∷ []) vs),
    last_from-push t us x,
  )

  -- the node that lies where x lies is x
  pub last_is : (t : N T) (ns xs ys us : List (N T)) (x : N T) (vs : List (N T)) →
      IsApart (places (t ∷ ns)) → ns ≡ xs ++ ys → t ∷ ns ≡ us ++ x ∷ vs → last_from t.at (places xs) ≡ x.at →
      last_from t xs ≡ x
  last_is t ns xs ys us x vs d c e at =
      let last = split_last t xs in let y = last_from t xs in
      (same_node (t ∷ ns) last.0 y ys us x vs d (ap (λ l. t ∷ l) c ∙ ap (λ l. l ++ ys) last.1 ∙
      append_assoc last.0 (y ∷ []) ys) e (sym (places_last t xs) ∙ at)).1

  -- the member of a place in the list of members
  pub split_members : (ps : List Ptr) (ns : List (N T)) → AllHeld ps ns →
      (us : List (ℕ × T)) (k : ℕ) (v : T) (vs : List (ℕ × T)) → members ns ≡ us ++ (k, v) ∷ vs
      → (xs : List (N T)) × (x : N T) × (ys : List (N T)) × (m : Member T) × (ns ≡ xs ++ x ∷ ys)
      × (x.value ≡ Some m) × (◌≡◌ {A = ℕ × T} (m.tag, m.value) (k, v)) × (members xs ≡ us)
      × (members ys ≡ vs)
  split_members ps [] h us k v vs e = absurd (nil_ne_split us (k, v) vs e)
  split_members ps (n ∷ ns) h [] k v vs e =
      let m = h.0.0 in let all = sym (members-cons n m ns h.0.1) ∙ e in (
        [],
        n,
        ns,
        m,
        refl,
        h.0.1,
        cons_head (m.tag, m.value) (k, v) (members ns)
            vs all,
        refl,
        cons_tail (m.tag, m.value) (k, v) (members ns) vs all,
      )
  split_members ps (n ∷ ns) h (u ∷ us) k v vs e =
      let m = h.0.0 in let all = sym (members-cons n m ns h.0.1) ∙ e in
      let on = split_members ps ns h.1 us k v vs (cons_tail (m.tag, m.value) u (members ns) (us ++ (k, v) ∷ vs)
      all) in
      let first = cons_head (m.tag, m.value) u (members ns) (us ++ (k, v) ∷ vs) all in (
        n ∷ on.0,
        on.1,
        on.2,
        on.3,
        ap (λ l. n ∷ l) on.4,
        on.5,
        on.6,
        members-cons n m on.0 h.0.1 ∙
            (λ i. first i ∷ on.7 i),
        on.8,
      )

  pub among-with : (xs : List (N T)) (n : N T) (ys us : List (N T)) (x : N T) (vs : List (N T)) →
      xs ++ ys ≡ us ++ x ∷ vs → IsNodeAmong (xs ++ n ∷ ys) x
  among-with [] n ys us x vs e = (n ∷ us, vs, ap (λ l. n ∷ l) e)
  among-with (z ∷ xs) n ys [] x vs e = (
    [],
    xs ++ n ∷ ys,
    ap (λ w. w ∷ (xs ++ n ∷ ys))
        (cons_head z x (xs ++ ys) vs e),
  )
  among-with (z ∷ xs) n ys (u ∷ us) x vs e = let on = among-with xs n ys us x vs (cons_tail z u (xs ++ ys)
      (us ++ x ∷ vs) e) in (z ∷ on.0, on.1, ap (λ l. z ∷ l) on.2)

  pub among-without : (xs : List (N T)) (n : N T) (ys us : List (N T)) (x : N T) (vs : List (N T)) →
      xs ++ n ∷ ys ≡ us ++ x ∷ vs → (n ≡ x) ⊎ IsNodeAmong (xs ++ ys) x
  among-without [] n ys [] x vs e = inl (cons_head n x ys vs e)
  among-without [] n ys (u ∷ us) x vs e = inr (us, vs, cons_tail n u ys (us ++ x ∷ vs) e)
  among-without (z ∷ xs) n ys [] x vs e = inr (
    [],
    xs ++ ys,
    ap (λ w. w ∷ (xs ++ ys))
        (cons_head z x (xs ++ n ∷ ys) vs e),
  )
  among-without (z ∷ xs) n ys (u ∷ us) x vs e = elim (among-without xs n ys us x vs (cons_tail z u (xs ++ n ∷
      ys) (us ++ x ∷ vs) e)) [
        | inl s ↦ inl s
        | inr on ↦ inr (z ∷ on.0, on.1, ap (λ l. z ∷ l) on.2)
      ]

  held-more : (ps : List Ptr) (p : Ptr) (ns : List (N T)) → AllHeld ps ns → AllHeld (ps ++ p ∷ []) ns
  held-more ps p [] h = tt
  held-more ps p (n ∷ ns) h = (
    (
      h.0.0,
      h.0.1,
      slice_get-left ps (p ∷ [])
          h.0.0.tag n.at h.0.2,
    ),
    held-more ps p ns h.1,
  )

  pub Matches-pushed : (ps : List Ptr) (ns xs ys : List (N T)) (n : N T) (m : Member T) → Matches ps ns →
      ns ≡ xs ++ ys → n.value ≡ Some m → m.tag ≡ length ps → Matches (ps ++ n.at ∷ []) (xs ++ n ∷ ys)
  Matches-pushed ps ns xs ys n m old c is at =
      let P = HoldsMember (ps ++ n.at ∷ []) in
      let more : AllByRecursion P (xs ++ ys) = subst (AllByRecursion P) c (held-more ps n.at ns old.held) in
      let here : P n = (m, is, ap (slice_get (ps ++ n.at ∷ [])) at ∙ slice_get-cut ps n.at []) in
      let count = old.counted in
      record {
        held = all_both P xs (n ∷ ys) (all_left P xs ys more) (here, all_right P xs ys more);
        full = λ k h. elim (below_push k (length ps) (omega (arith, length-append ps (n.at ∷ [])))) [
          | inl l ↦ let was = old.full k l in (
            was.0,
            among-with xs n ys was.1.0 was.0 was.1.1 (sym c ∙
                was.1.2),
            was.2,
          )
          | inr e ↦ (n, (xs, ys, refl), stop-some n m is ∙ ap Some (at ∙ sym e))
        ];
        counted = omega (
          arith,
          length-append ps (n.at ∷ []),
          length-append xs (n ∷ ys),
          length-append xs ys,
          ap length c,
        );
      }

  held-fewer : (ps : List Ptr) (p : Ptr) (ns : List (N T)) → AllHeld (ps ++ p ∷ []) ns →
      AllByRecursion (λ (z : N T). same_ptr p z.at ≡ false) ns → AllHeld ps ns
  held-fewer ps p [] h d = tt
  held-fewer ps p (n ∷ ns) h d =
      let m = h.0.0 in
      let within = slice_get_within (ps ++ p ∷ []) m.tag n.at h.0.2 in
      let below : m.tag < length ps = elim (below_push m.tag (length ps)
      (omega (arith, length-append ps (p ∷ [])))) [
        | inl l ↦ l
        | inr e ↦ (
            let both : Some n.at ≡ Some p = sym h.0.2 ∙ ap (slice_get (ps ++ p ∷ [])) e ∙
            slice_get-cut ps p [] in
            let same : n.at ≡ p = cc in
            let differs = sym d.0 ∙ ap (same_ptr p) same ∙ same_ptr_refl p in cc)
      ] in
      ((m, h.0.1, sym (slice_get-short ps (p ∷ []) m.tag below) ∙ h.0.2), held-fewer ps p ns h.1 d.1)

  pub Matches-popped : (ps : List Ptr) (p : Ptr) (ns xs : List (N T)) (x : N T) (ys : List (N T)) →
      IsApart (places ns) → Matches (ps ++ p ∷ []) ns → ns ≡ xs ++ x ∷ ys → x.at ≡ p →
      stop_of x ≡ Some (length ps) → Matches ps (xs ++ ys)
  Matches-popped ps p ns xs x ys d old c at s =
      let P = HoldsMember (ps ++ p ∷ []) in
      let all = subst (AllByRecursion P) c old.held in
      let others : AllByRecursion (λ (z : N T). same_ptr p z.at ≡ false) (xs ++ ys) =
      subst (λ q. AllByRecursion (λ (z : N T). same_ptr q z.at ≡ false) (xs ++ ys))
      at (distinct_differs (λ (n : N T). n.at) same_ptr same_ptr_symm xs x ys (subst (λ l. IsApart (places
      l)) c d)) in
      let count = old.counted in
      record {
        held = held-fewer ps p (xs ++ ys) (all_both P xs ys (all_left P xs (x ∷ ys) all)
            (all_right P xs (x ∷ ys) all).1) others;
        full = λ k h. (
            let was = old.full k (omega (arith, length-append ps (p ∷ []))) in
            elim (among-without xs x ys was.1.0 was.0 was.1.1 (sym c ∙ was.1.2)) [
              | inl e ↦ (let both : Some (length ps) ≡ Some k = sym s ∙ ap stop_of e ∙
                  was.2 in let same : length ps ≡ k = cc in absurd (omega arith))
              | inr on ↦ (was.0, on, was.2)
            ]);
        counted = omega (
          arith,
          length-append ps (p ∷ []),
          length-append xs (x ∷ ys),
          length-append xs ys,
          ap length c,
        );
      }

  -- the node of the table's last place
  last_node : (ps : List Ptr) (p : Ptr) (ns : List (N T)) → Matches (ps ++ p ∷ []) ns →
      (xs : List (N T)) × (x : N T) × (ys : List (N T)) × (ns ≡ xs ++ x ∷ ys) × (x.at ≡ p)
      × (stop_of x ≡ Some (length ps))
  last_node ps p ns h =
      let was = h.full (length ps) (omega (arith, length-append ps (p ∷ []))) in let x = was.0 in
      let here = held_at (ps ++ p ∷ []) ns was.1.0 x was.1.1 h.held was.1.2 in
      let stops : Some here.0.tag ≡ Some (length ps) = sym (stop-some x here.0 here.1) ∙ was.2 in
      let tag : here.0.tag ≡ length ps = cc in
      let spot : Some x.at ≡ Some p = sym here.2 ∙ ap (slice_get (ps ++ p ∷ [])) tag ∙
      slice_get-cut ps p [] in
      (was.1.0, x, was.1.1, was.1.2, (let at : x.at ≡ p = cc in at), was.2)

  -- where b's block is the last of a table, its node is among those of the table, and has the last place
  pub last_block : {A : Type 0} (blocks items : List (Block (Held T) A)) (b : Block (Held T) A) →
      blocks ≡ items ++ b ∷ [] → (ns : List (N T)) → Matches (spots blocks) ns →
      Matches (spots items ++ b.node.ptr ∷ []) ns
      × ((xs : List (N T)) × (x : N T) × (ys : List (N T)) × (ns ≡ xs ++ x ∷ ys) × (x.at ≡ b.node.ptr)
      × (stop_of x ≡ Some (length (spots items))))
  last_block blocks items b e ns h =
      let whole = subst (λ (ps : List Ptr). Matches ps ns)
      (ap spots e ∙ map-append (λ d. d.node.ptr) items (b ∷ [])) h in
      (whole, last_node (spots items) b.node.ptr ns whole)
