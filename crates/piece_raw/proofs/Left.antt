-- What is left of a ring from a node on, and after it.
use Rattle.std.proofs.Common.{◌≡◌, ℕ, Bool, false, cond, List, [], ◌∷◌, ◌++◌, Some, None, option_map}
use Rattle.std.proofs.Common.{refl, sym, ap, ◌∙◌, subst, append_assoc}
use Rattle.std.specs.List.{AllByRecursion}
use denote.RawPtr.{Ptr}
use Rattle.piece_raw.specs.declared.nodes.Member.{Member}
use Rattle.piece_raw.specs.Linked.{same_ptr, places, IsApart}
use Rattle.piece_raw.specs.Ring.{first_tag, last_tag}
use Rattle.piece_raw.specs.Tied.{members, nodes_from, stop_of, HoldsMember}
use Rattle.piece_raw.proofs.Splits.{cons_head, cons_tail, split_last, all_left, all_right, distinct_differs}
use Rattle.piece_raw.proofs.Apart.{same_ptr_refl, same_ptr_symm, apart_places, same_node}
use Rattle.piece_raw.proofs.Matching.{N, members-cons, stop-some, found, step_after, split_after, split_members}

last_tag-push : {T : Type 0} (us : List (ℕ × T)) (m : ℕ × T) → last_tag (us ++ m ∷ []) ≡ Some m.0
last_tag-push [] m = refl
last_tag-push (u ∷ []) m = refl
last_tag-push (u ∷ w ∷ us) m = last_tag-push (w ∷ us) m

module _ {T : Type 0} where
  from_there : (xs : List (N T)) (n : N T) (ys : List (N T))
      → AllByRecursion (λ (m : N T). same_ptr n.at m.at ≡ false) xs → nodes_from n.at (xs ++ n ∷ ys) ≡ n ∷ ys
  from_there [] n ys h = ap (λ (b : Bool). cond b (n ∷ ys) (nodes_from n.at ys)) (same_ptr_refl n.at)
  from_there (x ∷ xs) n ys h =
      ap (λ (b : Bool). cond b (x ∷ xs ++ n ∷ ys) (nodes_from n.at (xs ++ n ∷ ys)))
      (same_ptr_symm x.at n.at ∙ h.0) ∙ from_there xs n ys h.1

  from_nowhere : (p : Ptr) (ns : List (N T)) → AllByRecursion (λ (m : N T). same_ptr p m.at ≡ false) ns
      → nodes_from p ns ≡ []
  from_nowhere p [] h = refl
  from_nowhere p (n ∷ ns) h =
      ap (λ (b : Bool). cond b (n ∷ ns) (nodes_from p ns)) (same_ptr_symm n.at p ∙ h.0) ∙ from_nowhere p ns h.1

  module _ (t : N T) (ns : List (N T)) (d : IsApart (places (t ∷ ns))) where
    from_trailer : nodes_from t.at ns ≡ []
    from_trailer =
        from_nowhere t.at ns (distinct_differs (λ (n : N T). n.at) same_ptr same_ptr_symm [] t ns d)

    from_node : (xs : List (N T)) (x : N T) (ys : List (N T)) → ns ≡ xs ++ x ∷ ys → nodes_from x.at ns ≡ x ∷ ys
    from_node xs x ys e =
        ap (nodes_from x.at) e ∙ from_there xs x ys (all_left (λ (m : N T). same_ptr x.at m.at ≡ false) xs ys
        (distinct_differs (λ (n : N T). n.at) same_ptr same_ptr_symm xs x ys
        (subst (λ (l : List (N T)). IsApart (places l)) e (apart_places t.at ns d))))

    -- from the node after one on there are those after it
    from_next : (xs : List (N T)) (x : N T) (ys : List (N T)) (c : t ∷ ns ≡ xs ++ x ∷ ys)
        → nodes_from (step_after t ns xs x ys c).0.at ns ≡ ys
    unfolding step_after
    from_next xs x [] c = from_trailer
    from_next xs x (y ∷ ys) c = let on = split_after t ns xs x (y ∷ ys) c in from_node on.0 y ys on.1

    module _ (ps : List Ptr) (held : AllByRecursion (HoldsMember ps) ns) (none : t.value ≡ None) where
      -- a member's node stands before what is left after it
      pub left_steps : (xs : List (N T)) (x : N T) (ys : List (N T)) (c : t ∷ ns ≡ xs ++ x ∷ ys) (m : Member T)
          → x.value ≡ Some m → members (nodes_from x.at ns)
          ≡ (m.tag, m.value) ∷ members (nodes_from (step_after t ns xs x ys c).0.at ns)
      left_steps [] x ys c m is =
          let both : None ≡ Some m = sym none ∙ ap (λ (n : N T). n.value) (cons_head t x ns ys c) ∙ is in cc
      left_steps (z ∷ xs) x ys c m is =
          ap members (from_node xs x ys (cons_tail t z ns (xs ++ x ∷ ys) c)) ∙ members-cons x m ys is ∙
          ap (λ (l : List (N T)). (m.tag, m.value) ∷ members l) (sym (from_next (z ∷ xs) x ys c))

      -- nothing is left from the trailer on
      pub left_ends : (xs : List (N T)) (x : N T) (ys : List (N T)) → t ∷ ns ≡ xs ++ x ∷ ys → stop_of x ≡ None
          → members (nodes_from x.at ns) ≡ []
      left_ends [] x ys c s =
          ap (λ (n : N T). members (nodes_from n.at ns)) (sym (cons_head t x ns ys c)) ∙ ap members from_trailer
      left_ends (z ∷ xs) x ys c s =
          let here = (all_right (HoldsMember ps) xs (x ∷ ys) (subst (AllByRecursion (HoldsMember ps))
          (cons_tail t z ns (xs ++ x ∷ ys) c) held)).0 in
          let both : Some here.0.tag ≡ None = sym (stop-some x here.0 here.1) ∙ s in cc

      -- the node of a stop is that of the member of its tag
      there : (us : List (ℕ × T)) (v : ℕ × T) (vs : List (ℕ × T)) → members ns ≡ us ++ v ∷ vs
          → (xs : List (N T)) (x : N T) (ys : List (N T)) → t ∷ ns ≡ xs ++ x ∷ ys → stop_of x ≡ Some v.0
          → (members (x ∷ ys) ≡ v ∷ vs) × (members ys ≡ vs)
      there us v vs e xs x ys c s =
          let on = split_members ps ns held us v.0 v.1 vs e in let y = on.1 in
          let whole : t ∷ ns ≡ (t ∷ on.0) ++ y ∷ on.2 = ap (λ (l : List (N T)). t ∷ l) on.4 in
          let stop : stop_of y ≡ Some v.0 = stop-some y on.3 on.5 ∙ ap (λ (m : ℕ × T). Some m.0) on.6 in
          let one : Some x.at ≡ Some y.at = sym (found ps t none ns held xs x ys c v.0 s) ∙
          found ps t none ns held (t ∷ on.0) y on.2 whole v.0 stop in
          let at : x.at ≡ y.at = cc in
          let same = same_node (t ∷ ns) xs x ys (t ∷ on.0) y on.2 d c whole at in
          let after : members ys ≡ vs = ap members same.2 ∙ on.8 in (
            members-cons x on.3 ys (ap (λ (n : N T). n.value) same.1 ∙ on.5)
                ∙ (λ i. on.6 i ∷ after i),
            after,
          )

      -- what is left after the member of a tag
      pub left_after : (us vs : List (ℕ × T)) → members ns ≡ us ++ vs → (xs : List (N T)) (x : N T)
          (ys : List (N T)) (c : t ∷ ns ≡ xs ++ x ∷ ys) → stop_of x ≡ last_tag us
          → members (nodes_from (step_after t ns xs x ys c).0.at ns) ≡ vs
      left_after [] vs e [] x ys c s = ap members (from_next [] x ys c) ∙ ap members (sym (cons_tail t x ns ys c)) ∙ e
      left_after [] vs e (z ∷ xs) x ys c s =
          let here = (all_right (HoldsMember ps) xs (x ∷ ys) (subst (AllByRecursion (HoldsMember ps))
          (cons_tail t z ns (xs ++ x ∷ ys) c) held)).0 in
          let both : Some here.0.tag ≡ None = sym (stop-some x here.0 here.1) ∙ s in cc
      left_after (u ∷ us) vs e xs x ys c s =
          let last = split_last u us in
          ap members (from_next xs x ys c) ∙ (there last.0 _ vs (e ∙ ap (λ (l : List (ℕ × T)). l ++ vs) last.1
          ∙ append_assoc last.0 _ vs) xs x ys c (s ∙ ap last_tag last.1 ∙ last_tag-push last.0 _)).1

      -- what is left from the member of a tag on
      pub left_from : (us vs : List (ℕ × T)) → members ns ≡ us ++ vs → (xs : List (N T)) (x : N T)
          (ys : List (N T)) → t ∷ ns ≡ xs ++ x ∷ ys → stop_of x ≡ first_tag vs
          → members (nodes_from x.at ns) ≡ vs
      left_from us [] e xs x ys c s = left_ends xs x ys c s
      left_from us (v ∷ vs) e [] x ys c s =
          let both : Some v.0 ≡ None = sym s ∙ ap stop_of (sym (cons_head t x ns ys c)) ∙
          ap (option_map (λ (m : Member T). m.tag)) none in cc
      left_from us (v ∷ vs) e (z ∷ xs) x ys c s =
          ap members (from_node xs x ys (cons_tail t z ns (xs ++ x ∷ ys) c)) ∙ (there us v vs e (z ∷ xs) x ys c s).0
