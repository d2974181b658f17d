-- What the walks of the unsafe functions share. Assumes `Logic`.
--     Two, args          the rows of the key and the value, and what a call passes for them
--     word_had, word_made, mark_made      a value of one pointer, and one of no bytes
-- edge_out, edge_in, path_cut, path_glue, values_cut, values_glue      the links and the pairs are taken
-- apart and put together
--     next_seen, prev_seen, value_at      what lent links lend of a node
--     fresh              a node with room for its links lies apart from every node of a path
use mathlib.Core.Path.{◌≡◌, refl, sym, ap, subst}
use mathlib.Core.Bool.{true, false}
use Prim.Native.Nat.{ℕ, ◌+◌}
use native.Mathlib.Omega.{arith}
use mathlib.Core.List.{List, [], ◌∷◌, ◌++◌}
use seplogic.Ra.Ura.{Ura}
use base.Fraction.{full_share}
use mir.Syntax.{Ty, Args, a_type, ty_ptr}
use mir.Val.{Val, vstruct, vcons, vnil, of_list}
use base.Logic.{SProp, ent, sep, emp, ex, guard, via, never, never_e, fst∗, snd∗, id⊢}
use base.Fml.{Fml, Lft, Share, ftrue, feq, fat, froom, flft}
use prog.Model.{Model}
use types.Logic.{Logic, sem}
use contract.Monad.{fact, fact_i, fact_use}
use types.Kit.{Item, ⋆, Goal, Seq, Step, Soaks, step, mean, prop, ‵, raw, some, ◌⊛◌, ◌$◌, ◌∵◌, !, qed, by, move}
use types.Kit.{keep, drop, use0, use1, use2, pick, split, check, show, frame, fsplit, fjoin, fpick, fpack}
use types.Kit.{feq_i, feq_l, rewrite, done}
use denote.RattleType.{RattleType, Valss}
use denote.Laws.{Typed, Is, shows}
use denote.Param.{param, layout, layouts}
use denote.Param.Laws.{Laws, param_laws}
use denote.Memory.{cell_at, part_at, hidden_shr}
use denote.Copied.{plain_Copied}
use denote.RawPtr.{Ptr, RawPtr, block_ptr, null_ptr, ptr_val, coded_ptr, ptr_own, rawptr_pure, lies_at}
use denote.RawPtr.{room_for}
use denote.Opens.{Shut}
use denote.Shadow.{makes_shadow}
use denote.Steps.{nothing, only, peeks, looks, shuts}
use denote.Struct.Laws.{RawPtr-laws}
use denote.Struct.Lending.{lent_at}
use denote.Struct.Struct.{Shape, Struct, within}
use denote.Struct.Owning.{shape}
use borrow.Table.OneValue.{part_in, part_out}
use Rattle.std.proofs.RcSteps.{Good, word}
use Rattle.piece_raw.specs.Linked.{Linked, same_ptr, last_from, places, HasNext, HasPrev, IsAt}
use Rattle.piece_raw.specs.Ownership.{prev_of, next_of, link_room, edge, path, edge_lent, path_lent}
use Rattle.piece_raw.specs.Ownership.{value_offset, value_of, value_owns, values_own, value_lent, values_lent}
use Rattle.piece_raw.specs.Ownership.{links_lent}
use Rattle.piece_raw.specs.contracts.links.Links as L-type
use Rattle.piece_raw.specs.contracts.block.NodePtr as N-type
use Rattle.piece_raw.specs.contracts.block.Room as R-type
use Rattle.piece_raw.specs.contracts.block.Detached as D-type
use Rattle.piece_raw.proofs.Apart.{IsFresh, same_ptr_eq}

pub record Of : Type 2 where
  pub row : RattleType
  pub laws : Laws row

module _ (E : Of) where
  abbrev pub args : Args
  args = layouts (a_type ∷ []) (E.row, tt)

  abbrev pub RV : RattleType
  RV = param 0 E.row

  abbrev pub vo : ℕ
  vo = value_offset RV

  abbrev pub Member : Type 0
  Member = Linked E.row.Denot

  abbrev pub Lr : RattleType
  Lr = L-type.the_row RV

  abbrev pub Np : RattleType
  Np = N-type.the_row RV

  abbrev pub Rm : RattleType
  Rm = R-type.the_row RV

  abbrev pub Dt : RattleType
  Dt = D-type.the_row RV

  -- the links' own field, which takes no bytes
  abbrev pub Mark : RattleType
  Mark = Struct (shape (L-type.the_type RV))

  abbrev pub One : Member → Fml
  One n = value_owns RV n.at n.value

abbrev one_field : Shape
one_field = record { name = []; args = []; types = []; fields = RawPtr ∷ [] }

abbrev pub Word : RattleType
Word = Struct one_field

abbrev pub mark : Val
mark = vstruct (vcons (vstruct vnil) vnil)

abbrev pub pointer : ℕ → ℕ → Ptr → Fml
pointer b o p = fat full_share ty_ptr b o (ptr_val p)

pub mark_made : (E : Of) {M : Type 1} {𝓤 : Ura M} (𝓛 : Logic 𝓤) →
    ent 𝓤 (emp 𝓤) (sem 𝓛 ((Mark E).own_val (tt, tt) (mark ∷ [])))
mark_made E 𝓛 = makes_shadow 𝓛 ((Mark E).own_val (tt, tt) (mark ∷ [])) (λ vss. (tt, ((λ uss. (tt, tt)), tt)))
    ((vstruct vnil ∷ [], tt), (refl, ((tt, (refl, tt)), tt)))

module _ {M : Type 1} {𝓤 : Ura M} {𝓛 : Logic 𝓤} {K : Type 0} {Γ : List (Item 𝓤)} {G : Goal 𝓤 𝓛.H} where
  pub word_had : K → (c : Ptr) (vs : List Val) → (vs ≡ word c ∷ [] → Seq K 𝓛 Γ G) →
      Seq K 𝓛 (‵ (Word.own_val (c, tt) vs) ∷ Γ) G
  word_had t c vs k = fpick t (λ vss. fsplit t $ feq_l t (λ ev. fsplit t $ feq_l t (λ e. drop t $
      k (subst (λ (ws : List Val). vs ≡ vstruct (of_list (ws ++ [])) ∷ []) e ev))))

  pub word_made : K → (c : Ptr) → Step K 𝓛 (‵ (Word.own_val (c, tt) (word c ∷ [])) ∷ Γ) G Γ G
  word_made t c = step (λ s.
      nothing t $ feq_i t (List Val) (ptr_val c ∷ []) (ptr_val c ∷ []) refl $ fjoin t $
      feq_i t (List Val) (word c ∷ []) (word c ∷ []) refl $ fjoin t $
      fpack t (Valss (RawPtr ∷ [])) (within one_field (c, tt) (word c ∷ [])) (ptr_val c ∷ [], tt) $ s)

  pub mark_had : K → (E : Of) (vs : List Val) → (vs ≡ mark ∷ [] → Seq K 𝓛 Γ G) →
      Seq K 𝓛 (‵ ((Mark E).own_val (tt, tt) vs) ∷ Γ) G
  mark_had t E vs k = fpick t (λ vss. fsplit t $ feq_l t (λ ev. fsplit t $ fpick t (λ uss. fsplit t $
      feq_l t (λ e. drop t $ drop t $
      k (subst (λ (ws : List Val). vs ≡ vstruct (of_list (ws ++ [])) ∷ []) e ev)))))

  pointer_out : K → (p : Ptr) (b o : ℕ) → Step K 𝓛 (‵ (pointer b o p) ∷ Γ)
      G (‵ (part_at RawPtr full_share p b o) ∷ Γ) G
  pointer_out t p b o = use1 𝓛 (‵ (pointer b o p)) (qed 𝓛 (‵ (part_at RawPtr full_share p b o) ∷ [])
      {P = sem 𝓛 (pointer b o p)} (
      use1 𝓛 (some (λ (v : Val). ‵ (fat full_share ty_ptr b o v) ⊛ ‵ (feq (List Val) (v ∷ [])
      (ptr_val p ∷ [])))) (part_out 𝓛 RawPtr refl full_share p b o) $ pick ! (λ v. split ! $
      move ! (1 ∷ []) $ feq_l ! (λ e.
      rewrite ! 0 (λ (w : Val). ‵ (fat full_share ty_ptr b o w)) (ap only e) refl $ done !))))

  pointer_in : K → (p : Ptr) (b o : ℕ) → Step K 𝓛 (‵ (part_at RawPtr full_share p b o) ∷ Γ)
      G (‵ (pointer b o p) ∷ Γ) G
  pointer_in t p b o = step (λ s.
      feq_i t (List Val) (ptr_val p ∷ []) (ptr_val p ∷ []) refl $ move t (1 ∷ 0 ∷ []) $
      use2 𝓛 (‵ (part_at RawPtr full_share p b o)) (part_in 𝓛 RawPtr refl full_share p b o (ptr_val p)) $ s)

  -- a pointer's cell, whatever it holds, is room
  pub stale : K → (p : Ptr) (b o : ℕ) → Step K 𝓛 (‵ (froom ty_ptr b o) ∷ Γ) G (‵ (pointer b o p) ∷ Γ) G
  stale t p b o = use1 𝓛 (‵ (froom ty_ptr b o)) (𝓛.laws.at_room ty_ptr b o (ptr_val p))

  pub peer_in : K → Soaks G → {κ : Lft} {q : Share} (p : Ptr) (b at : ℕ)
      → ((part : Share) → Seq K 𝓛 (‵ (fat part ty_ptr b at (ptr_val p))
      ∷ Shut 𝓛 κ q (part_at RawPtr part p b at) ∷ Γ) G) →
      Seq K 𝓛 (‵ (hidden_shr RawPtr κ p b at) ∷ ‵ (flft κ q) ∷ Γ) G
  peer_in t z p b at k =
      looks t z RawPtr (plain_Copied 𝓛 Ptr coded_ptr (ty_ptr ∷ [])
      ptr_own rawptr_pure ptr_val RawPtr-laws.tells).opens p b at (λ part vs. move t (1 ∷ []) $
      feq_l t (λ e.
      rewrite t 0 (λ (us : List Val). ‵ (cell_at part RawPtr.mir us b at)) e refl $ move t (2 ∷ []) $
      drop t $ k part))

  pub peer_out : K → Soaks G → {κ : Lft} {q part : Share} (p : Ptr) (b at : ℕ)
      → Step K 𝓛 (‵ (flft κ q) ∷ Γ) G (‵ (fat part ty_ptr b at (ptr_val p))
      ∷ Shut 𝓛 κ q (part_at RawPtr part p b at) ∷ Γ) G
  peer_out t z {part = part} p b at = step (λ s.
      feq_i t (List Val) (ptr_val p ∷ []) (ptr_val p ∷ []) refl $ move t (1 ∷ 0 ∷ []) $
      shuts t z RawPtr part p (ptr_val p ∷ []) b at $ s)

  -- a fact that two entries show is learned, and they stay
  pub knows : K → {i j : Item 𝓤} (φ : Type 0) → ent 𝓤 (sep 𝓤 (mean 𝓛 i) (mean 𝓛 j)) (fact 𝓤 φ) → (φ →
      Seq K 𝓛 (i ∷ j ∷ Γ) G) → Seq K 𝓛 (i ∷ j ∷ Γ) G
  knows t {i} {j} φ h k =
      let shown : Seq K 𝓛 (i ∷ j ∷ Γ) (prop (fact 𝓤 φ)) = use2 𝓛 (raw (fact 𝓤 φ)) h $ keep t (0 ∷ []) $
      done t in
      record { prf = fact_use 𝓤 φ shown.prf (λ x. (k x).prf) }

module _ {M : Type 1} {𝓤 : Ura M} {𝓛 : Logic 𝓤} {K : Type 0} {Γ : List (Item 𝓤)} {G : Goal 𝓤 𝓛.H} where
  pub edge_out : K → (ab ao bb bo : ℕ)
      → Step K 𝓛 (‵ (pointer ab (ao + 8) (block_ptr bb bo)) ∷ ‵ (pointer bb (bo + 0) (block_ptr ab ao)) ∷ Γ)
      G (‵ (edge (block_ptr ab ao) (block_ptr bb bo)) ∷ Γ) G
  edge_out t ab ao bb bo = step (λ s. fsplit t $ move t (1 ∷ []) $
      pointer_out t (block_ptr ab ao) bb (bo + 0) $ move t (1 ∷ []) $
      pointer_out t (block_ptr bb bo) ab (ao + 8) $ s)

  pub edge_in : K → (ab ao bb bo : ℕ)
      → Step K 𝓛 (‵ (edge (block_ptr ab ao) (block_ptr bb bo)) ∷ Γ) G (‵ (pointer ab (ao + 8)
      (block_ptr bb bo)) ∷ ‵ (pointer bb (bo + 0) (block_ptr ab ao)) ∷ Γ) G
  edge_in t ab ao bb bo = step (λ s. move t (1 ∷ []) $ pointer_in t (block_ptr ab ao) bb (bo + 0) $
      move t (1 ∷ []) $ pointer_in t (block_ptr bb bo) ab (ao + 8) $ fjoin t $ s)

module _ {M : Type 1} {𝓤 : Ura M} {𝓛 : Logic 𝓤} {K : Type 0} {Γ : List (Item 𝓤)} where
  -- an `ensures` of two facts
  pub says_both : K → {φ ψ : Type 0} {P : SProp 𝓤} → φ → ψ →
      Step K 𝓛 Γ (prop P) Γ (prop (sep 𝓤 P (sep 𝓤 (fact 𝓤 φ) (fact 𝓤 ψ))))
  says_both t {φ} {ψ} {P} x y = step (λ s. record {
    prf = via 𝓤 P s.prf (qed 𝓛 (raw P ∷ []) {P = sep 𝓤 P (sep 𝓤 (fact 𝓤 φ) (fact 𝓤 ψ))} (
        frame ! $ use0 𝓛 (raw (fact 𝓤 ψ)) (fact_i 𝓤 ψ (emp 𝓤) y) $
        use0 𝓛 (raw (fact 𝓤 φ)) (fact_i 𝓤 φ (emp 𝓤) x) $ done !));
  })

module _ (i : ℕ) (Y : RattleType) (L : Laws Y) {M : Type 1} {𝓤 : Ura M} (𝓛 : Logic 𝓤) where
  open 𝓛 use {H}

  pub value_out : (x : Y.Denot) (b o : ℕ) → ent 𝓤 (sem 𝓛 (part_at (param i Y) full_share x b o))
      (ex 𝓤 (λ (v : Val). guard 𝓤 (Good (layout Y) v) (sep 𝓤 (H.at full_share (layout Y) b o v)
      (sem 𝓛 (Y.own_val x (v ∷ []))))))
  value_out x b o = qed 𝓛 (‵ (part_at (param i Y) full_share x b o) ∷ []) ∵
      use1 𝓛 (some (λ (v : Val). ‵ (fat full_share (layout Y) b o v) ⊛ ‵ (Y.own_val x (v ∷ []))))
      (part_out 𝓛 (param i Y) refl full_share x b o) $ pick ! (λ v. split ! $ move ! (1 ∷ []) $
      peeks ! (param i Y) (Is (param i Y)) (shows 𝓛 (param i Y)) x (v ∷ []) (λ p.
      show ! (λ (w : Val). guard 𝓤 (Good (layout Y) w) (sep 𝓤 (H.at full_share (layout Y) b o w)
      (sem 𝓛 (Y.own_val x (w ∷ []))))) v $ check ! (((param_laws i Y L).lawful 𝓛).typed x (v ∷ []) p).0 $
      move ! (1 ∷ 0 ∷ []) $ done !))

  pub value_in : (x : Y.Denot) (b o : ℕ) (v : Val) → ent 𝓤 (sep 𝓤 (H.at full_share (layout Y) b o v)
      (sem 𝓛 (Y.own_val x (v ∷ [])))) (sem 𝓛 (part_at (param i Y) full_share x b o))
  value_in x b o v = part_in 𝓛 (param i Y) refl full_share x b o v

alone : (τ : Ty) (vs : List Val) → Typed (τ ∷ []) vs → (v : Val) × ((vs ≡ v ∷ []) × Good τ v)
alone τ [] t = absurd t
alone τ (v ∷ []) t = (v, (refl, t.0))
alone τ (v ∷ w ∷ vs) t = absurd t.1

module _ (Y : RattleType) (L : Laws Y) {M : Type 1} {𝓤 : Ura M} {𝓛 : Logic 𝓤} {K : Type 0} {Γ : List (Item
    𝓤)} {G : Goal 𝓤 𝓛.H} where
  -- what is owned of a value is one machine value, of its type
  pub tells : K → (x : Y.Denot) (vs : List Val) → ((v : Val) → vs ≡ v ∷ [] → Good (layout Y) v →
      Seq K 𝓛 (‵ (Y.own_val x (v ∷ [])) ∷ Γ) G) → Seq K 𝓛 (‵ (Y.own_val x vs) ∷ Γ) G
  tells t x vs k =
      peeks t (param 0 Y) (Is (param 0 Y)) (shows 𝓛 (param 0 Y)) x vs (λ is.
      let one = alone (layout Y) vs (((param_laws 0 Y L).lawful 𝓛).typed x vs is) in
      rewrite t 0 (λ (us : List Val). ‵ (Y.own_val x us)) one.1.0 refl $ k one.0 one.1.0 one.1.1)

module _ {M : Type 1} {𝓤 : Ura M} (𝓛 : Logic 𝓤) where
  pub no_source : (b : Ptr) → ent 𝓤 (sem 𝓛 (edge null_ptr b)) (never 𝓤)
  no_source b = fst∗ 𝓤 (never 𝓤) (sem 𝓛 (lies_at RawPtr full_share (prev_of b) null_ptr))

  pub no_target : (a : Ptr) → ent 𝓤 (sem 𝓛 (edge a null_ptr)) (never 𝓤)
  no_target a = snd∗ 𝓤 (sem 𝓛 (lies_at RawPtr full_share (next_of a) null_ptr)) (never 𝓤)

  pub no_room : ent 𝓤 (sem 𝓛 (link_room null_ptr)) (never 𝓤)
  no_room = fst∗ 𝓤 (never 𝓤) (never 𝓤)

  pub path_split : (a : Ptr) (xs ys : List Ptr) → ent 𝓤 (sem 𝓛 (path a (xs ++ ys))) (sep 𝓤 (sem 𝓛 (path a xs))
      (sem 𝓛 (path (last_from a xs) ys)))
  path_split a [] ys = qed 𝓛 (‵ (path a ys) ∷ []) ∵ nothing ! $ done !
  path_split a (x ∷ xs) ys = qed 𝓛 (‵ (path a (x ∷ xs ++ ys)) ∷ []) ∵ fsplit ! $ move ! (1 ∷ []) $
      use1 𝓛 (‵ (path x xs) ⊛ ‵ (path (last_from x xs) ys)) (path_split x xs ys) $ split ! $
      move ! (2 ∷ 0 ∷ []) $ fjoin ! $ done !

  pub path_glue : (a : Ptr) (xs ys : List Ptr) → ent 𝓤 (sep 𝓤 (sem 𝓛 (path a xs))
      (sem 𝓛 (path (last_from a xs) ys))) (sem 𝓛 (path a (xs ++ ys)))
  path_glue a [] ys = qed 𝓛 (‵ ftrue ∷ ‵ (path a ys) ∷ []) ∵ drop ! $ done !
  path_glue a (x ∷ xs) ys = qed 𝓛 (‵ (path a (x ∷ xs)) ∷ ‵ (path (last_from x xs) ys) ∷ []) ∵ fsplit ! $
      move ! (1 ∷ 2 ∷ []) $
      use2 𝓛 (‵ (path x (xs ++ ys))) (path_glue x xs ys) $ move ! (1 ∷ 0 ∷ []) $ fjoin ! $ done !

  -- the edge from p to q, where a and ps have them in a row
  edge_seen : (κ : Lft) (a : Ptr) (ps xs : List Ptr) (p q : Ptr) (ys : List Ptr) →
      a ∷ ps ≡ xs ++ p ∷ q ∷ ys → ent 𝓤 (sem 𝓛 (path_lent a ps κ)) (sem 𝓛 (edge_lent p q κ))
  edge_seen κ a ps [] p q ys e =
      let first : a ≡ p = cc in let rest : ps ≡ q ∷ ys = cc in
      subst (λ (r : Ptr × List Ptr). ent 𝓤 (sem 𝓛 (path_lent r.0 r.1 κ)) (sem 𝓛 (edge_lent p q κ)))
      (λ i. (sym first i, sym rest i)) (fst∗ 𝓤 (sem 𝓛 (edge_lent p q κ)) (sem 𝓛 (path_lent q ys κ)))
  edge_seen κ a [] (x ∷ []) p q ys e = cc
  edge_seen κ a [] (x ∷ y ∷ xs) p q ys e = cc
  edge_seen κ a (b ∷ ps) (x ∷ xs) p q ys e =
      let rest : b ∷ ps ≡ xs ++ p ∷ q ∷ ys = cc in
      via 𝓤 (sem 𝓛 (path_lent b ps κ)) (snd∗ 𝓤 (sem 𝓛 (edge_lent a b κ)) (sem 𝓛 (path_lent b ps κ)))
      (edge_seen κ b ps xs p q ys rest)

  pub next_seen : (κ : Lft) (a : Ptr) (ps : List Ptr) (p q : Ptr) → HasNext (a ∷ ps) p q →
      ent 𝓤 (sem 𝓛 (path_lent a ps κ)) (sem 𝓛 (lent_at RawPtr (next_of p) q κ))
  next_seen κ a ps p q h = via 𝓤 (sem 𝓛 (edge_lent p q κ)) (edge_seen κ a ps h.0 p q h.1 h.2)
      (fst∗ 𝓤 _ (sem 𝓛 (lent_at RawPtr (prev_of q) p κ)))

  pub prev_seen : (κ : Lft) (a : Ptr) (ps : List Ptr) (p q : Ptr) → HasPrev (a ∷ ps) p q →
      ent 𝓤 (sem 𝓛 (path_lent a ps κ)) (sem 𝓛 (lent_at RawPtr (prev_of p) q κ))
  prev_seen κ a ps p q h = via 𝓤 (sem 𝓛 (edge_lent q p κ)) (edge_seen κ a ps h.0 q p h.1 h.2)
      (snd∗ 𝓤 (sem 𝓛 (lent_at RawPtr (next_of q) p κ)) _)

  module _ (E : Of) where
    abbrev Values : List (Member E) → Fml
    Values = values_own (RV E)

    pub values_split : (xs : List (Member E)) (n : Member E) (ys : List (Member E)) →
        ent 𝓤 (sem 𝓛 (Values (xs ++ n ∷ ys))) (sep 𝓤 (sem 𝓛 (One E n)) (sem 𝓛 (Values (xs ++ ys))))
    values_split [] n ys = id⊢ 𝓤 _
    values_split (x ∷ xs) n ys = qed 𝓛 (‵ (Values (x ∷ xs ++ n ∷ ys)) ∷ []) ∵ fsplit ! $ move ! (1 ∷ []) $
        use1 𝓛 (‵ (One E n) ⊛ ‵ (Values (xs ++ ys))) (values_split xs n ys) $ split ! $ move ! (2 ∷ 1 ∷ []) $
        fjoin ! $ move ! (1 ∷ []) $ done !

    pub values_glue : (xs : List (Member E)) (n : Member E) (ys : List (Member E)) →
        ent 𝓤 (sep 𝓤 (sem 𝓛 (One E n)) (sem 𝓛 (Values (xs ++ ys)))) (sem 𝓛 (Values (xs ++ n ∷ ys)))
    values_glue [] n ys = id⊢ 𝓤 _
    values_glue (x ∷ xs) n ys = qed 𝓛 (‵ (One E n) ∷ ‵ (Values (x ∷ xs ++ ys)) ∷ []) ∵ move ! (1 ∷ []) $
        fsplit ! $ move ! (2 ∷ 1 ∷ []) $
        use2 𝓛 (‵ (Values (xs ++ n ∷ ys))) (values_glue xs n ys) $ move ! (1 ∷ 0 ∷ []) $ fjoin ! $ done !

    value_seen : (κ : Lft) (xs : List (Member E)) (n : Member E) (ys : List (Member E)) →
        ent 𝓤 (sem 𝓛 (values_lent (RV E) (xs ++ n ∷ ys) κ)) (sem 𝓛 (value_lent (RV E) n κ))
    value_seen κ [] n ys = fst∗ 𝓤 _ (sem 𝓛 (values_lent (RV E) ys κ))
    value_seen κ (x ∷ xs) n ys = via 𝓤 _ (snd∗ 𝓤 (sem 𝓛 (value_lent (RV E) x κ)) _) (value_seen κ xs n ys)

    -- the value of the node at p
    pub value_at : (κ : Lft) (t : Member E) (ns : List (Member E)) (p : Ptr) (at : IsAt (t ∷ ns) p) → ent 𝓤
        (sem 𝓛 (links_lent (RV E) t ns κ)) (sem 𝓛 (lent_at (RV E) (value_of (RV E) p) at.1.value κ))
    value_at κ t ns p at =
        via 𝓤 _ (snd∗ 𝓤 (sem 𝓛 (path_lent t.at (places ns ++ t.at ∷ []) κ)) _)
        (subst (λ (k : List (Member E) × Ptr). ent 𝓤 (sem 𝓛 (values_lent (RV E) k.0 κ))
        (sem 𝓛 (lent_at (RV E) (value_of (RV E) k.1) at.1.value κ))) (λ i. (sym at.3 i, at.4 i))
        (value_seen κ at.0 at.1 at.2))

module _ {M : Type 1} {𝓤 : Ura M} (𝓛 : Logic 𝓤) (𝓜 : Model 𝓤 𝓛.H) where
  clash : (p x : Ptr) → ent 𝓤 (sep 𝓤 (sem 𝓛 (room_for ty_ptr p)) (sem 𝓛 (lies_at RawPtr full_share p x)))
      (never 𝓤)
  clash (block_ptr b o) x = qed 𝓛 (‵ (froom ty_ptr b o) ∷ ‵ (part_at RawPtr full_share x b o) ∷ [])
      ∵ move ! (1 ∷ []) $ pointer_out ! x b o $ move ! (1 ∷ []) $
      by ! (𝓜.room_at ty_ptr ty_ptr b o o o full_share (ptr_val x) (omega arith, omega arith)
      (omega arith, omega arith))
  clash null_ptr x = fst∗ 𝓤 (never 𝓤) (never 𝓤)

  -- what cannot be owned at one pointer shows two
  differ : (p q : Ptr) (F : Ptr → SProp 𝓤) → ent 𝓤 (F p) (never 𝓤) →
      ent 𝓤 (F q) (fact 𝓤 (same_ptr p q ≡ false))
  differ p q F h = (elim (same_ptr p q) as (λ y. same_ptr p q ≡ y →
      ent 𝓤 (F q) (fact 𝓤 (same_ptr p q ≡ false))) [
        | true ↦ λ e. via 𝓤 (never 𝓤) (subst (λ r. ent 𝓤 (F r) (never 𝓤)) (same_ptr_eq p q e) h) (never_e 𝓤 _)
        | false ↦ λ e. fact_i 𝓤 (same_ptr p q ≡ false) (F q) e
      ]) refl

  -- room for the links of the node at p, beside an edge from a to b whose pointers lie with q and with r
  abbrev ends : (p q a r b : Ptr) → List (Item 𝓤)
  ends p q a r b = ‵ (link_room p) ∷ ‵ (lies_at RawPtr full_share (next_of q) b)
      ∷ ‵ (lies_at RawPtr full_share (prev_of r) a) ∷ []

  fresh_source : (p a b : Ptr) → ent 𝓤 (sep 𝓤 (sem 𝓛 (link_room p)) (sem 𝓛 (edge a b)))
      (fact 𝓤 (same_ptr p a ≡ false))
  fresh_source p a b = differ p a (λ q. ⋆ 𝓛 (ends p q a b b)) (qed 𝓛 (ends p p a b b) ∵ fsplit ! $
      keep ! (1 ∷ 2 ∷ []) $ by ! (clash (next_of p) b))

  fresh_target : (p a b : Ptr) → ent 𝓤 (sep 𝓤 (sem 𝓛 (link_room p)) (sem 𝓛 (edge a b)))
      (fact 𝓤 (same_ptr p b ≡ false))
  fresh_target p a b = differ p b (λ r. ⋆ 𝓛 (ends p a a r b)) (qed 𝓛 (ends p a a p b) ∵ fsplit ! $
      keep ! (0 ∷ 3 ∷ []) $ by ! (clash (prev_of p) a))

  fresh_along : (p a : Ptr) (ps : List Ptr) → ent 𝓤 (sep 𝓤 (sem 𝓛 (link_room p)) (sem 𝓛 (path a ps)))
      (fact 𝓤 (IsFresh p ps))
  fresh_along p a [] = fact_i 𝓤 (IsFresh p []) _ tt
  fresh_along p a (x ∷ ps) = qed 𝓛 (‵ (link_room p) ∷ ‵ (path a (x ∷ ps)) ∷ []) ∵ move ! (1 ∷ []) $
      fsplit ! $ move ! (2 ∷ 0 ∷ []) $
      knows ! (same_ptr p x ≡ false) (fresh_target p a x) (λ here. move ! (0 ∷ 2 ∷ []) $
      knows ! (IsFresh p ps) (fresh_along p x ps) (λ rest.
      by ! (fact_i 𝓤 (IsFresh p (x ∷ ps)) _ (here, rest))))

  pub fresh : (p a : Ptr) (ps : List Ptr) (t : Ptr) → ent 𝓤 (sep 𝓤 (sem 𝓛 (link_room p))
      (sem 𝓛 (path a (ps ++ t ∷ [])))) (fact 𝓤 (IsFresh p (a ∷ (ps ++ t ∷ []))))
  fresh p a [] t = qed 𝓛 (‵ (link_room p) ∷ ‵ (path a (t ∷ [])) ∷ []) ∵ knows ! (IsFresh p (t ∷ []))
      (fresh_along p a (t ∷ [])) (λ rest.
      move ! (1 ∷ []) $ fsplit ! $ move ! (2 ∷ 0 ∷ []) $ knows ! (same_ptr p a ≡ false) (fresh_source p a t)
      (λ here. by ! (fact_i 𝓤 (IsFresh p (a ∷ t ∷ [])) _ (here, rest))))
  fresh p a (x ∷ ps) t = qed 𝓛 (‵ (link_room p) ∷ ‵ (path a (x ∷ (ps ++ t ∷ []))) ∷ [])
      ∵ knows ! (IsFresh p (x ∷ (ps ++ t ∷ []))) (fresh_along p a (x ∷ (ps ++ t ∷ []))) (λ rest.
      move ! (1 ∷ []) $ fsplit ! $ move ! (2 ∷ 0 ∷ []) $ knows ! (same_ptr p a ≡ false) (fresh_source p a x)
      (λ here. by ! (fact_i 𝓤 (IsFresh p (a ∷ x ∷ (ps ++ t ∷ []))) _ (here, rest))))
