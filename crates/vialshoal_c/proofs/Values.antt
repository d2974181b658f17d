-- The machine values of a loose box and of a handle of either kind. Assumes `Logic`.
use Rattle.std.proofs.Common.{◌≡◌, ℕ, List, [], ◌∷◌, ◌++◌, refl, subst}
use mathlib.Core.Bool.{Bool, true, false, ◌&&◌}
use lib.Dec.{T}
use seplogic.Ra.Ura.{Ura}
use mir.Syntax.{impl, tnil, dnil}
use mir.Raw.{raw as bare}
use mir.Val.{Val, vptr, vstruct, vcons, vnil, of_list, has_ty, WT}
use base.Logic.{ent, guard, via, never, fst∗, snd∗, guard_i}
use base.Fml.{Fml}
use base.Fraction.{full_share}
use types.Logic.{Logic, sem}
use types.Kit.{Item, Goal, Seq, Step, step, ‵, given, ◌$◌, ◌∵◌, !, qed, by, done, move, drop, fsplit, fjoin, fpick, fpack, feq_i, feq_l, learn, use1}
use contract.Monad.{fact_use}
use denote.RattleType.{RattleType, Valss}
use denote.Builtin.{RawPtr}
use denote.Memory.{lone}
use denote.RawPtr.{Ptr, block_ptr, null_ptr, ptr_val, in_a_block, lies_at, Testable}
use denote.Steps.{nothing}
use denote.Param.{layout}
use denote.Param.Laws.{Laws}
use denote.Struct.Struct.{within}
use denote.Struct.Owning.{shape}
use Rattle.core.specs.declared.alloc.Allocator.{Ghosts}
use Rattle.core.proofs.alloc.Calls.{Al, handle_tells}
use Rattle.core.proofs.cell.Inside.{Good, one}
use Rattle.std_alloc.specs.Box.Ownership.{box_owns}
use Rattle.std_alloc.proofs.ResultValues.{and_tt}
use Rattle.std.specs.Prelude.{Option, Some, None}
use Rattle.std.specs.declared.alloc.Global.{Global}
use Rattle.std.specs.contracts.impls.GlobalAllocator.TheImpl.{ghosts}
use Rattle.std.proofs.GlobalToken.{dealloc_token-Testable}
use Rattle.vialshoal_c.specs.Owned.{owned}
use Rattle.vialshoal_c.specs.contracts.loose.Loose as loose
use Rattle.vialshoal_c.specs.contracts.handle.Handle as handle
use Rattle.vialshoal_c.specs.contracts.session.Session as session
use Rattle.vialshoal_c.specs.contracts.past_handle.PastHandle as past_handle
use Rattle.texts.specs.contracts.past.Past as past
use Rattle.vialshoal_c.specs.contracts.note_handle.NoteHandle as note_handle
use Rattle.vialshoal_c.specs.contracts.note_session.NoteSession as note

abbrev pub both : Val → Val → Val
both v w = vstruct (vcons v (vcons w vnil))

pub both_tt : (x y : Bool) → T x → T y → T (x && (y && true))
both_tt true true s t = tt
both_tt true false s t = absurd t
both_tt false y s t = absurd s

module _ (R Z : RattleType) (L : Laws Z) (g : Ghosts Z.Denot) where
  abbrev pub Loose : RattleType
  Loose = loose.the_row R Z g

  abbrev al : Al
  al = record { row = Z; laws = L; g = g; d = impl [] tnil dnil; drops = impl [] tnil dnil }

  pub loose_good : (b o : ℕ) (h : Val) → Good (layout Z) h → T (has_ty (layout Z) h && true) × WT (both (vptr b o) h)
  loose_good b o h fits = (and_tt (has_ty (layout Z) h) fits.0, (tt, (fits.1, tt)))

  module _ {M : Type 1} {𝓤 : Ura M} {𝓛 : Logic 𝓤} {K : Type 0} {Γ : List (Item 𝓤)} {G : Goal 𝓤 𝓛.H} where
    pub loose_out : K → (d : Loose.Denot) (vs : List Val)
        → ((b o : ℕ) (h : Val) → d.at ≡ block_ptr b o → vs ≡ both (vptr b o) h ∷ [] → Good (layout Z) h → Seq K 𝓛 (‵ (box_owns (g.dealloc_token d.alloc) R (block_ptr b o) d.value) ∷ ‵ (Z.own_val d.alloc (h ∷ [])) ∷ Γ) G)
        → Seq K 𝓛 (‵ (Loose.own_val d vs) ∷ Γ) G
    loose_out t d vs k =
        fsplit t $ fpick t (λ vss. fsplit t $ feq_l t (λ ev. fsplit t $ feq_l t (λ ep. fsplit t $ handle_tells al t d.alloc vss.1.0 (λ h ea fits. move t (1 ∷ []) $ drop t $ move t (1 ∷ []) $
        in_a_block t d.at (λ p. box_owns (g.dealloc_token d.alloc) R p d.value) (fst∗ 𝓤 (never 𝓤) (sem 𝓛 (g.dealloc_token d.alloc (bare (lone R.mir)) null_ptr))) (λ b o e. k b o h e
        (subst (λ (p : Ptr). vs ≡ vstruct (of_list (ptr_val p ∷ h ∷ [])) ∷ []) e
        (subst (λ (ws : List Val). vs ≡ vstruct (of_list (ptr_val d.at ∷ (ws ++ []))) ∷ []) ea (subst (λ (ps : List Val). vs ≡ vstruct (of_list (ps ++ (vss.1.0 ++ []))) ∷ []) ep ev))) fits)))))

    pub loose_in : K → (b o : ℕ) (h : Val) (a : Z.Denot) (x : R.Denot)
        → Step K 𝓛 (‵ (Loose.own_val (record { at = block_ptr b o; alloc = a; value = x }) (both (vptr b o) h ∷ [])) ∷ Γ) G (‵ (box_owns (g.dealloc_token a) R (block_ptr b o) x) ∷ ‵ (Z.own_val a (h ∷ [])) ∷ Γ) G
    loose_in t b o h a x = step (λ s. let v : Val = both (vptr b o) h in
        nothing t $ move t (2 ∷ 0 ∷ []) $ fjoin t $ feq_i t (List Val) (vptr b o ∷ []) (vptr b o ∷ []) refl $ fjoin t $ feq_i t (List Val) (v ∷ []) (v ∷ []) refl $ fjoin t $
        fpack t (Valss (RawPtr ∷ Z ∷ [])) (within (shape (loose.the_type R Z g)) (block_ptr b o, (a, tt)) (v ∷ [])) (vptr b o ∷ [], (h ∷ [], tt)) $ fjoin t $ s)

-- a struct of one word
abbrev pub word : Val → Val
word v = vstruct (vcons v vnil)

module _ {M : Type 1} {𝓤 : Ura M} (𝓛 : Logic 𝓤) where
  -- a handle by value: what it owns, behind its pointer
  pub handle_opens : (d : handle.the_row.Denot) (vs : List Val)
      → ent 𝓤 (sem 𝓛 (handle.the_row.own_val d vs)) (guard 𝓤 (vs ≡ word (ptr_val d.at) ∷ []) (sem 𝓛 (owned session.the_row d.at d.value)))
  handle_opens d vs = qed 𝓛 (‵ (handle.the_row.own_val d vs) ∷ []) ∵
      fsplit ! $ fpick ! (λ vss. fsplit ! $ feq_l ! (λ ev. fsplit ! $ feq_l ! (λ ep. drop ! $
      by ! (guard_i 𝓤 _ _ (subst (λ (ps : List Val). vs ≡ vstruct (of_list (ps ++ [])) ∷ []) ep ev)))))

  pub handle_shuts : (d : handle.the_row.Denot) → ent 𝓤 (sem 𝓛 (owned session.the_row d.at d.value)) (sem 𝓛 (handle.the_row.own_val d (word (ptr_val d.at) ∷ [])))
  handle_shuts d = let v : Val = word (ptr_val d.at) in qed 𝓛 (‵ (owned session.the_row d.at d.value) ∷ []) ∵
      nothing ! $ feq_i ! (List Val) (ptr_val d.at ∷ []) (ptr_val d.at ∷ []) refl $ fjoin ! $ feq_i ! (List Val) (v ∷ []) (v ∷ []) refl $ fjoin ! $
      fpack ! (Valss (RawPtr ∷ [])) (within (shape handle.the_type) (d.at, tt) (v ∷ [])) (ptr_val d.at ∷ [], tt) $ fjoin ! $ done !

  -- a past handle alike
  pub past_opens : (d : past_handle.the_row.Denot) (vs : List Val)
      → ent 𝓤 (sem 𝓛 (past_handle.the_row.own_val d vs)) (guard 𝓤 (vs ≡ word (ptr_val d.at) ∷ []) (sem 𝓛 (owned past.the_row d.at d.value)))
  past_opens d vs = qed 𝓛 (‵ (past_handle.the_row.own_val d vs) ∷ []) ∵
      fsplit ! $ fpick ! (λ vss. fsplit ! $ feq_l ! (λ ev. fsplit ! $ feq_l ! (λ ep. drop ! $
      by ! (guard_i 𝓤 _ _ (subst (λ (ps : List Val). vs ≡ vstruct (of_list (ps ++ [])) ∷ []) ep ev)))))

  pub past_shuts : (d : past_handle.the_row.Denot) → ent 𝓤 (sem 𝓛 (owned past.the_row d.at d.value)) (sem 𝓛 (past_handle.the_row.own_val d (word (ptr_val d.at) ∷ [])))
  past_shuts d = let v : Val = word (ptr_val d.at) in qed 𝓛 (‵ (owned past.the_row d.at d.value) ∷ []) ∵
      nothing ! $ feq_i ! (List Val) (ptr_val d.at ∷ []) (ptr_val d.at ∷ []) refl $ fjoin ! $ feq_i ! (List Val) (v ∷ []) (v ∷ []) refl $ fjoin ! $
      fpack ! (Valss (RawPtr ∷ [])) (within (shape past_handle.the_type) (d.at, tt) (v ∷ [])) (ptr_val d.at ∷ [], tt) $ fjoin ! $ done !

  -- a note's handle alike
  pub note_opens : (d : note_handle.the_row.Denot) (vs : List Val)
      → ent 𝓤 (sem 𝓛 (note_handle.the_row.own_val d vs)) (guard 𝓤 (vs ≡ word (ptr_val d.at) ∷ []) (sem 𝓛 (owned note.the_row d.at d.value)))
  note_opens d vs = qed 𝓛 (‵ (note_handle.the_row.own_val d vs) ∷ []) ∵
      fsplit ! $ fpick ! (λ vss. fsplit ! $ feq_l ! (λ ev. fsplit ! $ feq_l ! (λ ep. drop ! $
      by ! (guard_i 𝓤 _ _ (subst (λ (ps : List Val). vs ≡ vstruct (of_list (ps ++ [])) ∷ []) ep ev)))))

  pub note_shuts : (d : note_handle.the_row.Denot) → ent 𝓤 (sem 𝓛 (owned note.the_row d.at d.value)) (sem 𝓛 (note_handle.the_row.own_val d (word (ptr_val d.at) ∷ [])))
  note_shuts d = let v : Val = word (ptr_val d.at) in qed 𝓛 (‵ (owned note.the_row d.at d.value) ∷ []) ∵
      nothing ! $ feq_i ! (List Val) (ptr_val d.at ∷ []) (ptr_val d.at ∷ []) refl $ fjoin ! $ feq_i ! (List Val) (v ∷ []) (v ∷ []) refl $ fjoin ! $
      fpack ! (Valss (RawPtr ∷ [])) (within (shape note_handle.the_type) (d.at, tt) (v ∷ [])) (ptr_val d.at ∷ [], tt) $ fjoin ! $ done !

module _ {M : Type 1} {𝓤 : Ura M} {𝓛 : Logic 𝓤} {K : Type 0} {Γ : List (Item 𝓤)} {G : Goal 𝓤 𝓛.H} where
  -- what a handle owns is nothing, at null, or a box, whose pointer may be tested
  pub either : K → (R : RattleType) (p : Ptr) (v : Option R.Denot) → (v ≡ None → p ≡ null_ptr → Seq K 𝓛 Γ G)
      → ((b o : ℕ) (a : Global) (x : R.Denot) → v ≡ Some x → p ≡ block_ptr b o → Testable (block_ptr b o)
      → Seq K 𝓛 (‵ (box_owns (ghosts.dealloc_token a) R (block_ptr b o) x) ∷ Γ) G)
      → Seq K 𝓛 (‵ (owned R p v) ∷ Γ) G
  either t R p None none one = fpick t (λ e. drop t $ none refl e)
  either t R p (Some x) none one = fpick t (λ a. let B : Ptr → Fml = λ q. box_owns (ghosts.dealloc_token a) R q x in
      let token : Ptr → Fml = λ q. ghosts.dealloc_token a (bare (lone R.mir)) q in
      in_a_block t p B (fst∗ 𝓤 (never 𝓤) (sem 𝓛 (token null_ptr))) (λ b o e. let q : Ptr = block_ptr b o in
      use1 𝓛 (given (Testable q) (‵ (B q))) (fact_use 𝓤 (Testable q) (via 𝓤 _ (snd∗ 𝓤 (sem 𝓛 (lies_at R full_share q x)) (sem 𝓛 (token q)))
      (dealloc_token-Testable 𝓛 a (bare (lone R.mir)) q)) (guard_i 𝓤 (Testable q) (sem 𝓛 (B q)))) $
      learn t (λ test. one b o a x refl e test)))
