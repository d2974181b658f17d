-- How a handle's functions run, whatever it holds: both kinds have one machine code, but for the handle's name n. Assumes `Logic`.
-- A kind of handle gives what its row owns (`Own`, `Had`), and how that is what a handle owns (`shuts`, `opens`).
use Rattle.std.proofs.Common.{◌≡◌, ℕ, List, [], ◌∷◌, ◌++◌, refl, sym, ap, ◌∙◌, subst, lit<}
use seplogic.Ra.Ura.{Ura}
use mir.Syntax.{Sym, Ty, ty_struct, ty_ptr, ty_bool, tcons, tnil, Fn, Local, local, value_local, Opd, copy, int, w8, w64, place, field, Body, seq, assign, cond, return, rv_opd, op2, ptr_eq, aggregate}
use mir.Val.{Val, vptr, vcons, vnil}
use base.Logic.{SProp, ent, sep, guard, emp, id⊢}
use base.Fml.{Fml, ftrue, fsep}
use prog.Model.{Model}
use prog.Wp.{WpFn}
use types.Logic.{Logic, sem}
use types.Kit.{‵, raw, ◌⊛◌, given, at_ret, ◌$◌, ◌∵◌, !, qed, by, move, keep, drop, split, join, fsplit, fjoin, fpack, suffices, use0, use1, rewrite, learn}
use types.Run.{stop, fld, lit, of_opd, bin, no_more, and_then, first, branches, exec, returns, enter}
use types.ByLocal.{alloc_all, pass_all, free_all, look_at, get, get_in, sets, sets_last, env}
use types.Part.{agg, sub, whole}
use types.Match.{live}
use contract.Monad.{fact, fact_i}
use contract.Running.{Running, tables}
use denote.RattleType.{RattleType}
use denote.RawPtr.{Ptr, block_ptr, null_ptr, ptr_val, tests_null}
use denote.Steps.{nothing}
use denote.Param.{layout}
use Rattle.std.specs.Prelude.{Option, Some, None, IfSome, IfNone}
use Rattle.std.specs.declared.alloc.Global.{Global}
use Rattle.std.specs.contracts.alloc.Global as heap
use Rattle.std.proofs.alloc.Global.TheLaws as heap_laws
use Rattle.std.specs.contracts.impls.GlobalAllocator.TheImpl.{ghosts}
use Rattle.core.specs.contracts.option.Option as option
use Rattle.core.proofs.alloc.Shapes.{after}
use Rattle.core.proofs.cell.Inside.{Good}
use Rattle.core.proofs.option.Made.{Some-of, none_of}
use Rattle.std_alloc.specs.Box.Ownership.{box_owns}
use Rattle.std_alloc.proofs.ResultValues.{and_tt}
use Rattle.vialshoal_c.specs.Owned.{owned}
use Rattle.vialshoal_c.proofs.Values.{both, word, Loose, loose_good, loose_in, loose_out, either}

abbrev local_of : ℕ → Opd
local_of i = copy (place i [])

abbrev fn_of : (params : ℕ) → List Local → Body → Fn
fn_of params locals body =
    record { lifetimes = 0; outlives = []; ty_params = []; givens = 0; params = params; locals = locals; body = body }

module _ {M : Type 1} (𝓤 : Ura M) (𝓛 : Logic 𝓤) (𝓜 : Model 𝓤 𝓛.H) (𝓡 : Running 𝓤 𝓛.H 𝓜) (R : RattleType) (n : Sym) (Post : Val → SProp 𝓤) (Asked : SProp 𝓤) where
  abbrev Runs : Fn → List Val → SProp 𝓤
  Runs fn vs = let 𝓣 = tables 𝓤 𝓛.H 𝓜 𝓡 𝓡.env in WpFn 𝓤 𝓛.H 𝓣.C 𝓣.Λ fn vs Post

  abbrev Z : RattleType
  Z = heap.the_row

  abbrev Lr : RattleType
  Lr = Loose R Z heap_laws.the_row_laws ghosts

  abbrev Out : RattleType
  Out = option.the_row Lr

  -- a local of a type
  abbrev of_type : Ty → Local
  of_type τ = local τ value_local

  abbrev handle_local : Local
  handle_local = of_type (ty_struct n (tcons ty_ptr tnil))

  abbrev empty_code : Fn
  empty_code = fn_of 0 (handle_local ∷ []) (seq (assign (place 0 []) (aggregate (int w64 0 ∷ []))) return)

  abbrev of_code : Fn
  of_code = fn_of 1 (handle_local ∷ of_type (layout Lr) ∷ of_type ty_ptr ∷ of_type ty_ptr ∷ [])
      (seq (assign (place 2 []) (rv_opd (copy (place 1 (field 0 ∷ [])))))
      (seq (assign (place 3 []) (rv_opd (local_of 2)))
      (seq (assign (place 0 []) (aggregate (local_of 3 ∷ []))) return)))

  abbrev into_loose_code : Fn
  into_loose_code = fn_of 2
      (of_type (layout Out) ∷ handle_local ∷ of_type (layout Z) ∷ of_type ty_ptr ∷ of_type ty_bool ∷ of_type (layout Out) ∷ of_type ty_ptr ∷ of_type (layout Lr) ∷ [])
      (seq (assign (place 3 []) (rv_opd (copy (place 1 (field 0 ∷ [])))))
      (seq (assign (place 4 []) (op2 ptr_eq (local_of 3) (int w64 0)))
      (seq (cond (local_of 4) (assign (place 5 []) (aggregate (int w8 0 ∷ [])))
      (seq (assign (place 6 []) (rv_opd (local_of 3)))
      (seq (assign (place 7 []) (aggregate (local_of 6 ∷ local_of 2 ∷ [])))
      (assign (place 5 []) (aggregate (int w8 1 ∷ local_of 7 ∷ []))))))
      (seq (assign (place 0 []) (rv_opd (local_of 5))) return))))

  -- `empty` makes a null pointer, which owns nothing
  pub empty_runs : (Own : Fml) → ent 𝓤 (sem 𝓛 (owned R null_ptr None)) (sem 𝓛 Own)
      → ent 𝓤 (sep 𝓤 (sem 𝓛 ftrue) (sep 𝓤 (sem 𝓛 ftrue) (sep 𝓤 (sem 𝓛 Own) (fact 𝓤 (◌≡◌ {A = Option R.Denot} None None))))) (Post (word (ptr_val null_ptr)))
      → ent 𝓤 (sep 𝓤 (sep 𝓤 (sem 𝓛 ftrue) (sem 𝓛 ftrue)) Asked) (Runs empty_code [])
  empty_runs Own shuts ends = let 𝓣 = tables 𝓤 𝓛.H 𝓜 𝓡 𝓡.env in qed 𝓛 ((‵ ftrue ⊛ ‵ ftrue) ∷ raw Asked ∷ []) ∵ split ! $
      enter ! 𝓣.C 𝓣.Λ empty_code [] Post $ alloc_all ! (λ l. pass_all ! refl tt $
      sets ! (agg ! (and_then ! (lit ! tt) (no_more !))) refl (tt, (record { fits = lit< tt }, tt)) $
      nothing ! $ fpack ! (null_ptr ≡ null_ptr) (λ _. ftrue) refl $ use1 𝓛 (‵ Own) shuts $
      use0 𝓛 (raw (fact 𝓤 (◌≡◌ {A = Option R.Denot} None None))) (fact_i 𝓤 _ (emp 𝓤) refl) $
      returns ! (look_at ! 0 refl) $ free_all ! refl $ keep ! (2 ∷ 3 ∷ 1 ∷ 0 ∷ []) $ by ! ends)

  -- `of` keeps the pointer of a loose box
  pub of_runs : (v : Lr.Denot) (vs : List Val) (Own : Ptr → Fml)
      → ((p : Ptr) → ent 𝓤 (sem 𝓛 (owned R p (Some v.value))) (sem 𝓛 (Own p)))
      → ((p : Ptr) → ent 𝓤 (sep 𝓤 (sem 𝓛 ftrue) (sep 𝓤 (sem 𝓛 (fsep ftrue ftrue)) (sep 𝓤 (sem 𝓛 (Own p)) (fact 𝓤 (Some v.value ≡ Some v.value))))) (Post (word (ptr_val p))))
      → ent 𝓤 (sep 𝓤 (sep 𝓤 (sem 𝓛 ftrue) (sem 𝓛 (fsep (Lr.own_val v vs) ftrue))) Asked) (Runs of_code (vs ++ []))
  of_runs v vs Own shuts ends = let 𝓣 = tables 𝓤 𝓛.H 𝓜 𝓡 𝓡.env in qed 𝓛 ((‵ ftrue ⊛ ‵ (fsep (Lr.own_val v vs) ftrue)) ∷ raw Asked ∷ []) ∵
      split ! $ move ! (1 ∷ []) $ fsplit ! $ loose_out R Z heap_laws.the_row_laws ghosts ! v vs (λ b o h e ws fits.
      let w : Val = both (vptr b o) h in let typed = loose_good R Z heap_laws.the_row_laws ghosts b o h fits in
      move ! (1 ∷ []) $ drop ! $
      suffices ! (Runs of_code (w ∷ [])) (subst (λ (us : List Val). ent 𝓤 (Runs of_code (w ∷ [])) (Runs of_code us)) (sym (λ i. ws i ++ [])) (id⊢ 𝓤 (Runs of_code (w ∷ [])))) $
      enter ! 𝓣.C 𝓣.Λ of_code (w ∷ []) Post $ alloc_all ! (λ l. pass_all ! refl (typed, tt) $
      sets ! (of_opd ! (get_in ! (fld ! refl (stop !)) (sub ! 0 refl (whole !)))) refl (tt, tt) $
      sets ! (of_opd ! (get ! refl)) refl (tt, tt) $
      sets ! (agg ! (and_then ! (get ! refl) (no_more !))) refl (tt, (tt, tt)) $
      fpack ! Global (λ a. box_owns (ghosts.dealloc_token a) R (block_ptr b o) v.value) v.alloc $ use1 𝓛 (‵ (Own (block_ptr b o))) (shuts (block_ptr b o)) $
      use0 𝓛 (raw (fact 𝓤 (Some v.value ≡ Some v.value))) (fact_i 𝓤 _ (emp 𝓤) refl) $
      nothing ! $ nothing ! $ fjoin ! $
      returns ! (look_at ! 0 refl) $ free_all ! refl $ keep ! (4 ∷ 0 ∷ 2 ∷ 1 ∷ []) $ by ! (ends (block_ptr b o))))

  -- `into_loose` tests the pointer, and has the box again where there is one
  pub into_loose_runs : (p : Ptr) (v : Option R.Denot) (a : Global) (vs us : List Val) (Had : Fml) (h : Val) → us ≡ h ∷ [] → Good (layout Z) h
      → ent 𝓤 (sem 𝓛 Had) (guard 𝓤 (vs ≡ word (ptr_val p) ∷ []) (sem 𝓛 (owned R p v)))
      → ((w : Val) (r : Option Lr.Denot) → ent 𝓤 (sep 𝓤 (sem 𝓛 ftrue) (sep 𝓤 (sem 𝓛 (fsep ftrue (fsep ftrue ftrue))) (sep 𝓤 (sem 𝓛 (Out.own_val r (w ∷ [])))
      (sep 𝓤 (fact 𝓤 (IfNone r (v ≡ None))) (fact 𝓤 (IfSome r (λ (x : Lr.Denot). v ≡ Some x.value))))))) (Post w))
      → ent 𝓤 (sep 𝓤 (sep 𝓤 (sem 𝓛 ftrue) (sem 𝓛 (fsep Had (fsep (Z.own_val a us) ftrue)))) Asked) (Runs into_loose_code (vs ++ (us ++ [])))
  into_loose_runs p v a vs us Had h hs fits opens ends =
      let 𝓣 = tables 𝓤 𝓛.H 𝓜 𝓡 𝓡.env in let fn = into_loose_code in
      qed 𝓛 ((‵ ftrue ⊛ ‵ (fsep Had (fsep (Z.own_val a us) ftrue))) ∷ raw Asked ∷ []) ∵
      split ! $ move ! (1 ∷ []) $ fsplit ! $ use1 𝓛 (given (vs ≡ word (ptr_val p) ∷ []) (‵ (owned R p v))) opens $ learn ! (λ ws. move ! (1 ∷ []) $ fsplit ! $
      rewrite ! 0 (λ (us : List Val). ‵ (Z.own_val a us)) hs refl $
      -- [the allocator; nothing; what the handle owns; the tokens; the `requires`]
      move ! (2 ∷ []) $ either ! R p v
      (λ no is. let w : Val = word (ptr_val null_ptr) in let nothing_there : Option Lr.Denot = None in
      suffices ! (Runs fn (w ∷ h ∷ [])) (subst (λ (us : List Val). ent 𝓤 (Runs fn (w ∷ h ∷ [])) (Runs fn us)) (sym (λ i. (ws ∙ ap (λ (p : Ptr). word (ptr_val p) ∷ []) is) i ++ (hs i ++ []))) (id⊢ 𝓤 (Runs fn (w ∷ h ∷ [])))) $
      enter ! 𝓣.C 𝓣.Λ fn (w ∷ h ∷ []) Post $ alloc_all ! (λ l. pass_all ! refl ((tt, (record { fits = lit< tt }, tt)), (fits, tt)) $ let Ev = env fn.locals l in
      sets ! (of_opd ! (get_in ! (fld ! refl (stop !)) (sub ! 0 refl (whole !)))) refl (tt, record { fits = lit< tt }) $
      sets ! (bin ! (get ! refl) (lit ! tt) tt) refl (tt, tt) $ first ! $ branches ! (get ! refl)
      (λ _. sets_last ! (agg ! (and_then ! (lit ! tt) (no_more !))) refl (tt, (record { fits = lit< tt }, tt)) $ exec ! 𝓣.C 𝓣.Λ Ev (after 3 fn.body) (at_ret Ev Post) $
      sets ! (of_opd ! (get ! refl)) refl (tt, (record { fits = lit< tt }, tt)) $
      use0 𝓛 (‵ (Out.own_val None (live 0 vnil ∷ []))) (none_of 𝓛 Lr) $
      use0 𝓛 (raw (fact 𝓤 (IfSome nothing_there (λ (x : Lr.Denot). v ≡ Some x.value)))) (fact_i 𝓤 _ (emp 𝓤) tt) $
      use0 𝓛 (raw (fact 𝓤 (IfNone nothing_there (v ≡ None)))) (fact_i 𝓤 _ (emp 𝓤) no) $ join ! $
      nothing ! $ nothing ! $ fjoin ! $ nothing ! $ fjoin ! $
      returns ! (look_at ! 0 refl) $ free_all ! refl $ keep ! (5 ∷ 0 ∷ 2 ∷ 1 ∷ []) $ by ! (ends (live 0 vnil) None))
      (λ wrong. absurd wrong)))
      (λ b o a' x some is test. let q : Ptr = block_ptr b o in let w : Val = word (ptr_val q) in let made : Val = both (vptr b o) h in
      let typed = loose_good R Z heap_laws.the_row_laws ghosts b o h fits in let v₁ : Val = live 1 (vcons made vnil) in let m : Lr.Denot = record { at = q; alloc = a; value = x } in
      let good : Good (layout Out) v₁ = (and_tt _ typed.0, (record { fits = lit< tt }, (typed.1, tt))) in
      suffices ! (Runs fn (w ∷ h ∷ [])) (subst (λ (us : List Val). ent 𝓤 (Runs fn (w ∷ h ∷ [])) (Runs fn us)) (sym (λ i. (ws ∙ ap (λ (q : Ptr). word (ptr_val q) ∷ []) is) i ++ (hs i ++ []))) (id⊢ 𝓤 (Runs fn (w ∷ h ∷ [])))) $
      enter ! 𝓣.C 𝓣.Λ fn (w ∷ h ∷ []) Post $ alloc_all ! (λ l. pass_all ! refl ((tt, (tt, tt)), (fits, tt)) $ let Ev = env fn.locals l in
      sets ! (of_opd ! (get_in ! (fld ! refl (stop !)) (sub ! 0 refl (whole !)))) refl (tt, tt) $
      sets ! (bin ! (get ! refl) (lit ! tt) (tests_null q test)) refl (tt, tt) $ first ! $ branches ! (get ! refl)
      (λ wrong. absurd wrong)
      (λ _. sets ! (of_opd ! (get ! refl)) refl (tt, tt) $
      sets ! (agg ! (and_then ! (get ! refl) (and_then ! (get ! refl) (no_more !)))) refl typed $
      sets_last ! (agg ! (and_then ! (lit ! tt) (and_then ! (get ! refl) (no_more !)))) refl good $
      exec ! 𝓣.C 𝓣.Λ Ev (after 3 fn.body) (at_ret Ev Post) $ sets ! (of_opd ! (get ! refl)) refl good $
      loose_in R Z heap_laws.the_row_laws ghosts ! b o h a x $ use1 𝓛 (‵ (Out.own_val (Some m) (v₁ ∷ []))) (Some-of 𝓛 Lr m made) $
      use0 𝓛 (raw (fact 𝓤 (IfSome (Some m) (λ (y : Lr.Denot). v ≡ Some y.value)))) (fact_i 𝓤 _ (emp 𝓤) some) $
      use0 𝓛 (raw (fact 𝓤 (IfNone (Some m) (v ≡ None)))) (fact_i 𝓤 _ (emp 𝓤) tt) $ join ! $
      nothing ! $ nothing ! $ fjoin ! $ nothing ! $ fjoin ! $
      returns ! (look_at ! 0 refl) $ free_all ! refl $ keep ! (4 ∷ 0 ∷ 2 ∷ 1 ∷ []) $ by ! (ends v₁ (Some m))))))
