-- What the walks of the unsafe functions begin and end with. Assumes `Logic`.
--     Meets, proved      the function of a name meets a contract: its walk holds the tokens of its own lifetimes,
--                        and not that of the value's type
--     dropped, Spent     parameters of which a call keeps nothing
-- In each of the four, Asks is what a call needs and Gives what it says of its result. The walk is handed what the
-- call is passed, and ends by what it is handed last.
--     takes              a call that is passed all by value
--     looks              a call that is passed a `&` to the links and a node, and looks at what lies in the node
--     reads              such a call, which gives the pointer that lies in the node
--     enters, changes    a call that is passed a `&mut` to the links, a node and more, and changes the links
use mathlib.Core.Path.{◌≡◌, refl, ap, ◌∙◌}
use Prim.Native.Nat.{ℕ, ◌+◌}
use mathlib.Core.Option.{some}
use mathlib.Core.List.{List, [], ◌∷◌, ◌++◌}
use lib.Dec.{T}
use seplogic.Ra.Ura.{Ura}
use mir.Syntax.{Fn, Callee, Body, Local, named, local, value_local, ty_ptr, seq, block, assign, place, copy}
use mir.Syntax.{field, deref, rv_opd, aggregate, return}
use mir.Val.{Val, vptr}
use base.Logic.{SProp, ent, sep, emp, never, via, mono_l, fst∗, snd∗, id⊢}
use base.Fml.{Lft, Share, Fml, ftrue, flft, fobs, fbor}
use prog.Wp.{WpFn, Closed}
use prog.Memory.{field_of}
use prog.Model.{Model}
use types.Logic.{Logic, sem}
use contract.Lifetimes.{Lfts}
use contract.Monad.{fact}
use contract.Running.{Running, MachineTables, tables}
use types.Kit.{Item, ‵, ◌⊛◌, ⋆, ◌$◌, ◌∵◌, !, qed, by, move, keep, drop, use0, use1, split, join, fsplit}
use types.Kit.{fjoin, feq_l, at_ret, suffices, frame, done, fsplit3, fjoin3, feq_i, regoal, prop}
use types.Part.{whole, sub, agg}
use types.Run.{look, stop, hop, fld, from, load, of_opd, and_then, no_more, first, blocks, exec, returns}
use types.Run.{enter}
use types.ByLocal.{alloc_all, pass_all, free_all, look_at, look_in_at, get, sets, sets_last, env}
use denote.Exit.{Last, left, yes, no}
use denote.RattleType.{RattleType, Denots, Valss, flat, owns}
use denote.Param.{layout}
use denote.Param.Mute.{blank}
use types.SemTy.{Body as Borrowed}
use denote.Memory.{mem, shared_of, hidden_shr}
use denote.RawPtr.{Ptr, RawPtr, block_ptr, ◌+ₚ◌, in_a_block}
use denote.Ref.{MutBor, MutRef, ShrRef, mut_vals, at_last}
use denote.Builtin.{RefOf, RefMutOf}
use denote.Signature.{Slot, plain, types_at}
use denote.Opens.{hide, unhide}
use denote.Steps.{nothing}
use denote.Struct.Lending.{lent_at}
use denote.Triple.Carry.{grown, spared}
use denote.Triple.Clauses.{Clauses, Ended, closing}
use denote.Triple.End.{Fins, all}
use denote.Triple.Statement.{Contract, Triple}
use denote.Triple.Table.{run_framed}
use denote.Triple.Walked.{says, needs, Stays, AllGo, stay_dropped, fits_of, has_of, walk_of, ends_at}
use denote.Triple.Walked.{Goes-dropped, stay_ref, Goes-ref}
use Rattle.std.proofs.alloc.Calls.{Goes-blank}
use Rattle.std.proofs.raw_atomic.Walks.{proved_at}
use Rattle.std.proofs.VecSteps.Shapes.{after}
use Rattle.std.proofs.RcSteps.{Ptr-Good, word, word-Good}
use Rattle.piece_raw.specs.Linked.{places, round, IsApart}
use Rattle.piece_raw.specs.Ownership.{path_lent, values_lent, links_lent}
use Rattle.piece_raw.proofs.Blocks.{written}
use Rattle.piece_raw.proofs.Memory.{Of, RV, Lr, Np, word_had, word_made, peer_in, peer_out, says_both}

module _ {M : Type 1} {𝓤 : Ura M} (𝓛 : Logic 𝓤) (𝓜 : Model 𝓤 𝓛.H) (𝓡 : Running 𝓤 𝓛.H 𝓜) where
  open 𝓛 use {H}

  abbrev pub 𝓣 : MachineTables 𝓤 H 𝓜
  𝓣 = tables 𝓤 H 𝓜 𝓡 𝓡.env

  abbrev pub Runs : Fn → List Val → (Val → SProp 𝓤) → SProp 𝓤
  Runs = WpFn 𝓤 H 𝓣.C 𝓣.Λ

  abbrev pub Meets : Of → (T : Ended) → Clauses 𝓤 T → Callee → Type 1
  Meets E T c k = Triple 𝓤 (𝓡.run (𝓡.env k)) (grown 𝓛 T.signature 1 (E.row.lives, tt) (closing 𝓛 T c))

  module _ (E : Of) (T : Ended) (hs : Stays T.signature.params T.kept) (c : Clauses 𝓤 T) where
    abbrev Walk : Contract 𝓤
    Walk = walk_of 𝓛 T hs c

    pub proved : AllGo 𝓛 T.signature.lifetimes T.signature.params T.kept hs → (k : Callee) (e : Fn) →
        Closed 𝓤 H 𝓣.C 𝓣.Λ k e → ((y : Walk.Ghost) → ent 𝓤 (Walk.pre y) (Runs e (Walk.args y) (Walk.post y))) →
        Meets E T c k
    proved go k e closed walk =
        spared 𝓛 T.signature (𝓡.run (𝓡.env k)) (run_framed 𝓤 H 𝓜 𝓡 (𝓡.env k)) 1 (E.row.lives, tt)
        (closing 𝓛 T c) (proved_at 𝓛 T hs c 𝓜 𝓡 go k e closed (λ y are. walk y))

module _ {n : ℕ} where
  abbrev pub dropped : (ss : List (Slot n)) → Stays ss (all no ss)
  dropped [] = tt
  dropped (s ∷ ss) = (stay_dropped s no, dropped ss)

  -- nothing is said of what is left of them
  abbrev pub Spent : List (Slot n) → Type 0
  Spent [] = Unit {0}
  Spent (s ∷ ss) = ((κs : Lfts n) (x : (s.row κs).Denot) (f : Last ((s.row κs).exit no) x)
      → T (blank (left ((s.row κs).exit no) x f))) × Spent ss

  pub all_fit : (κs : Lfts n) (ss : List (Slot n)) (a : Denots (types_at ss κs)) (ws : Fins κs ss (all no ss) a)
      → fits_of κs ss (all no ss) (dropped ss) a ws
  all_fit κs [] a ws = tt
  all_fit κs (s ∷ ss) a ws = (tt, all_fit κs ss a.1 ws.1)

  abbrev pub left_of : (κs : Lfts n) (ss : List (Slot n)) (a : Denots (types_at ss κs)) → Fins κs ss (all no ss) a
      → Valss (types_at ss κs) → Fml
  left_of κs ss = has_of κs ss (all no ss) (dropped ss)

  module _ {M : Type 1} {𝓤 : Ura M} (𝓛 : Logic 𝓤) where
    pub all_go : (ss : List (Slot n)) → Spent ss → AllGo 𝓛 n ss (all no ss) (dropped ss)
    all_go [] spent = tt
    all_go (s ∷ ss) spent = (Goes-blank 𝓛 n s no spent.0, all_go ss spent.1)

    pub none_left : (κs : Lfts n) (ss : List (Slot n)) (a : Denots (types_at ss κs))
        (ws : Fins κs ss (all no ss) a) (vss : Valss (types_at ss κs)) →
        ent 𝓤 (emp 𝓤) (sem 𝓛 (left_of κs ss a ws vss))
    none_left κs [] a ws vss = id⊢ 𝓤 (emp 𝓤)
    none_left κs (s ∷ ss) a ws vss = qed 𝓛 [] ∵ use0 𝓛 (‵ (left_of κs ss a.1 ws.1 vss.1))
        (none_left κs ss a.1 ws.1 vss.1) $ nothing ! $ fjoin ! $ done !

module _ (E : Of) (ss : List (Slot 0)) (out : Slot 0) where
  abbrev by_value : Ended
  by_value = record {
    signature = record { lifetimes = 0; outlives = []; params = ss; result = out };
    kept = all no ss;
  }

  abbrev Given : Type 0
  Given = Denots (types_at ss tt)

  module _ {M : Type 1} {𝓤 : Ura M} (𝓛 : Logic 𝓤) (𝓜 : Model 𝓤 𝓛.H) (𝓡 : Running 𝓤 𝓛.H 𝓜)
      (Asks : Given → SProp 𝓤) (Gives : Given → (out.row tt).Denot → Type 0) where
    abbrev taken : Clauses 𝓤 by_value
    taken κs a = record { ghost = Unit {0}; requires = λ _. Asks a; ensures = λ _ r w. fact 𝓤 (Gives a r) }

    pub takes : Spent ss → ((a : Given) → Fins tt ss (all no ss) a) → (k : Callee) (e : Fn) →
        Closed 𝓤 𝓛.H (𝓣 𝓛 𝓜 𝓡).C (𝓣 𝓛 𝓜 𝓡).Λ k e
        → ((a : Given) (vss : Valss (types_at ss tt)) (Post : Val → SProp 𝓤) → ((r : (out.row tt).Denot) (v : Val) →
        Gives a r → ent 𝓤 (sem 𝓛 ((out.row tt).own_val r (v ∷ []))) (Post v)) →
        ent 𝓤 (sep 𝓤 (sem 𝓛 (owns (types_at ss tt) a vss)) (Asks a))
        (Runs 𝓛 𝓜 𝓡 e (flat (types_at ss tt) vss) Post)) → Meets 𝓛 𝓜 𝓡 E by_value taken k
    takes spent ws k e closed walk =
        proved 𝓛 𝓜 𝓡 E by_value (dropped ss) taken (all_go 𝓛 ss spent) k e closed (λ y.
        let a = y.0.3 in let vss = y.0.4 in
        via 𝓤 _ (mono_l 𝓤 (Asks a) (snd∗ 𝓤 (emp 𝓤) (sem 𝓛 (owns (types_at ss tt) a vss))))
        (walk a vss ((walk_of 𝓛 by_value (dropped ss) taken).post y) (λ r v g.
        qed 𝓛 (‵ ((out.row tt).own_val r (v ∷ [])) ∷ []) ∵
        suffices ! _ (ends_at 𝓛 by_value (dropped ss) taken y v r (ws a) (all_fit tt ss a (ws a))) $ says ! g $
        nothing ! $ frame ! $ use0 𝓛 (‵ (left_of tt ss a (ws a) vss)) (none_left 𝓛 tt ss a (ws a) vss) $ done !)))

module _ (E : Of) (out : Slot 1) where
  abbrev looked : Ended
  looked = record {
    signature = record {
      lifetimes = 1;
      outlives = [];
      params = RefOf (0 ∷ []) tt (plain (λ _. Lr E)) (λ _. tt) ∷ plain (λ _. Np E) ∷ [];
      result = out;
    };
    kept = (yes, (no, tt));
  }

  abbrev let_go : Stays looked.signature.params looked.kept
  let_go = (stay_dropped (RefOf (0 ∷ []) tt (plain (λ _. Lr E)) (λ _. tt)) yes, dropped (plain (λ _. Np E) ∷ []))

  module _ {M : Type 1} {𝓤 : Ura M} (𝓛 : Logic 𝓤) (𝓜 : Model 𝓤 𝓛.H) (𝓡 : Running 𝓤 𝓛.H 𝓜)
      (Asks : (Lr E).Denot → (Np E).Denot → Type 0)
      (Gives : (κs : Lfts 1) → (Lr E).Denot → (Np E).Denot → (out.row κs).Denot → Type 0) where
    abbrev seen : Clauses 𝓤 looked
    seen κs a = record {
      ghost = Unit {0};
      requires = λ _. fact 𝓤 (Asks a.0.now a.1.0);
      ensures = λ _ r w. fact 𝓤 (Gives κs a.0.now a.1.0 r);
    }

    -- there: the x that the links lend `off` bytes after the node's address. made: the result, by x and the block
    pub looks : (R : RattleType) (off : ℕ) (made : (κs : Lfts 1) → R.Denot → ℕ → ℕ → (out.row κs).Denot)
        (there : (d : (Lr E).Denot) (node : (Np E).Denot) → Asks d node → R.Denot)
        → ((κ : Lft) (d : (Lr E).Denot) (node : (Np E).Denot) (asked : Asks d node) →
        ent 𝓤 (sem 𝓛 (links_lent (RV E) d.trailer d.nodes κ))
        (sem 𝓛 (lent_at R (node.ptr +ₚ off) (there d node asked) κ)))
        → ((κs : Lfts 1) (d : (Lr E).Denot) (node : (Np E).Denot) (asked : Asks d node) (b o : ℕ) →
        node.ptr ≡ block_ptr b o → Gives κs d node (made κs (there d node asked) b o))
        → (k : Callee) (e : Fn) → Closed 𝓤 𝓛.H (𝓣 𝓛 𝓜 𝓡).C (𝓣 𝓛 𝓜 𝓡).Λ k e
        → ((κs : Lfts 1) (q : Share) (rb ro b o : ℕ) (x : R.Denot) (Post : Val → SProp 𝓤) → ((v : Val) →
        ent 𝓤 (⋆ 𝓛 (‵ (flft κs.0 q) ∷ ‵ ((out.row κs).own_val (made κs x b o) (v ∷ [])) ∷ [])) (Post v)) →
        ent 𝓤 (⋆ 𝓛 (‵ (hidden_shr R κs.0 x b (o + off)) ∷ ‵ (flft κs.0 q) ∷ []))
        (Runs 𝓛 𝓜 𝓡 e (vptr rb ro ∷ word (block_ptr b o) ∷ []) Post)) → Meets 𝓛 𝓜 𝓡 E looked seen k
    looks R off made there lent gives k e closed walk =
        proved 𝓛 𝓜 𝓡 E looked let_go seen (
          Goes-dropped 𝓛 1 (RefOf (0 ∷ []) tt (plain (λ _. Lr E)) (λ _. tt)) yes (λ κs x f. refl),
          all_go {n = 1} 𝓛 (plain (λ _. Np E) ∷ []) ((λ κs x f. tt), tt),
        ) k e closed (λ y.
        let κ = y.0.0.0 in let q = y.0.1.0 in let l = y.0.3.0 in let d = l.now in let node = y.0.3.1.0 in
        let Post : Val → SProp 𝓤 = (walk_of 𝓛 looked let_go seen).post y in
        needs 𝓤 (Asks d node) _ (λ asked.
        let x : R.Denot = there d node asked in
        qed 𝓛 ((‵ (flft κ q) ⊛ ‵ ftrue) ∷ ‵ (owns (ShrRef (named 0) κ (Lr E) ∷ Np E ∷ []) y.0.3 y.0.4) ∷ []) ∵
        split ! $ move ! (2 ∷ []) $ fsplit ! $ fsplit ! $ feq_l ! (λ e0.
        move ! (1 ∷ []) $ fsplit ! $ word_had ! node.ptr y.0.4.1.0 (λ e1.
        keep ! (1 ∷ 2 ∷ []) $ unhide ! $ fsplit ! $ drop ! $
        use1 𝓛 (‵ (lent_at R (node.ptr +ₚ off) x κ)) (lent κ d node asked) $
        in_a_block ! node.ptr (λ p. lent_at R (p +ₚ off) x κ) (fst∗ 𝓤 (never 𝓤)
        (sem 𝓛 (shared_of R x 0 0 κ))) (λ b o ep. fsplit ! $ drop ! $ hide ! $
        regoal ! (λ (ws : List Val × List Val). prop (Runs 𝓛 𝓜 𝓡 e (ws.0 ++ (ws.1 ++ [])) Post))
        (λ i. (e0 i, (e1 ∙ ap (λ (p : Ptr). word p ∷ []) ep) i)) refl $
        by ! (walk (κ, tt) q l.ref_ptr.0 l.ref_ptr.1 b o x Post (λ v.
        let r = made (κ, tt) x b o in
        qed 𝓛 (‵ (flft κ q) ∷ ‵ ((out.row (κ, tt)).own_val r (v ∷ [])) ∷ []) ∵
        suffices ! _ (ends_at 𝓛 looked let_go seen y v r (tt, (tt, tt)) (tt, (tt, tt))) $
        says ! (gives (κ, tt) d node asked b o ep) $ nothing ! $ move ! (1 ∷ 0 ∷ []) $ join ! $ frame ! $
        nothing ! $ nothing ! $ fjoin ! $ nothing ! $ fjoin ! $ done !)))))))

-- the locals and the body of a call that gives the pointer in field i of a node
module _ (E : Of) where
  abbrev locals : List Local
  locals = local (layout (Np E)) value_local ∷ local (layout (ShrRef (named 0) [] (Lr E))) value_local
      ∷ local (layout (Np E)) value_local ∷ local ty_ptr value_local ∷ local ty_ptr value_local ∷ []

  abbrev body : ℕ → Body
  body i = seq (block (assign (place 4 []) (rv_opd (copy (place 2 (field 0 ∷ deref (written E) ∷ field i ∷ []))))))
      (seq (assign (place 3 []) (rv_opd (copy (place 4 []))))
      (seq (assign (place 0 []) (aggregate (copy (place 3 []) ∷ []))) return))

  abbrev reading : Fn → ℕ → Fn
  reading e i = record e { locals = locals; body = body i }

-- Beside: in the pointers from the trailer around to the trailer, the second lies where the field of the first says
module _ (E : Of) (Beside : List Ptr → Ptr → Ptr → Type 0) where
  abbrev Stands : (Lr E).Denot → (Np E).Denot → Type 0
  Stands d node = (other : Ptr) × Beside (round d.trailer d.nodes) node.ptr other

  abbrev Leads : (κs : Lfts 1) → (Lr E).Denot → (Np E).Denot → (Np E).Denot → Type 0
  Leads κs d node r = (other : Ptr) → Beside (round d.trailer d.nodes) node.ptr other → r.ptr ≡ other

  module _ {M : Type 1} {𝓤 : Ura M} (𝓛 : Logic 𝓤) (𝓜 : Model 𝓤 𝓛.H) (𝓡 : Running 𝓤 𝓛.H 𝓜) where
    pub reads : (i off : ℕ) → field_of (written E) i ≡ some (ty_ptr, off)
        → ((κ : Lft) (a : Ptr) (ps : List Ptr) (p q : Ptr) → Beside (a ∷ ps) p q →
        ent 𝓤 (sem 𝓛 (path_lent a ps κ)) (sem 𝓛 (lent_at RawPtr (p +ₚ off) q κ)))
        → ((ps : List Ptr) (t p q r : Ptr) → IsApart (t ∷ ps) → Beside (t ∷ (ps ++ t ∷ [])) p q →
        Beside (t ∷ (ps ++ t ∷ [])) p r → q ≡ r)
        → (k : Callee) (e : Fn) → Closed 𝓤 𝓛.H (𝓣 𝓛 𝓜 𝓡).C (𝓣 𝓛 𝓜 𝓡).Λ k (reading E e i)
        → Meets 𝓛 𝓜 𝓡 E (looked E (plain (λ _. Np E))) (seen E (plain (λ _. Np E)) 𝓛 𝓜 𝓡 Stands Leads) k
    reads i off lies lent same k e closed =
        let T = 𝓣 𝓛 𝓜 𝓡 in
        looks E (plain (λ _. Np E)) 𝓛 𝓜 𝓡 Stands Leads RawPtr off (λ κs p b o. record { ptr = p })
        (λ d node asked. asked.0)
        (λ κ d node asked. via 𝓤 _ (fst∗ 𝓤 _ (sem 𝓛 (values_lent (RV E) (d.trailer ∷ d.nodes) κ)))
        (lent κ d.trailer.at (places d.nodes ++ d.trailer.at ∷ []) node.ptr asked.0 asked.1))
        (λ κs d node asked b o ep other h.
        same (places d.nodes) d.trailer.at node.ptr asked.0 other d.apart asked.1 h)
        k (reading E e i) closed (λ κs q rb ro b o p Post exits.
        qed 𝓛 (‵ (hidden_shr RawPtr κs.0 p b (o + off)) ∷ ‵ (flft κs.0 q) ∷ []) ∵
        enter ! T.C T.Λ (reading E e i) (vptr rb ro ∷ word (block_ptr b o) ∷ []) _ $
        alloc_all ! (λ l. pass_all ! refl ((tt, tt), (word-Good [] (block_ptr b o), tt)) $
        peer_in ! tt p b (o + off) (λ s.
        first ! $ blocks ! $ sets_last ! (of_opd ! (load ! (from ! (fld ! refl (hop ! (look_in_at ! 2 (sub ! 0 refl
        (whole !))) (fld ! lies (stop !))))) (look ! 0 refl))) refl (Ptr-Good p) $
        exec ! T.C T.Λ (env (locals E) l) (after 1 (body E i)) (at_ret (env (locals E) l) Post) $
        sets ! (of_opd ! (get ! refl)) refl (Ptr-Good p) $
        sets ! (agg ! (and_then ! (get ! refl) (no_more !))) refl (word-Good [] p) $
        peer_out ! tt p b (o + off) $ returns ! (look_at ! 0 refl) $ free_all ! refl $ keep ! (0 ∷ []) $
        word_made ! p $ move ! (1 ∷ 0 ∷ []) $ by ! (exits (word p)))))

module _ (E : Of) {M : Type 1} {𝓤 : Ura M} (𝓛 : Logic 𝓤) where
  -- a `&mut` to the links, with the token of its lifetime, and the rest
  abbrev pub borrowed : Lft → Share → MutBor (Lr E).Denot → List (Item 𝓤) → List (Item 𝓤)
  borrowed κ q l Γ = ‵ (fobs l.ghost_name ((Lr E).coded.code l.now))
      ∷ ‵ (fbor κ (Borrowed (mem (Lr E)) l.ref_ptr.0 l.ref_ptr.1 l.ghost_name)) ∷ ‵ (flft κ q) ∷ Γ

  module _ (κ : Lft) (q : Share) (l : MutBor (Lr E).Denot) (node : (Np E).Denot) (Rs : List RattleType)
      (a : Denots Rs) (us0 us1 : List Val) (vss : Valss Rs) where
    abbrev passed : List (Item 𝓤)
    passed = (‵ (flft κ q) ⊛ ‵ ftrue)
        ∷ ‵ (owns (MutRef (named 0) κ (Lr E) ∷ Np E ∷ Rs) (l, (node, a)) (us0, (us1, vss))) ∷ []

    pub enters : (Q : List Val → SProp 𝓤) → (us0 ≡ mut_vals l →
        ent 𝓤 (⋆ 𝓛 (borrowed κ q l (‵ (owns Rs a vss) ∷ []))) (Q (mut_vals l ++ word node.ptr ∷ flat Rs vss))) → ent 𝓤 (⋆ 𝓛 passed) (Q (us0 ++ (us1 ++ flat Rs vss)))
    enters Q walk = qed 𝓛 passed ∵ split ! $ move ! (2 ∷ []) $ fsplit ! $ fsplit3 ! $ feq_l ! (λ e0.
        move ! (2 ∷ []) $ fsplit ! $ word_had ! node.ptr us1 (λ e1. keep ! (1 ∷ 2 ∷ 3 ∷ 0 ∷ []) $
        regoal ! (λ (ws : List Val × List Val). prop (Q (ws.0 ++ (ws.1 ++ flat Rs vss)))) (λ i. (e0 i, e1 i)) refl $
        by ! (walk e0)))

module _ (E : Of) (ss : List (Slot 1)) (out : Slot 1) where
  abbrev changed : Ended
  changed = record {
    signature = record {
      lifetimes = 1;
      outlives = [];
      params = RefMutOf (0 ∷ []) tt (plain (λ _. Lr E)) (λ _. tt) ∷ plain (λ _. Np E) ∷ ss;
      result = out;
    };
    kept = (yes, (no, all no ss));
  }

  abbrev handed_back : Stays changed.signature.params changed.kept
  handed_back = (stay_ref (0 ∷ []) tt (plain (λ _. Lr E)), dropped (plain (λ _. Np E) ∷ ss))

  abbrev Rest : Lfts 1 → Type 0
  Rest κs = Denots (types_at ss κs)

  -- Gives speaks of the new links too, whose trailer stays
  module _ {M : Type 1} {𝓤 : Ura M} (𝓛 : Logic 𝓤) (𝓜 : Model 𝓤 𝓛.H) (𝓡 : Running 𝓤 𝓛.H 𝓜)
      (Asks : (Lr E).Denot → (Np E).Denot → Type 0) (Gives : (κs : Lfts 1) → (Lr E).Denot → (Np E).Denot →
      Rest κs → (out.row κs).Denot → (Lr E).Denot → Type 0) where
    abbrev said : Clauses 𝓤 changed
    said κs a = record {
      ghost = Unit {0};
      requires = λ _. fact 𝓤 (Asks a.0.now a.1.0);
      ensures = λ _ r w. sep 𝓤 (fact 𝓤 (w.0.now.trailer ≡ a.0.now.trailer))
          (fact 𝓤 (Gives κs a.0.now a.1.0 a.1.1 r w.0.now));
    }

    pub changes : Spent ss → ((κs : Lfts 1) (a : Rest κs) → Fins κs ss (all no ss) a) → (k : Callee) (e : Fn) →
        Closed 𝓤 𝓛.H (𝓣 𝓛 𝓜 𝓡).C (𝓣 𝓛 𝓜 𝓡).Λ k e
        → ((κs : Lfts 1) (q : Share) (l : MutBor (Lr E).Denot) (node : (Np E).Denot) (a : Rest κs)
        (vss : Valss (types_at ss κs)) (Post : Val → SProp 𝓤) → Asks l.now node
        → ((r : (out.row κs).Denot) (v : Val) (new : (Lr E).Denot) → new.trailer ≡ l.now.trailer →
        Gives κs l.now node a r new →
        ent 𝓤 (⋆ 𝓛 (borrowed E 𝓛 κs.0 q (at_last l new) (‵ ((out.row κs).own_val r (v ∷ [])) ∷ []))) (Post v))
        → ent 𝓤 (⋆ 𝓛 (borrowed E 𝓛 κs.0 q l (‵ (owns (types_at ss κs) a vss) ∷ [])))
        (Runs 𝓛 𝓜 𝓡 e (mut_vals l ++ word node.ptr ∷ flat (types_at ss κs) vss) Post)) →
        Meets 𝓛 𝓜 𝓡 E changed said k
    changes spent ws k e closed walk =
        proved 𝓛 𝓜 𝓡 E changed handed_back said (
          Goes-ref 𝓛 1 0 tt (plain (λ _. Lr E)),
          all_go 𝓛 (plain (λ _. Np E) ∷ ss) ((λ κs x f. tt), spent),
        ) k e closed (λ y.
        let κs : Lfts 1 = (y.0.0.0, tt) in let q = y.0.1.0 in let l = y.0.3.0 in let node = y.0.3.1.0 in
        let a = y.0.3.1.1 in let us0 = y.0.4.0 in let vss = y.0.4.1.1 in let last = ws κs a in
        let Post : Val → SProp 𝓤 = (walk_of 𝓛 changed handed_back said).post y in
        needs 𝓤 (Asks l.now node) _ (λ asked.
        enters E 𝓛 κs.0 q l node (types_at ss κs) a us0 y.0.4.1.0 vss (λ vs. Runs 𝓛 𝓜 𝓡 e vs Post) (λ is.
        walk κs q l node a vss Post asked (λ r v new g0 g1.
        qed 𝓛 (borrowed E 𝓛 κs.0 q (at_last l new) (‵ ((out.row κs).own_val r (v ∷ [])) ∷ [])) ∵
        suffices ! _ (ends_at 𝓛 changed handed_back said y v r (new, (tt, last)) (tt, (tt, all_fit κs ss a last))) $
        says_both ! g0 g1 $ nothing ! $ move ! (3 ∷ 0 ∷ []) $ join ! $ frame ! $
        feq_i ! (List Val) us0 (mut_vals l) is $ fjoin3 ! $
        use0 𝓛 (‵ (left_of κs ss a last vss)) (none_left 𝓛 κs ss a last vss) $
        nothing ! $ fjoin ! $ move ! (1 ∷ 0 ∷ []) $ fjoin ! $ done !))))
