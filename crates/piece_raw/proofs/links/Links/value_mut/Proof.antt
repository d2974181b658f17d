-- `value_mut` lends one node's value, and the links follow it. Assumes `Logic`.
use mathlib.Core.Path.{◌≡◌, refl, sym, ◌∙◌}
use Prim.Native.Nat.{◌+◌}
use mathlib.Core.List.{List, [], ◌∷◌, ◌++◌}
use seplogic.Ra.Ura.{Ura}
use base.Fraction.{full_share}
use mir.Syntax.{Fn, named}
use mir.MapTy.{inst_fn}
use mir.Val.{Val, vptr}
use base.Logic.{SProp, sep, never, id⊢}
use base.Fml.{GName, ftrue, fat, flft}
use types.Logic.{Logic, sem}
use contract.Monad.{fact}
use types.Kit.{‵, raw, ◌⊛◌, some, later, await, pick, at_ret, ◌$◌, ◌∵◌, !, qed, move, keep, use1, split, join}
use types.Kit.{group, rewrite, fsplit, fsplit3, fjoin, fjoin3, suffices, frame, done, split3}
use types.Part.{whole, sub}
use types.Run.{stop, hop, fld, from, of_opd, addr, first, blocks, exec, returns, enter}
use types.ByLocal.{alloc_all, pass_all, free_all, look_at, look_in_at, get, sets, sets_last, env, take_at}
use types.ByLocal.{give_at}
use denote.Exit.{no}
use denote.Param.{layout}
use denote.RawPtr.{Ptr, in_a_block, lies_at}
use denote.Ref.{MutBor, MutRef}
use denote.Builtin.{RefMutOf}
use denote.Signature.{plain}
use denote.Steps.{nothing, opens}
use denote.Triple.Clauses.{Clauses, Ended}
use denote.Triple.Walked.{says, needs, walk_of, ends_at}
use Rattle.std.proofs.VecSteps.Shapes.{after}
use Rattle.std.proofs.RcSteps.{word, word-Good}
use Rattle.piece_raw.specs.Linked.{IsAt, AtNode}
use Rattle.piece_raw.specs.Ownership.{value_of, values_own}
use Rattle.piece_raw.proofs.Apart.{apart_places, at_node}
use Rattle.piece_raw.proofs.Memory.{Of, args, RV, vo, Member, Lr, Np, One, values_split}
use denote.Follow.{follows, Part, lends_Part}
use Rattle.piece_raw.specs.Lends.{with_value}
use Rattle.piece_raw.proofs.Lending.{Rest, put_back}
use Rattle.piece_raw.proofs.Walks.{𝓣, Runs, proved, dropped, all_go, borrowed, enters}
use Rattle.piece_raw.specs.contracts.links.Links.value_mut.Key.{name as #self}
use Rattle.piece_raw.proofs.links.Links.value_mut.Statement as stated
use Rattle.piece_raw.proofs.links.Links.value_mut.Code as code

abbrev called : Of → Ended
called E = record {
  signature = record {
    lifetimes = 1;
    outlives = [];
    params = RefMutOf (0 ∷ []) tt (plain (λ _. Lr E)) (λ _. tt) ∷ plain (λ _. Np E) ∷ [];
    result = RefMutOf (0 ∷ []) tt (plain (λ _. RV E)) (λ _. tt);
  };
  kept = (no, (no, tt));
}

abbrev said : (E : Of) {M : Type 1} {𝓤 : Ura M} (𝓛 : Logic 𝓤) → Clauses 𝓤 (called E)
said E {𝓤 = 𝓤} 𝓛 κs a = record {
  ghost = Unit {0};
  requires = λ _. fact 𝓤 (IsAt a.0.now.nodes a.1.0.ptr);
  ensures =
      λ _ r w. sep 𝓤 (sem 𝓛 (follows (Lr E) (RV E) a.0.ghost_name r.ghost_name (with_value a.0.now a.1.0.ptr)))
      (fact 𝓤 (AtNode a.0.now.nodes a.1.0.ptr (λ _ n _. r.now ≡ n.value)));
}

pub value_mut_spec : {M : Type 1} → stated.statement M
value_mut_spec 𝓤 𝓛 𝓜 𝓡 wired X LX y =
    let E : Of = record { row = X; laws = LX } in
    let T = 𝓣 𝓛 𝓜 𝓡 in let e : Fn = inst_fn (args E) code.function in
    let slots = (called E).signature.params in
    proved 𝓛 𝓜 𝓡 E (called E) (dropped slots) (said E 𝓛) (all_go 𝓛 slots ((λ κs x f. tt), ((λ κs x f. tt), tt)))
    (#self (args E)) e (code.unfolded 𝓤 𝓛.H 𝓜 𝓡 wired (X, tt)) (λ z.
    let κ = z.0.0.0 in let q = z.0.1.0 in let links = z.0.3.0 in let d = links.now in let node = z.0.3.1.0 in
    let rb = links.ref_ptr.0 in let ro = links.ref_ptr.1 in let γ = links.ghost_name in
    let new = with_value d node.ptr in
    let Post : Val → SProp 𝓤 = (walk_of 𝓛 (called E) (dropped slots) (said E 𝓛)).post z in
    needs 𝓤 (IsAt d.nodes node.ptr) _ (λ asked.
    let xs = asked.0 in let n = asked.1 in let ys = asked.2 in
    enters E 𝓛 κ q links node [] tt z.0.4.0 z.0.4.1.0 tt (λ vs. Runs 𝓛 𝓜 𝓡 e vs Post) (λ passed.
    qed 𝓛 (borrowed E 𝓛 κ q links (‵ ftrue ∷ [])) ∵ keep ! (0 ∷ 1 ∷ 2 ∷ []) $
    enter ! T.C T.Λ e (vptr rb ro ∷ word node.ptr ∷ []) _ $
    alloc_all ! (λ l. pass_all ! refl ((tt, tt), (word-Good [] node.ptr, tt)) $
    opens ! tt (Lr E) {h = d} rb ro (λ vs. move ! (1 ∷ []) $ fsplit ! $ move ! (1 ∷ []) $ fsplit3 ! $
    move ! (0 ∷ 2 ∷ 1 ∷ []) $
    rewrite ! 1 (λ (ns : List (Member E)). ‵ (values_own (RV E) ns)) asked.3 refl $ move ! (1 ∷ []) $
    use1 𝓛 (‵ (One E n) ⊛ ‵ (values_own (RV E) (xs ++ ys))) (values_split 𝓛 E xs n ys) $ split ! $
    in_a_block ! n.at (λ p. lies_at (RV E) full_share (value_of (RV E) p) n.value) (id⊢ 𝓤 (never 𝓤))
    (λ b o ep.
    let at = o + vo E in
    let rest = sem 𝓛 (Rest E rb ro d xs ys vs) in
    let way = put_back E rb ro d xs ys vs 𝓛 node.ptr n b o asked.3 asked.4 ep in
    -- [the value; the other values; the path; the trailer's value; the mark; its cell; the open borrow;
    -- obs; auth]
    take_at ! 2 $ rewrite ! 0 (λ (p : Ptr). ‵ (fat full_share (layout (Np E)) (l 2) 0 (word p)))
    (sym asked.4 ∙ ep) refl $ give_at ! 2 $
    first ! $ blocks ! $ sets_last ! (addr ! (from ! (fld ! refl (hop ! (look_in_at ! 2 (sub ! 0 refl
    (whole !))) (fld ! refl (stop !)))))) refl (tt, tt) $
    exec ! T.C T.Λ (env e.locals l) (after 1 e.body) (at_ret (env e.locals l) Post) $
    sets ! (of_opd ! (get ! refl)) refl (tt, tt) $
    move ! (3 ∷ 4 ∷ 5 ∷ []) $ fjoin3 ! $ move ! (2 ∷ 3 ∷ 0 ∷ []) $ fjoin3 ! $
    move ! (2 ∷ 3 ∷ 4 ∷ 1 ∷ 0 ∷ []) $ group ! 5 $
    use1 𝓛 (later (some (λ (δ : GName).
    raw (Part 𝓛 (Lr E) (RV E) new (named 0) κ q rb ro b at γ rest way n.value δ))))
    (lends_Part 𝓛 (Lr E) (RV E) new (named 0) κ q rb ro b at γ rest way ((Lr E).coded.code d)
    ((Lr E).coded.code d) n.value) $ await ! tt $ pick ! (λ δ.
    let r : MutBor E.row.Denot = record { ref_ptr = (b, at); ghost_name = δ; now = n.value } in
    returns ! (look_at ! 0 refl) $ free_all ! refl $ keep ! (0 ∷ []) $
    use1 𝓛 (‵ ((MutRef (named 0) κ (RV E)).own_val r (vptr b at ∷ [])) ⊛ ‵ (flft κ q)
    ⊛ ‵ (follows (Lr E) (RV E) γ δ new)) (id⊢ 𝓤 _) $ split3 ! $
    suffices ! _ (ends_at 𝓛 (called E) (dropped slots) (said E 𝓛) z (vptr b at) r (tt, (tt, tt)) (tt, (tt, tt))) $
    nothing ! $ nothing ! $ fjoin ! $ nothing ! $ fjoin ! $ join ! $ nothing ! $ move ! (2 ∷ 0 ∷ []) $
    join ! $ join ! $ frame ! $
    says ! (at_node d.nodes node.ptr (apart_places d.trailer.at d.nodes d.apart) asked
    (λ _ m _. n.value ≡ m.value) refl) $
    done !))))))) ((y.0.0, y.0.1, tt, y.0.3, y.0.4), y.1)
