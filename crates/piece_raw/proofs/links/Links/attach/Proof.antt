-- `attach` cuts an edge in two, at a node that lies apart from the others. Assumes `Logic`.
use mathlib.Core.Bool.{false}
use mathlib.Core.Path.{◌≡◌, refl, sym, ap, subst, ◌∙◌}
use mathlib.Core.List.{List, [], ◌∷◌, ◌++◌}
use mir.Syntax.{Fn}
use mir.MapTy.{inst_fn}
use mir.Val.{Val, vptr, vunit}
use types.Kit.{use1, use2, ‵, ◌⊛◌, at_ret, ◌$◌, ◌∵◌, !, qed, by, move, keep, split, rewrite, fsplit, fsplit3}
use types.Kit.{fjoin, fjoin3, feq_i, prop, regoal}
use types.Part.{whole, sub}
use types.Run.{look, store, init, stop, hop, fld, load, unit_lit, of_opd, assigns, assigns_last, first}
use types.Run.{blocks, exec, returns, enter}
use types.ByLocal.{alloc_all, pass_all, free_all, look_at, get, get_in, through, sets, is, env}
use denote.RattleType.{owns}
use denote.RawPtr.{Ptr, block_ptr, ptr_val, in_a_block}
use denote.Builtin.{unit}
use denote.Signature.{plain}
use denote.Steps.{opens, closes}
use Rattle.std.proofs.VecSteps.Shapes.{after}
use Rattle.std.proofs.RcSteps.{word, word-Good}
use Rattle.piece_raw.specs.Linked.{linked, same_ptr, last_from, places, round, IsApart, IsSplitAfter, IsOn}
use Rattle.piece_raw.specs.Ownership.{link_room, edge, path, values_own}
use Rattle.piece_raw.proofs.Splits.{first_of_push, all_left}
use Rattle.piece_raw.proofs.Apart.{IsFresh, places_joined, apart_attached}
use Rattle.piece_raw.proofs.Memory.{Of, args, RV, Member, Lr, Dt, word_had, knows, edge_out, edge_in}
use Rattle.piece_raw.proofs.Memory.{no_source, no_target, no_room, path_split, path_glue, values_glue, fresh}
use Rattle.piece_raw.proofs.Walks.{𝓣, Runs, borrowed, changes}
use Rattle.piece_raw.specs.contracts.links.Links.attach.Key.{name as #self}
use Rattle.piece_raw.proofs.links.Links.attach.Statement as stated
use Rattle.piece_raw.proofs.links.Links.attach.Code as code

pub attach_spec : {M : Type 1} → stated.statement M
attach_spec 𝓤 𝓛 𝓜 𝓡 wired X LX y =
    let E : Of = record { row = X; laws = LX } in
    let T = 𝓣 𝓛 𝓜 𝓡 in let e : Fn = inst_fn (args E) code.function in
    changes E (plain (λ _. Dt E) ∷ []) (plain (λ _. unit)) 𝓛 𝓜 𝓡 (λ d head. IsOn d.trailer d.nodes head.ptr)
    (λ κs d head a r new. (xs : List (Member E)) × (ys : List (Member E)) × IsSplitAfter d.trailer d.nodes head.ptr xs ys
    × (new.nodes ≡ xs ++ linked a.0.ptr a.0.value ∷ ys)) ((λ κs x f. tt), tt) (λ κs a. (tt, tt))
    (#self (args E)) e (code.unfolded 𝓤 𝓛.H 𝓜 𝓡 wired (X, tt)) (λ κs q links head a vss Post asked exits.
    let d = links.now in let rb = links.ref_ptr.0 in let ro = links.ref_ptr.1 in let node = a.0 in
    let n : Member E = linked node.ptr node.value in
    let xs = asked.0 in let ys = asked.1 in let t = d.trailer.at in
    let on = first_of_push (places ys) t in
    let before : Ptr = last_from t (places xs) in
    let cut : places d.nodes ++ t ∷ [] ≡ places xs ++ on.0 ∷ on.1 = ap (λ ns. places ns ++ t ∷ [])
    asked.2.0 ∙ places_joined xs ys t ∙ ap (λ ps. places xs ++ ps) on.2 in
    let joined : places xs ++ node.ptr ∷ on.0 ∷ on.1 ≡ places (xs ++ n ∷ ys)
    ++ t ∷ [] = sym (places_joined xs (n ∷ ys) t ∙ ap (λ ps. places xs ++ node.ptr ∷ ps) on.2) in
    qed 𝓛 (borrowed E 𝓛 κs.0 q links (‵ (owns (Dt E ∷ []) a vss) ∷ [])) ∵ move ! (3 ∷ []) $ fsplit ! $
    fsplit ! $ word_had ! node.ptr vss.0 (λ e2.
    regoal ! (λ (ws : List Val). prop (Runs 𝓛 𝓜 𝓡 e (vptr rb ro ∷ word head.ptr ∷ ws ++ []) Post)) e2 refl $
    keep ! (2 ∷ 3 ∷ 4 ∷ 0 ∷ []) $
    enter ! T.C T.Λ e (vptr rb ro ∷ word head.ptr ∷ word node.ptr ∷ []) _ $
    alloc_all ! (λ l. pass_all ! refl ((tt, tt), (word-Good [] head.ptr, (word-Good [] node.ptr, tt))) $
    opens ! tt (Lr E) {h = d} rb ro (λ vs. move ! (1 ∷ []) $ fsplit ! $ move ! (1 ∷ []) $ fsplit3 ! $
    move ! (0 ∷ 2 ∷ 1 ∷ []) $ move ! (8 ∷ []) $ fsplit ! $ move ! (0 ∷ 2 ∷ []) $
    knows ! (IsFresh node.ptr (round d.trailer d.nodes)) (fresh 𝓛 𝓜 node.ptr t (places d.nodes) t) (λ free.
    let apart = apart_attached t xs n ys (subst (λ ns. IsFresh node.ptr (t ∷ places ns))
    asked.2.0 (all_left (λ q. same_ptr node.ptr q ≡ false) (t ∷ places d.nodes) (t ∷ []) free))
    (subst (λ ns. IsApart (t ∷ places ns)) asked.2.0 d.apart) in
    let new : (Lr E).Denot = record {
      mark = d.mark;
      trailer = d.trailer;
      nodes = xs ++ n ∷ ys;
      apart =
          apart;
    } in
    in_a_block ! node.ptr link_room (no_room 𝓛) (λ pb po ep. fsplit ! $ move ! (2 ∷ []) $
    rewrite ! 0 (λ (ps : List Ptr). ‵ (path t ps)) cut refl $
    use1 𝓛 (‵ (path t (places xs)) ⊛ ‵ (path before (on.0 ∷ on.1))) (path_split 𝓛 t (places xs)
    (on.0 ∷ on.1)) $ split ! $ move ! (1 ∷ []) $ fsplit ! $ move ! (0 ∷ 1 ∷ 3 ∷ 4 ∷ 5 ∷ 2 ∷ []) $
    in_a_block ! before (λ p. edge p on.0) (no_source 𝓛 on.0)
    (λ hb ho eh. in_a_block ! on.0 (edge (block_ptr hb ho)) (no_target 𝓛 (block_ptr hb ho))
    (λ nb no en. edge_out ! hb ho nb no $
    -- [before.next; after.prev; the path after; room for node.prev, and for node.next; the value; the path
    -- before; the values; the trailer's; the mark; its cell; the open borrow; obs; auth]
    sets ! (is ! (of_opd ! (get_in ! (fld ! refl (stop !)) (sub ! 0 refl (whole !))))
    (ap ptr_val (sym asked.2.1 ∙ eh))) refl (tt, tt) $
    sets ! (is ! (of_opd ! (get_in ! (fld ! refl (stop !)) (sub ! 0 refl (whole !)))) (ap ptr_val ep))
    refl (tt, tt) $ first ! $ blocks ! $
    sets ! (of_opd ! (load ! (through ! refl (fld ! refl (stop !))) (look ! 0 refl))) refl (tt, tt) $
    assigns ! (of_opd ! (get ! refl)) (through ! refl (fld ! refl (stop !))) (init ! 4 refl (tt, tt)) $
    assigns ! (of_opd ! (get ! refl)) (through ! refl (fld ! refl (stop !))) (init ! 3 refl (tt, tt)) $
    assigns ! (of_opd ! (get ! refl)) (through ! refl (fld ! refl (stop !))) (store ! 0 refl (tt, tt)) $
    assigns_last ! (of_opd ! (get ! refl)) (through ! refl (fld ! refl (hop ! (look ! 4 refl)
    (fld ! refl (stop !))))) (store ! 1 refl (tt, tt)) $
    exec ! T.C T.Λ (env e.locals l) (after 3 e.body) (at_ret (env e.locals l) Post) $
    sets ! (of_opd ! (unit_lit !)) refl (tt, tt) $
    move ! (0 ∷ 3 ∷ []) $ edge_in ! hb ho pb po $ move ! (3 ∷ 1 ∷ []) $ edge_in ! pb po nb no $
    rewrite ! 0 (λ (p : Ptr × Ptr). ‵ (edge p.0 p.1)) (λ i. (sym ep i, sym en i)) refl $
    rewrite ! 1 (λ (p : Ptr × Ptr). ‵ (edge p.0 p.1)) (λ i. (sym eh i, sym ep i)) refl $
    move ! (0 ∷ 2 ∷ []) $ fjoin ! $ move ! (1 ∷ 0 ∷ []) $ fjoin ! $ move ! (2 ∷ 0 ∷ []) $
    use2 𝓛 (‵ (path t (places xs ++ node.ptr ∷ on.0 ∷ on.1))) (path_glue 𝓛 t (places xs)
    (node.ptr ∷ on.0 ∷ on.1)) $ rewrite ! 0 (λ (ps : List Ptr). ‵ (path t ps)) joined refl $
    move ! (1 ∷ 2 ∷ []) $ rewrite ! 1 (λ (ns : List (Member E)). ‵ (values_own (RV E) ns)) asked.2.0 refl $
    use2 𝓛 (‵ (values_own (RV E) (xs ++ n ∷ ys))) (values_glue 𝓛 E xs n ys) $ move ! (1 ∷ 2 ∷ 0 ∷ []) $
    fjoin3 ! $ move ! (1 ∷ 0 ∷ []) $ fjoin ! $ move ! (1 ∷ 0 ∷ []) $ closes ! tt (Lr E) new vs rb ro $
    returns ! (look_at ! 0 refl) $ free_all ! refl $ keep ! (0 ∷ 1 ∷ 2 ∷ []) $
    feq_i ! (List Val) (vunit ∷ []) (vunit ∷ []) refl $ move ! (1 ∷ 2 ∷ 3 ∷ 0 ∷ []) $
    by ! (exits tt vunit new refl (xs, ys, asked.2, refl))))))))))
    ((y.0.0, y.0.1, tt, y.0.3, y.0.4), y.1)
