-- `detach` joins the node's two neighbours, and keeps the node's own links as room. Assumes `Logic`.
use mathlib.Core.Path.{◌≡◌, refl, sym, ap, subst, ◌∙◌}
use Prim.Native.Nat.{◌+◌}
use mathlib.Core.List.{List, [], ◌∷◌, ◌++◌}
use mir.Syntax.{Fn}
use mir.MapTy.{inst_fn}
use mir.Val.{vptr}
use base.Fml.{ftrue}
use types.Kit.{‵, ◌⊛◌, at_ret, ◌$◌, ◌∵◌, !, qed, by, move, keep, use1, use2, split, rewrite, fsplit, fsplit3}
use types.Kit.{fjoin, fjoin3, prop, regoal}
use types.Part.{whole, sub, agg}
use types.Run.{look, store, stop, hop, fld, load, of_opd, and_then, no_more, assigns, assigns_last, first}
use types.Run.{blocks, exec, returns, enter}
use types.ByLocal.{alloc_all, pass_all, free_all, look_at, get, get_in, through, sets, is, env}
use denote.RawPtr.{Ptr, block_ptr, ptr_val, in_a_block}
use denote.Signature.{plain}
use denote.Steps.{opens, closes}
use Rattle.std.proofs.VecSteps.Shapes.{after}
use Rattle.std.proofs.RcSteps.{word, word-Good}
use Rattle.piece_raw.specs.Linked.{linked, last_from, places, IsApart, IsAt, AtNode}
use Rattle.piece_raw.specs.Ownership.{link_room, edge, path, values_own}
use Rattle.piece_raw.proofs.Splits.{first_of_push}
use Rattle.piece_raw.proofs.Apart.{places_joined, apart_detached, apart_places, at_node}
use Rattle.piece_raw.proofs.Memory.{Of, args, RV, Member, Lr, Dt, One, word_made, stale, edge_out, edge_in}
use Rattle.piece_raw.proofs.Memory.{no_source, no_target, path_split, path_glue, values_split}
use Rattle.piece_raw.proofs.Walks.{𝓣, borrowed, changes}
use Rattle.piece_raw.specs.contracts.links.Links.detach.Key.{name as #self}
use Rattle.piece_raw.proofs.links.Links.detach.Statement as stated
use Rattle.piece_raw.proofs.links.Links.detach.Code as code

pub detach_spec : {M : Type 1} → stated.statement M
detach_spec 𝓤 𝓛 𝓜 𝓡 wired X LX y =
    let E : Of = record { row = X; laws = LX } in
    let T = 𝓣 𝓛 𝓜 𝓡 in let e : Fn = inst_fn (args E) code.function in
    let Cut = λ (r : (Dt E).Denot) (new : (Lr E).Denot) (xs : List (Member E)) (n : Member E)
    (ys : List (Member E)). (new.nodes ≡ xs ++ ys) × (n ≡ linked r.ptr r.value) in
    changes E [] (plain (λ _. Dt E)) 𝓛 𝓜 𝓡 (λ d node. IsAt d.nodes node.ptr)
    (λ κs d node a r new. AtNode d.nodes node.ptr (Cut r new)) tt (λ κs a. tt)
    (#self (args E)) e (code.unfolded 𝓤 𝓛.H 𝓜 𝓡 wired (X, tt)) (λ κs q links node a vss Post asked exits.
    let d = links.now in let rb = links.ref_ptr.0 in let ro = links.ref_ptr.1 in
    let xs = asked.0 in let n = asked.1 in let ys = asked.2 in
    let on = first_of_push (places ys) d.trailer.at in
    let cut : places d.nodes ++ d.trailer.at ∷ [] ≡ places xs ++ n.at ∷ on.0 ∷ on.1 =
    ap (λ ns. places ns ++ d.trailer.at ∷ []) asked.3 ∙ places_joined xs (n ∷ ys) d.trailer.at ∙
    ap (λ ps. places xs ++ n.at ∷ ps) on.2 in
    let joined : places xs ++ on.0 ∷ on.1 ≡ places (xs ++ ys)
    ++ d.trailer.at ∷ [] = sym (places_joined xs ys d.trailer.at ∙ ap (λ ps. places xs ++ ps) on.2) in
    let new : (Lr E).Denot = record {
      mark = d.mark;
      trailer = d.trailer;
      nodes = xs ++ ys;
      apart =
          apart_detached d.trailer.at xs n ys (subst (λ ns. IsApart (places (d.trailer ∷ ns))) asked.3 d.apart);
    } in
    let out : (Dt E).Denot = record { ptr = n.at; value = n.value } in
    let before : Ptr = last_from d.trailer.at (places xs) in
    qed 𝓛 (borrowed E 𝓛 κs.0 q links (‵ ftrue ∷ [])) ∵ keep ! (0 ∷ 1 ∷ 2 ∷ []) $
    enter ! T.C T.Λ e (vptr rb ro ∷ word node.ptr ∷ []) _ $
    alloc_all ! (λ l. pass_all ! refl ((tt, tt), (word-Good [] node.ptr, tt)) $
    opens ! tt (Lr E) {h = d} rb ro (λ vs. move ! (1 ∷ []) $ fsplit ! $ move ! (1 ∷ []) $ fsplit3 ! $
    move ! (0 ∷ 2 ∷ 1 ∷ []) $
    -- [the path; the values; the trailer's; the mark; its cell; the open borrow; obs; auth]
    rewrite ! 1 (λ (ns : List (Member E)). ‵ (values_own (RV E) ns)) asked.3 refl $
    rewrite ! 0 (λ (ps : List Ptr). ‵ (path d.trailer.at ps)) cut refl $
    use1 𝓛 (‵ (path d.trailer.at (places xs)) ⊛ ‵ (path before (n.at ∷ on.0 ∷ on.1)))
    (path_split 𝓛 d.trailer.at (places xs) (n.at ∷ on.0 ∷ on.1)) $ split ! $ move ! (1 ∷ []) $ fsplit3 ! $
    in_a_block ! before (λ p. edge p n.at) (no_source 𝓛 n.at)
    (λ lb lo el. in_a_block ! n.at (edge (block_ptr lb lo)) (no_target 𝓛 (block_ptr lb lo)) (λ pb po ep.
    edge_out ! lb lo pb po $ move ! (2 ∷ []) $ rewrite ! 0 (λ (p : Ptr). ‵ (edge p on.0)) ep refl $
    in_a_block ! on.0 (edge (block_ptr pb po)) (no_target 𝓛 (block_ptr pb po))
    (λ nb no en. edge_out ! pb po nb no $
    -- [node.next; after.prev; before.next; node.prev; the path after; the path before; the values; ..]
    sets ! (is ! (of_opd ! (get_in ! (fld ! refl (stop !)) (sub ! 0 refl (whole !))))
    (ap ptr_val (sym asked.4 ∙ ep))) refl (tt, tt) $ first ! $ blocks ! $
    sets ! (of_opd ! (load ! (through ! refl (fld ! refl (stop !))) (look ! 0 refl))) refl (tt, tt) $
    assigns ! (of_opd ! (get ! refl)) (through ! refl (fld ! refl (hop ! (look ! 3 refl)
    (fld ! refl (stop !))))) (store ! 2 refl (tt, tt)) $
    sets ! (of_opd ! (load ! (through ! refl (fld ! refl (stop !))) (look ! 3 refl))) refl (tt, tt) $
    assigns_last ! (of_opd ! (get ! refl)) (through ! refl (fld ! refl (hop ! (look ! 0 refl)
    (fld ! refl (stop !))))) (store ! 1 refl (tt, tt)) $
    exec ! T.C T.Λ (env e.locals l) (after 2 e.body) (at_ret (env e.locals l) Post) $
    sets ! (agg ! (and_then ! (get ! refl) (no_more !))) refl (word-Good [] (block_ptr pb po)) $
    stale ! (block_ptr nb no) pb (po + 8) $ move ! (3 ∷ []) $ stale ! (block_ptr lb lo) pb (po + 0) $
    fjoin ! $ rewrite ! 0 (λ (p : Ptr). ‵ (link_room p)) (sym ep) refl $
    move ! (2 ∷ 1 ∷ []) $ edge_in ! lb lo nb no $ rewrite ! 0 (λ (p : Ptr × Ptr). ‵ (edge p.0 p.1))
    (λ i. (sym el i, sym en i)) refl $ move ! (0 ∷ 2 ∷ []) $ fjoin ! $ move ! (2 ∷ 0 ∷ []) $
    use2 𝓛 (‵ (path d.trailer.at (places xs ++ on.0 ∷ on.1))) (path_glue 𝓛 d.trailer.at (places xs)
    (on.0 ∷ on.1)) $ rewrite ! 0 (λ (ps : List Ptr). ‵ (path d.trailer.at ps)) joined refl $
    move ! (2 ∷ []) $ use1 𝓛 (‵ (One E n) ⊛ ‵ (values_own (RV E) (xs ++ ys))) (values_split 𝓛 E xs n ys) $
    split ! $
    -- [the value; the other values; the path; the node's links; the trailer's value; the mark; ..]
    move ! (3 ∷ 0 ∷ []) $ fjoin ! $ word_made ! n.at $ fjoin ! $ move ! (2 ∷ 3 ∷ 1 ∷ []) $ fjoin3 ! $
    move ! (2 ∷ 0 ∷ []) $ fjoin ! $
    move ! (2 ∷ 0 ∷ 3 ∷ 4 ∷ 5 ∷ []) $ closes ! tt (Lr E) new vs rb ro $
    returns ! (look_at ! 0 refl) $ free_all ! refl $ keep ! (0 ∷ 1 ∷ 2 ∷ 3 ∷ []) $
    regoal ! (λ (p : Ptr). prop (Post (word p))) (sym ep) refl $
    by ! (exits out (word n.at) new refl (at_node d.nodes node.ptr
    (apart_places d.trailer.at d.nodes d.apart) asked (Cut out new) (refl, refl)))))))))
    ((y.0.0, y.0.1, tt, y.0.3, y.0.4), y.1)
