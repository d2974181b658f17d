-- `new` links the trailer to itself. Assumes `Logic`.
use mathlib.Core.Path.{◌≡◌, refl, sym, ap}
use mathlib.Core.List.{List, [], ◌∷◌, ◌++◌}
use mir.Syntax.{Fn}
use mir.MapTy.{inst_fn}
use mir.Val.{Val}
use base.Logic.{emp}
use types.Kit.{‵, at_ret, ◌$◌, ◌∵◌, !, qed, by, move, keep, use0, rewrite, fsplit, fjoin, prop, regoal, raw}
use types.Part.{whole, sub, agg}
use types.Run.{init, stop, fld, of_opd, and_then, no_more, assigns, assigns_last, first, blocks, exec}
use types.Run.{returns, enter}
use types.ByLocal.{alloc_all, pass_all, free_all, look_at, get, get_in, through, sets, is, env}
use denote.RattleType.{owns}
use denote.RawPtr.{Ptr, ptr_val, in_a_block}
use denote.Signature.{plain}
use denote.Steps.{nothing}
use Rattle.std.proofs.VecSteps.Shapes.{after}
use Rattle.std.proofs.RcSteps.{word, word-Good}
use Rattle.piece_raw.specs.Linked.{linked}
use Rattle.piece_raw.specs.Ownership.{link_room, edge}
use Rattle.piece_raw.proofs.Apart.{apart_one}
use Rattle.piece_raw.proofs.Memory.{Of, args, Lr, Dt, Mark, mark, mark_made, word_had, edge_in, no_room}
use Rattle.piece_raw.proofs.Walks.{𝓣, Runs, takes}
use Rattle.piece_raw.specs.contracts.links.Links.new.Key.{name as #self}
use Rattle.piece_raw.proofs.links.Links.new.Statement as stated
use Rattle.piece_raw.proofs.links.Links.new.Code as code

pub new_spec : {M : Type 1} → stated.statement M
new_spec 𝓤 𝓛 𝓜 𝓡 wired X LX y =
    let E : Of = record { row = X; laws = LX } in
    let T = 𝓣 𝓛 𝓜 𝓡 in let e : Fn = inst_fn (args E) code.function in
    takes E (plain (λ _. Dt E) ∷ []) (plain (λ _. Lr E)) 𝓛 𝓜 𝓡 (λ a. emp 𝓤)
    (λ a r. (r.trailer ≡ linked a.0.ptr a.0.value) × (r.nodes ≡ [])) ((λ κs x f. tt), tt) (λ a. (tt, tt))
    (#self (args E)) e (code.unfolded 𝓤 𝓛.H 𝓜 𝓡 wired (X, tt)) (λ a vss Post exits.
    let p : Ptr = a.0.ptr in
    qed 𝓛 (‵ (owns (Dt E ∷ []) a vss) ∷ raw (emp 𝓤) ∷ []) ∵ fsplit ! $ fsplit ! $ word_had ! p vss.0 (λ e0.
    regoal ! (λ (ws : List Val). prop (Runs 𝓛 𝓜 𝓡 e (ws ++ []) Post)) e0 refl $ keep ! (0 ∷ []) $
    enter ! T.C T.Λ e (word p ∷ []) _ $ alloc_all ! (λ l. pass_all ! refl (word-Good [] p, tt) $
    let out : (Lr E).Denot = record {
      mark = record {};
      trailer = linked p a.0.value;
      nodes =
          [];
      apart = apart_one p;
    } in
    fsplit ! $ in_a_block ! p link_room (no_room 𝓛) (λ b o ep. fsplit ! $
    -- [room for prev, and for next; the value]
    sets ! (is ! (of_opd ! (get_in ! (fld ! refl (stop !)) (sub ! 0 refl (whole !)))) (ap ptr_val ep))
    refl (tt, tt) $ first ! $ blocks ! $
    assigns ! (of_opd ! (get ! refl)) (through ! refl (fld ! refl (stop !))) (init ! 0 refl (tt, tt)) $
    assigns_last ! (of_opd ! (get ! refl)) (through ! refl (fld ! refl (stop !))) (init ! 1 refl (tt, tt)) $
    exec ! T.C T.Λ (env e.locals l) (after 2 e.body) (at_ret (env e.locals l) Post) $
    sets ! (agg ! (no_more !)) refl (tt, tt) $ sets ! (agg ! (and_then ! (get ! refl) (no_more !)))
    refl (tt, (tt, tt)) $
    move ! (1 ∷ 0 ∷ []) $ edge_in ! b o b o $ rewrite ! 0 (λ (q : Ptr). ‵ (edge q q)) (sym ep) refl $
    nothing ! $ move ! (1 ∷ 0 ∷ []) $ fjoin ! $
    nothing ! $ move ! (2 ∷ 0 ∷ []) $ fjoin ! $ move ! (1 ∷ 0 ∷ []) $ fjoin ! $
    use0 𝓛 (‵ ((Mark E).own_val (tt, tt) (mark ∷ []))) (mark_made E 𝓛) $ fjoin ! $
    returns ! (look_at ! 0 refl) $ free_all ! refl $ keep ! (0 ∷ []) $ by ! (exits out mark (refl, refl))))))
    ((y.0.0, y.0.1, tt, y.0.3, y.0.4), y.1)
