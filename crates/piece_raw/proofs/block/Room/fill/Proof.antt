-- `fill` writes the value. Assumes `Logic`.
use mathlib.Core.Path.{◌≡◌, refl, sym, ap}
use Prim.Native.Nat.{◌+◌}
use mathlib.Core.List.{List, [], ◌∷◌, ◌++◌}
use base.Fraction.{full_share}
use mir.Syntax.{Fn}
use mir.MapTy.{inst_fn}
use mir.Val.{Val}
use base.Logic.{emp, never, id⊢}
use types.Kit.{‵, at_ret, ◌$◌, ◌∵◌, !, qed, by, move, keep, use2, rewrite, fsplit, fjoin, prop, regoal, raw}
use types.Part.{whole, sub, agg}
use types.Run.{init, assigns_last, stop, fld, of_opd, addr, and_then, no_more, first, blocks, exec, returns}
use types.Run.{enter}
use types.ByLocal.{alloc_all, pass_all, free_all, look_at, get, get_in, through, sets, is, env}
use denote.RattleType.{owns}
use denote.Param.{layout}
use denote.RawPtr.{Ptr, block_ptr, ptr_val, in_a_block}
use denote.Signature.{plain}
use Rattle.std.proofs.VecSteps.Shapes.{after}
use Rattle.std.proofs.RcSteps.{word, word-Good}
use Rattle.piece_raw.specs.Ownership.{value_owns, value_room}
use Rattle.piece_raw.proofs.Memory.{Of, args, RV, vo, Rm, Dt, word_had, word_made, value_in, tells}
use denote.Memory.{part_at}
use Rattle.std.proofs.RawLayout.{as_written}
use Rattle.piece_raw.proofs.Walks.{𝓣, Runs, takes}
use Rattle.piece_raw.specs.contracts.block.Room.fill.Key.{name as #self}
use Rattle.piece_raw.proofs.block.Room.fill.Statement as stated
use Rattle.piece_raw.proofs.block.Room.fill.Code as code

pub fill_spec : {M : Type 1} → stated.statement M
fill_spec 𝓤 𝓛 𝓜 𝓡 wired X LX y =
    let E : Of = record { row = X; laws = LX } in
    let T = 𝓣 𝓛 𝓜 𝓡 in let e : Fn = inst_fn (args E) code.function in
    takes E (plain (λ _. Rm E) ∷ plain (λ _. RV E) ∷ []) (plain (λ _. Dt E)) 𝓛 𝓜 𝓡 (λ a. emp 𝓤)
    (λ a r. (r.ptr ≡ a.0.ptr) × (r.value ≡ a.1.0)) ((λ κs x f. tt), ((λ κs x f. tt), tt)) (λ a. (tt, (tt, tt)))
    (#self (args E)) e (code.unfolded 𝓤 𝓛.H 𝓜 𝓡 wired (X, tt)) (λ a vss Post exits.
    let p : Ptr = a.0.ptr in let x = a.1.0 in
    let node : (Dt E).Denot = record { ptr = p; value = x } in
    qed 𝓛 (‵ (owns (Rm E ∷ RV E ∷ []) a vss) ∷ raw (emp 𝓤) ∷ []) ∵ fsplit ! $ fsplit ! $ word_had ! p vss.0 (λ e0.
    move ! (1 ∷ []) $ fsplit ! $ tells E.row E.laws ! x vss.1.0 (λ u e1 gu.
    regoal ! (λ (ws : List Val × List Val). prop (Runs 𝓛 𝓜 𝓡 e (ws.0 ++ (ws.1 ++ [])) Post))
    (λ i. (e0 i, e1 i)) refl $ keep ! (2 ∷ 0 ∷ []) $
    enter ! T.C T.Λ e (word p ∷ u ∷ []) _ $ alloc_all ! (λ l. pass_all ! refl (word-Good [] p, (gu, tt)) $
    fsplit ! $ move ! (1 ∷ []) $ in_a_block ! p (value_room (RV E)) (id⊢ 𝓤 (never 𝓤)) (λ pb po ep.
    let at : Ptr = block_ptr pb po in
    as_written ! (layout E.row) pb (po + vo E) $
    -- [room for the value; for the links; what the value owns]
    sets ! (is ! (of_opd ! (get_in ! (fld ! refl (stop !)) (sub ! 0 refl (whole !)))) (ap ptr_val ep))
    refl (tt, tt) $ first ! $ blocks ! $
    sets ! (addr ! (through ! refl (fld ! refl (stop !)))) refl (tt, tt) $
    sets ! (of_opd ! (get ! refl)) refl gu $ assigns_last ! (of_opd ! (get ! refl))
    (through ! refl (stop !)) (init ! 0 refl gu) $
    exec ! T.C T.Λ (env e.locals l) (after 2 e.body) (at_ret (env e.locals l) Post) $
    sets ! (agg ! (and_then ! (get ! refl) (no_more !))) refl (word-Good [] at) $
    move ! (0 ∷ 2 ∷ []) $ use2 𝓛 (‵ (part_at (RV E) full_share x pb (po + vo E)))
    (value_in 0 E.row E.laws 𝓛 x pb (po + vo E) u) $
    rewrite ! 0 (λ (q : Ptr). ‵ (value_owns (RV E) q x)) (sym ep) refl $ move ! (1 ∷ 0 ∷ []) $
    fjoin ! $ word_made ! p $ fjoin ! $
    rewrite ! 0 (λ (q : Ptr). ‵ ((Dt E).own_val node (word q ∷ []))) ep refl $
    returns ! (look_at ! 0 refl) $ free_all ! refl $ keep ! (0 ∷ []) $
    by ! (exits node (word at) (refl, refl)))))))
    ((y.0.0, y.0.1, tt, y.0.3, y.0.4), y.1)
