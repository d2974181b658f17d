-- `take` reads the value out, and leaves its cell as room. Assumes `Logic`.
use mathlib.Core.Path.{◌≡◌, refl, sym, ap}
use Prim.Native.Nat.{◌+◌}
use mathlib.Core.List.{List, [], ◌∷◌, ◌++◌}
use base.Fraction.{full_share}
use mir.Syntax.{Fn}
use mir.MapTy.{inst_fn}
use mir.Val.{Val}
use base.Logic.{emp, never, id⊢}
use base.Fml.{fat, froom}
use types.Kit.{‵, ◌⊛◌, some, given, pick, learn, at_ret, ◌$◌, ◌∵◌, !, qed, by, move, keep, use1, use2, split}
use types.Kit.{rewrite, fsplit, fjoin, prop, regoal, raw}
use types.Part.{whole, sub, agg}
use types.Run.{look, stop, fld, load, of_opd, addr, and_then, no_more, first, blocks, exec, returns, enter}
use types.ByLocal.{alloc_all, pass_all, free_all, look_at, get, get_in, through, sets, sets_last, is, env}
use denote.RattleType.{owns}
use denote.Param.{layout}
use denote.RawPtr.{Ptr, block_ptr, ptr_val, in_a_block}
use denote.Signature.{plain}
use denote.Struct.Tuple.{Tuple}
use Rattle.std.proofs.VecSteps.Shapes.{after}
use Rattle.std.proofs.RcSteps.{Good, word, word-Good}
use Rattle.piece_raw.specs.Ownership.{value_owns, value_room}
use Rattle.piece_raw.proofs.Memory.{Of, args, RV, vo, Rm, Dt, word_had, word_made, value_out}
use Rattle.piece_raw.proofs.Pairs.{pair_val, pair_Typed, pair_of}
use Rattle.std.proofs.RawLayout.{as_raw}
use Rattle.piece_raw.proofs.Walks.{𝓣, Runs, takes}
use Rattle.piece_raw.specs.contracts.block.Detached.take.Key.{name as #self}
use Rattle.piece_raw.proofs.block.Detached.take.Statement as stated
use Rattle.piece_raw.proofs.block.Detached.take.Code as code

pub take_spec : {M : Type 1} → stated.statement M
take_spec 𝓤 𝓛 𝓜 𝓡 wired X LX y =
    let E : Of = record { row = X; laws = LX } in
    let T = 𝓣 𝓛 𝓜 𝓡 in let e : Fn = inst_fn (args E) code.function in
    takes E (plain (λ _. Dt E) ∷ []) (plain (λ _. Tuple (RV E ∷ Rm E ∷ []))) 𝓛 𝓜 𝓡 (λ a. emp 𝓤)
    (λ a r. (r.0 ≡ a.0.value) × (r.1.ptr ≡ a.0.ptr)) ((λ κs x f. tt), tt) (λ a. (tt, tt))
    (#self (args E)) e (code.unfolded 𝓤 𝓛.H 𝓜 𝓡 wired (X, tt)) (λ a vss Post exits.
    let p : Ptr = a.0.ptr in let x = a.0.value in
    let room : (Rm E).Denot = record { ptr = p } in
    qed 𝓛 (‵ (owns (Dt E ∷ []) a vss) ∷ raw (emp 𝓤) ∷ []) ∵ fsplit ! $ fsplit ! $ word_had ! p vss.0 (λ e0.
    regoal ! (λ (ws : List Val). prop (Runs 𝓛 𝓜 𝓡 e (ws ++ []) Post)) e0 refl $ keep ! (0 ∷ []) $
    enter ! T.C T.Λ e (word p ∷ []) _ $ alloc_all ! (λ l. pass_all ! refl (word-Good [] p, tt) $
    fsplit ! $ move ! (1 ∷ []) $
    in_a_block ! p (λ q. value_owns (RV E) q x) (id⊢ 𝓤 (never 𝓤)) (λ pb po ep.
    use1 𝓛 (some (λ (v : Val). given (Good (layout E.row) v) (‵ (fat full_share (layout E.row)
    pb (po + vo E) v) ⊛ ‵ (E.row.own_val x (v ∷ [])))))
    (value_out 0 E.row E.laws 𝓛 x pb (po + vo E)) $ pick ! (λ u. learn ! (λ gu. split ! $
    let at : Ptr = block_ptr pb po in
    let typed = pair_Typed (layout E.row) (layout (Rm E)) u (word at) gu (word-Good [] at) in
    -- [the valueps cell; what it owns; room for the links]
    sets ! (is ! (of_opd ! (get_in ! (fld ! refl (stop !)) (sub ! 0 refl (whole !)))) (ap ptr_val ep))
    refl (tt, tt) $ first ! $ blocks ! $
    sets ! (addr ! (through ! refl (fld ! refl (stop !)))) refl (tt, tt) $
    sets ! (of_opd ! (load ! (through ! refl (stop !)) (look ! 0 refl))) refl gu $
    sets ! (of_opd ! (get ! refl)) refl gu $ sets ! (agg ! (and_then ! (get ! refl) (no_more !)))
    refl (word-Good [] at) $
    sets_last ! (agg ! (and_then ! (get ! refl) (and_then ! (get ! refl) (no_more !)))) refl typed $
    exec ! T.C T.Λ (env e.locals l) (after 2 e.body) (at_ret (env e.locals l) Post) $
    sets ! (of_opd ! (get ! refl)) refl typed $
    use1 𝓛 (‵ (froom (layout E.row) pb (po + vo E))) (𝓛.laws.at_room (layout E.row) pb (po + vo E) u) $
    as_raw ! (layout E.row) pb (po + vo E) $
    rewrite ! 0 (λ (q : Ptr). ‵ (value_room (RV E) q)) (sym ep) refl $ move ! (2 ∷ 0 ∷ []) $ fjoin ! $
    word_made ! p $ fjoin ! $
    rewrite ! 0 (λ (q : Ptr). ‵ ((Rm E).own_val room (word q ∷ []))) ep refl $ move ! (1 ∷ 0 ∷ []) $
    use2 𝓛 (‵ ((Tuple (RV E ∷ Rm E ∷ [])).own_val (x, room) (pair_val u (word at) ∷ [])))
    (pair_of 𝓛 (RV E) (Rm E) x room u (word at)) $
    returns ! (look_at ! 0 refl) $ free_all ! refl $ keep ! (0 ∷ []) $
    by ! (exits (x, room) (pair_val u (word at)) (refl, refl))))))))
    ((y.0.0, y.0.1, tt, y.0.3, y.0.4), y.1)
