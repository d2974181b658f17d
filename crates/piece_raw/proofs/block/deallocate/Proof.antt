-- `deallocate` makes the block of its empty fields, and hands it back with the allocator's token. Assumes
-- `Logic`.
use mathlib.Core.Path.{◌≡◌, refl, sym, ap, subst, ◌∙◌}
use Prim.Native.Nat.{ℕ}
use mathlib.Core.List.{List, [], ◌∷◌, ◌++◌}
use mir.Syntax.{Fn, ty_unit}
use mir.MapTy.{inst_fn}
use mir.Val.{Val, vptr, vunit, vstruct, of_list}
use base.Logic.{via, fst∗, emp, id⊢}
use base.Fml.{froom, flft}
use types.Logic.{sem}
use contract.Monad.{fact}
use types.Kit.{‵, raw, given, later, await, learn, at_ret, ◌$◌, ◌∵◌, !, qed, by, move, keep, use1, use2}
use types.Kit.{group, rewrite, fsplit, fsplit3, feq_i, feq_l, fpick, prop, regoal, use0}
use types.Part.{whole, sub}
use types.Run.{stop, fld, unit_lit, of_opd, and_then, no_more, first, blocks, exec, returns, enter, size_word}
use types.Run.{align_word}
use types.ByLocal.{alloc_all, pass_all, free_all, look_at, get, get_in, sets, is, env, lands_last}
use denote.RattleType.{owns}
use denote.Memory.{hidden_shr}
use denote.Param.{layout}
use denote.RawPtr.{Ptr, null_ptr, ptr_val, in_a_block}
use denote.Signature.{plain}
use Rattle.std.proofs.VecSteps.Shapes.{after}
use Rattle.std.proofs.RcSteps.{Good, word, word-Good}
use Rattle.piece_raw.proofs.Pairs.{pair_val, pair_Typed}
use Rattle.piece_raw.specs.Ownership.{value_room, room_owns, deed_owns}
use Rattle.piece_raw.proofs.Memory.{Of, RV, Np, Rm, mark, mark_had, word_had, no_room}
use prog.Memory.{size, align, capped}
use prog.Capped.{capped_fits}
use prog.RawLaws.{size-raw, align-raw}
use denote.Triple.Call.{calls_at_last}
use Rattle.std.proofs.alloc.Calls.{Al, token, Gives, at_gives, Gives-goes, Gives-Gives}
use Rattle.piece_raw.proofs.Blocks.{args, RA, Dd, Bl, written, block, block_glue}
use denote.Builtin.{unit}
use denote.Steps.{heard}
use denote.Triple.Table.{framed}
use Rattle.piece_raw.proofs.Walks.{𝓣, Runs}
use Rattle.piece_raw.proofs.Serving.{served}
use Rattle.piece_raw.specs.contracts.block.deallocate.Key.{name as #self}
use Rattle.piece_raw.proofs.block.deallocate.Statement as stated
use Rattle.piece_raw.proofs.block.deallocate.Code as code

pub deallocate_spec : {M : Type 1} → stated.statement M
deallocate_spec 𝓤 𝓛 𝓜 𝓡 wired X W LX LW g d dd met md =
    let E : Of = record { row = X; laws = LX } in
    let Z : Al = record { row = W; laws = LW; g = g; d = d; drops = dd } in
    let T = 𝓣 𝓛 𝓜 𝓡 in let e : Fn = inst_fn (args E Z) code.function in
    let R = Gives Z 𝓛 𝓜.mem 𝓡.returns in
    served E Z (plain (λ _. Rm E) ∷ plain (λ _. Bl E Z) ∷ []) (plain (λ _. unit)) 𝓛 𝓜 𝓡
    (λ κs a more. fact 𝓤 ((more.1.0.deed.at ≡ more.0.ptr) × (more.1.0.deed.alloc ≡ a))) (λ κs a more r. emp 𝓤)
    ((λ κs x f. tt), ((λ κs x f. tt), tt)) (λ κs more. (tt, ((tt, (tt, tt)), tt)))
    (#self (args E Z)) e (code.unfolded 𝓤 𝓛.H 𝓜 𝓡 wired (X, (W, tt)) d dd)
    (λ κs q rb ro a more uss others Post within exits.
    let κ = κs.0 in let room = more.0 in let slot = more.1.0 in
    let slot_val : Val = pair_val (word slot.node.ptr) mark in
    let slot_typed = pair_Typed (layout (Np E)) (layout (Dd E Z)) (word slot.node.ptr)
    mark (word-Good [] slot.node.ptr) (tt, (tt, tt)) in
    qed 𝓛 (‵ (hidden_shr (RA E Z) κ a rb ro) ∷ ‵ (flft κ q) ∷ others ∷ ‵ (owns (Rm E ∷ Bl E Z ∷ []) more uss)
    ∷ raw (fact 𝓤 ((slot.deed.at ≡ room.ptr) × (slot.deed.alloc ≡ a))) ∷ []) ∵ move ! (4 ∷ []) $
    heard ! _ (λ asked. move ! (3 ∷ []) $ fsplit ! $ fsplit ! $ word_had ! room.ptr uss.0 (λ e1.
    move ! (1 ∷ []) $ fsplit ! $
    fpick ! (λ vss. fsplit ! $ feq_l ! (λ ev. fsplit3 ! $ word_had ! slot.node.ptr vss.0 (λ en.
    fsplit ! $ mark_had ! E vss.1.0 (λ em.
    let e2 : uss.1.0 ≡ slot_val ∷ [] = ev ∙ (λ i. vstruct (of_list (en i ++ (em i ++ []))) ∷ []) in
    keep ! (3 ∷ 0 ∷ 4 ∷ 5 ∷ 6 ∷ []) $
    regoal ! (λ (ws : List Val × List Val). prop (Runs 𝓛 𝓜 𝓡 e (vptr rb ro ∷ (ws.0 ++ (ws.1 ++ []))) Post))
    (λ i. (e1 i, e2 i)) refl $
    enter ! T.C T.Λ e (vptr rb ro ∷ word room.ptr ∷ slot_val ∷ []) _ $
    alloc_all ! (λ l. pass_all ! refl ((tt, tt), (word-Good [] room.ptr, (slot_typed, tt))) $
    let s : ℕ = capped (size (written E)) in
    let al : ℕ = capped (align (written E)) in
    rewrite ! 1 (λ (d : Z.row.Denot × Ptr). ‵ (deed_owns (RV E) (token Z d.0) d.1))
    (λ i. (asked.1 i, asked.0 i)) refl $
    in_a_block ! room.ptr (room_owns (RV E)) (via 𝓤 _ (fst∗ 𝓤 _ (sem 𝓛 (value_room (RV E) null_ptr)))
    (no_room 𝓛)) (λ b o ep.
    let y : R.Ghost = at_gives Z 𝓛 𝓜.mem 𝓡.returns κ q (rb, ro) a b o s al (block E) in
    rewrite ! 1 (λ (p : Ptr). ‵ (deed_owns (RV E) (token Z a) p)) ep refl $ move ! (1 ∷ []) $ fsplit ! $
    move ! (2 ∷ 1 ∷ []) $
    use2 𝓛 (‵ (froom (block E) b o)) (block_glue E 𝓛 b o) $
    sets ! (is ! (of_opd ! (get_in ! (fld ! refl (stop !)) (sub ! 0 refl (whole !)))) (ap ptr_val ep))
    refl (tt, tt) $ first ! $ blocks ! $ sets ! (of_opd ! (get ! refl)) refl (tt, tt) $
    group ! 4 $ use1 𝓛 (raw (R.pre y)) (Gives-goes Z 𝓛 𝓜.mem 𝓡.returns κ q (rb, ro)
    a within b o s al (block E) (ap capped (size-raw (written E)))
    (ap capped (align-raw (written E))) (capped_fits (size (written E)))
    (capped_fits (align (written E)))) $
    calls_at_last ! (framed 𝓤 𝓛.H 𝓜 T) R (met.deallocate dd) y (and_then ! (get ! refl) (and_then ! (get ! refl)
    (and_then ! (size_word !) (and_then ! (align_word !) (no_more !))))) (λ v.
    use1 𝓛 (later (given (v ≡ vunit) (‵ (flft κ q)))) (Gives-Gives Z 𝓛 𝓜.mem 𝓡.returns κ q (rb, ro)
    a b o s al (block E) v) $ await ! tt $ learn ! (λ is_unit.
    lands_last ! refl (subst (Good ty_unit) (sym is_unit) (tt, tt)) $
    exec ! T.C T.Λ (env e.locals l) (after 2 e.body) (at_ret (env e.locals l) Post) $
    sets ! (of_opd ! (unit_lit !)) refl (tt, tt) $ returns ! (look_at ! 0 refl) $ free_all ! refl $
    keep ! (0 ∷ 1 ∷ []) $ feq_i ! (List Val) (vunit ∷ []) (vunit ∷ []) refl $
    use0 𝓛 (raw (emp 𝓤)) (id⊢ 𝓤 (emp 𝓤)) $ by ! (exits tt vunit))))))))))))
