-- `allocate` cuts the new block into room for its fields and the right to free it. Assumes `Logic`.
use mathlib.Core.Path.{◌≡◌, refl, ap}
use mathlib.Core.Bool.{true, false}
use Prim.Native.Nat.{ℕ}
use mathlib.Core.List.{[], ◌∷◌}
use lib.Dec.{lit<}
use mir.Syntax.{Fn, Body}
use mir.MapTy.{inst_fn}
use mir.Val.{Val, vptr, vstruct, vcons, vnil}
use base.Logic.{ent, emp}
use base.Fml.{ftrue, flft}
use prog.Wp.{Env, Wp, after_seq, at_return}
use types.Kit.{⋆, ‵, raw, ◌⊛◌, later, await, at_ret, ◌$◌, ◌∵◌, !, qed, by, move, keep, use0, use1, use2}
use types.Kit.{split, fjoin, Post as After, any_q}
use types.Part.{whole, agg}
use types.Run.{stop, fld, lit, of_opd, and_then, no_more, first, exec, returns, enter, size_word, align_word}
use types.Run.{switches_on}
use types.ByLocal.{alloc_all, pass_all, free_all, look_at, get, get_in, sets, sets_last, env, get_tag}
use types.ByLocal.{lands_as}
use denote.RattleType.{RattleType}
use denote.Memory.{hidden_shr}
use denote.Param.{layout}
use denote.RawPtr.{Ptr, block_ptr}
use denote.Signature.{plain}
use denote.Struct.Tuple.{Tuple}
use Rattle.std.proofs.VecSteps.Shapes.{after, head, arm_body}
use Rattle.std.proofs.RcSteps.{Good, word, word-Good, first_Good}
use Rattle.piece_raw.proofs.Pairs.{pair_val, pair_of}
use Rattle.piece_raw.specs.Ownership.{room_owns}
use Rattle.piece_raw.proofs.Memory.{Of, RV, Np, Rm, Mark, mark, mark_made, word_made}
use prog.Memory.{size, align, capped}
use prog.Capped.{capped_fits}
use prog.RawLaws.{size-raw, align-raw}
use types.Match.{live, vrt, in_variant}
use denote.Laws.{Is}
use denote.Steps.{owned}
use denote.Struct.Struct.{Struct, Struct-Makes}
use denote.Struct.Declared as Declared
use denote.Triple.Call.{calls_at}
use Rattle.std.specs.Prelude.{IfOk, Ok, Err}
use Rattle.std.specs.contracts.result.Result as RS
use Rattle.std.specs.contracts.alloc.AllocError as AE
use Rattle.std.proofs.alloc.Calls.{Al, Answer-typed, Takes, at_takes, Answered, Takes-goes, Takes-gives}
use Rattle.std.proofs.alloc.Calls.{answers}
use Rattle.std.proofs.ResultValues.{ok_of, err_of}
use Rattle.piece_raw.proofs.Blocks.{args, RA, Dd, Bl, written, block, Rejoins, block_split}
use contract.Monad.{fact, fact_i}
use denote.Triple.Table.{framed}
use Rattle.piece_raw.proofs.Walks.{𝓣}
use Rattle.piece_raw.proofs.Serving.{served}
use Rattle.piece_raw.specs.contracts.block.allocate.Key.{name as #self}
use Rattle.piece_raw.proofs.block.allocate.Statement as stated
use Rattle.piece_raw.proofs.block.allocate.Code as code

module _ (E : Of) (Z : Al) where
  abbrev Both : RattleType
  Both = Tuple (Rm E ∷ Bl E Z ∷ [])

  abbrev Out : RattleType
  Out = RS.the_row Both AE.the_row

  abbrev Gives : Z.row.Denot → Out.Denot → Type 0
  Gives a r = IfOk r (λ s. (s.1.node.ptr ≡ s.0.ptr) × (s.1.deed.at ≡ s.0.ptr) × (s.1.deed.alloc ≡ a))

pub allocate_spec : {M : Type 1} → stated.statement M
allocate_spec 𝓤 𝓛 𝓜 𝓡 wired X W LX LW g d dd met md =
    let E : Of = record { row = X; laws = LX } in
    let Z : Al = record { row = W; laws = LW; g = g; d = d; drops = dd } in
    let T = 𝓣 𝓛 𝓜 𝓡 in let e : Fn = inst_fn (args E Z) code.function in
    let R = Takes Z 𝓛 𝓜.mem 𝓡.returns in
    served E Z [] (plain (λ _. Out E Z)) 𝓛 𝓜 𝓡 (λ κs a _. emp 𝓤) (λ κs a _ r. fact 𝓤 (Gives E Z a r)) tt
    (λ κs _. tt) (#self (args E Z)) e (code.unfolded 𝓤 𝓛.H 𝓜 𝓡 wired (X, (W, tt)) d dd)
    (λ κs q rb ro a _ uss others Post within exits.
    let κ = κs.0 in
    let ends : (r : (Out E Z).Denot) (v : Val) → Gives E Z a r
    → ent 𝓤 (⋆ 𝓛 (‵ ((Out E Z).own_val r (v ∷ [])) ∷ ‵ (flft κ q) ∷ others ∷ [])) (Post v) = λ r v given.
    qed 𝓛 (‵ ((Out E Z).own_val r (v ∷ [])) ∷ ‵ (flft κ q) ∷ others ∷ []) ∵
    use0 𝓛 (raw (fact 𝓤 (Gives E Z a r))) (fact_i 𝓤 (Gives E Z a r) (emp 𝓤) given) $ by ! (exits r v) in
    qed 𝓛 (‵ (hidden_shr (RA E Z) κ a rb ro) ∷ ‵ (flft κ q) ∷ others ∷ ‵ ftrue ∷ raw (emp 𝓤) ∷ []) ∵
    keep ! (0 ∷ 1 ∷ 2 ∷ []) $
    enter ! T.C T.Λ e (vptr rb ro ∷ []) _ $
    alloc_all ! (λ l. pass_all ! refl ((tt, tt), tt) $
    let En : Env 𝓤 𝓛.H = env e.locals l in
    let both : Body = head (after 1 e.body) in
    let Then : After 𝓤 𝓛.H = any_q (after_seq 𝓤 𝓛.H (Wp 𝓤 𝓛.H T.C T.Λ En (after 2 e.body)
    (at_return 𝓤 𝓛.H En Post)) (at_return 𝓤 𝓛.H En Post)) in
    let s : ℕ = capped (size (written E)) in
    let al : ℕ = capped (align (written E)) in
    let y : R.Ghost = at_takes Z 𝓛 𝓜.mem 𝓡.returns κ q (rb, ro) a s al (block E) in
    use2 𝓛 (raw (R.pre y)) (Takes-goes Z 𝓛 𝓜.mem 𝓡.returns κ q (rb, ro)
    a within s al (block E) (ap capped (size-raw (written E)))
    (ap capped (align-raw (written E))) (capped_fits (size (written E)))
    (capped_fits (align (written E)))) $
    calls_at ! (framed 𝓤 𝓛.H 𝓜 T) R (met.allocate dd) y (and_then ! (get ! refl) (and_then ! (size_word !)
    (and_then ! (align_word !) (no_more !)))) (λ v.
    use1 𝓛 (later (raw (Answered Z 𝓛 𝓜.mem 𝓡.returns a (block E) v) ⊛ ‵ (flft κ q)))
    (Takes-gives Z 𝓛 𝓜.mem 𝓡.returns κ q (rb, ro) a s al (block E) v) $ await ! tt $ split ! $
    answers Z ! 𝓜.mem 𝓡.returns a (block E) v
    (λ b o is.
    let p : Ptr = block_ptr b o in
    let room : (Rm E).Denot = record { ptr = p } in
    let node : (Np E).Denot = record { ptr = p } in
    let deed : (Dd E Z).Denot = record { mark = record {}; at = p; alloc = a } in
    let slot : (Bl E Z).Denot = record { node = node; deed = deed } in
    let slot_val : Val = pair_val (word p) mark in
    let made : Val = pair_val (word p) slot_val in
    let slot_typed : Good (layout (Bl E Z)) slot_val = (tt, ((tt, tt), ((tt, tt), tt))) in
    let typed : Good (layout (Both E Z)) made = (tt, ((tt, tt), (slot_typed.1, tt))) in
    let ok = first_Good (layout (Both E Z)) made typed in
    lands_as ! is refl (Answer-typed true b o) $ first ! $
    switches_on ! (get_tag ! (vrt ! refl (fld ! refl (stop !))) (whole !)) $
    exec ! T.C T.Λ En (arm_body 0 both) Then $
    sets ! (of_opd ! (get_in ! (vrt ! refl (fld ! refl (stop !))) (in_variant ! 0 0 refl refl (whole !))))
    refl (tt, tt) $ sets ! (of_opd ! (get ! refl)) refl (tt, tt) $
    sets ! (agg ! (and_then ! (get ! refl) (no_more !))) refl (word-Good [] p) $
    sets ! (agg ! (no_more !)) refl (tt, tt) $
    sets ! (agg ! (and_then ! (get ! refl) (no_more !))) refl (tt, (tt, tt)) $
    sets ! (agg ! (and_then ! (get ! refl) (and_then ! (get ! refl) (no_more !)))) refl slot_typed $
    sets ! (agg ! (and_then ! (get ! refl) (no_more !))) refl (word-Good [] p) $
    sets ! (of_opd ! (get ! refl)) refl slot_typed $
    sets ! (agg ! (and_then ! (get ! refl) (and_then ! (get ! refl) (no_more !)))) refl typed $
    sets_last ! (agg ! (and_then ! (lit ! tt) (and_then ! (get ! refl) (no_more !)))) refl ok $
    exec ! T.C T.Λ En (after 2 e.body) (at_ret En Post) $ sets ! (of_opd ! (get ! refl)) refl ok $
    use1 𝓛 (‵ (room_owns (RV E) p) ⊛ ‵ (Rejoins E p)) (block_split E 𝓛 b o) $ split ! $ move ! (2 ∷ 1 ∷ []) $
    fjoin ! $
    use0 𝓛 (‵ ((Mark E).own_val (tt, tt) (mark ∷ []))) (mark_made E 𝓛) $ fjoin ! $ word_made ! p $
    use2 𝓛 (‵ ((Bl E Z).own_val slot (slot_val ∷ []))) (pair_of 𝓛 (Np E) (Dd E Z) node deed (word p) mark)
    $ move ! (1 ∷ []) $ word_made ! p $ fjoin ! $
    use2 𝓛 (‵ ((Both E Z).own_val (room, slot) (made ∷ []))) (pair_of 𝓛 (Rm E) (Bl E Z) room slot (word p)
    slot_val) $
    use1 𝓛 (‵ ((Out E Z).own_val (Ok (room, slot)) (live 0 (vcons made vnil) ∷ []))) (ok_of 𝓛 (Both E Z)
    AE.the_row (room, slot) made) $
    returns ! (look_at ! 0 refl) $ free_all ! refl $ keep ! (0 ∷ 1 ∷ 2 ∷ []) $
    by ! (ends (Ok (room, slot)) (live 0 (vcons made vnil)) (refl, refl, refl)))
    (λ is.
    let Refusal : RattleType = Struct (Declared.shape AE.the_type) in
    let none : Val = live 1 (vcons (vstruct vnil) vnil) in
    lands_as ! is refl (Answer-typed false 0 0) $ first ! $
    switches_on ! (get_tag ! (vrt ! refl (fld ! refl (stop !))) (whole !)) $
    exec ! T.C T.Λ En (arm_body 1 both) Then $
    sets ! (of_opd ! (get_in ! (vrt ! refl (fld ! refl (stop !))) (in_variant ! 1 0 refl refl (whole !))))
    refl (tt, tt) $
    sets_last ! (agg ! (and_then ! (lit ! tt) (and_then ! (get ! refl) (no_more !))))
    refl (tt, (record { fits = lit< tt }, (tt, tt))) $
    exec ! T.C T.Λ En (after 2 e.body) (at_ret En Post) $
    sets ! (of_opd ! (get ! refl)) refl (tt, (record { fits = lit< tt }, (tt, tt))) $
    owned ! Refusal (Is Refusal) (Struct-Makes 𝓛 (Declared.shape AE.the_type) tt) tt (vstruct vnil ∷ [])
    (tt, (refl, tt)) $
    use1 𝓛 (‵ ((Out E Z).own_val (Err (record {})) (none ∷ []))) (err_of 𝓛 (Both E Z)
    AE.the_row (record {}) (vstruct vnil)) $
    returns ! (look_at ! 0 refl) $ free_all ! refl $ keep ! (0 ∷ 1 ∷ 2 ∷ []) $
    by ! (ends (Err (record {})) none tt)))))
