-- `value` shows the value that the links lend. Assumes `Logic`.
use mathlib.Core.Path.{◌≡◌, refl}
use Prim.Native.Nat.{◌+◌}
use mathlib.Core.List.{List, [], ◌∷◌}
use mir.Syntax.{Fn, named}
use mir.MapTy.{inst_fn}
use mir.Val.{Val, vptr}
use base.Fml.{flft}
use types.Kit.{‵, at_ret, ◌$◌, ◌∵◌, !, qed, by, keep, feq_i, fjoin}
use types.Part.{whole, sub}
use types.Run.{stop, hop, fld, from, of_opd, addr, first, blocks, exec, returns, enter}
use types.ByLocal.{alloc_all, pass_all, free_all, look_at, look_in_at, get, sets, sets_last, env}
use denote.Memory.{hidden_shr}
use denote.RawPtr.{block_ptr}
use denote.Ref.{ShrRef}
use denote.Signature.{plain}
use Rattle.std.proofs.VecSteps.Shapes.{after}
use Rattle.std.proofs.RcSteps.{word, word-Good}
use Rattle.piece_raw.specs.Linked.{IsAt, AtNode}
use Rattle.piece_raw.proofs.Apart.{at_node}
use Rattle.piece_raw.proofs.Memory.{Of, args, RV, vo, value_at}
use Rattle.piece_raw.proofs.Walks.{𝓣, looks}
use Rattle.piece_raw.specs.contracts.links.Links.value.Key.{name as #self}
use Rattle.piece_raw.proofs.links.Links.value.Statement as stated
use Rattle.piece_raw.proofs.links.Links.value.Code as code

pub value_spec : {M : Type 1} → stated.statement M
value_spec 𝓤 𝓛 𝓜 𝓡 wired X LX y =
    let E : Of = record { row = X; laws = LX } in
    let e : Fn = inst_fn (args E) code.function in
    looks E (plain (λ κs. ShrRef (named 0) κs.0 (RV E))) 𝓛 𝓜 𝓡
    (λ d node. IsAt (d.trailer ∷ d.nodes) node.ptr)
    (λ κs d node r. AtNode (d.trailer ∷ d.nodes) node.ptr (λ _ n _. r.now ≡ n.value)) (RV E) (vo E)
    (λ κs x b o. record { ref_ptr = (b, o + vo E); now = x }) (λ d node at. at.1.value)
    (λ κ d node. value_at 𝓛 E κ d.trailer d.nodes node.ptr)
    (λ κs d node at b o ep. at_node (d.trailer ∷ d.nodes) node.ptr d.apart at (λ _ n _. at.1.value ≡ n.value) refl)
    (#self (args E)) e (code.unfolded 𝓤 𝓛.H 𝓜 𝓡 wired (X, tt)) (λ κs q rb ro b o x Post exits.
    let v : Val = vptr b (o + vo E) in
    qed 𝓛 (‵ (hidden_shr (RV E) κs.0 x b (o + vo E)) ∷ ‵ (flft κs.0 q) ∷ []) ∵
    enter ! (𝓣 𝓛 𝓜 𝓡).C (𝓣 𝓛 𝓜 𝓡).Λ e (vptr rb ro ∷ word (block_ptr b o) ∷ []) _ $
    alloc_all ! (λ l. pass_all ! refl ((tt, tt), (word-Good [] (block_ptr b o), tt)) $
    first ! $ blocks ! $ sets_last ! (addr ! (from ! (fld ! refl (hop ! (look_in_at ! 2 (sub ! 0 refl
    (whole !))) (fld ! refl (stop !)))))) refl (tt, tt) $
    exec ! (𝓣 𝓛 𝓜 𝓡).C (𝓣 𝓛 𝓜 𝓡).Λ (env e.locals l) (after 1 e.body) (at_ret (env e.locals l) Post) $
    sets ! (of_opd ! (get ! refl)) refl (tt, tt) $ feq_i ! (List Val) (v ∷ []) (v ∷ []) refl $ fjoin ! $
    returns ! (look_at ! 0 refl) $ free_all ! refl $ keep ! (1 ∷ 0 ∷ []) $ by ! (exits v)))
    ((y.0.0, y.0.1, tt, y.0.3, y.0.4), y.1)
