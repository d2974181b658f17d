-- `into_trailer` gives up the one edge of a ring of the trailer alone. Assumes `Logic`.
use mathlib.Core.Path.{◌≡◌, refl, sym}
use Prim.Native.Nat.{◌+◌}
use mathlib.Core.List.{List, [], ◌∷◌, ◌++◌}
use mir.Syntax.{Fn}
use mir.MapTy.{inst_fn}
use mir.Val.{Val}
use types.Logic.{sem}
use contract.Monad.{fact}
use types.Kit.{‵, ◌$◌, ◌∵◌, !, qed, by, move, keep, rewrite, fsplit, fsplit3, fjoin, prop, regoal}
use types.Part.{whole, sub, agg}
use types.Run.{stop, fld, and_then, no_more, returns, enter}
use types.ByLocal.{alloc_all, pass_all, free_all, look_at, get_in, sets}
use denote.RattleType.{owns}
use denote.RawPtr.{Ptr, block_ptr, null_ptr, in_a_block}
use denote.Signature.{plain}
use denote.Triple.Walked.{needs}
use Rattle.std.proofs.RcSteps.{word, word-Good}
use Rattle.piece_raw.specs.Linked.{linked}
use Rattle.piece_raw.specs.Ownership.{link_room, edge, links_own, detached_owns}
use Rattle.piece_raw.proofs.Memory.{Of, args, RV, Member, Lr, Np, Dt, mark, mark_had, word_had, word_made}
use Rattle.piece_raw.proofs.Memory.{stale, edge_out, no_source}
use Rattle.piece_raw.proofs.Walks.{𝓣, Runs, takes}
use Rattle.piece_raw.specs.contracts.links.Links.into_trailer.Key.{name as #self}
use Rattle.piece_raw.proofs.links.Links.into_trailer.Statement as stated
use Rattle.piece_raw.proofs.links.Links.into_trailer.Code as code

pub into_trailer_spec : {M : Type 1} → stated.statement M
into_trailer_spec 𝓤 𝓛 𝓜 𝓡 wired X LX y =
    let E : Of = record { row = X; laws = LX } in
    let T = 𝓣 𝓛 𝓜 𝓡 in let e : Fn = inst_fn (args E) code.function in
    takes E (plain (λ _. Lr E) ∷ plain (λ _. Np E) ∷ []) (plain (λ _. Dt E)) 𝓛 𝓜 𝓡
    (λ a. fact 𝓤 ((a.1.0.ptr ≡ a.0.trailer.at) × (a.0.nodes ≡ []))) (λ a r. a.0.trailer ≡ linked r.ptr r.value)
    ((λ κs x f. tt), ((λ κs x f. tt), tt)) (λ a. (tt, (tt, tt)))
    (#self (args E)) e (code.unfolded 𝓤 𝓛.H 𝓜 𝓡 wired (X, tt)) (λ a vss Post exits.
    let t = a.0.trailer in let p : Ptr = a.1.0.ptr in
    needs 𝓤 ((p ≡ t.at) × (a.0.nodes ≡ [])) (sem 𝓛 (owns (Lr E ∷ Np E ∷ []) a vss)) (λ asked.
    qed 𝓛 (‵ (owns (Lr E ∷ Np E ∷ []) a vss) ∷ []) ∵ fsplit ! $ fsplit ! $ mark_had ! E vss.0 (λ e0.
    move ! (1 ∷ []) $ fsplit ! $ word_had ! p vss.1.0 (λ e1.
    regoal ! (λ (ws : List Val × List Val). prop (Runs 𝓛 𝓜 𝓡 e (ws.0 ++ (ws.1 ++ [])) Post))
    (λ i. (e0 i, e1 i)) refl $ keep ! (1 ∷ []) $
    enter ! T.C T.Λ e (mark ∷ word p ∷ []) _ $
    alloc_all ! (λ l. pass_all ! refl ((tt, (tt, tt)), (word-Good [] p, tt)) $
    rewrite ! 0 (λ (ns : List (Member E)). ‵ (links_own (RV E) t ns)) asked.1 refl $ fsplit3 ! $ fsplit ! $
    in_a_block ! t.at (λ q. edge q q) (no_source 𝓛 null_ptr) (λ b o ep.
    edge_out ! b o b o $ stale ! (block_ptr b o) b (o + 8) $ move ! (1 ∷ []) $
    stale ! (block_ptr b o) b (o + 0) $ fjoin ! $ rewrite ! 0 (λ (q : Ptr). ‵ (link_room q)) (sym ep)
    refl $
    -- [the links' room; nothing; the trailer's value]
    move ! (0 ∷ 2 ∷ []) $ fjoin ! $ rewrite ! 0 (λ (q : Ptr). ‵ (detached_owns (RV E) q t.value))
    (sym asked.0) refl $ word_made ! p $ fjoin ! $
    sets ! (agg ! (and_then ! (get_in ! (fld ! refl (stop !)) (sub ! 0 refl (whole !))) (no_more !)))
    refl (word-Good [] p) $
    returns ! (look_at ! 0 refl) $ free_all ! refl $ keep ! (0 ∷ []) $
    by ! (exits (record { ptr = p; value = t.value }) (word p) (λ i. linked (sym asked.0 i) t.value))))))))
    ((y.0.0, y.0.1, tt, y.0.3, y.0.4), y.1)
