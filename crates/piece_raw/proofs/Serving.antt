-- What the walks of the calls that are passed an allocator begin and end with. Assumes `Logic`.
use mathlib.Core.Path.{refl}
use Prim.Native.Nat.{ℕ}
use mathlib.Core.List.{List, [], ◌∷◌, ◌++◌}
use seplogic.Ra.Ura.{Ura}
use mir.Syntax.{Fn, Callee, named}
use mir.Val.{Val, vptr}
use base.Logic.{SProp, ent, sep}
use base.Fml.{Share, ftrue, flft, Incl-trans}
use prog.Wp.{Closed}
use prog.Model.{Model}
use types.Logic.{Logic}
use contract.BorrowLft.{◌⊑◌}
use contract.Lifetimes.{Lfts}
use contract.Monad.{fact}
use contract.Running.{Running}
use types.Kit.{Item, ‵, raw, ◌⊛◌, ⋆, ◌$◌, ◌∵◌, !, qed, by, move, use0, split, join, fsplit, fjoin, feq_l}
use types.Kit.{regoal, prop, suffices, frame, done}
use denote.Exit.{yes, no}
use denote.RattleType.{Denots, Valss, flat, owns}
use denote.Memory.{hidden_shr}
use denote.Ref.{ShrRef}
use denote.Builtin.{RefOf}
use denote.Signature.{Slot, plain, types_at}
use denote.Steps.{nothing}
use denote.Triple.Clauses.{Clauses, Ended, closing}
use denote.Triple.End.{Fins, all}
use denote.Triple.Entry.{on_entry}
use denote.Triple.Spec.{Meets}
use denote.Triple.Walked.{Stays, stay_dropped, walk_of, ends_at, Goes-dropped}
use Rattle.std.proofs.alloc.Calls.{Al, second}
use Rattle.std.proofs.raw_atomic.Walks.{proved_at}
use Rattle.piece_raw.proofs.Memory.{Of}
use Rattle.piece_raw.proofs.Blocks.{RA}
use Rattle.piece_raw.proofs.Walks.{𝓣, Runs, dropped, Spent, all_fit, left_of, all_go, none_left}

-- a call that is passed a `&` to an allocator, and more by value. Asks is what it needs, and Gives what it hands
-- back
module _ (E : Of) (Z : Al) (ss : List (Slot 3)) (out : Slot 3) where
  abbrev serves : Ended
  serves = record {
    signature = record {
      lifetimes = 3;
      outlives = record { long = 2; long_ok = tt; short = named 0; short_ok = tt } ∷ [];
      params = RefOf (0 ∷ []) tt (plain (λ _. RA E Z)) (λ _. tt) ∷ ss;
      result = out;
    };
    kept = (yes, all no ss);
  }

  abbrev let_go : Stays serves.signature.params serves.kept
  let_go = (stay_dropped (RefOf (0 ∷ []) tt (plain (λ _. RA E Z)) (λ _. tt)) yes, dropped ss)

  abbrev More : Lfts 3 → Type 0
  More κs = Denots (types_at ss κs)

  module _ {M : Type 1} {𝓤 : Ura M} (𝓛 : Logic 𝓤) (𝓜 : Model 𝓤 𝓛.H) (𝓡 : Running 𝓤 𝓛.H 𝓜)
      (Asks : (κs : Lfts 3) → Z.row.Denot → More κs → SProp 𝓤)
      (Gives : (κs : Lfts 3) → Z.row.Denot → More κs → (out.row κs).Denot → SProp 𝓤) where
    abbrev said : Clauses 𝓤 serves
    said κs a = record {
      ghost = Unit {0};
      requires = λ _. sep 𝓤 (fact 𝓤 (κs.1.0 ⊑ E.row.lives)) (sep 𝓤 (fact 𝓤 (κs.1.1.0 ⊑ Z.row.lives))
          (Asks κs a.0.now a.1));
      ensures = λ _ r w. Gives κs a.0.now a.1 r;
    }

    -- others: the tokens of the lifetimes of V and A
    abbrev before : (κs : Lfts 3) → Share → ℕ → ℕ → Z.row.Denot → (a : More κs) → Valss (types_at ss κs) → Item 𝓤
        → List (Item 𝓤)
    before κs q rb ro z a vss others = ‵ (hidden_shr (RA E Z) κs.0 z rb ro) ∷ ‵ (flft κs.0 q) ∷ others
        ∷ ‵ (owns (types_at ss κs) a vss) ∷ raw (Asks κs z a) ∷ []

    abbrev after : (κs : Lfts 3) → Share → Z.row.Denot → More κs → (out.row κs).Denot → Val → Item 𝓤 → List (Item 𝓤)
    after κs q z a r v others = raw (Gives κs z a r) ∷ ‵ ((out.row κs).own_val r (v ∷ [])) ∷ ‵ (flft κs.0 q)
        ∷ others ∷ []

    pub served : Spent ss → ((κs : Lfts 3) (a : More κs) → Fins κs ss (all no ss) a) → (k : Callee) (e : Fn) →
        Closed 𝓤 𝓛.H (𝓣 𝓛 𝓜 𝓡).C (𝓣 𝓛 𝓜 𝓡).Λ k e
        → ((κs : Lfts 3) (q : Share) (rb ro : ℕ) (z : Z.row.Denot) (a : More κs) (vss : Valss (types_at ss κs))
        (others : Item 𝓤) (Post : Val → SProp 𝓤) → κs.0 ⊑ Z.row.lives
        → ((r : (out.row κs).Denot) (v : Val) → ent 𝓤 (⋆ 𝓛 (after κs q z a r v others)) (Post v))
        → ent 𝓤 (⋆ 𝓛 (before κs q rb ro z a vss others))
        (Runs 𝓛 𝓜 𝓡 e (vptr rb ro ∷ flat (types_at ss κs) vss) Post))
        → Meets 𝓛 serves.signature ((𝓣 𝓛 𝓜 𝓡).C k) (closing 𝓛 serves said)
    served spent ws k e closed walk =
        proved_at 𝓛 serves let_go said 𝓜 𝓡 (
          Goes-dropped 𝓛 3 (RefOf (0 ∷ []) tt (plain (λ _. RA E Z)) (λ _. tt)) yes (λ κs x f. refl),
          all_go 𝓛 ss spent,
        ) k e closed (λ y are.
        let κs = y.0.0 in let qs = y.0.1 in let l = y.0.3.0 in let z = l.now in let a = y.0.3.1 in
        let vss = y.0.4.1 in let last = ws κs a in
        let On : SProp 𝓤 = on_entry 𝓛 serves.signature κs qs y.0.3 y.0.4 in
        let others : Item 𝓤 = ‵ (flft κs.1.0 qs.1.0) ⊛ ‵ (flft κs.1.1.0 qs.1.1.0) ⊛ ‵ ftrue in
        let Post : Val → SProp 𝓤 = (walk_of 𝓛 serves let_go said).post y in
        second 𝓤 (κs.1.0 ⊑ E.row.lives) (κs.1.1.0 ⊑ Z.row.lives) On (Asks κs z a) (λ within.
        qed 𝓛 (((‵ (flft κs.0 qs.0) ⊛ others)
        ⊛ ‵ (owns (ShrRef (named 0) κs.0 (RA E Z) ∷ types_at ss κs) y.0.3 y.0.4)) ∷ raw (Asks κs z a) ∷ []) ∵
        split ! $ split ! $ move ! (2 ∷ []) $ fsplit ! $ fsplit ! $ feq_l ! (λ e0.
        move ! (0 ∷ 2 ∷ 3 ∷ 1 ∷ 4 ∷ []) $
        regoal ! (λ (us : List Val). prop (Runs 𝓛 𝓜 𝓡 e (us ++ flat (types_at ss κs) vss) Post)) e0 refl $
        by ! (walk κs qs.0 l.ref_ptr.0 l.ref_ptr.1 z a vss others Post (Incl-trans y.0.2.0 within) (λ r v.
        qed 𝓛 (after κs qs.0 z a r v others) ∵
        suffices ! _ (ends_at 𝓛 serves let_go said y v r (tt, last) (tt, all_fit κs ss a last)) $
        use0 𝓛 (‵ (left_of κs ss a last vss)) (none_left 𝓛 κs ss a last vss) $
        nothing ! $ fjoin ! $ move ! (0 ∷ 2 ∷ []) $ join ! $ move ! (2 ∷ 3 ∷ []) $ join ! $
        move ! (0 ∷ 1 ∷ []) $ join ! $ frame ! $ done !)))))
