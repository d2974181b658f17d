-- A text that began as its site's file tells.
use Rattle.std.proofs.Common.{◌≡◌, List, [], Contains, ap, inl, subst, sym, arith}
use Rattle.operations.specs.Operation.{Operation}
use Rattle.set_laws.specs.Sets.{AreIdentified}
use Rattle.texts.specs.TextState.{TextState}
use Rattle.convergence.specs.HandedIn.{KeptByReopening}

none_there : (op : Operation) → Contains [] op → ⊥
none_there op held = absurd (omega arith)

pub kept_by_reopening : KeptByReopening
kept_by_reopening text site ops t taken =
    let told : t.operations ≡ ops = ap (λ (x : TextState). x.operations) taken.grown in
    let none : t.waiting_room ≡ [] = ap (λ (x : TextState). x.waiting_room) taken.grown in record {
      identified = subst AreIdentified told taken.is.identified;
      kept = record {
        taken_in = λ op held. subst (λ (l : List Operation). Contains l op) told held;
        kept_waiting = λ op held. absurd (none_there op (subst (λ (l : List Operation). Contains l op) none held));
        others = λ op held. inl (inl (subst (λ (l : List Operation). Contains l op) (sym told) held));
      };
    }
