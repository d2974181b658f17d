-- Which identities aren't held.
use Rattle.std.proofs.Common.{◌<◌, ◌↔◌, inl, inr, List, arith}
use Rattle.std.proofs.lemmas.Bool.{cases_lt}
use Rattle.operations.specs.Operation.{Operation}
use Rattle.set_laws.specs.Fronts.{front_of}
use Rattle.set_laws.specs.Sets.{AreHeldToTheFront}
use Rattle.set_laws.specs.Verdict.{IsNew}

-- an identity isn't held where its seq is past the site's front
pub new_past_front : (ops : List Operation) (op : Operation) → AreHeldToTheFront ops
    → IsNew ops op ↔ (front_of ops op.site < op.seq)
new_past_front ops op held = (
  λ new. elim (cases_lt (front_of ops op.site) op.seq) [
    | inl lt ↦ lt
    | inr le ↦ absurd (new.unheld ((held op.site op.seq).1 (new.counted, le)))
  ],
  λ lt. record {
    counted = omega arith;
    unheld = λ h. let le = ((held op.site op.seq).0 h).1 in omega arith;
  },
)
