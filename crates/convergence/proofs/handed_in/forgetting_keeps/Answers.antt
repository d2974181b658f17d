use Rattle.std.proofs.Common.{inl, inr, arith}
use Rattle.set_laws.specs.Sets.{IsPartOf}
use Rattle.convergence.proofs.handed_in.forgetting_keeps.Goals as goal

pub returns : goal.returns
returns c = λ t all rest text keeps but.
    let within : IsPartOf rest all = λ op held. ((but op).0 held).0 in
    record {
      identified = record {
        counted = λ op held. keeps.identified.counted op (within op held);
        unique = λ a b held other. keeps.identified.unique a b (within a held) (within b other);
      };
      kept = record {
        taken_in = λ op held. (but op).1 (keeps.kept.taken_in op held, inl held);
        kept_waiting = λ op held. let lt = held.1 in absurd (omega arith);
        others = λ op held.
            let (handed, left) = (but op).0 held in
            elim (keeps.kept.others op handed) [
              | inl (inl there) ↦ inl (inl there)
              | inl (inr waits) ↦ elim left [
                | inl there ↦ inl (inl there)
                | inr not ↦ absurd (not waits)
              ]
              | inr refused ↦ inr refused
            ];
      };
    }
