use Rattle.std.proofs.Common.{◌≡◌, ◌-◌, ◌^◌, length}
use Rattle.note_admission.specs.Growing.{LogGoesOn, TakesOn}
use Rattle.note_admission.proofs.text_admission.TextAdmission.advance.Given as goal

abbrev pub invariant-loop-self : goal.invariant-loop-self
invariant-loop-self g l = record {
  taken : TakesOn (g.D.Digest.digest l.digest) (g.C.Chains.are_of l.chains) l.fn.self l.self;
  grows : LogGoesOn l.fn.self l.self;
  rest : l.self ≡ record l.fn.self { ops = l.self.ops; kept = l.self.kept };
}

abbrev pub decreases-loop-self : goal.decreases-loop-self
decreases-loop-self g l = 2 ^ 64 - length l.self.ops
