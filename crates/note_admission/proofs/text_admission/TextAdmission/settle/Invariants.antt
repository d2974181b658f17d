use Rattle.std.proofs.Common.{◌≡◌, ◌-◌, ◌^◌, ◌+◌, length}
use Rattle.note_admission.specs.Growing.{AdmissionGrows, LogGoesOn}
use Rattle.note_admission.proofs.Settling.{doubts}
use Rattle.note_admission.proofs.text_admission.TextAdmission.settle.Given as goal

abbrev pub invariant-loop-self : goal.invariant-loop-self
invariant-loop-self g l = record {
  grown : AdmissionGrows (g.D.Digest.digest l.digest) (g.C.Chains.are_of l.chains) l.fn.self l.self;
  longer : LogGoesOn l.fn.self l.self;
  text : l.self.text ≡ l.fn.self.text;
}

abbrev pub decreases-loop-self : goal.decreases-loop-self
decreases-loop-self g l = (2 ^ 64 - length l.self.ops) + doubts l.self.unsettled
