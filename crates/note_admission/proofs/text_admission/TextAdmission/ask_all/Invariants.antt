use Rattle.std.proofs.Common.{◌≡◌, ℕ, ◌<◌, length, slice_get, Some}
use Rattle.note_admission.specs.Growing.{LogGoesOn, TakesNone, TakesOn}
use Rattle.note_admission.proofs.text_admission.TextAdmission.ask_all.Given as goal

abbrev pub invariant-loop-at : goal.invariant-loop-at
invariant-loop-at g l = record {
  taken : TakesOn (g.D.Digest.digest l.digest) (g.C.Chains.are_of l.chains) l.initial.self l.self;
  grows : LogGoesOn l.initial.self l.self;
  rest : l.self ≡ record l.initial.self { ops = l.self.ops; kept = l.self.kept };
  asked : (k site : ℕ) → k < l.at → slice_get l.initial.self.sites k ≡ Some site
      → length l.self.ops ≡ length l.initial.self.ops
      → TakesNone (g.D.Digest.digest l.digest) (g.C.Chains.are_of l.chains) l.initial.self site;
}
