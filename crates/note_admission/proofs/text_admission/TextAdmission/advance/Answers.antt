use Rattle.std.proofs.Common.{◌≡◌, length, ap, arith}
use Rattle.std.proofs.lemmas.Grind.{common_steps}
use Rattle.note_admission.specs.Growing.{TextSeen}
use Rattle.note_admission.proofs.Growth.{goes_on_then, takes_all_then, takes_on_then}
use Rattle.note_admission.proofs.text_admission.TextAdmission.advance.Goals as goal

pub returns-in_err-step-clause-taken : goal.returns-in_err-step-clause-taken
returns-in_err-step-clause-taken g c =
    takes_on_then (g.D.Digest.digest c.args.digest.now) (g.C.Chains.are_of c.args.chains.now) c.args.self.now c.loop-self.self c.step.new.self
    c.loop-self.invariant.taken c.step.ensures.taken

pub returns-then-len-before-clause-taken : goal.returns-then-len-before-clause-taken
returns-then-len-before-clause-taken g c =
    takes_on_then (g.D.Digest.digest c.args.digest.now) (g.C.Chains.are_of c.args.chains.now) c.args.self.now c.loop-self.self c.step.new.self
    c.loop-self.invariant.taken c.step.ensures.taken

pub returns-then-len-before-clause-none : goal.returns-then-len-before-clause-none
returns-then-len-before-clause-none g c =
    let before = c.loop-self.self in
    let after = c.step.new.self in
    let same : length after.ops ≡ length before.ops = grind (arith, common_steps) in
    takes_all_then (g.D.Digest.digest c.args.digest.now) (g.C.Chains.are_of c.args.chains.now) c.args.self.now before
    after c.args.site c.loop-self.invariant.taken c.step.ensures.taken (c.in_ok-step.ensures.none same) same
    (ap (λ (t : TextSeen). t.text) c.step.ensures.rest)

pub loop-self-preserved : goal.loop-self-preserved
loop-self-preserved g c = record {
  taken = takes_on_then (g.D.Digest.digest c.args.digest.now) (g.C.Chains.are_of c.args.chains.now) c.args.self.now c.loop-self.self
      c.step.new.self c.loop-self.invariant.taken c.step.ensures.taken;
  grows = goes_on_then c.args.self.now c.loop-self.self c.step.new.self c.loop-self.invariant.grows c.step.ensures.grows;
  rest = grind (arith, common_steps);
}
