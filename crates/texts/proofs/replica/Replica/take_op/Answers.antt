use Rattle.std.proofs.Common.{inl, inr}
use Rattle.texts.specs.declared.fate.Fate.TheVariants.{Ready, Wait}
use Rattle.texts.proofs.replica.Replica.take_op.Goals as goal

pub returns-in-Wait : goal.returns-in-Wait
returns-in-Wait c = elim c.let_wait.ensures [
  | inl enters ↦ inl (Wait, c.in-Wait.ensures, enters)
  | inr stays ↦ inr (inl (c.in-Wait.ensures, stays))
]

pub returns-in-Ready : goal.returns-in-Ready
returns-in-Ready c = elim c.take_in.ensures [
  | inl takes ↦ inl (Ready, c.in-Ready.ensures, takes)
  | inr other ↦ inr (inr (c.in-Ready.ensures, other))
]
