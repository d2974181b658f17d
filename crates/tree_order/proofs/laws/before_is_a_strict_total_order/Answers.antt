use Rattle.tree_order.proofs.Before.{Before-irreflexive, Before-transitive, Before-total}
use Rattle.tree_order.proofs.laws.before_is_a_strict_total_order.Goals as goal

pub returns : goal.returns
returns c = λ ops good. record {
  irreflexive = Before-irreflexive ops good;
  transitive = Before-transitive ops good;
  total = Before-total ops good;
}
