-- Unions as sets.
use Rattle.std.proofs.Common.{inl, inr, List, ◌++◌}
use Rattle.std.proofs.lemmas.List.Elements.{Contains-append_left, Contains-append_right}
use Rattle.std.proofs.lemmas.List.Elements.{Contains-append_cases}
use Rattle.operations.specs.Operation.{Operation}
use Rattle.tree_order.specs.Good.{Good}
use Rattle.tree_order.specs.Laws.{AreSameSet, SaysTheSame}
use Rattle.set_laws.specs.Sets.{IsPartOf, UnionsAreSets, UnionsShowSets}

swap : (a b : List Operation) → IsPartOf (a ++ b) (b ++ a)
swap a b op held = elim (Contains-append_cases a b op held) [
  | inl here ↦ Contains-append_right b a op here
  | inr here ↦ Contains-append_left b a op here
]

to_right : (a b c : List Operation) → IsPartOf ((a ++ b) ++ c) (a ++ (b ++ c))
to_right a b c op held = elim (Contains-append_cases (a ++ b) c op held) [
  | inl both ↦ elim (Contains-append_cases a b op both) [
    | inl here ↦ Contains-append_left a (b ++ c) op here
    | inr here ↦ Contains-append_right a (b ++ c) op (Contains-append_left b c op here)
  ]
  | inr here ↦ Contains-append_right a (b ++ c) op (Contains-append_right b c op here)
]

to_left : (a b c : List Operation) → IsPartOf (a ++ (b ++ c)) ((a ++ b) ++ c)
to_left a b c op held = elim (Contains-append_cases a (b ++ c) op held) [
  | inl here ↦ Contains-append_left (a ++ b) c op (Contains-append_left a b op here)
  | inr both ↦ elim (Contains-append_cases b c op both) [
    | inl here ↦ Contains-append_left (a ++ b) c op (Contains-append_right a b op here)
    | inr here ↦ Contains-append_right (a ++ b) c op here
  ]
]

once : (a : List Operation) → IsPartOf (a ++ a) a
once a op held = elim (Contains-append_cases a a op held) [ inl here ↦ here | inr here ↦ here ]

pub are_sets : (a b c : List Operation) → UnionsAreSets a b c
are_sets a b c = record {
  commutative = λ op. (swap a b op, swap b a op);
  associative = λ op. (to_right a b c op, to_left a b c op);
  idempotent = λ op. (Contains-append_left a a op, once a op);
}

pub show_sets : ((a b : List Operation) → AreSameSet a b → Good a → SaysTheSame a b)
    → (a b c : List Operation)
    → UnionsShowSets a b c
show_sets law a b c = let same = are_sets a b c in record {
  commutative = law (a ++ b) (b ++ a) same.commutative;
  associative = law ((a ++ b) ++ c) (a ++ (b ++ c)) same.associative;
  idempotent = law a (a ++ a) same.idempotent;
}
