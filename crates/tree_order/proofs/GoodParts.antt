-- A good set, by what holds of each operation.
use Rattle.std.proofs.Common.{List, All, Contains}
use Rattle.std.specs.Prelude.{Any}
use Rattle.std.proofs.lemmas.List.Elements.{All-contains, Contains-get_or}
use Rattle.char_files.specs.CharName.{CharName}
use Rattle.operations.specs.Operation.{Operation, Inserts}
use Rattle.tree_order.specs.Good.{Good, IsPredecessor}
use Rattle.tree_order.specs.Tree.{IsChar}
use Rattle.tree_order.specs.GoodEach.{Agree, AgreesWithAll, HasPredecessor, MentionsCharacters, BeginsAtEnd}
use Rattle.tree_order.specs.GoodEach.{OwnNamesAreEarlier, IsAbove, IsAboveEachCause}

pub record Parts (ops : List Operation) : Type 0 where
  pub identities : All (AgreesWithAll ops) ops
  pub predecessors : All (HasPredecessor ops) ops
  pub mentions : All (MentionsCharacters ops) ops
  pub begins : All (BeginsAtEnd ops) ops
  pub own : All (OwnNamesAreEarlier ops) ops
  pub stamps : All (IsAboveEachCause ops) ops

-- what holds of each operation that is held
each_held : (P : Operation → Type 0) (ops : List Operation) → ((op : Operation) → Contains ops op → P op)
    → All P ops
each_held P ops h = λ k d lt. h _ (Contains-get_or ops k d lt)

-- an operation that is held and has P, and its index
any_held : (P : Operation → Type 0) (ops : List Operation) → (op : Operation) × Contains ops op × P op
    → Any P ops
any_held P ops (op, (k, lt, is), h) = (k, op, lt, is, h)

held_any : (P : Operation → Type 0) (ops : List Operation) → Any P ops → (op : Operation) × Contains ops op
    × P op
held_any P ops (k, op, lt, is, h) = (op, (k, lt, is), h)

character : (ops : List Operation) (name : CharName) → (i : Operation) × Contains ops i × Inserts i name
    → IsChar ops name
character ops name (i, held, inserts) = (i, record { held = held; inserts = inserts })

insert_held : (ops : List Operation) (name : CharName) → IsChar ops name → (i : Operation) × Contains ops i
    × Inserts i name
insert_held ops name (i, is) = (i, is.held, is.inserts)

pub parts : (ops : List Operation) → Good ops → Parts ops
parts ops good = record {
  identities =
      each_held (AgreesWithAll ops) ops (λ a held. each_held _ ops (λ b other. good.identities a b held
      other));
  predecessors =
      each_held (HasPredecessor ops) ops (λ op held later. any_held (λ p. IsPredecessor p op) ops
      (good.predecessors op held later));
  mentions =
      each_held (MentionsCharacters ops) ops (λ op held name m. character ops name
      (good.mentions op name held m));
  begins = each_held (BeginsAtEnd ops) ops good.begins;
  own = each_held (OwnNamesAreEarlier ops) ops (λ op held name. good.own op name held);
  stamps = each_held (IsAboveEachCause ops) ops
      (λ op held. each_held _ ops (λ p other. good.stamps op p held other));
}

pub good_by : (ops : List Operation) → Parts ops → Good ops
good_by ops p =
    let at : (P : Operation → Type 0) → All P ops → (op : Operation) → Contains ops op → P op =
    λ P all op. All-contains P ops op all in
    record {
      identities = λ a b held other. at (Agree a) (at (AgreesWithAll ops) p.identities a held) b other;
      predecessors =
          λ op held later. held_any (λ q. IsPredecessor q op) ops (at (HasPredecessor ops) p.predecessors op held
          later);
      mentions =
          λ op name held m. insert_held ops name (at (MentionsCharacters ops) p.mentions op held name m);
      begins = at (BeginsAtEnd ops) p.begins;
      own = λ op name held. at (OwnNamesAreEarlier ops) p.own op held name;
      stamps = λ op q held other. at (IsAbove op) (at (IsAboveEachCause ops) p.stamps op held) q other;
    }
