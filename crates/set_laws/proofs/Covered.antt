-- A set is good where each of its operations is in a good part of it, and where it is causally closed within
-- a good set.
use Rattle.std.proofs.Common.{◌≡◌, ℕ, suc, ◌+◌, ◌<◌, ◌≤◌, inl, inr, List, ◌++◌, Contains}
use Rattle.std.proofs.Common.{sym, subst, ◌∙◌, arith}
use Rattle.std.proofs.lemmas.List.Elements.{Contains-append_left, Contains-append_right}
use Rattle.std.proofs.lemmas.List.Elements.{Contains-append_cases}
use Rattle.char_files.specs.CharName.{CharName}
use Rattle.operations.specs.Operation.{Operation, OpKind, insert, delete, restore, change_looks, appended_len}
use Rattle.operations.specs.Operation.{Begins}
use Rattle.operations.specs.Operation.{InsertsBy, Inserts}
use Rattle.tree_order.specs.Good.{Good, IsCauseOf, file_before}
use Rattle.tree_order.specs.Laws.{AreSameSet}
use Rattle.set_laws.specs.Sets.{IsPartOf, AreIdentified, HaveEqualFronts}
use Rattle.set_laws.proofs.Fronts.{HasPredecessors, held_up_to, held_to_front, up_to_front}
use Rattle.set_laws.proofs.Lengths.{same_file, appended_by, one_stretch}

-- what an Insert inserts stands in what it appends
pub record IsInSpan (site len : ℕ) (kind : OpKind) (name : CharName) : Type 0 where
  pub on : name.site ≡ site
  pub from : len ≤ name.off
  pub below : name.off < len + appended_len kind

pub in_span : (site len : ℕ) (kind : OpKind) (name : CharName) → Begins kind len → InsertsBy site kind name
    → IsInSpan site len kind name
in_span site len (insert cause at looks bytes) name begins (on, from, below) =
    record { on = on; from = omega arith; below = omega arith }
in_span site len (delete names) name begins h = absurd h
in_span site len (restore names) name begins h = absurd h
in_span site len (change_looks sel looks names) name begins h = absurd h

-- and what stands there is inserted
pub from_span : (site len : ℕ) (kind : OpKind) (name : CharName) → Begins kind len
    → IsInSpan site len kind name → InsertsBy site kind name
from_span site len (insert cause at looks bytes) name begins h =
    let from = h.from in let below = h.below in (h.on, omega arith, omega arith)
from_span site len (delete names) name begins h =
    let from = h.from in let below = h.below in absurd (omega arith)
from_span site len (restore names) name begins h =
    let from = h.from in let below = h.below in absurd (omega arith)
from_span site len (change_looks sel looks names) name begins h =
    let from = h.from in let below = h.below in absurd (omega arith)

-- Inserts begin where their sites' files ended
abbrev pub AreLaid : List Operation → Type 0
AreLaid ops = (op : Operation) → Contains ops op → Begins op.kind (file_before ops op.site op.seq)

-- a name then has one Insert
pub one_insert : (ops : List Operation) → AreIdentified ops → AreLaid ops → (name : CharName)
    → (i j : Operation) → Contains ops i → Contains ops j → Inserts i name → Inserts j name → i ≡ j
one_insert ops known laid name i j held other ins ins' =
    let p = in_span i.site (file_before ops i.site i.seq) i.kind name (laid i held) ins in
    let q = in_span j.site (file_before ops j.site j.seq) j.kind name (laid j other) ins' in
    let len = appended_by ops known i held in
    let len' = appended_by ops known j other in
    let on : i.site ≡ j.site = sym p.on ∙ q.on in
    let from' : file_before ops i.site j.seq ≤ name.off =
    subst (λ (s : ℕ). file_before ops s j.seq ≤ name.off) (sym on) q.from in
    let to' : name.off < file_before ops i.site (suc j.seq) =
    subst (λ (s : ℕ). name.off < file_before ops s (suc j.seq)) (sym on) (let b = q.below in omega arith) in
    known.unique i j held other on
    (one_stretch ops i.site i.seq j.seq name.off p.from (let b = p.below in omega arith) from' to')

-- the part has the causes that its operations have in the set
abbrev pub IsCausallyClosedIn : List Operation → List Operation → Type 0
IsCausallyClosedIn part ops = (op p : Operation) → Contains part op → Contains ops p → IsCauseOf p op
    → Contains part p

-- a good part has them
pub good_part_closed : (part ops : List Operation) → Good part → IsPartOf part ops → AreIdentified ops
    → AreLaid ops → IsCausallyClosedIn part ops
good_part_closed part ops good within known laid op p there other (inl (on, next)) =
    let counted = known.counted p other in
    let (q, here, is) = good.predecessors op there (omega arith) in
    let q_next = is.1 in
    subst (Contains part) (known.unique q p (within q here) other (is.0 ∙ sym on) (omega arith)) here
good_part_closed part ops good within known laid op p there other (inr (name, m, ins)) =
    let (i, here, is) = good.mentions op name there m in
    subst (Contains part) (one_insert ops known laid name i p (within i here) other is ins) here

-- the operation is in a good part
abbrev pub IsCovered : List Operation → Operation → Type 0
IsCovered ops op = (part : List Operation) × Good part × IsPartOf part ops × Contains part op

-- a good part's operations stand at the same places of their sites' files
pub part_file : (part ops : List Operation) → HasPredecessors part → IsPartOf part ops → AreIdentified ops
    → (op : Operation) → Contains part op → file_before part op.site op.seq ≡ file_before ops op.site op.seq
part_file part ops before within known op held =
    same_file part ops within known op.site op.seq
    (λ seq some lt. held_up_to part before op held seq some (omega arith))

covered_laid : (ops : List Operation) → AreIdentified ops
    → ((op : Operation) → Contains ops op → IsCovered ops op) → AreLaid ops
covered_laid ops known covered op held =
    let (part, good, within, there) = covered op held in
    subst (Begins op.kind) (part_file part ops good.predecessors within known op there)
    (good.begins op there)

-- a set is good whose operations are each in a good part of it
pub covered_is_good : (ops : List Operation) → AreIdentified ops
    → ((op : Operation) → Contains ops op → IsCovered ops op) → Good ops
covered_is_good ops known covered =
    let laid : AreLaid ops = covered_laid ops known covered in
    record {
      identities = known.unique;
      predecessors = λ op held later.
          let (part, good, within, there) = covered op held in
          let (p, here, is) = good.predecessors op there later in
          (p, within p here, is);
      mentions = λ op name held m.
          let (part, good, within, there) = covered op held in
          let (i, here, is) = good.mentions op name there m in
          (i, within i here, is);
      begins = laid;
      own = λ op name held m on.
          let (part, good, within, there) = covered op held in
          subst (λ (n : ℕ). name.off < n) (part_file part ops good.predecessors within known op there)
          (good.own op name there m on);
      stamps = λ op p held other cause.
          let (part, good, within, there) = covered op held in
          good.stamps op p there (good_part_closed part ops good within known laid op p there other cause) cause;
    }

-- so is the union of two good sets
pub union_good : (a b : List Operation) → Good a → Good b → AreIdentified (a ++ b) → Good (a ++ b)
union_good a b good good' known = covered_is_good (a ++ b) known (λ op held.
    elim (Contains-append_cases a b op held) [
      | inl here ↦ (a, good, Contains-append_left a b, here)
      | inr here ↦ (b, good', Contains-append_right a b, here)
    ])

-- a part that has the causes is good, if the set is
pub closed_is_good : (part ops : List Operation) → Good ops → AreIdentified ops → IsPartOf part ops
    → IsCausallyClosedIn part ops → Good part
closed_is_good part ops good known within closed =
    let before : HasPredecessors part = λ op held later.
    let (p, there, is) = good.predecessors op (within op held) later in
    (p, closed op p held there (inl is), is) in
    let file : (op : Operation) → Contains part op
    → file_before part op.site op.seq ≡ file_before ops op.site op.seq =
    part_file part ops before within known in
    record {
      identities = λ x y held other. known.unique x y (within x held) (within y other);
      predecessors = before;
      mentions = λ op name held m.
          let (i, there, is) = good.mentions op name (within op held) m in
          (i, closed op i held there (inr (name, m, is)), is);
      begins = λ op held. subst (Begins op.kind) (sym (file op held)) (good.begins op (within op held));
      own = λ op name held m on. subst (λ (n : ℕ). name.off < n) (sym (file op held))
          (good.own op name (within op held) m on);
      stamps = λ op p held other. good.stamps op p (within op held) (within p other);
    }

-- a good set holds what another with the same fronts holds
within_by_fronts : (a b : List Operation) → Good b → AreIdentified (a ++ b) → HaveEqualFronts a b
    → IsPartOf a b
within_by_fronts a b good known equal op held =
    let here = Contains-append_left a b op held in
    let up = up_to_front a op held in
    let front = equal op.site in
    let (other, there, on, at) =
    held_to_front b good.predecessors op.site op.seq (known.counted op here) (omega arith) in
    subst (Contains b) (known.unique other op (Contains-append_right a b other there) here on at) there

pub same_by_fronts : (a b : List Operation) → Good a → Good b → AreIdentified (a ++ b) → HaveEqualFronts a b
    → AreSameSet a b
same_by_fronts a b good good' known equal op = (
  within_by_fronts a b good' known equal op,
  within_by_fronts b a good (swapped a b known) (λ site. sym (equal site)) op,
)
  where
    swap : (a b : List Operation) → IsPartOf (b ++ a) (a ++ b)
    swap a b op held = elim (Contains-append_cases b a op held) [
      | inl here ↦ Contains-append_right a b op here
      | inr here ↦ Contains-append_left a b op here
    ]

    swapped : (a b : List Operation) → AreIdentified (a ++ b) → AreIdentified (b ++ a)
    swapped a b known = record {
      counted = λ op held. known.counted op (swap a b op held);
      unique = λ x y held other. known.unique x y (swap a b x held) (swap a b y other);
    }
