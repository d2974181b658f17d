-- A merge has one outcome.
use Rattle.std.proofs.Common.{◌≡◌, ◌≢◌, ℕ, List, ◌++◌, length, take, Result, Ok, Err, refl, sym}
use Rattle.std.proofs.Common.{ap, subst, ◌∙◌}
use Rattle.std.proofs.lemmas.List.Elements.{Contains-append_left, Contains-append_right}
use Rattle.looks.specs.declared.refusal.Refusal.{Refusal}
use Rattle.looks.specs.declared.refusal.Refusal.TheVariants.{Conflict, WrongText}
use Rattle.char_files.specs.declared.character.Char.{Char}
use Rattle.operations.specs.Operation.{Operation}
use Rattle.tree_order.specs.Good.{Good}
use Rattle.tree_order.specs.Shown.{AreChars}
use Rattle.texts.specs.Merge.{AreInConflict, CanMerge, Merges, MergesShort, news}
use Rattle.texts.specs.Taking.{HasTakenAll}
use Rattle.texts.specs.TextState.{TextState}
use Rattle.texts.specs.declared.merge_refusal.MergeRefusal.{MergeRefusal}
use Rattle.texts.specs.declared.merge_refusal.MergeRefusal.TheVariants.{Whole, Stopped}
use Rattle.convergence.specs.Outcomes.{MergesOneWay}
use Rattle.texts.proofs.Chars.{one_chars}

-- the same operations more leave one text
one_taken_all : (t : TextState) (ops : List Operation) (new new' : TextState) → HasTakenAll t ops new
    → HasTakenAll t ops new' → new ≡ new'
one_taken_all t ops new new' taken taken' =
    let with_ops : List Operation = t.operations ++ ops in
    let is : new.operations ≡ with_ops = ap (λ (u : TextState). u.operations) taken.grown in
    let is' : new'.operations ≡ with_ops = ap (λ (u : TextState). u.operations) taken'.grown in
    let same : new.order ≡ new'.order = one_chars with_ops (subst Good is taken.is.good) new.order new'.order
    (subst (λ (o : List Operation). AreChars o new.order) is taken.is.chars)
    (subst (λ (o : List Operation). AreChars o new'.order) is' taken'.is.chars) in
    taken.grown ∙ ap (λ (order : List Char). record t { operations = with_ops; order = order }) same
    ∙ sym taken'.grown

-- what a merge answered
data Answered (t other : TextState) (result : Result ℕ MergeRefusal) (new : TextState) : Type 0 where
  taken_in : CanMerge t other → result ≡ Ok (length (news t other)) → HasTakenAll t (news t other) new
      → Answered t other result new
  elsewhere : t.text ≢ other.text → result ≡ Err (Whole WrongText) → new ≡ t → Answered t other result new
  clashing : t.text ≡ other.text → AreInConflict t other → result ≡ Err (Whole Conflict) → new ≡ t
      → Answered t other result new

answered_whole : (t other : TextState) (why : Refusal) (new : TextState) → Merges t other (Err (Whole why)) new
    → Answered t other (Err (Whole why)) new
answered_whole t other WrongText new (differ, stays) = elsewhere differ refl stays
answered_whole t other Conflict new (same, clash, stays) = clashing same clash refl stays
answered_whole t other why new merges = absurd merges

answered : (t other : TextState) (result : Result ℕ MergeRefusal) (new : TextState) → Merges t other result new
    → Answered t other result new
answered t other (Ok count) new (can, counted, taken) = taken_in can (ap Ok counted) taken
answered t other (Err (Whole why)) new merges = answered_whole t other why new merges
answered t other (Err (Stopped some)) new merges = absurd merges

-- texts in conflict can't merge
no_clash : (t other : TextState) → CanMerge t other → ¬ AreInConflict t other
no_clash t other can (op, held, (x, there, on, at, differs)) =
    differs (can.identified.unique x op (Contains-append_left t.operations other.operations x there)
    (Contains-append_right t.operations other.operations op held) on at)

one_answer : (t other new new' : TextState) (result result' : Result ℕ MergeRefusal) → Answered t other result new
    → Answered t other result' new' → (result ≡ result') × (new ≡ new')
one_answer t other new new' result result' (taken_in can e taken) (taken_in can' e' taken') =
    (e ∙ sym e', one_taken_all t (news t other) new new' taken taken')
one_answer t other new new' result result' (taken_in can e taken) (elsewhere differ e' stays) =
    absurd (differ can.same_text)
one_answer t other new new' result result' (taken_in can e taken) (clashing same clash e' stays) =
    absurd (no_clash t other can clash)
one_answer t other new new' result result' (elsewhere differ e stays) (taken_in can e' taken) =
    absurd (differ can.same_text)
one_answer t other new new' result result' (elsewhere differ e stays) (elsewhere differ' e' stays') =
    (e ∙ sym e', stays ∙ sym stays')
one_answer t other new new' result result' (elsewhere differ e stays) (clashing same clash e' stays') =
    absurd (differ same)
one_answer t other new new' result result' (clashing same clash e stays) (taken_in can e' taken) =
    absurd (no_clash t other can clash)
one_answer t other new new' result result' (clashing same clash e stays) (elsewhere differ e' stays') =
    absurd (differ same)
one_answer t other new new' result result' (clashing same clash e stays) (clashing same' clash' e' stays') =
    (e ∙ sym e', stays ∙ sym stays')

-- one that was stopped took in so many
one_short : (t other new new' : TextState) (result : Result ℕ MergeRefusal) → MergesShort t other result new
    → MergesShort t other result new' → new ≡ new'
one_short t other new new' (Ok count) merges merges' = absurd merges
one_short t other new new' (Err (Whole why)) merges merges' = absurd merges
one_short t other new new' (Err (Stopped some)) (can, few, taken) (can', few', taken') =
    one_taken_all t (take some (news t other)) new new' taken taken'

pub merge_one_way : MergesOneWay
merge_one_way = record {
  whole = λ t other new new' result result' is merges merges'.
      one_answer t other new new' result result' (answered t other result new merges)
      (answered t other result' new' merges');
  short = λ t other new new' result is merges merges'. one_short t other new new' result merges merges';
}
