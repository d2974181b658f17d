-- Texts that took in what counts.
use Rattle.std.proofs.Common.{◌≡◌, ℕ, List, length, sym, subst}
use Rattle.std.proofs.Math.Seq.{take-length}
use Rattle.operations.specs.Operation.{Operation}
use Rattle.tree_order.specs.Good.{Good}
use Rattle.tree_order.specs.Laws.{AreSameSet, SaysTheSame}
use Rattle.tree_order.specs.Shown.{IsShown}
use Rattle.set_laws.specs.Closure.{IsClosure, IsGreatestGoodPart}
use Rattle.set_laws.specs.Sets.{AreIdentified, IsPartOf}
use Rattle.texts.specs.Draining.{AllStay}
use Rattle.texts.specs.Laws.{AreTextsAlike, GrownTextsKeepTheOrder, OperationsDetermineTheText, ShowsTheDefinition}
use Rattle.texts.specs.Text.{IsText}
use Rattle.texts.specs.TextState.{TextState, shown_of}
use Rattle.convergence.specs.HandedIn.{AccountsFor, WhatIsKeptIsClosed}
use Rattle.note_laws.specs.Note.{Note, Entries, Saying}
use Rattle.note_laws.specs.Chains.{operations}
use Rattle.note_laws.specs.Admission.{CountInTurn, IsAdmission}
use Rattle.note_laws.specs.Laws.{AddsNoLesser, AreAmong, AreEqualAdmissions, AreSameEntries, AreToldApart}
use Rattle.note_laws.specs.Laws.{CountAsGoodSet, IsBaseIdentified}
use Rattle.note_laws.proofs.OwnChain.{ops_within}
use Rattle.note_convergence.specs.Replicas.{HasOnlyGained, TookWhatCounts}

-- the set of entries decides what is admitted
abbrev EntriesDecide : Type 0
EntriesDecide = (note : Note) (entries others : Entries) (text : ℕ) (a b : List Saying) → IsBaseIdentified note
    → AreToldApart entries → AreSameEntries entries others → IsAdmission note entries text a
    → IsAdmission note others text b → AreEqualAdmissions a b

-- of the same text
of_text : (note : Note) (entries : Entries) (t u : TextState) → t.text ≡ u.text → (b : List Saying)
    → IsAdmission note entries u.text b → IsAdmission note entries t.text b
of_text note entries t u same b is = subst (λ (text : ℕ). IsAdmission note entries text b) (sym same) is

-- it has what any admission of the same entries has
took_all : EntriesDecide → (note : Note) (entries others : Entries) (t : TextState) (b : List Saying)
    → IsBaseIdentified note → AreToldApart entries → AreSameEntries entries others → TookWhatCounts note entries t
    → IsAdmission note others t.text b → AreSameSet t.operations (operations b)
took_all decide note entries others t b base told same took is op =
    let a = took.admitted in
    let equal = decide note entries others t.text a b base told same took.admission is in (
      λ held. ops_within a b (λ s. (equal.same s).0) op ((took.taken op).0 held),
      λ held. (took.taken op).1 (ops_within b a (λ s. (equal.same s).1) op held),
    )

pub alike : EntriesDecide → OperationsDetermineTheText → (note : Note) (entries others : Entries) (t u : TextState)
    → IsBaseIdentified note → AreToldApart entries → AreSameEntries entries others → t.text ≡ u.text
    → TookWhatCounts note entries t → TookWhatCounts note others u → AreTextsAlike t u
alike decide determine note entries others t u base told same text took took' =
    let all = took_all decide note entries others t took'.admitted base told same took
    (of_text note others t u text took'.admitted took'.admission) in
    determine t u took.is took'.is
    (λ op. (λ held. (took'.taken op).1 ((all op).0 held), λ held. (all op).1 ((took'.taken op).0 held)))

pub shown : EntriesDecide → ShowsTheDefinition → ((a b : List Operation) → AreSameSet a b → Good a → SaysTheSame a b)
    → (note : Note) (entries : Entries) (t : TextState) (b : List Saying) → IsBaseIdentified note
    → AreToldApart entries → TookWhatCounts note entries t → IsAdmission note entries t.text b
    → IsShown (operations b) (shown_of t)
shown decide define sets note entries t b base told took is =
    let same : AreSameEntries entries entries =
    record { claims = λ claim. (λ h. h, λ h. h); said = λ s. (λ h. h, λ h. h) } in
    let all = took_all decide note entries entries t b base told same took is in
    (sets t.operations (operations b) all took.is.good).shown (shown_of t) (define t took.is)

pub grown : ((note : Note) (entries more : Entries) (text : ℕ) (a b : List Saying) → IsBaseIdentified note
    → AreToldApart more → AddsNoLesser entries more → IsAdmission note entries text a → IsAdmission note more text b
    → AreAmong a b) → GrownTextsKeepTheOrder → (note : Note) (entries more : Entries) (t u : TextState)
    → IsBaseIdentified note → AreToldApart more → AddsNoLesser entries more → t.text ≡ u.text
    → TookWhatCounts note entries t → TookWhatCounts note more u → HasOnlyGained t u
grown stays keep note entries more t u base told adds text took took' =
    let a = took.admitted in
    let b = took'.admitted in
    let is = of_text note more t u text b took'.admission in
    let within = ops_within a b (stays note entries more t.text a b base told adds took.admission is) in
    let part : IsPartOf t.operations u.operations =
    λ op held. (took'.taken op).1 (within op ((took.taken op).0 held)) in
    record { operations = part; order = keep t u took.is took'.is part }

pub taken : ((note : Note) (entries : Entries) (text : ℕ) (a : List Saying) → CountInTurn note entries text a
    → CountAsGoodSet a) → WhatIsKeptIsClosed → ((all set : List Operation) → AreIdentified all → IsClosure all set
    → IsGreatestGoodPart all set) → (note : Note) (entries : Entries) (t : TextState) (a : List Saying)
    (handed : List Operation) → IsText t → IsAdmission note entries t.text a → AreSameSet handed (operations a)
    → AccountsFor t handed → AllStay t → TookWhatCounts note entries t
taken good closed greatest note entries t a handed text is same keeps stay =
    let part = greatest handed t.operations keeps.identified (closed t handed text keeps stay) in
    let whole = good note entries t.text a is.in_turn in
    let ops = operations a in
    let sound = subst Good (take-length ops) (whole.keep_causes (length ops)) in
    let all = part.greatest ops (λ op held. (same op).1 held) sound in
    record {
      is = text;
      admitted = a;
      admission = is;
      taken = λ op. (λ held. (same op).0 (part.within op held), λ held. all op held);
    }
