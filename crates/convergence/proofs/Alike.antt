-- Texts that are alike, and answers that change nothing shown.
use Rattle.std.proofs.Common.{◌≡◌, ◌≢◌, ℕ, inl, inr, List, [], ◌∷◌, ◌++◌, length, nat_lt, Bool, true, false}
use Rattle.std.proofs.Common.{MatchBool, Result, Ok, Err, ap}
use Rattle.looks.specs.declared.refusal.Refusal.{Refusal}
use Rattle.looks.specs.declared.refusal.Refusal.TheVariants.{RoomFull}
use Rattle.operations.specs.Operation.{Operation}
use Rattle.set_laws.specs.Closure.{HasOneClosure}
use Rattle.set_laws.specs.Sets.{AreIdentified, UnionsAreSets}
use Rattle.waiting_room.specs.declared.room.TheConstants.{MAX_WAITING}
use Rattle.texts.specs.Laws.{MergesShowTheUnion, OperationsDetermineTheText}
use Rattle.texts.specs.Take.{Becomes, Stays, TakesIn}
use Rattle.texts.specs.TextState.{TextState, shown_of, with_room}
use Rattle.texts.specs.declared.fate.Fate.{Fate}
use Rattle.texts.specs.declared.fate.Fate.TheVariants.{OtherText, Known, Conflicting, AlreadyWaits, Wait}
use Rattle.texts.specs.declared.fate.Fate.TheVariants.{Misfit, LowStamp, Ready}
use Rattle.texts.specs.declared.took.Took.{Took}
use Rattle.texts.specs.declared.took.Took.TheVariants.{Taken, Waits}
use Rattle.convergence.specs.Headline.{KeptTextsAreAlike, MergesAreAlike, ShowsNothingNew, WhatWaitsShowsNothing}
use Rattle.convergence.specs.HandedIn.{WhatIsKeptIsClosed}

-- both have taken in the one closure
pub kept_alike : WhatIsKeptIsClosed → ((all : List Operation) → AreIdentified all → HasOneClosure all)
    → OperationsDetermineTheText → KeptTextsAreAlike
kept_alike closed one told t u all is is' keeps keeps' stay stay' =
    let closure = one all keeps.identified in
    let same = closure.only t.operations (closed t all is keeps stay) in
    let same' = closure.only u.operations (closed u all is' keeps' stay') in
    told t u is is' (λ op. (λ held. (same' op).1 ((same op).0 held), λ held. (same op).1 ((same' op).0 held)))

-- both have taken in the union
pub merges_alike : MergesShowTheUnion → ((a b c : List Operation) → UnionsAreSets a b c) → OperationsDetermineTheText
    → MergesAreAlike
merges_alike shows sets told t u t' u' n m is is' merges merges' =
    let union = shows t u t' n is is' merges in
    let union' = shows u t u' m is' is merges' in
    let swapped = (sets t.operations u.operations []).commutative in
    told t' u' merges.2.is merges'.2.is (λ op. (
      λ held. (union'.operations op).1 ((swapped op).0 ((union.operations op).0 held)),
      λ held. (union.operations op).1 ((swapped op).1 ((union'.operations op).0 held)),
    ))

-- one that was taken in isn't among the answers that show nothing new
not_taken : (result : Result Took Refusal) (n m : ℕ) (b : Bool) → ShowsNothingNew result → result ≢ Ok (Taken n m b)
not_taken result n m b (inl waits) taken = absurd (cc)
not_taken result n m b (inr (inl repeat)) taken = absurd (cc)
not_taken result n m b (inr (inr (why, refused))) taken = absurd (cc)

taken_shows : (t new : TextState) (op : Operation) (b : Bool) (result : Result Took Refusal)
    → ShowsNothingNew result → ¬ TakesIn t op b result new
taken_shows t new op b result nothing (with_op, n, m, taken, drains, answer) = not_taken result n m b nothing answer

entering_shows : (b : Bool) (t new : TextState) (room : List Operation) (result : Result Took Refusal)
    → MatchBool b ((result ≡ Ok Waits) × (new ≡ with_room t room)) (Stays t (Err RoomFull) result new)
    → shown_of new ≡ shown_of t
entering_shows true t new room result enters = ap shown_of enters.1
entering_shows false t new room result stays = ap shown_of stays.1

becoming_shows : (t new : TextState) (op : Operation) (f : Fate) (result : Result Took Refusal)
    → Becomes t op f result new → ShowsNothingNew result → shown_of new ≡ shown_of t
becoming_shows t new op OtherText result stays nothing = ap shown_of stays.1
becoming_shows t new op Known result stays nothing = ap shown_of stays.1
becoming_shows t new op Conflicting result stays nothing = ap shown_of stays.1
becoming_shows t new op AlreadyWaits result stays nothing = ap shown_of stays.1
becoming_shows t new op Wait result enters nothing =
    entering_shows (nat_lt (length t.waiting_room) MAX_WAITING) t new (t.waiting_room ++ op ∷ []) result enters
becoming_shows t new op Misfit result stays nothing = ap shown_of stays.1
becoming_shows t new op LowStamp result stays nothing = ap shown_of stays.1
becoming_shows t new op Ready result takes nothing = absurd (taken_shows t new op false result nothing takes)

pub nothing_new : WhatWaitsShowsNothing
nothing_new t new message result (inl (inl none)) nothing = ap shown_of none.1.1
nothing_new t new message result (inl (inr (op, f, tells, has, becomes))) nothing =
    becoming_shows t new op f result becomes nothing
nothing_new t new message result (inr (inl stays)) nothing = ap shown_of stays.1.1
nothing_new t new message result (inr (inr (op, tells, has, takes))) nothing =
    absurd (taken_shows t new op true result nothing takes)
