-- Two admissions of the same entries are alike.
use Rattle.std.proofs.Common.{ℕ, List}
use Rattle.operations.specs.Operation.{Operation}
use Rattle.tree_order.specs.Good.{Good}
use Rattle.tree_order.specs.Laws.{AreSameSet, SaysTheSame}
use Rattle.note_laws.specs.Note.{Note, Entries, Saying}
use Rattle.note_laws.specs.Chains.{operations}
use Rattle.note_laws.specs.Admission.{IsAdmission}
use Rattle.note_laws.specs.Laws.{AreEqualAdmissions, AreAmong, AreSameEntries, AreToldApart, IsBaseIdentified}
use Rattle.note_laws.proofs.Adding.{places_stay, same_adds, same_back, same_told}
use Rattle.note_laws.proofs.InTurn.{sound_whole}
use Rattle.note_laws.proofs.OwnChain.{ops_within}
use Rattle.note_laws.proofs.Staying.{all_stays}

-- one has what the other has
within_other : (note : Note) (entries others : Entries) (text : ℕ) (a b : List Saying) → IsBaseIdentified note
    → AreToldApart others → AreSameEntries entries others → IsAdmission note entries text a
    → IsAdmission note others text b → AreAmong a b
within_other note entries others text a b base told same is is' =
    all_stays note entries others text a b is.in_turn base told
    (places_stay note entries others text a (same_adds entries others same) is.in_turn) is'

pub alike : ((a b : List Operation) → AreSameSet a b → Good a → SaysTheSame a b)
    → (note : Note) (entries others : Entries) (text : ℕ) (a b : List Saying) → IsBaseIdentified note
    → AreToldApart entries → AreSameEntries entries others → IsAdmission note entries text a
    → IsAdmission note others text b → AreEqualAdmissions a b
alike law note entries others text a b base told same is is' =
    let to : AreAmong a b =
    within_other note entries others text a b base (same_told entries others same told) same is is' in
    let back : AreAmong b a =
    within_other note others entries text b a base told (same_back entries others same) is' is in
    record {
      same = λ s. (to s, back s);
      show = law (operations a) (operations b) (λ op. (ops_within a b to op, ops_within b a back op))
          (sound_whole note entries text a is.in_turn).good;
    }
