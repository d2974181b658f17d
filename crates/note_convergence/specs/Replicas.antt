-- Replicas that took in what counts of a note.
use Rattle.std.specs.Prelude.{List}
use Rattle.tree_order.specs.Laws.{AreSameSet}
use Rattle.set_laws.specs.Sets.{IsPartOf}
use Rattle.texts.specs.Laws.{KeepsTheOrder}
use Rattle.texts.specs.Text.{IsText}
use Rattle.texts.specs.TextState.{TextState}
use Rattle.note_laws.specs.Note.{Note, Entries, Saying}
use Rattle.note_laws.specs.Chains.{operations}
use Rattle.note_laws.specs.Admission.{IsAdmission}

-- a replica that took in what is admitted of its text, in whatever order, and nothing else
pub record TookWhatCounts (note : Note) (entries : Entries) (t : TextState) : Type 0 where
  pub is : IsText t
  pub admitted : List Saying
  pub admission : IsAdmission note entries t.text admitted
  pub taken : AreSameSet t.operations (operations admitted)

-- the second has the operations of the first, and the characters of the first in their order
pub record HasOnlyGained (t u : TextState) : Type 0 where
  pub operations : IsPartOf t.operations u.operations
  pub order : KeepsTheOrder t u
