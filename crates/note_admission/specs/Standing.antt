-- Who stands in a note's chains.
use Rattle.std.specs.Prelude.{◌≡◌, ◌≢◌, ℕ, List, Option, Some}
use Rattle.std.specs.Option.{option_map_or}
use Rattle.note_laws.specs.Note.{Note, Entries, Saying}
use Rattle.note_laws.specs.Laws.{AreSameSayings, AreToldApart, IsBaseIdentified}
use Rattle.note_entries.specs.Kept.{AreKeptOf}
use Rattle.note_admission.specs.Base.{HasSite}
use Rattle.note_admission.specs.declared.note_chains.Opening.{Opening}

-- what is seen of a note's chains: what it begins with, and what is kept of its entries
pub record ChainsSeen : Type 0 where
  pub opening : Opening
  pub base : List Saying
  pub kept : Entries

-- the number of the founder, 0 where he has none
abbrev pub founder_number : Option ℕ → ℕ
founder_number number = option_map_or (λ n. n) number 0

-- the note begins with this
pub record BeginsNote (opening : Opening) (note : Note) : Type 0 where
  pub founder : note.founder ≡ opening.founder
  pub number : note.number ≡ founder_number opening.number

-- they are of this note and these entries
pub record AreChainsOf (chains : ChainsSeen) (note : Note) (entries : Entries) : Type 0 where
  pub opens : BeginsNote chains.opening note
  pub identified : IsBaseIdentified note
  pub base : AreSameSayings note.base chains.base
  pub told : AreToldApart entries
  pub kept : AreKeptOf entries chains.kept

-- a claim can take the number: the base has no messages of it, and it isn't the founder's
abbrev pub CanBeClaimed : ChainsSeen → ℕ → Type 0
CanBeClaimed chains site = (¬ HasSite chains.base site) × (chains.opening.number ≢ Some site)
