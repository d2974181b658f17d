-- Which message holds a place in a chain.
use Rattle.std.specs.Prelude.{◌≡◌, ℕ, ◌⊎◌, Contains}
use Rattle.note_laws.specs.Note.{Note, Entries, Saying}
use Rattle.note_laws.specs.Chains.{HoldsItsPlace}

-- the message holds this place of a chain, after one of this hash
pub record StandsInChain (note : Note) (entries : Entries) (text site seq before : ℕ) (s : Saying) : Type 0 where
  pub of_text : s.op.text ≡ text
  pub of_site : s.op.site ≡ site
  pub of_seq : s.op.seq ≡ seq
  pub holds : HoldsItsPlace note entries s
  pub follows : Contains note.base s ⊎ (s.before ≡ before)
