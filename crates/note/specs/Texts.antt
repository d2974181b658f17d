-- A text of a note: what is admitted of it, and the replica that takes that in.
use Rattle.std.specs.Prelude.{◌≡◌, ℕ, ◌<◌, ◌≤◌, List, [], length, slice_index_or, take, Bool, false, true, MatchOption, Option}
use Rattle.list_changes.specs.declared.change.Change.{Change}
use Rattle.texts.specs.Changes.{TellsOfChanges}
use Rattle.texts.specs.TextState.{TextState, all_told}
use Rattle.note_laws.specs.Note.{Note, Entries, Saying}
use Rattle.note_admission.specs.declared.text_admission.Unsettled.TheVariants.{Nothing}
use Rattle.note_hashes.specs.Hashes.{digest_of}
use Rattle.note_admission.specs.Growing.{AdmissionGrows, AreAdmitted, FollowsEntries, TextSeen}
use Rattle.note_admission.specs.Standing.{AreChainsOf, ChainsSeen}
use Rattle.note_replicas.specs.Following.{Advances, HasTakenJust, IsOfPlace}

-- What is seen of a text of a note: what is admitted of it, its replica, how many operations are known to be alike, and whether
-- the replica was begun anew since its changes were asked for.
pub record NoteText : Type 0 where
  pub admission : TextSeen
  pub replica : TextState
  pub alike : ℕ
  pub anew : Bool

-- the replica is of that text, and nothing waits in it; so many of its first operations are the first that are admitted
pub record IsFollowing (t : NoteText) : Type 0 where
  pub of_text : t.replica.text ≡ t.admission.text
  pub none_waits : t.replica.waiting_room ≡ []
  pub taken : t.alike ≤ length t.replica.operations
  pub admitted : t.alike ≤ length t.admission.ops
  pub same : take t.alike t.replica.operations ≡ take t.alike t.admission.ops

-- all that counts is admitted, and taken in
pub record IsUpToDate (t : NoteText) : Type 0 where
  pub settled : t.admission.unsettled ≡ Nothing
  pub taken : HasTakenJust t.replica t.admission.ops

-- it is a text of a note with these entries
abbrev pub IsTextOfNote : Note → Entries → NoteText → Type 0
IsTextOfNote note entries t = (admitted : List Saying) × AreAdmitted note entries t.admission admitted

-- it is the same site's copy of the same text
abbrev pub IsSameText : (old new : NoteText) → Type 0
IsSameText old new = (new.admission.text ≡ old.admission.text) × IsOfPlace old.replica new.replica

-- where its replica wasn't begun anew, that only took in more, and no change was told
abbrev pub KeepsNoting : (old new : NoteText) → Type 0
KeepsNoting old new = new.anew ≡ false → (old.anew ≡ false) × Advances old.replica new.replica

-- What changed since that was asked for, of a replica that wasn't begun anew since; all was told then.
abbrev pub ReportsChanges : (old : NoteText) → Option (List Change) → (new : NoteText) → Type 0
ReportsChanges old told new =
    (new ≡ record old { replica = all_told old.replica; anew = false })
    × MatchOption told (old.anew ≡ true) (λ changes. (old.anew ≡ false) × TellsOfChanges old.replica changes)

-- more is admitted of the same text
abbrev pub HasAdmittedMore : (key : List ℕ) (chains : ChainsSeen) (old new : NoteText) → Type 0
HasAdmittedMore key chains old new =
    AdmissionGrows (digest_of key) (λ note entries. AreChainsOf chains note entries) old.admission new.admission
    × IsSameText old new × KeepsNoting old new

-- what is admitted of the same text is what may be with more entries
abbrev pub HasFollowed : (site : ℕ) (MayLose : Saying → Type 0) (old new : NoteText) → Type 0
HasFollowed site MayLose old new = FollowsEntries old.admission new.admission site MayLose × IsSameText old new

-- the texts are so, each with its place
abbrev pub EachText : (ℕ → NoteText → Type 0) → List NoteText → Type 0
EachText so texts = (k : ℕ) (d : NoteText) → k < length texts → so k (slice_index_or texts k d)

-- so are the texts of both, one with the other
abbrev pub ArePairs : (NoteText → NoteText → Type 0) → (old new : List NoteText) → Type 0
ArePairs so old new =
    (k : ℕ) (d : NoteText) → k < length old → so (slice_index_or old k d) (slice_index_or new k d)
