-- What counts of a note's messages, text by text.
use Rattle.std.specs.Prelude.{◌≡◌, ◌≢◌, ℕ, ◌+◌, ◌^◌, ◌<◌, ◌≤◌, ◌⊎◌, ◌↔◌, List, [], ◌∷◌, take, slice_get, Contains}
use Rattle.std.specs.Prelude.{Option, Some, None, IsSome, AllPairs}
use Rattle.std.specs.List.{AllZip}
use Rattle.char_files.specs.CharName.{CharName}
use Rattle.operations.specs.Operation.{Inserts, Mentions}
use Rattle.tree_order.specs.Good.{IsPredecessor}
use Rattle.set_laws.specs.Fronts.{greatest_stamp}
use Rattle.set_laws.specs.Verdict.{FitsFile, HasForeignNames, IsAboveCauses}
use Rattle.note_laws.specs.Note.{Note, Entries, Saying, IsOfBase}
use Rattle.note_laws.specs.Chains.{operations, ComesNext}

-- how far above the greatest stamp a message's may be
abbrev pub MAX_LEAP : ℕ
MAX_LEAP = 2 ^ 20

-- the message mentions this character of another number, not of the base, and it lies beyond all of that number's that
-- its chain mentioned before
pub record MentionsBeyond (note : Note) (admitted : List Saying) (s : Saying) (name : CharName) : Type 0 where
  pub mentioned : Mentions s.op name
  pub foreign : name.site ≢ s.op.site
  pub not_of_base : ¬ IsOfBase note name.site
  pub beyond : (p : Saying) (seen : CharName) → Contains admitted p → p.op.site ≡ s.op.site → Mentions p.op seen
      → seen.site ≡ name.site → seen.off < name.off

-- and it is the last one of that number that the message mentions
pub record IsLastBeyond (note : Note) (admitted : List Saying) (s : Saying) (name : CharName) : Type 0 where
  pub beyond : MentionsBeyond note admitted s name
  pub last : (other : CharName) → Mentions s.op other → other.site ≡ name.site → other.off ≤ name.off

-- such a message says what it builds on, no other does
abbrev pub SaysWhereItMust : Note → List Saying → Saying → Type 0
SaysWhereItMust note admitted s = IsSome s.on ↔ (name : CharName) × MentionsBeyond note admitted s name

-- an admitted message with this hash inserted the character
abbrev pub IsInsertedBy : List Saying → CharName → ℕ → Type 0
IsInsertedBy admitted name hash = (i : Saying) × Contains admitted i × Inserts i.op name × (i.hash ≡ hash)

-- what is said of hashes: their digest, nothing of none
abbrev pub said_of : (List ℕ → ℕ) → List ℕ → Option ℕ
said_of digest [] = None
said_of digest (hash ∷ hashes) = Some (digest (hash ∷ hashes))

-- it says the hashes of the admitted messages that inserted the last characters beyond, by rising number
pub record BuildsOn (note : Note) (admitted : List Saying) (s : Saying) : Type 0 where
  pub lasts : List CharName
  pub all : (name : CharName) → Contains lasts name ↔ IsLastBeyond note admitted s name
  pub rising : AllPairs (λ a b. a.site < b.site) lasts
  pub hashes : List ℕ
  pub inserted : AllZip (IsInsertedBy admitted) lasts hashes
  pub says : s.on ≡ said_of note.digest hashes

-- its stamp is above the last one's of its chain, it fits its number's file, and says what it builds on where it must
pub record IsWellMade (note : Note) (admitted : List Saying) (s : Saying) : Type 0 where
  pub above : (p : Saying) → Contains admitted p → IsPredecessor p.op s.op → p.op.stamp < s.op.stamp
  pub fits : FitsFile (operations admitted) s.op
  pub says : SaysWhereItMust note admitted s

-- its stamp isn't far above all that are admitted
abbrev pub IsInReach : List Saying → Saying → Type 0
IsInReach admitted s = s.op.stamp ≤ greatest_stamp (operations admitted) + MAX_LEAP

-- what becomes of the next message of a chain: it counts, it is wrong, it waits for greater stamps, it lacks
-- characters, or it builds on messages that don't count
pub data Fate : Type 0 where
  counts : Fate
  wrong : Fate
  held_back : Fate
  lacks : Fate
  on_others : Fate

-- The first of these that fails decides: it is well made, its stamp is in reach, the characters of others that it
-- mentions are here, it builds on admitted messages, its stamp is above those of its causes.
abbrev pub MeetsFate : Note → List Saying → Saying → Fate → Type 0
MeetsFate note admitted s counts =
    IsWellMade note admitted s × IsInReach admitted s × HasForeignNames (operations admitted) s.op
    × BuildsOn note admitted s × IsAboveCauses (operations admitted) s.op
MeetsFate note admitted s wrong =
    (¬ IsWellMade note admitted s)
    ⊎ (IsWellMade note admitted s × IsInReach admitted s × HasForeignNames (operations admitted) s.op
    × BuildsOn note admitted s × (¬ IsAboveCauses (operations admitted) s.op))
MeetsFate note admitted s held_back = IsWellMade note admitted s × (¬ IsInReach admitted s)
MeetsFate note admitted s lacks =
    IsWellMade note admitted s × IsInReach admitted s × (¬ HasForeignNames (operations admitted) s.op)
MeetsFate note admitted s on_others =
    IsWellMade note admitted s × IsInReach admitted s × HasForeignNames (operations admitted) s.op
    × (¬ BuildsOn note admitted s)

-- it is the next message of a chain, and counts over those that are admitted
abbrev pub IsAdmissible : Note → Entries → ℕ → List Saying → Saying → Type 0
IsAdmissible note entries text admitted s = ComesNext note entries text admitted s × MeetsFate note admitted s counts

-- each message counts over those before it
abbrev pub CountInTurn : Note → Entries → ℕ → List Saying → Type 0
CountInTurn note entries text admitted =
    (n : ℕ) (s : Saying) → slice_get admitted n ≡ Some s → IsAdmissible note entries text (take n admitted) s

-- what is admitted of a text: messages that count in turn, until none is left that counts
pub record IsAdmission (note : Note) (entries : Entries) (text : ℕ) (admitted : List Saying) : Type 0 where
  pub in_turn : CountInTurn note entries text admitted
  pub full : (s : Saying) → IsAdmissible note entries text admitted s → ⊥
