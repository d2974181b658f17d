-- What is admitted of a text as it grows.
use Rattle.std.specs.Prelude.{◌≡◌, ℕ, ◌⊎◌, List, ◌++◌, length, Bool, true, Contains, Some, slice_get}
use Rattle.operations.specs.Operation.{Operation}
use Rattle.tree_order.specs.Good.{Good}
use Rattle.set_laws.specs.Fronts.{front_of}
use Rattle.set_laws.specs.Sets.{AreIdentified}
use Rattle.set_laws.specs.Verdict.{FollowsOn, IsNew}
use Rattle.note_laws.specs.Note.{Note, Entries, Saying}
use Rattle.note_laws.specs.Chains.{operations, ComesNext, HoldsItsPlace}
use Rattle.note_laws.specs.Admission.{CountInTurn, Fate, IsAdmissible, MeetsFate}
use Rattle.note_laws.specs.Laws.{AreAmong, AreReadyInTurn, AreToldApart, IsBaseIdentified, KeepsItsFate}
use Rattle.note_admission.specs.declared.text_admission.Unsettled.{Unsettled}
use Rattle.note_admission.specs.declared.text_admission.Unsettled.TheVariants.{Nothing, One, Any}
use Rattle.note_admission.specs.Kept.{IsKeptOf, Kept}

-- a good set of a text's operations under one identity each, each ready over those before it, with a hash of each
pub record IsSoundLog (text : ℕ) (ops : List Operation) (hashes : List ℕ) : Type 0 where
  pub in_turn : AreReadyInTurn text ops
  pub good : Good ops
  pub known : AreIdentified ops
  pub whole : length hashes ≡ length ops

-- the operation is the next one of a text and a number
pub record IsNextOfNumber (text : ℕ) (ops : List Operation) (site : ℕ) (op : Operation) : Type 0 where
  pub of_text : op.text ≡ text
  pub of_site : op.site ≡ site
  pub new : IsNew ops op
  pub follows : FollowsOn ops op

-- the digest is the note's, the chains are of it and its entries, in which hashes and ranks tell apart
pub record AreOfNote (note : Note) (entries : Entries) (digest : List ℕ → ℕ) (of : Note → Entries → Type 0) : Type 0 where
  pub same_digest : note.digest ≡ digest
  pub same_chains : of note entries
  pub base : IsBaseIdentified note
  pub told : AreToldApart entries

-- what is seen of a text's admission: its number, the operations of what is admitted, the tables, the numbers that have
-- messages, and of which of them the next message may count
pub record TextSeen : Type 0 where
  pub text : ℕ
  pub ops : List Operation
  pub kept : Kept
  pub sites : List ℕ
  pub unsettled : Unsettled

-- these messages are admitted: they count in turn; the log has their operations, the tables are theirs
pub record AreTaken (note : Note) (entries : Entries) (t : TextSeen) (admitted : List Saying) : Type 0 where
  pub in_turn : CountInTurn note entries t.text admitted
  pub logged : operations admitted ≡ t.ops
  pub tables : IsKeptOf note admitted t.kept

-- the operation of this identity stands where the hash stands
abbrev pub IsHashOf : List Operation → List ℕ → (site seq hash : ℕ) → Type 0
IsHashOf ops hashes site seq hash =
    (place : ℕ) × (op : Operation) × (slice_get ops place ≡ Some op) × (op.site ≡ site) × (op.seq ≡ seq)
    × (slice_get hashes place ≡ Some hash)

-- the hash is that of the number's last message of these, 0 where there is none
pub record IsLastHash (admitted : List Saying) (site hash : ℕ) : Type 0 where
  pub some : (p : Saying) → Contains admitted p → p.op.site ≡ site → p.op.seq ≡ front_of (operations admitted) site
      → hash ≡ p.hash
  pub none : front_of (operations admitted) site ≡ 0 → hash ≡ 0

-- the number's next message has this hash, and this becomes of it
abbrev pub IsHeadOfChain : Note → Entries → (text : ℕ) → List Saying → (site hash : ℕ) → Fate → Type 0
IsHeadOfChain note entries text admitted site hash fate =
    (s : Saying) × ComesNext note entries text admitted s × (s.op.site ≡ site) × (s.hash ≡ hash)
    × MeetsFate note admitted s fate

-- whichever message of the number comes next has this hash, and this fate alone
abbrev pub IsOnlyHead : Note → Entries → (text : ℕ) → List Saying → (site hash : ℕ) → Fate → Type 0
IsOnlyHead note entries text admitted site hash fate =
    (s : Saying) (other : Fate) → ComesNext note entries text admitted s → s.op.site ≡ site → MeetsFate note admitted s other
    → (s.hash ≡ hash) × (other ≡ fate)

-- what comes next and has this fate has it over each greater admission in which it keeps its place
abbrev pub LastsWhereItKeepsItsPlace : Note → Entries → (text : ℕ) → List Saying → Fate → Type 0
LastsWhereItKeepsItsPlace note entries text admitted fate =
    (more : Entries) (greater : List Saying) (s : Saying) → AreToldApart more → CountInTurn note more text greater
    → AreAmong admitted greater → KeepsItsFate note entries more text admitted greater s fate

-- no message of this number is next
abbrev pub HasNoNext : Note → Entries → (text : ℕ) → List Saying → (site : ℕ) → Type 0
HasNoNext note entries text admitted site =
    (s : Saying) → s.op.site ≡ site → ¬ ComesNext note entries text admitted s

-- no message of this number counts next
abbrev pub NoneCounts : Note → Entries → ℕ → List Saying → ℕ → Type 0
NoneCounts note entries text admitted site =
    (s : Saying) → s.op.site ≡ site → ¬ IsAdmissible note entries text admitted s

-- the next message of this number may count
abbrev pub MayCount : Unsettled → ℕ → Type 0
MayCount Nothing site = ⊥
MayCount (One chain) site = site ≡ chain
MayCount Any site = Unit {0}

-- the first state's messages are admitted in the second, too, and perhaps more
abbrev pub TakesOn : (digest : List ℕ → ℕ) (of : Note → Entries → Type 0) (old new : TextSeen) → Type 0
TakesOn digest of old new =
    (note : Note) (entries : Entries) (admitted : List Saying) → AreOfNote note entries digest of
    → AreTaken note entries old admitted → (more : List Saying) × AreTaken note entries new (admitted ++ more)

-- until none of this number counts next
abbrev pub TakesAllOfNumber : (digest : List ℕ → ℕ) (of : Note → Entries → Type 0) (old new : TextSeen) (site : ℕ) → Type 0
TakesAllOfNumber digest of old new site =
    (note : Note) (entries : Entries) (admitted : List Saying) → AreOfNote note entries digest of
    → AreTaken note entries old admitted → (more : List Saying) × AreTaken note entries new (admitted ++ more)
    × NoneCounts note entries new.text (admitted ++ more) site

-- none of this number counts next over what is admitted
abbrev pub TakesNone : (digest : List ℕ → ℕ) (of : Note → Entries → Type 0) (t : TextSeen) (site : ℕ) → Type 0
TakesNone digest of t site =
    (note : Note) (entries : Entries) (admitted : List Saying) → AreOfNote note entries digest of
    → AreTaken note entries t admitted → NoneCounts note entries t.text admitted site

-- the message came, or is of the base
abbrev pub HasCome : Note → Entries → Saying → Type 0
HasCome note entries s = Contains note.base s ⊎ Contains entries.said s

-- what is admitted, where each number with messages is known, and none counts next but of unsettled ones
pub record AreAdmitted (note : Note) (entries : Entries) (t : TextSeen) (admitted : List Saying) : Type 0 where
  pub taken : AreTaken note entries t admitted
  pub known : (s : Saying) → HasCome note entries s → s.op.text ≡ t.text → Contains t.sites s.op.site
  pub rest : (s : Saying) → IsAdmissible note entries t.text admitted s → MayCount t.unsettled s.op.site

-- so it grows, as long as entries are the same
abbrev pub AdmissionGrows : (digest : List ℕ → ℕ) (of : Note → Entries → Type 0) (old new : TextSeen) → Type 0
AdmissionGrows digest of old new =
    (note : Note) (entries : Entries) (admitted : List Saying) → AreOfNote note entries digest of
    → AreAdmitted note entries old admitted → (more : List Saying) × AreAdmitted note entries new (admitted ++ more)

-- of the text's messages that hold their places with more entries, all that did not are of this number
abbrev pub AddsOf : Note → (entries more : Entries) → (text site : ℕ) → Type 0
AddsOf note entries more text site =
    (s : Saying) → HoldsItsPlace note more s → s.op.text ≡ text → HoldsItsPlace note entries s ⊎ (s.op.site ≡ site)

-- with the same entries the same is admitted
abbrev pub StaysAdmitted : (old new : TextSeen) → Type 0
StaysAdmitted old new =
    (note : Note) (entries : Entries) (admitted : List Saying) → AreAdmitted note entries old admitted
    → AreAdmitted note entries new admitted

-- of the text's messages that came, too, with more entries, all are of numbers that are known
abbrev pub AreKnown : (entries more : Entries) → TextSeen → Type 0
AreKnown entries more t =
    (s : Saying) → Contains more.said s → s.op.text ≡ t.text → Contains entries.said s ⊎ Contains t.sites s.op.site

-- With more entries, by which of what was admitted these messages alone may lose their places, and no other number's
-- message gets one, what is admitted is the same, or anew nothing yet.
abbrev pub FollowsEntries : (old new : TextSeen) (site : ℕ) (MayLose : Saying → Type 0) → Type 0
FollowsEntries old new site MayLose =
    (note : Note) (entries more : Entries) (admitted : List Saying) → AreAdmitted note entries old admitted
    → AreKnown entries more old → AddsOf note entries more old.text site
    → ((s : Saying) → Contains admitted s → ¬ MayLose s → HoldsItsPlace note more s)
    → (now : List Saying) × AreAdmitted note more new now

-- a message of the number and seq, if another took its place
abbrev pub IsReplaced : (lost : Bool) (site seq : ℕ) → Saying → Type 0
IsReplaced lost site seq s = (lost ≡ true) × (s.op.site ≡ site) × (s.op.seq ≡ seq)

-- a message of the number, if another took it
abbrev pub IsOfLost : (lost : Bool) (site : ℕ) → Saying → Type 0
IsOfLost lost site s = (lost ≡ true) × (s.op.site ≡ site)

-- the log goes on, or begins anew
abbrev pub GoesOnOrAnew : (anew : Bool) (old new : TextSeen) → Type 0
GoesOnOrAnew anew old new = (anew ≡ true) ⊎ (new.ops ≡ old.ops)

-- the log only grew
abbrev pub LogGoesOn : (old new : TextSeen) → Type 0
LogGoesOn old new = (more : List Operation) × (new.ops ≡ old.ops ++ more)
