-- What the calls that feed a note answer and do.
use Rattle.std.specs.Prelude.{◌≡◌, ℕ, ◌&&◌, ◌⊎◌, nat_lt, if◌then◌else◌, List, MatchBool, MatchOption, Option, Some, None, Result, Ok, Err, IfErr, OnErr, OnOk}
use Rattle.looks.specs.Refusal.{RefusedForMemoryAlone, number_of}
use Rattle.looks.specs.declared.refusal.Refusal.{Refusal}
use Rattle.looks.specs.declared.refusal.Refusal.TheVariants.{Malformed, OutOfMemory}
use Rattle.note_laws.specs.Note.{Claim, Saying}
use Rattle.note_entries.specs.Bytes.{hash_bytes, hash_of}
use Rattle.note_bodies.specs.Bodies.{AreMessagesOf}
use Rattle.note_bodies.specs.declared.messages.Head.{Head}
use Rattle.note.specs.Notes.{KeepsEntries, ShowsWhatCounts, TakesClaim, TakesEntry, TakesSomeOf}
use Rattle.vialshoal_c.specs.NoteState.{NoteState}
use Rattle.vialshoal_c.specs.Opened.{IsMisused}
use Rattle.vialshoal_c.specs.declared.inputs.EntryHead.{EntryHead}
use Rattle.vialshoal_c.specs.declared.inputs.NoteHash.{NoteHash}
use Rattle.vialshoal_c.specs.declared.numbers.TheConstants.{NO_NUMBER}

-- a head as a note takes it, if its numbers are those of a site and a text
abbrev pub head_given : EntryHead → Option Head
head_given h = if nat_lt 0 h.site && nat_lt 0 h.text
    then Some (record {
      author = hash_of h.author.bytes;
      site = h.site;
      text = h.text;
      first = h.first;
      count = h.count;
      before = hash_of h.before.bytes;
    })
    else None

-- a head, as C sees it
abbrev pub c_head : Head → EntryHead
c_head h = record {
  author = record { bytes = hash_bytes h.author };
  before = record { bytes = hash_bytes h.before };
  first = h.first;
  count = h.count;
  site = h.site;
  text = h.text;
}

-- the claim of these
abbrev pub claim_of : NoteHash → (site : ℕ) → NoteHash → Claim
claim_of author site rank = record { author = hash_of author.bytes; site = site; rank = hash_of rank.bytes }

-- the number that says what became of it
abbrev pub number_of_done : Result (Unit {0}) Refusal → ℕ
number_of_done (Ok done) = 0
number_of_done (Err why) = number_of why

-- a claim came, or memory was refused
pub record TakesClaimOf (s : NoteState) (claim : Claim) (number : ℕ) (new : NoteState) : Type 0 where
  pub done : Result (Unit {0}) Refusal
  pub number_is : number ≡ number_of_done done
  pub came : OnOk done (TakesClaim s.note claim new.note)
  pub stays : OnErr done (new.note ≡ s.note)
  pub memory : RefusedForMemoryAlone done
  pub told : new.told ≡ s.told

-- the same of these, if the number is a site's
abbrev pub ClaimsNumber : NoteState → NoteHash → (site : ℕ) → NoteHash → (number : ℕ) → NoteState → Type 0
ClaimsNumber s author site rank number new =
    MatchBool (nat_lt 0 site) (TakesClaimOf s (claim_of author site rank) number new) (IsMisused NO_NUMBER s number new)

-- An entry of messages came; or the body isn't one of such an entry; or memory was refused, where a part may have come.
pub record TakesEntryOf (s : NoteState) (head : Head) (body : List ℕ) (number : ℕ) (new : NoteState) : Type 0 where
  pub done : Result (Unit {0}) Refusal
  pub number_is : number ≡ number_of_done done
  pub came : OnOk done (TakesEntry s.note head body new.note)
  pub malformed : done ≡ Err Malformed
      → (new.note ≡ s.note) × ((sayings : List Saying) → ¬ AreMessagesOf s.note.key head body sayings)
  pub part : OnErr done (TakesSomeOf s.note head body new.note)
  pub errors : IfErr done (λ why. (why ≡ Malformed) ⊎ (why ≡ OutOfMemory))
  pub told : new.told ≡ s.told

-- the same of a head as C gives it, if its numbers are those of a site and a text
abbrev pub AddsEntry : NoteState → EntryHead → (body : List ℕ) → (number : ℕ) → NoteState → Type 0
AddsEntry s head body number new =
    MatchOption (head_given head) (IsMisused NO_NUMBER s number new) (λ h. TakesEntryOf s h body number new)

-- no more entries came, and what counts is shown, unless memory was refused
pub record Updates (s : NoteState) (number : ℕ) (new : NoteState) : Type 0 where
  pub done : Result (Unit {0}) Refusal
  pub number_is : number ≡ number_of_done done
  pub shows : OnOk done (ShowsWhatCounts new.note)
  pub keeps : KeepsEntries s.note new.note
  pub memory : RefusedForMemoryAlone done
  pub told : new.told ≡ s.told
