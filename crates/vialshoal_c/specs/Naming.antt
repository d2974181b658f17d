-- What the calls that edit by names answer and do.
use Rattle.std.specs.Prelude.{◌≡◌, ℕ, ◌+◌, ◌&&◌, Bool, nat_lt, nat_le, MatchBool, if◌then◌else◌, List, map}
use Rattle.std.specs.Prelude.{Option, Some, None, Result}
use Rattle.std.specs.List.{list_all}
use Rattle.char_files.specs.declared.TheConstants.{MAX_FILE}
use Rattle.operations.specs.NameSet.{Range}
use Rattle.set_laws.specs.Fronts.{file_len}
use Rattle.texts.specs.Named.{EditsByNamesSending}
use Rattle.texts.specs.TextState.{TextState}
use Rattle.texts.specs.declared.by_names.ByNames.{ByNames}
use Rattle.texts.specs.declared.edit_refusal.EditRefusal.{EditRefusal}
use Rattle.vialshoal_c.specs.Editing.{AnswersHanded, Numbered}
use Rattle.vialshoal_c.specs.Opened.{IsMisused}
use Rattle.vialshoal_c.specs.SessionState.{SessionState}
use Rattle.vialshoal_c.specs.declared.inputs.CharNames.{CharNames}
use Rattle.vialshoal_c.specs.declared.numbers.TheConstants.{NO_NAME, NO_NUMBER}

-- whether these are names: one at least, of a site, within its file
abbrev pub is_range : CharNames → Bool
is_range names = nat_lt 0 names.site && (nat_lt 0 names.len && nat_le (names.offset + names.len) MAX_FILE)

-- the names, as a replica takes them
abbrev pub replica_range : CharNames → Range
replica_range names = record { site = names.site; at = names.offset; len = names.len }

abbrev pub replica_ranges : List CharNames → List Range
replica_ranges names = map replica_range names

-- names as a replica takes them, if they are names
abbrev pub checked_range : CharNames → Option Range
checked_range names = if is_range names then Some (replica_range names) else None

-- whether these are names of characters: their site's file has them
abbrev pub is_here : TextState → CharNames → Bool
is_here t names = is_range names && nat_le (names.offset + names.len) (file_len t.operations names.site)

-- the text does this edit by names and answers it, and its message comes after those that are kept
abbrev pub AnswersNames : SessionState → ByNames → List CharNames → Result ℕ EditRefusal → SessionState → Type 0
AnswersNames s what names answer new =
    AnswersHanded names s (λ answer text sent. EditsByNamesSending s.text what (replica_ranges names) answer text s.sent sent) answer
    new

-- the same as numbers
abbrev pub NamesEdited : SessionState → ByNames → List CharNames → (number sent : ℕ) → SessionState → Type 0
NamesEdited s what names number sent new = Numbered (λ answer. AnswersNames s what names answer new) number sent

-- The same where all of them are names, and names of characters that were taken in; elsewhere nothing is done.
abbrev pub EditsSessionNames : SessionState → ByNames → List CharNames → (number sent : ℕ) → SessionState → Type 0
EditsSessionNames s what names number sent new =
    MatchBool (list_all is_range names)
    (MatchBool (list_all (is_here s.text) names) (NamesEdited s what names number sent new)
    (IsMisused NO_NAME s number new × (sent ≡ 0)))
    (IsMisused NO_NUMBER s number new × (sent ≡ 0))
