-- Several messages that came, one after the other.
use Rattle.std.proofs.Common.{◌≡◌, ◌<◌, length, slice_index_or, arith, List, [], ◌∷◌, ◌++◌, sym, ap, subst, ◌∙◌}
use Rattle.std.proofs.lemmas.List.{append-nil, append_assoc}
use Rattle.std.proofs.lemmas.List.Elements.{Contains-append_left}
use Rattle.note_laws.specs.Note.{Entries, Saying}
use Rattle.note_laws.specs.Laws.{AreToldApart}
use Rattle.note_entries.specs.Kept.{with_saying}
use Rattle.note.specs.Notes.{IsOfEntries, KeepsEntries, NoteSeen, TakesSaying, TakesSayings, with_sayings}
use Rattle.note.specs.Texts.{ArePairs, IsSameText, NoteText}
use Rattle.note.proofs.Following.{place_then}

-- none but those that came before
none_more : (entries : Entries) → with_sayings entries [] ≡ entries
none_more entries = ap (λ (said : List Saying). record entries { said = said }) (append-nil entries.said)

pub takes_none : (n : NoteSeen) → TakesSayings n [] n
takes_none n note entries told is = subst (IsOfEntries n note) (sym (none_more entries)) is

-- one more behind others
one_behind : (entries : Entries) (came : List Saying) (s : Saying)
    → with_saying (with_sayings entries came) s ≡ with_sayings entries (came ++ s ∷ [])
one_behind entries came s =
    ap (λ (said : List Saying). record entries { said = said }) (append_assoc entries.said came (s ∷ []))

-- what is told apart is so without the last one
told_before : (entries : Entries) (s : Saying) → AreToldApart (with_saying entries s) → AreToldApart entries
told_before entries s told = record {
  hashes = λ a b has_a has_b same.
      told.hashes a b (Contains-append_left entries.said (s ∷ []) a has_a) (Contains-append_left entries.said (s ∷ []) b has_b) same;
  ranks = told.ranks;
}

pub takes_one_more : (old mid new : NoteSeen) (came : List Saying) (s : Saying) → TakesSayings old came mid
    → TakesSaying mid s new → TakesSayings old (came ++ s ∷ []) new
takes_one_more old mid new came s before last note entries told is =
    let apart = subst AreToldApart (sym (one_behind entries came s)) told in
    subst (IsOfEntries new note) (one_behind entries came s)
    (last note (with_sayings entries came) apart
    (before note entries (told_before (with_sayings entries came) s apart) is))

pub takes_still : (old mid new : NoteSeen) (came : List Saying) → TakesSayings old came mid → KeepsEntries mid new
    → TakesSayings old came new
takes_still old mid new came before keeps note entries told is = keeps note (with_sayings entries came) (before note entries told is)

-- each text stays the same site's copy of the same text, then too
pub pairs_then : (old mid new : List NoteText) → length mid ≡ length old → ArePairs (λ was t. IsSameText was t) old mid
    → ArePairs (λ was t. IsSameText was t) mid new → ArePairs (λ was t. IsSameText was t) old new
pairs_then old mid new many first next k d lt =
    let within : k < length mid = omega arith in
    let was = first k d lt in
    let now = next k d within in
    (now.0 ∙ was.0, place_then (slice_index_or old k d).replica (slice_index_or mid k d).replica (slice_index_or new k d).replica was.1 now.1)
