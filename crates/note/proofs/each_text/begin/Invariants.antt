use Rattle.std.proofs.Common.{◌≡◌, ℕ, ◌+◌, ◌↔◌, [], Contains, length}
use Rattle.note_laws.specs.Note.{Note, Entries, IsOfBase}
use Rattle.note_admission.specs.Growing.{AreAdmitted}
use Rattle.note.specs.Texts.{EachText}
use Rattle.note.proofs.each_text.begin.Given as goal

abbrev pub invariant-loop-number : goal.invariant-loop-number
invariant-loop-number l = record {
  many : length l.texts.items + 1 ≡ l.number;
  numbers : EachText (λ k t. t.admission.text ≡ k + 1) l.texts.items;
  site : EachText (λ k t. t.replica.site ≡ l.site) l.texts.items;
  none : (note : Note) (entries : Entries) → entries.said ≡ []
      → ((site : ℕ) → Contains l.base site ↔ IsOfBase note site)
      → EachText (λ k t. AreAdmitted note entries t.admission []) l.texts.items;
}
