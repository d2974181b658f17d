-- Messages after their lengths, whatever they tell.
use Rattle.std.proofs.Common.{◌≡◌, ℕ, ◌+◌, ◌<◌, List, [], ◌∷◌, ◌++◌, length, map, Option, Some, None, refl, sym, ap, subst, ◌∙◌}
use Rattle.std.proofs.Common.{append_assoc, length-append, arith}
use Rattle.std.specs.Prelude.{All, Contains}
use Rattle.std.specs.List.{flat_map}
use Rattle.std.proofs.lemmas.List.{append-nil, flat_map_more, length-map}
use Rattle.std.proofs.lemmas.List.Elements.{All-cons, All-contains, All-head, All-nil, All-push, All-tail, Contains-append_right}
use Rattle.operations.specs.Operation.{Operation}
use Rattle.operations.specs.Spelling.{HasSpelling, spelling}
use Rattle.byte_fields.proofs.Readers.{IsBytes}
use Rattle.texts.specs.SiteFiles.{entry_spelling, site_tag}
use Rattle.kept_file.specs.declared.site_file.reading.CountedHead.{CountedHead}
use Rattle.kept_file.specs.SiteParts.{AreEntries, AreMessages, IsCutAsFile, IsShort, counted_at, counted_spelling, message_at, message_spelling}
use Rattle.kept_file.proofs.Entries.{messages_told}
use Rattle.kept_file.proofs.SiteFields.{counted_reads, message_reads}
use Rattle.kept_file.proofs.Lengths.{spelling_fits}

-- so many messages were found; the bytes that are left
pub record FoundSoFar (entries : List ℕ) (n : ℕ) (rest : List ℕ) : Type 0 where
  pub done : List (List ℕ)
  pub counted : length done ≡ n
  pub short : All IsShort done
  pub parts : entries ≡ flat_map message_spelling done ++ rest

pub none_found_yet : (entries : List ℕ) → FoundSoFar entries 0 entries
none_found_yet entries = record { done = []; counted = refl; short = All-nil IsShort; parts = refl }

pub one_found : (entries : List ℕ) (n : ℕ) (rest message after : List ℕ) → FoundSoFar entries n rest → IsShort message
    → rest ≡ message_spelling message ++ after → FoundSoFar entries (n + 1) after
one_found entries n rest message after s short e = record {
  done = s.done ++ message ∷ [];
  counted = omega (arith, length-append s.done (message ∷ []), s.counted);
  short = All-push IsShort s.done message s.short short;
  parts =
      s.parts ∙ ap (λ (r : List ℕ). flat_map message_spelling s.done ++ r) e
      ∙ sym (append_assoc (flat_map message_spelling s.done) (message_spelling message) after)
      ∙ ap (λ (l : List ℕ). l ++ after) (flat_map_more message_spelling [] s.done message);
}

-- all were found
pub all_found : (entries : List ℕ) (n count : ℕ) (rest : List ℕ) → FoundSoFar entries n rest → n ≡ count → rest ≡ []
    → (messages : List (List ℕ)) × AreMessages messages count entries
all_found entries n count rest s all none = (
  s.done,
  record {
    counted = s.counted ∙ all;
    short = s.short;
    parts =
        s.parts ∙ ap (λ (r : List ℕ). flat_map message_spelling s.done ++ r) none
        ∙ append-nil (flat_map message_spelling s.done);
  },
)

-- where the bytes are so many messages
module _ (entries : List ℕ) (n : ℕ) (rest : List ℕ) (s : FoundSoFar entries n rest) (messages : List (List ℕ)) (count : ℕ)
    (are : AreMessages messages count entries) where
  -- there is a next one until all were found
  pub next_found : n < count → message_at rest ≡ None → ⊥
  next_found lt none =
      let counted = s.counted in
      let len = are.counted in
      let found = messages_told s.done messages rest s.short are.short (omega (arith, counted, len, lt)) (sym s.parts ∙ are.parts) in
      go found.0 found.1 found.2
    where
      go : (todo : List (List ℕ)) → messages ≡ s.done ++ todo → rest ≡ flat_map message_spelling todo → ⊥
      go [] e parts = omega (arith, lt, ap length e, length-append s.done [], s.counted, are.counted)
      go (m ∷ todo) e parts =
          let short : IsShort m = All-contains IsShort messages m are.short
          (subst (λ (l : List (List ℕ)). Contains l m) (sym e) (Contains-append_right s.done (m ∷ todo) m (0, omega arith, refl))) in
          let both : ◌≡◌ {A = Option (List ℕ × List ℕ)} None (Some (m, flat_map message_spelling todo)) =
          sym none ∙ ap message_at parts ∙ message_reads.again m (flat_map message_spelling todo) short in
          cc

  -- and nothing is left then
  pub none_left : n ≡ count → rest ≡ []
  none_left all =
      let counted = s.counted in
      let len = are.counted in
      let found = messages_told s.done messages rest s.short are.short (omega (arith, counted, len, all)) (sym s.parts ∙ are.parts) in
      go found.0 found.1 found.2
    where
      go : (todo : List (List ℕ)) → messages ≡ s.done ++ todo → rest ≡ flat_map message_spelling todo → rest ≡ []
      go [] e parts = parts
      go (m ∷ todo) e parts =
          absurd (omega (arith, all, ap length e, length-append s.done (m ∷ todo), s.counted, are.counted))

-- the messages of operations are messages
entries_are : (ops : List Operation) → All HasSpelling ops
    → All IsShort (map spelling ops) × (flat_map entry_spelling ops ≡ flat_map message_spelling (map spelling ops))
entries_are [] all = (All-nil IsShort, refl)
entries_are (op ∷ ops) all =
    let (short, same) = entries_are ops (All-tail HasSpelling op ops all) in (
      All-cons IsShort (spelling op) (map spelling ops) (spelling_fits op (All-head HasSpelling op ops all)) short,
      ap (λ (l : List ℕ). entry_spelling op ++ l) same,
    )

pub messages_of : (ops : List Operation) (count : ℕ) (entries : List ℕ) → AreEntries ops count entries
    → (messages : List (List ℕ)) × AreMessages messages count entries
messages_of ops count entries are =
    let (short, same) = entries_are ops are.spelled in
    (map spelling ops, record { counted = length-map ops spelling ∙ are.counted; short = short; parts = are.parts ∙ same })

-- a file whose messages are such is cut as a site's
pub cut_so : (file rest entries : List ℕ) (head : CountedHead) → IsBytes rest → file ≡ site_tag ++ rest → counted_at rest ≡ Some (head, entries)
    → (messages : List (List ℕ)) × AreMessages messages head.count entries → IsCutAsFile file
cut_so file rest entries head fits tagged found (messages, are) =
    let took = counted_reads.takes rest head entries fits found in
    let is = took.in_range in
    let made : ℕ → CountedHead = λ n. record { text = head.text; site = head.site; count = n } in
    record {
      text = head.text;
      site = head.site;
      messages = messages;
      text_number = is.text;
      site_number = is.site;
      few = omega (arith, are.counted, is.count);
      short = are.short;
      parts =
          tagged ∙ ap (λ (l : List ℕ). site_tag ++ l) (took.parts ∙ ap (λ (l : List ℕ). counted_spelling head ++ l) are.parts
          ∙ ap (λ (n : ℕ). counted_spelling (made n) ++ flat_map message_spelling messages) (sym are.counted))
          ∙ (simp append_assoc);
    }
