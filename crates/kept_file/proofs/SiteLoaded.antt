-- A site's file, read from left to right, and its operations taken in.
use Rattle.std.proofs.Common.{◌≡◌, ℕ, ◌+◌, ◌<◌, List, [], ◌∷◌, ◌++◌, length, Option, Some}
use Rattle.std.proofs.Common.{None, refl, sym, ap, subst, ◌∙◌, append_assoc, length-append, arith}
use Rattle.std.specs.Prelude.{All, IfOk, Result, Ok, Err}
use Rattle.std.specs.List.{flat_map}
use Rattle.std.proofs.lemmas.List.{append-nil, flat_map_more}
use Rattle.std.proofs.lemmas.List.Elements.{All-contains, All-nil, All-push}
use Rattle.looks.specs.declared.refusal.Refusal.{Refusal}
use Rattle.operations.specs.Operation.{Operation}
use Rattle.operations.specs.Spelling.{HasSpelling, spelling}
use Rattle.byte_fields.proofs.Readers.{IsBytes, some_is}
use Rattle.set_laws.specs.Verdict.{ready}
use Rattle.texts.specs.SiteFiles.{HasSiteFile, IsSiteFileOf, entry_spelling, site_tag}
use Rattle.texts.specs.Take.{Encodes}
use Rattle.texts.specs.Taking.{HasTaken, HasTakenAll, IsJudged}
use Rattle.texts.specs.Text.{IsText}
use Rattle.texts.specs.TextState.{TextState, empty_text}
use Rattle.kept_file.specs.declared.site_file.reading.CountedHead.{CountedHead}
use Rattle.kept_file.specs.SiteParts.{AreEntries, counted_at, counted_spelling, message_at, message_spelling}
use Rattle.kept_file.proofs.Entries.{entries_told, entry_again}
use Rattle.kept_file.proofs.SiteFields.{counted_reads}
use Rattle.kept_file.proofs.OneSite.{file_parts, counted_of, counted_told}
use Rattle.kept_file.proofs.Fields.{fits_after}
use Rattle.kept_file.proofs.Takings.{same_room}
use Rattle.kept_file.proofs.Growing.{all_taken, is_among, next_judged, none_taken}

-- so many messages were read, and what they tell was taken in; the bytes that are left
pub record SoFar (start now : TextState) (entries : List ℕ) (n : ℕ) (rest : List ℕ) : Type 0 where
  pub done : List Operation
  pub counted : length done ≡ n
  pub spelled : All HasSpelling done
  pub taken : HasTakenAll start done now
  pub parts : entries ≡ flat_map entry_spelling done ++ rest

pub none_yet : (start : TextState) (entries : List ℕ) → IsText start → SoFar start start entries 0 entries
none_yet start entries is = record {
  done = [];
  counted = refl;
  spelled = All-nil HasSpelling;
  taken = none_taken start is;
  parts = refl;
}

pub one_more : (start now new : TextState) (entries : List ℕ) (n : ℕ) (rest message after : List ℕ)
    → SoFar start now entries n rest → rest ≡ message_spelling message ++ after
    → (op : Operation) × Encodes message op × HasTaken now op new → SoFar start new entries (n + 1) after
one_more start now new entries n rest message after s e (op, tells, has) =
    let front : List ℕ = flat_map entry_spelling s.done in
    record {
      done = s.done ++ op ∷ [];
      counted = omega (arith, length-append s.done (op ∷ []), s.counted);
      spelled = All-push HasSpelling s.done op s.spelled tells.valid;
      taken = all_taken start now new s.done (op ∷ []) s.taken has;
      parts =
          s.parts ∙ ap (λ (r : List ℕ). front ++ r) (e ∙ ap (λ (m : List ℕ). message_spelling m ++ after) tells.spelled)
          ∙ sym (append_assoc front (entry_spelling op) after)
          ∙ ap (λ (l : List ℕ). l ++ after) (flat_map_more entry_spelling [] s.done op);
    }

-- nothing waits
pub nothing_waits : (start now : TextState) (entries : List ℕ) (n : ℕ) (rest : List ℕ)
    → SoFar start now entries n rest → start ≡ empty_text start.text start.site → now.waiting_room ≡ []
nothing_waits start now entries n rest s empty =
    same_room start now s.done s.taken ∙ ap (λ (t : TextState). t.waiting_room) empty

-- ---- where the bytes are the messages of a site's file

-- the next message, which tells an operation that is ready, and what follows it
pub record IsNext (now : TextState) (rest : List ℕ) : Type 0 where
  pub op : Operation
  pub todo : List Operation
  pub parts : rest ≡ entry_spelling op ++ flat_map entry_spelling todo
  pub spelled : HasSpelling op
  pub judged : IsJudged now op ready

module _ (start now : TextState) (entries : List ℕ) (n : ℕ) (rest : List ℕ) (s : SoFar start now entries n rest)
    (empty : start ≡ empty_text start.text start.site) (ops : List Operation)
    (tells : HasSiteFile start.text start.site ops) (count : ℕ) (are : AreEntries ops count entries) where
  -- where messages are left, there is a next one
  pub next_there : n < count → IsNext now rest
  next_there lt =
      let counted = s.counted in
      let len = are.counted in
      let found = entries_told s.done ops rest s.spelled are.spelled (omega arith) (sym s.parts ∙ are.parts) in
      go found.0 found.1 found.2
    where
      go : (todo : List Operation) → ops ≡ s.done ++ todo → rest ≡ flat_map entry_spelling todo → IsNext now rest
      go [] e parts = absurd (omega (arith, ap length e, length-append s.done [], s.counted, are.counted))
      go (op ∷ todo) e parts =
          let spelled : HasSpelling op = All-contains HasSpelling ops op are.spelled (is_among ops s.done op todo e) in
          let judged : IsJudged now op ready =
          next_judged start now ops s.done s.taken empty tells.once tells.in_order tells.of_text op todo e spelled in
          record { op = op; todo = todo; parts = parts; spelled = spelled; judged = judged }

  -- no message is left where all were read
  pub nothing_left : n ≡ count → rest ≡ []
  nothing_left all =
      let counted = s.counted in
      let len = are.counted in
      let found = entries_told s.done ops rest s.spelled are.spelled (omega arith) (sym s.parts ∙ are.parts) in
      go found.0 found.1 found.2
    where
      go : (todo : List Operation) → ops ≡ s.done ++ todo → rest ≡ flat_map entry_spelling todo → rest ≡ []
      go [] e parts = parts
      go (op ∷ todo) e parts =
          absurd (omega (arith, ap length e, length-append s.done (op ∷ todo), s.counted, are.counted))

  -- so there is one where none was found
  pub none_found : n < count → message_at rest ≡ None → ⊥
  none_found lt none =
      let next = next_there lt in
      let again = entry_again next.op (flat_map entry_spelling next.todo) next.spelled in
      let both : ◌≡◌ {A = Option (List ℕ × List ℕ)} None
      (Some (spelling next.op, flat_map entry_spelling next.todo)) = sym none ∙ ap message_at next.parts ∙ again in
      absurd cc

  -- and it tells one that is ready
  pub found_next : (message after : List ℕ) → n < count → message_at rest ≡ Some (message, after)
      → (op : Operation) × Encodes message op × IsJudged now op ready
  found_next message after lt found =
      let next = next_there lt in
      let again = entry_again next.op (flat_map entry_spelling next.todo) next.spelled in
      let pair : ◌≡◌ {A = List ℕ × List ℕ} (message, after) (spelling next.op, flat_map entry_spelling next.todo) =
      some_is _ _ (sym found ∙ ap message_at next.parts ∙ again) in
      (next.op, record { valid = next.spelled; spelled = ap (λ (p : List ℕ × List ℕ). p.0) pair }, next.judged)

-- all messages were read
pub all_read : (start now : TextState) (entries : List ℕ) (n count : ℕ) (rest : List ℕ)
    → SoFar start now entries n rest → n ≡ count → rest ≡ []
    → (ops : List Operation) × AreEntries ops count entries × HasTakenAll start ops now
all_read start now entries n count rest s all none = (
  s.done,
  record {
    counted = s.counted ∙ all;
    spelled = s.spelled;
    parts =
        s.parts ∙ ap (λ (r : List ℕ). flat_map entry_spelling s.done ++ r) none
        ∙ append-nil (flat_map entry_spelling s.done);
  },
  s.taken,
)

-- ---- the whole file

-- what is to be known of the text that was made of the messages after a head
abbrev pub IsTextOf : CountedHead → List ℕ → TextState → Type 0
IsTextOf head entries r =
    (r.text ≡ head.text) × (r.site ≡ head.site) × HasSiteFile r.text r.site r.operations
    × AreEntries r.operations head.count entries × HasTakenAll (empty_text r.text r.site) r.operations r

module _ (file rest entries : List ℕ) (head : CountedHead) (tagged : file ≡ site_tag ++ rest)
    (found : counted_at rest ≡ Some (head, entries)) where
  -- it has this file
  has_file : (r : TextState) → IsBytes file → IsTextOf head entries r → IsSiteFileOf r.text r.site r.operations file
  has_file r fits (text, site, tells, are, taken) =
      let after : rest ≡ counted_spelling head ++ entries =
      (counted_reads.takes rest head entries (fits_after site_tag rest (subst IsBytes tagged fits)) found).parts in
      let made : ℕ → ℕ → ℕ → CountedHead = λ t s n. record { text = t; site = s; count = n } in
      let same : head ≡ counted_of r.text r.site r.operations =
      ap (λ (t : ℕ). made t head.site head.count) (sym text)
      ∙ ap (λ (s : ℕ). made r.text s head.count) (sym site)
      ∙ ap (λ (n : ℕ). made r.text r.site n) (sym are.counted) in
      record {
        tells = tells;
        spelled =
            tagged ∙ ap (λ (l : List ℕ). site_tag ++ l) (after ∙ ap (λ (h : CountedHead). counted_spelling h ++ entries) same
            ∙ ap (λ (l : List ℕ). counted_spelling (counted_of r.text r.site r.operations) ++ l) are.parts)
            ∙ sym (file_parts r.text r.site r.operations);
      }

  pub loaded : (r : Result TextState Refusal) → IsBytes file → IfOk r (IsTextOf head entries)
      → IfOk r (λ t. IsSiteFileOf t.text t.site t.operations file
      × HasTakenAll (empty_text t.text t.site) t.operations t)
  loaded (Ok r) fits is = (has_file r fits is, is.4)
  loaded (Err why) fits is = tt

  -- where the messages are no site's, it is no site's file
  pub no_file : ((ops : List Operation) → HasSiteFile head.text head.site ops → AreEntries ops head.count entries → ⊥)
      → (text site : ℕ) (ops : List Operation) → IsSiteFileOf text site ops file → ⊥
  no_file none text site ops of =
      let same : ◌≡◌ {A = CountedHead × List ℕ} (head, entries) (counted_of text site ops, flat_map entry_spelling ops) =
      some_is _ _ (sym found ∙ counted_told text site ops file rest of tagged) in
      let heads : head ≡ counted_of text site ops = ap (λ (p : CountedHead × List ℕ). p.0) same in
      none ops (subst (λ (h : CountedHead). HasSiteFile h.text h.site ops) (sym heads) of.tells) (record {
        counted = ap (λ (h : CountedHead). h.count) (sym heads);
        spelled = of.tells.spelled;
        parts = ap (λ (p : CountedHead × List ℕ). p.1) same;
      })

-- where no head stands after the tag, it is no site's file
pub no_head : (file rest : List ℕ) → file ≡ site_tag ++ rest → counted_at rest ≡ None → (text site : ℕ)
    (ops : List Operation) → IsSiteFileOf text site ops file → ⊥
no_head file rest tagged none text site ops of =
    let same : ◌≡◌ {A = Option (CountedHead × List ℕ)} None (Some (counted_of text site ops, flat_map entry_spelling ops)) =
    sym none ∙ counted_told text site ops file rest of tagged in absurd cc
