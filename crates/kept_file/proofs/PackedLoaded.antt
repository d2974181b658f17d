-- A packed file, read from left to right, and its operations taken in.
use Rattle.std.proofs.Common.{◌≡◌, ℕ, ◌+◌, ◌<◌, ◌≤◌, List, [], ◌∷◌, ◌++◌, length, Option, Some, None}
use Rattle.std.proofs.Common.{refl, sym, ap, subst, ◌∙◌, append_assoc, length-append, arith}
use Rattle.std.specs.Prelude.{IfOk, Result, Ok, Err}
use Rattle.std.proofs.lemmas.List.{append-nil}
use Rattle.looks.specs.declared.refusal.Refusal.{Refusal}
use Rattle.operations.specs.Letters.{letters}
use Rattle.operations.specs.Operation.{Operation}
use Rattle.operations.specs.declared.typing.Typing.{Typing}
use Rattle.byte_fields.proofs.Readers.{IsBytes, some_is}
use Rattle.set_laws.specs.Verdict.{ready}
use Rattle.texts.specs.Taking.{HasTakenAll, IsJudged}
use Rattle.texts.specs.Text.{IsText}
use Rattle.texts.specs.TextState.{TextState, empty_text}
use Rattle.packed.specs.Laws.{CanFollow, IsHistory}
use Rattle.packed.specs.Letters.{AreTypedNext}
use Rattle.packed.specs.Reading.{CanBeNext}
use Rattle.packed.specs.Spelling.{packed, packed_after, packed_next}
use Rattle.packed.specs.Told.{Told, nothing_told, told, told_after, told_on}
use Rattle.packed.proofs.Letters.{length_of_letters}
use Rattle.kept_file.specs.declared.TheConstants.{MAX_PACKED}
use Rattle.kept_file.specs.declared.head.Head.{Head}
use Rattle.kept_file.specs.PackedFiles.{BeginsAsPackedFile, HasPackedFile, IsPackedFileOf, packed_tag}
use Rattle.kept_file.specs.Parts.{head_at, packed_head_spelling}
use Rattle.kept_file.specs.PackedParts.{ArePacked, HasTakenFirst, IsFirstPacked}
use Rattle.kept_file.proofs.Fields.{fits_after, head_reads}
use Rattle.kept_file.proofs.OnePacked.{are_history, file_parts, head_of, head_told}
use Rattle.kept_file.proofs.Packings.{all_spelled, follow_all, next_at, packed_more, told_first, told_more}
use Rattle.kept_file.proofs.Takings.{same_room}
use Rattle.kept_file.proofs.Growing.{all_taken, next_judged, none_taken}

-- so many operations were read and taken in; what they tell, and the bytes that are left
pub record SoFar (start now : TextState) (t : Told) (bytes : List ℕ) (n : ℕ) (rest : List ℕ) : Type 0 where
  pub done : List Operation
  pub counted : length done ≡ n
  pub are : IsHistory start.text done
  pub tells : t ≡ told done
  pub taken : HasTakenAll start done now
  pub parts : bytes ≡ packed done ++ rest

-- not too many
pub record IsUnderWay (start now : TextState) (t : Told) (bytes : List ℕ) (n : ℕ) (rest : List ℕ) : Type 0 where
  pub so_far : SoFar start now t bytes n rest
  pub few : n ≤ MAX_PACKED

pub none_yet : (start : TextState) (bytes : List ℕ) → IsText start → SoFar start start nothing_told bytes 0 bytes
none_yet start bytes is = record {
  done = [];
  counted = refl;
  are = tt;
  tells = refl;
  taken = none_taken start is;
  parts = refl;
}

-- and so many more
pub some_more : (start now new : TextState) (t u : Told) (bytes : List ℕ) (n m : ℕ) (rest after : List ℕ)
    → SoFar start now t bytes n rest → HasTakenFirst now t rest m after new u → SoFar start new u bytes (n + m) after
some_more start now new t u bytes n m rest after s first =
    let ops : List Operation = first.ops in
    let text : now.text ≡ start.text = ap (λ (v : TextState). v.text) s.taken.grown in
    let follow : CanFollow (told s.done) start.text ops =
    subst (λ (v : Told). CanFollow v start.text ops) s.tells (subst (λ (n : ℕ). CanFollow t n ops) text first.follow) in
    record {
      done = s.done ++ ops;
      counted = omega (arith, length-append s.done ops, s.counted, first.counted);
      are = follow_all nothing_told start.text s.done ops s.are follow;
      tells = first.tells ∙ ap (λ (v : Told). told_after v ops) s.tells ∙ sym (told_more nothing_told s.done ops);
      taken = all_taken start now new s.done ops s.taken first.taken;
      parts = s.parts ∙ ap (λ (r : List ℕ). packed s.done ++ r) first.parts ∙ joined ops;
    }
  where
    joined : (ops : List Operation) → packed s.done ++ (packed_after t ops ++ after) ≡ packed (s.done ++ ops) ++ after
    joined ops =
        ap (λ (v : Told). packed s.done ++ (packed_after v ops ++ after)) s.tells
        ∙ sym (append_assoc (packed s.done) (packed_after (told s.done) ops) after)
        ∙ ap (λ (l : List ℕ). l ++ after) (sym (packed_more nothing_told s.done ops))

-- where a row of letters was
pub letters_first : (now new : TextState) (t u : Told) (bytes typed rest : List ℕ) (typing : Typing)
    → bytes ≡ typed ++ rest → AreTypedNext t now.text typing typed → HasTakenAll now (letters typing typed) new
    → u ≡ told_after t (letters typing typed) → HasTakenFirst now t bytes (length typed) rest new u
letters_first now new t u bytes typed rest typing parts are taken tells = record {
  ops = letters typing typed;
  counted = length_of_letters typing typed;
  some = are.some;
  follow = are.follow;
  parts = parts ∙ ap (λ (l : List ℕ). l ++ rest) (sym are.packed);
  tells = tells;
  taken = taken;
}

-- nothing waits
pub nothing_waits : (start now : TextState) (t : Told) (bytes : List ℕ) (n : ℕ) (rest : List ℕ)
    → SoFar start now t bytes n rest → start ≡ empty_text start.text start.site → now.waiting_room ≡ []
nothing_waits start now t bytes n rest s empty =
    same_room start now s.done s.taken ∙ ap (λ (u : TextState). u.waiting_room) empty

-- ---- where the bytes are the operations of a packed file

module _ (start now : TextState) (t : Told) (bytes : List ℕ) (n : ℕ) (rest : List ℕ)
    (s : SoFar start now t bytes n rest) (empty : start ≡ empty_text start.text start.site) (ops : List Operation)
    (tells : HasPackedFile start.text start.site ops) (spells : bytes ≡ packed ops) where
  next_first : (op : Operation) (todo : List Operation) → ops ≡ s.done ++ op ∷ todo → rest ≡ packed_after (told s.done) (op ∷ todo)
      → IsFirstPacked t now.text rest op (packed_after (told_on (told s.done) op) todo)
  next_first op todo e left =
      let follow : IsHistory start.text (s.done ++ op ∷ todo) =
      subst (IsHistory start.text) e (are_history start.text start.site ops tells) in
      let can : CanBeNext (told s.done) start.text op = next_at nothing_told start.text s.done op todo follow in
      record {
        can =
            subst (λ (n : ℕ). CanBeNext t n op) (sym (ap (λ (v : TextState). v.text) s.taken.grown))
            (subst (λ (v : Told). CanBeNext v start.text op) (sym s.tells) can);
        parts =
            left
            ∙ ap (λ (v : Told). packed_next v op ++ packed_after (told_on (told s.done) op) todo) (sym s.tells);
      }

  -- what is to be read and taken in
  record IsLeft : Type 0 where
    op : Operation
    after : List ℕ
    first : IsFirstPacked t now.text rest op after
    judged : IsJudged now op ready

  -- where bytes are left, there is a next one
  left_there : 0 < length rest → IsLeft
  left_there some =
      let (todo, e, left) =
      told_first start.text s.done ops rest s.are (are_history start.text start.site ops tells)
      (sym spells ∙ s.parts) in
      go todo e left
    where
      go : (todo : List Operation) → ops ≡ s.done ++ todo → rest ≡ packed_after (told s.done) todo → IsLeft
      go [] e left = absurd (omega (arith, ap length left, some))
      go (op ∷ todo) e left =
          let first = next_first op todo e left in
          record {
            op = op;
            after = packed_after (told_on (told s.done) op) todo;
            first = first;
            judged =
                next_judged start now ops s.done s.taken empty tells.once tells.in_order tells.of_text op todo e
                first.can.spelled;
          }

  -- which isn't refused
  pub left_ready : 0 < length rest
      → ((op : Operation) (after : List ℕ) → IsFirstPacked t now.text rest op after → IsJudged now op ready → ⊥) → ⊥
  left_ready some none = let it = left_there some in none it.op it.after it.first it.judged

  -- and no more were read than there are
  pub done_few : n ≤ MAX_PACKED
  done_few =
      let (todo, e, left) =
      told_first start.text s.done ops rest s.are (are_history start.text start.site ops tells)
      (sym spells ∙ s.parts) in
      omega (arith, tells.few, ap length e, length-append s.done todo, s.counted)

-- all operations were read
pub all_read : (start now : TextState) (t : Told) (bytes : List ℕ) (n : ℕ) (rest : List ℕ)
    → SoFar start now t bytes n rest → n ≤ MAX_PACKED → rest ≡ []
    → (ops : List Operation) × ArePacked ops bytes × HasTakenAll start ops now
all_read start now t bytes n rest s few none = (
  s.done,
  record {
    few = omega (arith, s.counted, few);
    spelled = all_spelled nothing_told start.text s.done s.are;
    parts = s.parts ∙ ap (λ (r : List ℕ). packed s.done ++ r) none ∙ append-nil (packed s.done);
  },
  s.taken,
)

-- ---- the whole file

-- what is to be known of the text that was made of the operations after a head
abbrev pub IsTextOf : Head → List ℕ → TextState → Type 0
IsTextOf head bytes r =
    (r.text ≡ head.text) × (r.site ≡ head.site) × HasPackedFile r.text r.site r.operations
    × (bytes ≡ packed r.operations) × HasTakenAll (empty_text r.text r.site) r.operations r

module _ (file rest bytes : List ℕ) (head : Head) (tagged : file ≡ packed_tag ++ rest)
    (found : head_at rest ≡ Some (head, bytes)) where
  -- the file begins as one
  pub begins : IsBytes file → BeginsAsPackedFile file
  begins fits =
      let took = head_reads.takes rest head bytes (fits_after packed_tag rest (subst IsBytes tagged fits)) found in
      let is = took.in_range in
      record {
        text = head.text;
        site = head.site;
        rest = bytes;
        text_number = is.text;
        site_number = is.site;
        parts = tagged ∙ ap (λ (l : List ℕ). packed_tag ++ l) took.parts ∙ (simp append_assoc);
      }

  -- it has this file
  has_file : (r : TextState) → IsBytes file → IsTextOf head bytes r → IsPackedFileOf r.text r.site r.operations file
  has_file r fits (text, site, tells, are, taken) =
      let after : rest ≡ packed_head_spelling head ++ bytes =
      (head_reads.takes rest head bytes (fits_after packed_tag rest (subst IsBytes tagged fits)) found).parts in
      let made : ℕ → ℕ → Head = λ t s. record { text = t; site = s } in
      let same : head ≡ head_of r.text r.site =
      ap (λ (t : ℕ). made t head.site) (sym text) ∙ ap (λ (s : ℕ). made r.text s) (sym site) in
      record {
        tells = tells;
        spelled =
            tagged ∙ ap (λ (l : List ℕ). packed_tag ++ l) (after ∙ ap (λ (h : Head). packed_head_spelling h ++ bytes) same
            ∙ ap (λ (l : List ℕ). packed_head_spelling (head_of r.text r.site) ++ l) are)
            ∙ sym (file_parts r.text r.site r.operations);
      }

  pub loaded : (r : Result TextState Refusal) → IsBytes file → IfOk r (IsTextOf head bytes)
      → IfOk r (λ t. IsPackedFileOf t.text t.site t.operations file
      × HasTakenAll (empty_text t.text t.site) t.operations t)
  loaded (Ok r) fits is = (has_file r fits is, is.4)
  loaded (Err why) fits is = tt

  -- where the operations are no text's, it is no packed file
  pub no_file : ((ops : List Operation) → HasPackedFile head.text head.site ops → bytes ≡ packed ops → ⊥)
      → (text site : ℕ) (ops : List Operation) → IsPackedFileOf text site ops file → ⊥
  no_file none text site ops of =
      let same : ◌≡◌ {A = Head × List ℕ} (head, bytes) (head_of text site, packed ops) =
      some_is _ _ (sym found ∙ head_told text site ops file rest of tagged) in
      let heads : head ≡ head_of text site = ap (λ (p : Head × List ℕ). p.0) same in
      none ops (subst (λ (h : Head). HasPackedFile h.text h.site ops) (sym heads) of.tells)
      (ap (λ (p : Head × List ℕ). p.1) same)

-- where no head stands after the tag, it is no packed file
pub no_head : (file rest : List ℕ) → file ≡ packed_tag ++ rest → head_at rest ≡ None → (text site : ℕ)
    (ops : List Operation) → IsPackedFileOf text site ops file → ⊥
no_head file rest tagged none text site ops of =
    let same : ◌≡◌ {A = Option (Head × List ℕ)} None (Some (head_of text site, packed ops)) =
    sym none ∙ head_told text site ops file rest of tagged in absurd cc
