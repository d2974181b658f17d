-- A formatted file and its text.
use Rattle.std.proofs.Common.{◌≡◌, ◌≢◌, ℕ, ◌<◌, ◌≤◌, List, [], ◌∷◌, ◌++◌, length, map, take}
use Rattle.std.proofs.Common.{None, Result, Ok, Err, ◌↔◌, inl, inr, refl, sym, ap, subst, ◌∙◌, append_assoc, length-append, arith}
use Rattle.std.specs.Prelude.{IfOk, IsErrOf}
use Rattle.std.specs.Int.{w32}
use Rattle.std.specs.List.{flat_map}
use Rattle.std.proofs.lemmas.Bool.{cases_lt}
use Rattle.std.proofs.lemmas.List.{take_at, length-map, append-nil, append_cancel_left}
use Rattle.std.proofs.lemmas.List.{nil_from_length}
use Rattle.looks.specs.declared.refusal.Refusal.{Refusal}
use Rattle.looks.specs.declared.refusal.Refusal.TheVariants.{OutOfMemory, BadFile}
use Rattle.looks.specs.Refusal.{RefusedForMemoryAlone}
use Rattle.char_files.specs.Plain.{plain_items}
use Rattle.char_files.specs.Runs.{maximal_runs, RunsAreMaximal, NoOtherRuns}
use Rattle.char_files.specs.Stretch.{Stretch, Item, items_of}
use Rattle.operations.specs.Reading.{LooksAreDetermined}
use Rattle.byte_fields.specs.Fields.{number_spelling}
use Rattle.text_file.specs.declared.TheConstants.{MAX_STORED}
use Rattle.text_file.specs.declared.loading.Head.{Head}
use Rattle.text_file.specs.Files.{text_tag, run_spelling, formatted, HasFormattedFile, IsFormatted}
use Rattle.text_file.specs.Files.{IsFileOf, IsNoFile, OneText, plain_bytes}
use Rattle.text_file.specs.Heads.{head_spelling, cut_into_runs, AreSpelled, IsFormattedBody}
use Rattle.text_file.proofs.Cuts.{head_of, chars_of, InLooks, cut_heads, cut_chars, cut_runs, cut_in_looks}
use Rattle.text_file.proofs.Cuts.{cut_again, items_chars, items_len, heads_total, heads_spelling, heads_valid}
use Rattle.text_file.proofs.Cuts.{FirstApart}
use Rattle.text_file.proofs.Heads.{heads_few, heads_told}
use Rattle.text_file.proofs.Numbers.{number_told}

-- a text's runs without their characters
abbrev pub heads_of : List Item → List Head
heads_of items = map head_of (maximal_runs items)

-- a text's characters without their looks
abbrev pub bytes_of : List Item → List ℕ
bytes_of items = map (λ c. c.0) items

-- so many runs, spelled so, and characters
abbrev pub rest_of_tag : ℕ → List ℕ → ℕ → List ℕ → List ℕ
rest_of_tag count heads total chars =
    number_spelling w32 count ++ (heads ++ (number_spelling w32 total ++ chars))

-- what stands after the tag
abbrev pub read_spelling : List Head → List ℕ → List ℕ
read_spelling heads chars =
    rest_of_tag (length heads) (flat_map head_spelling heads) (length chars) chars

regroup : (a b c d e : List ℕ) → a ++ b ++ c ++ d ++ e ≡ a ++ (b ++ (c ++ (d ++ e)))
regroup a b c d e = simp append_assoc

pub formatted_is : (items : List Item) → formatted items ≡ text_tag ++ read_spelling (heads_of items) (bytes_of items)
unfolding formatted
formatted_is items =
    let runs : List Stretch = maximal_runs items in
    let bytes : List ℕ = bytes_of items in
    let spelled : List ℕ = flat_map run_spelling runs in
    let first : Item → ℕ = λ c. c.0 in
    regroup text_tag (number_spelling w32 (length runs)) spelled (number_spelling w32 (length items)) bytes
    ∙ ap (λ (n : ℕ). text_tag ++ rest_of_tag n spelled (length items) bytes) (sym (length-map runs head_of))
    ∙ ap (λ (l : List ℕ). text_tag ++ rest_of_tag (length (heads_of items)) l (length items) bytes)
    (sym (heads_spelling runs))
    ∙ ap (λ (n : ℕ). text_tag ++ rest_of_tag (length (heads_of items)) (flat_map head_spelling (heads_of items)) n
    bytes) (sym (length-map items first))

-- a formatted file begins with the tag
pub formatted_tagged : (items : List Item) (file : List ℕ) → IsFormatted items file → take 4 file ≡ text_tag
formatted_tagged items file f =
    let rest : List ℕ = read_spelling (heads_of items) (bytes_of items) in
    ap (λ (l : List ℕ). take 4 l) (f.spelled ∙ formatted_is items) ∙ take_at text_tag rest 4 refl

none_apart : (runs : List Stretch) → FirstApart None runs
none_apart [] = tt
none_apart (r ∷ runs) = λ e. cc

-- ---- what a formatted file says

-- a text has the characters of its maximal runs
module _ (maximal : RunsAreMaximal) where
  bytes_chars : (items : List Item) → chars_of (maximal_runs items) ≡ bytes_of items
  bytes_chars items =
      sym (items_chars (maximal_runs items)) ∙ ap bytes_of (maximal items).1

  -- a text is what its runs and its characters say
  pub text_again : (items : List Item) → items_of (cut_into_runs (heads_of items) (bytes_of items)) ≡ items
  text_again items =
      let runs : List Stretch = maximal_runs items in
      ap (λ (bytes : List ℕ). items_of (cut_into_runs (heads_of items) bytes)) (sym (bytes_chars items))
      ∙ ap items_of (cut_again runs) ∙ (maximal items).1

  -- a text's file is read so
  pub text_read : (items : List Item) → HasFormattedFile items
      → IsFormattedBody (heads_of items) (bytes_of items) (read_spelling (heads_of items) (bytes_of items))
  text_read items text =
      let runs : List Stretch = maximal_runs items in
      let bytes : length (chars_of runs) ≡ length (bytes_of items) = ap length (bytes_chars items) in
      let first : Item → ℕ = λ c. c.0 in
      let len : length (bytes_of items) ≡ length items = length-map items first in
      let looks : InLooks (items_of runs) = subst InLooks (sym (maximal items).1) text.looks in
      record {
        valid =
            heads_valid None runs (maximal items).0 looks (omega (arith, bytes, len, text.few))
            (none_apart runs);
        total = heads_total runs ∙ bytes;
        few = omega (arith, len, text.few);
        parts = refl;
      }

  -- a formatted file is read so
  pub formatted_read : (items : List Item) (rest : List ℕ) → IsFormatted items (text_tag ++ rest)
      → IsFormattedBody (heads_of items) (bytes_of items) rest
  formatted_read items rest f =
      let r = text_read items f.text in
      let same : rest ≡ read_spelling (heads_of items) (bytes_of items) =
      append_cancel_left text_tag rest (read_spelling (heads_of items) (bytes_of items)) (f.spelled
      ∙ formatted_is items) in
      record { valid = r.valid; total = r.total; few = r.few; parts = same }

  pub formatted_none : (rest : List ℕ)
      → ((heads : List Head) (chars : List ℕ) → IsFormattedBody heads chars rest → ⊥) → (items : List Item)
      → IsFormatted items (text_tag ++ rest) → ⊥
  formatted_none rest none items f = none (heads_of items) (bytes_of items) (formatted_read items rest f)

-- a text of such runs has no others
module _ (only : NoOtherRuns) where
  -- what is read so is a text's file
  pub read_text : (heads : List Head) (chars rest : List ℕ) → IsFormattedBody heads chars rest
      → IsFormatted (items_of (cut_into_runs heads chars)) (text_tag ++ rest)
  read_text heads chars rest r =
      let runs : List Stretch = cut_into_runs heads chars in
      let bytes : chars_of runs ≡ chars = cut_chars heads chars r.total in
      let same_runs : maximal_runs (items_of runs) ≡ runs = only runs (cut_runs None heads chars r.valid
      r.total) in
      let same_heads : heads_of (items_of runs) ≡ heads =
      ap (λ (rs : List Stretch). map head_of rs) same_runs ∙ cut_heads heads chars r.total in
      let same_bytes : bytes_of (items_of runs) ≡ chars = items_chars runs ∙ bytes in
      record {
        text = record {
          few = omega (arith, items_len runs, ap length bytes, r.few);
          looks = cut_in_looks None heads chars r.valid;
        };
        spelled =
            ap (λ (l : List ℕ). text_tag ++ l) r.parts
            ∙ ap (λ (hs : List Head). text_tag ++ read_spelling hs chars) (sym same_heads)
            ∙ ap (λ (cs : List ℕ). text_tag ++ read_spelling (heads_of (items_of runs)) cs) (sym same_bytes)
            ∙ sym (formatted_is (items_of runs));
      }

  pub formatted_loaded : (rest : List ℕ) (r : Result (List Item) Refusal) (heads : List Head)
      (chars spelled : List ℕ) → IsFormattedBody heads chars rest → AreSpelled heads chars spelled
      → IfOk r (λ text. (runs : List Head) → AreSpelled runs chars spelled → text ≡ items_of (cut_into_runs runs chars))
      → IfOk r (λ text. IsFormatted text (text_tag ++ rest))
  formatted_loaded rest (Ok text) heads chars spelled read s is =
      subst (λ (t : List Item). IsFormatted t (text_tag ++ rest)) (sym (is heads s)) (read_text heads chars rest read)
  formatted_loaded rest (Err e) heads chars spelled read s is = tt

  -- a formatted file is refused for memory alone
  pub formatted_refused : (rest : List ℕ) (r : Result (List Item) Refusal) (heads : List Head) (chars : List ℕ)
      → IsFormattedBody heads chars rest → RefusedForMemoryAlone r
      → IsErrOf r BadFile ↔ ((items : List Item) → IsFormatted items (text_tag ++ rest) → ⊥)
  formatted_refused rest (Ok text) heads chars read errors =
      (λ e. absurd cc, λ none. absurd (none (items_of (cut_into_runs heads chars)) (read_text heads chars rest read)))
  formatted_refused rest (Err x) heads chars read errors = (
    λ e.
        let is : x ≡ BadFile = cc in
        let apart : ◌≡◌ {A = Refusal} OutOfMemory BadFile = sym errors ∙ is in absurd cc,
    λ none. absurd (none (items_of (cut_into_runs heads chars)) (read_text heads chars rest read)),
  )

-- ---- files that are loaded

-- what is loaded is the one text of the file
pub only_loaded : (file : List ℕ) (r : Result (List Item) Refusal) → OneText
    → IfOk r (λ items. IsFileOf items file) → (items : List Item) → IsFileOf items file
    → IfOk r (λ loaded. loaded ≡ items)
only_loaded file (Ok loaded) one is items f = one loaded items file is f
only_loaded file (Err e) one is items f = tt

pub only_formatted : (file rest : List ℕ) (r : Result (List Item) Refusal) → OneText → file ≡ text_tag ++ rest
    → IfOk r (λ items. IsFormatted items (text_tag ++ rest)) → (items : List Item) → IsFileOf items file
    → IfOk r (λ loaded. loaded ≡ items)
only_formatted file rest r one e is = only_loaded file r one (there r is)
  where
    there : (x : Result (List Item) Refusal) → IfOk x (λ items. IsFormatted items (text_tag ++ rest))
        → IfOk x (λ items. IsFileOf items file)
    there (Ok loaded) f = inl (subst (IsFormatted loaded) (sym e) f)
    there (Err x) f = tt

-- a plain file is refused exactly where it is too long
pub plain_refused : (file : List ℕ) (r : Result (List Item) Refusal) → take 4 file ≢ text_tag
    → IsErrOf r BadFile ↔ (MAX_STORED < length (plain_bytes file)) → IsErrOf r BadFile ↔ IsNoFile file
plain_refused file r untagged long = (
  λ e items f.
      let lt : MAX_STORED < length (plain_bytes file) = long.0 e in
      elim f [
        | inl formatted ↦ untagged (formatted_tagged items file formatted)
        | inr plain ↦
            let few : length (plain_bytes file) ≤ MAX_STORED = plain.few in
            absurd (omega arith)
      ],
  λ none. elim (cases_lt MAX_STORED (length (plain_bytes file))) [
    | inl lt ↦ long.1 lt
    | inr le ↦ absurd (none (plain_items (plain_bytes file)) (inr (record {
      untagged = untagged;
      few = le;
      spelled = refl;
    })))
  ],
)

-- ---- one text

module _ (told : LooksAreDetermined) (maximal : RunsAreMaximal) where
  -- what is read at the front of bytes is told by them
  read_told : (heads : List Head) (chars : List ℕ) (others : List Head) (other_chars rest : List ℕ)
      (a b : List ℕ) → IsFormattedBody heads chars a → IsFormattedBody others other_chars b → b ≡ a ++ rest
      → (heads ≡ others) × (chars ≡ other_chars) × (rest ≡ [])
  read_told heads chars others other_chars rest a b r s e =
      let r_total : List ℕ = number_spelling w32 (length chars) ++ (chars ++ rest) in
      let s_total : List ℕ = number_spelling w32 (length other_chars) ++ other_chars in
      let r_heads : List ℕ = flat_map head_spelling heads in
      let s_heads : List ℕ = flat_map head_spelling others in
      let r_count : List ℕ = number_spelling w32 (length heads) in
      let s_count : List ℕ = number_spelling w32 (length others) in
      let split : r_count ++ (r_heads ++ r_total) ≡ s_count ++ (s_heads ++ s_total) =
      sym (ap (λ (l : List ℕ). l ++ rest) r.parts
      ∙ regroup_read r_count r_heads (number_spelling w32 (length chars)) chars rest)
      ∙ sym e ∙ s.parts in
      let count =
      number_told (length heads) (length others) (r_heads ++ r_total) (s_heads ++ s_total)
      (omega (arith, heads_few None heads r.valid, r.total, r.few))
      (omega (arith, heads_few None others s.valid, s.total, s.few)) split in
      let found =
      heads_told told None None heads others r_total s_total r.valid s.valid (omega (arith, count.0)) count.1 in
      go found.0 found.1 found.2 count.0
    where
      regroup_read : (x y z u v : List ℕ) → x ++ (y ++ (z ++ u)) ++ v ≡ x ++ (y ++ (z ++ (u ++ v)))
      regroup_read x y z u v = simp append_assoc

      ends : (x y z : List ℕ) → length x ≡ length y → x ++ z ≡ y → (x ≡ y) × (z ≡ [])
      ends x y z len e =
          let none : z ≡ [] = nil_from_length z (omega (arith, ap length e, length-append x z)) in
          (sym (append-nil x) ∙ ap (λ (l : List ℕ). x ++ l) (sym none) ∙ e, none)

      go : (todo : List Head) → others ≡ heads ++ todo
          → number_spelling w32 (length chars) ++ (chars ++ rest)
          ≡ flat_map head_spelling todo ++ (number_spelling w32 (length other_chars) ++ other_chars)
          → length heads ≡ length others
          → (heads ≡ others) × (chars ≡ other_chars) × (rest ≡ [])
      go [] all back len =
          let total =
          number_told (length chars) (length other_chars) (chars ++ rest) other_chars
          (omega (arith, r.few)) (omega (arith, s.few)) back in
          let both = ends chars other_chars rest total.0 total.1 in
          (sym (all ∙ append-nil heads), both.0, both.1)
      go (h ∷ todo) all back len = absurd (omega (arith, ap length all, length-append heads (h ∷ todo), len))

  pub formatted_told : (a b : List Item) (rest : List ℕ) → HasFormattedFile a → HasFormattedFile b
      → formatted b ≡ formatted a ++ rest → (a ≡ b) × (rest ≡ [])
  formatted_told a b rest a_text b_text e =
      let a_read : List ℕ = read_spelling (heads_of a) (bytes_of a) in
      let b_read : List ℕ = read_spelling (heads_of b) (bytes_of b) in
      let tagged : text_tag ++ b_read ≡ text_tag ++ (a_read ++ rest) =
      sym (formatted_is b) ∙ e ∙ ap (λ (l : List ℕ). l ++ rest) (formatted_is a)
      ∙ append_assoc text_tag a_read rest in
      let t =
      read_told (heads_of a) (bytes_of a) (heads_of b) (bytes_of b) rest a_read b_read (text_read maximal a a_text)
      (text_read maximal b b_text) (append_cancel_left text_tag b_read (a_read ++ rest) tagged) in (
        sym (text_again maximal a) ∙ ap (λ (hs : List Head). items_of (cut_into_runs hs (bytes_of a))) t.0
            ∙ ap (λ (cs : List ℕ). items_of (cut_into_runs (heads_of b) cs)) t.1 ∙ text_again maximal b,
        t.2,
      )

  pub one_text_shares : (a b : List Item) → HasFormattedFile a → HasFormattedFile b → formatted a ≡ formatted b → a ≡ b
  one_text_shares a b a_text b_text e =
      (formatted_told a b [] a_text b_text (sym e ∙ sym (append-nil (formatted a)))).0

  pub one_text_of : (a b : List Item) (file : List ℕ) → IsFileOf a file → IsFileOf b file → a ≡ b
  one_text_of a b file (inl f) (inl g) = one_text_shares a b f.text g.text (sym f.spelled ∙ g.spelled)
  one_text_of a b file (inl f) (inr g) = absurd (g.untagged (formatted_tagged a file f))
  one_text_of a b file (inr f) (inl g) = absurd (f.untagged (formatted_tagged b file g))
  one_text_of a b file (inr f) (inr g) = f.spelled ∙ sym g.spelled
