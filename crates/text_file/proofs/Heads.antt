-- The runs of a formatted file, read from left to right.
use Rattle.std.proofs.Common.{◌≡◌, ◌≢◌, ℕ, ◌+◌, ◌-◌, ◌^◌, ◌<◌, ◌≤◌, List, [], ◌∷◌, ◌++◌, length, Option}
use Rattle.std.proofs.Common.{Some, None, ◌⊎◌, inl, inr, refl, sym, ap, subst, ◌∙◌, append_assoc, length-append, arith}
use Rattle.std.specs.Int.{w32}
use Rattle.std.specs.List.{flat_map}
use Rattle.std.proofs.lemmas.List.{flat_map_more, append-nil}
use Rattle.looks.specs.declared.looks.Looks.{Looks}
use Rattle.operations.specs.Reading.{LooksAreDetermined}
use Rattle.byte_fields.specs.Fields.{number_spelling}
use Rattle.operations.specs.Spelling.{looks_spelling}
use Rattle.text_file.specs.declared.TheConstants.{MAX_STORED}
use Rattle.text_file.specs.declared.loading.Head.{Head}
use Rattle.text_file.specs.Heads.{head_spelling, IsHead, AreHeads, total_of, IsFormattedBody}
use Rattle.text_file.proofs.Numbers.{number_told, number_len, number_long}

-- ---- runs after others

-- the looks of the last of these runs, or those before them
abbrev pub last_or : Option Looks → List Head → Option Looks
last_or last [] = last
last_or last (h ∷ heads) = last_or (Some h.looks) heads

last_or-push : (last : Option Looks) (heads : List Head) (h : Head)
    → last_or last (heads ++ h ∷ []) ≡ Some h.looks
last_or-push last [] h = refl
last_or-push last (g ∷ heads) h = last_or-push (Some g.looks) heads h

total_of-push : (heads : List Head) (h : Head) → total_of (heads ++ h ∷ []) ≡ total_of heads + h.len
total_of-push [] h = omega arith
total_of-push (g ∷ heads) h = omega (arith, total_of-push heads h)

total_of-append : (heads more : List Head) → total_of (heads ++ more) ≡ total_of heads + total_of more
total_of-append [] more = omega arith
total_of-append (g ∷ heads) more = omega (arith, total_of-append heads more)

AreHeads-push : (last : Option Looks) (heads : List Head) (h : Head) → AreHeads last heads → IsHead h
    → last_or last heads ≢ Some h.looks → AreHeads last (heads ++ h ∷ [])
AreHeads-push last [] h valid is apart = (is, apart, tt)
AreHeads-push last (g ∷ heads) h valid is apart =
    (valid.0, valid.1, AreHeads-push (Some g.looks) heads h valid.2 is apart)

AreHeads-back : (last : Option Looks) (heads more : List Head) → AreHeads last (heads ++ more)
    → AreHeads (last_or last heads) more
AreHeads-back last [] more valid = valid
AreHeads-back last (g ∷ heads) more valid = AreHeads-back (Some g.looks) heads more valid.2

-- no run is empty
pub heads_few : (last : Option Looks) (heads : List Head) → AreHeads last heads
    → length heads ≤ total_of heads
heads_few last [] valid = omega arith
heads_few last (h ∷ heads) valid =
    let some : 0 < h.len = valid.0.some in omega (arith, some, heads_few (Some h.looks) heads valid.2)

-- ---- bytes tell the runs that they spell

same_head : (h g : Head) → h.looks ≡ g.looks → h.len ≡ g.len → h ≡ g
same_head h g looks len =
    let made : Looks → ℕ → Head = λ l n. record { looks = l; len = n } in
    ap (λ (l : Looks). made l h.len) looks ∙ ap (λ (n : ℕ). made g.looks n) len

pub head_longer : (h : Head) (rest : List ℕ) → length rest < length (head_spelling h ++ rest)
head_longer h rest =
    let len : List ℕ = number_spelling w32 h.len in
    omega (
      arith,
      length-append (looks_spelling h.looks ++ len) rest,
      length-append (looks_spelling h.looks) len,
      number_len h.len,
    )

module _ (told : LooksAreDetermined) where
  pub head_told : (h g : Head) (x y : List ℕ) → IsHead h → IsHead g
      → head_spelling h ++ x ≡ head_spelling g ++ y → (h ≡ g) × (x ≡ y)
  head_told h g x y h_is g_is e =
      let h_len : List ℕ = number_spelling w32 h.len ++ x in
      let g_len : List ℕ = number_spelling w32 g.len ++ y in
      let split : looks_spelling h.looks ++ h_len ≡ looks_spelling g.looks ++ g_len =
      sym (append_assoc (looks_spelling h.looks) (number_spelling w32 h.len) x) ∙ e
      ∙ append_assoc (looks_spelling g.looks) (number_spelling w32 g.len) y in
      let looks = told h.looks g.looks h_len g_len h_is.looks g_is.looks split in
      let len = number_told h.len g.len x y h_is.fits g_is.fits looks.1 in
      (same_head h g looks.0 len.0, len.1)

  -- runs that were read are the first of any runs that the bytes spell
  pub heads_told : (last first : Option Looks) (done heads : List Head) (rest more : List ℕ)
      → AreHeads last done → AreHeads first heads → length done ≤ length heads
      → flat_map head_spelling done ++ rest ≡ flat_map head_spelling heads ++ more
      → (todo : List Head) × (heads ≡ done ++ todo) × (rest ≡ flat_map head_spelling todo ++ more)
  heads_told last first [] heads rest more done_are heads_are few e = (heads, refl, e)
  heads_told last first (h ∷ done) [] rest more done_are heads_are few e = absurd (omega arith)
  heads_told last first (h ∷ done) (g ∷ heads) rest more done_are heads_are few e =
      let of_done : List ℕ = flat_map head_spelling done in
      let of_heads : List ℕ = flat_map head_spelling heads in
      let split : head_spelling h ++ (of_done ++ rest) ≡ head_spelling g ++ (of_heads ++ more) =
      sym (append_assoc (head_spelling h) of_done rest) ∙ e ∙ append_assoc (head_spelling g) of_heads more in
      let one = head_told h g (of_done ++ rest) (of_heads ++ more) done_are.0 heads_are.0 split in
      let others =
      heads_told (Some h.looks) (Some g.looks) done heads rest more done_are.2 heads_are.2 (omega arith)
      one.1 in (
        others.0,
        ap (λ (x : Head). x ∷ heads) (sym one.0) ∙ ap (λ (xs : List Head). h ∷ xs) others.1,
        others.2,
      )

-- ---- reading runs one by one

-- so many runs were read, after which so many characters more may come; the last one's looks; the bytes left
pub record SoFar (bytes : List ℕ) (n left : ℕ) (last : Option Looks) (rest : List ℕ) : Type 0 where
  pub done : List Head
  pub valid : AreHeads None done
  pub counted : length done ≡ n
  pub summed : total_of done + left ≡ MAX_STORED
  pub last_is : last_or None done ≡ last
  pub parts : bytes ≡ flat_map head_spelling done ++ rest

pub none_yet : (bytes : List ℕ) → SoFar bytes 0 MAX_STORED None bytes
none_yet bytes =
    record { done = []; valid = tt; counted = refl; summed = omega arith; last_is = refl; parts = refl }

pub one_more : (bytes : List ℕ) (n left : ℕ) (last : Option Looks) (rest : List ℕ) (h : Head)
    (after : List ℕ) → SoFar bytes n left last rest → IsHead h → last ≢ Some h.looks → h.len ≤ left
    → rest ≡ head_spelling h ++ after → SoFar bytes (n + 1) (left - h.len) (Some h.looks) after
one_more bytes n left last rest h after s is apart fits e = record {
  done = s.done ++ h ∷ [];
  valid = AreHeads-push None s.done h s.valid is (λ same. apart (sym s.last_is ∙ same));
  counted = omega (arith, length-append s.done (h ∷ []), s.counted);
  summed = omega (arith, total_of-push s.done h, s.summed);
  last_is = last_or-push None s.done h;
  parts =
      s.parts ∙ ap (λ (r : List ℕ). flat_map head_spelling s.done ++ r) e
      ∙ sym (append_assoc (flat_map head_spelling s.done) (head_spelling h) after)
      ∙ ap (λ (front : List ℕ). front ++ after) (flat_map_more head_spelling [] s.done h);
}

pub all_read : (bytes : List ℕ) (n left count : ℕ) (last : Option Looks) (rest : List ℕ)
    → SoFar bytes n left last rest → n ≡ count
    → (heads : List Head) × AreHeads None heads × (length heads ≡ count) × (total_of heads ≡ MAX_STORED - left)
    × (MAX_STORED - left ≤ MAX_STORED) × (bytes ≡ flat_map head_spelling heads ++ rest)
all_read bytes n left count last rest s e =
    (s.done, s.valid, s.counted ∙ e, omega (arith, s.summed), omega arith, s.parts)

-- no run that may come next stands at the front of these bytes
abbrev pub NoneNext : Option Looks → ℕ → List ℕ → Type 0
NoneNext last left bytes =
    (h : Head) (rest : List ℕ) → IsHead h → last ≢ Some h.looks → h.len ≤ left
    → bytes ≡ head_spelling h ++ rest → ⊥

pub none_more : (told : LooksAreDetermined) (bytes : List ℕ) (n left count : ℕ) (last : Option Looks)
    (rest : List ℕ) → SoFar bytes n left last rest → n < count → NoneNext last left rest
    → (heads : List Head) (more : List ℕ) → AreHeads None heads → length heads ≡ count
    → total_of heads ≤ MAX_STORED → bytes ≡ flat_map head_spelling heads ++ more → ⊥
none_more told bytes n left count last rest s lt none heads more valid counted few e =
    let found =
    heads_told told None None s.done heads rest more s.valid valid (omega (arith, s.counted, counted))
    (sym s.parts ∙ e) in go found.0 found.1 found.2
  where
    go : (todo : List Head) → heads ≡ s.done ++ todo → rest ≡ flat_map head_spelling todo ++ more → ⊥
    go [] all back = absurd (omega (arith, ap length all, length-append s.done [], s.counted, counted))
    go (h ∷ todo) all back =
        let next = AreHeads-back None s.done (h ∷ todo) (subst (AreHeads None) all valid) in
        none h (flat_map head_spelling todo ++ more) next.0 (λ same. next.1 (s.last_is ∙ same))
        (omega (arith, ap total_of all, total_of-append s.done (h ∷ todo), s.summed))
        (back ∙ append_assoc (head_spelling h) (flat_map head_spelling todo) more)

-- ---- the parts after the tag

heads_fit : (heads : List Head) (chars bytes : List ℕ) → IsFormattedBody heads chars bytes → length heads < 2 ^ 32
heads_fit heads chars bytes r = omega (arith, heads_few None heads r.valid, r.total, r.few)

chars_fit : (heads : List Head) (chars bytes : List ℕ) → IsFormattedBody heads chars bytes → length chars < 2 ^ 32
chars_fit heads chars bytes r = omega (arith, r.few)

-- the bytes begin with a number
pub read_long : (heads : List Head) (chars bytes : List ℕ) → IsFormattedBody heads chars bytes → 4 ≤ length bytes
read_long heads chars bytes r =
    omega (
      arith,
      ap length r.parts,
      number_long (length heads) (flat_map head_spelling heads ++ (number_spelling w32 (length chars)
          ++ chars)),
    )

pub count_told : (heads : List Head) (chars bytes : List ℕ) (count : ℕ) (rest : List ℕ)
    → IsFormattedBody heads chars bytes → count < 2 ^ 32 → bytes ≡ number_spelling w32 count ++ rest
    → (length heads ≡ count)
    × (rest ≡ flat_map head_spelling heads ++ (number_spelling w32 (length chars) ++ chars))
count_told heads chars bytes count rest r fits e =
    let after : List ℕ = flat_map head_spelling heads ++ (number_spelling w32 (length chars) ++ chars) in
    let both = number_told (length heads) count after rest (heads_fit heads chars bytes r) fits (sym r.parts
    ∙ e) in
    (both.0, sym both.1)

-- after runs that were read, as many as there are, stand how many characters there are, and these
pub total_told : (told : LooksAreDetermined) (heads : List Head) (chars rest : List ℕ) (done : List Head)
    (after : List ℕ) → AreHeads None heads → AreHeads None done → length done ≡ length heads
    → rest ≡ flat_map head_spelling heads ++ (number_spelling w32 (length chars) ++ chars)
    → rest ≡ flat_map head_spelling done ++ after
    → (heads ≡ done) × (after ≡ number_spelling w32 (length chars) ++ chars)
total_told told heads chars rest done after valid done_are counted e f =
    let more : List ℕ = number_spelling w32 (length chars) ++ chars in
    let found =
    heads_told told None None done heads after more done_are valid (omega arith) (sym f ∙ e) in
    go found.0 found.1 found.2
  where
    go : (todo : List Head) → heads ≡ done ++ todo
        → after ≡ flat_map head_spelling todo ++ (number_spelling w32 (length chars) ++ chars)
        → (heads ≡ done) × (after ≡ number_spelling w32 (length chars) ++ chars)
    go [] all back = (all ∙ append-nil done, back)
    go (h ∷ todo) all back = absurd (omega (arith, ap length all, length-append done (h ∷ todo), counted))

-- ---- parts that are none

module _ (told : LooksAreDetermined) (bytes : List ℕ) (count : ℕ) (rest : List ℕ) (fits : count < 2 ^ 32)
    (first : bytes ≡ number_spelling w32 count ++ rest) where
  -- no runs can be read after the count
  pub no_heads : ((heads : List Head) (more : List ℕ) → AreHeads None heads → length heads ≡ count
      → total_of heads ≤ MAX_STORED → rest ≡ flat_map head_spelling heads ++ more → ⊥)
      → (heads : List Head) (chars : List ℕ) → IsFormattedBody heads chars bytes → ⊥
  no_heads none heads chars r =
      let told_count = count_told heads chars bytes count rest r fits first in
      none heads (number_spelling w32 (length chars) ++ chars) r.valid told_count.0
      (omega (arith, r.total, r.few)) told_count.1

  -- what can be read after them
  pub total_after : (done : List Head) (after : List ℕ) → AreHeads None done → length done ≡ count
      → rest ≡ flat_map head_spelling done ++ after → (heads : List Head) (chars : List ℕ)
      → IsFormattedBody heads chars bytes → (heads ≡ done) × (after ≡ number_spelling w32 (length chars) ++ chars)
  total_after done after done_are counted e heads chars r =
      let told_count = count_told heads chars bytes count rest r fits first in
      total_told told heads chars rest done after r.valid done_are (counted ∙ sym told_count.0) told_count.1 e

  pub no_total : (done : List Head) (after : List ℕ) → AreHeads None done → length done ≡ count
      → rest ≡ flat_map head_spelling done ++ after → length after < 4 → (heads : List Head)
      (chars : List ℕ) → IsFormattedBody heads chars bytes → ⊥
  no_total done after done_are counted e short heads chars r =
      let there = total_after done after done_are counted e heads chars r in
      omega (arith, short, ap length there.1, number_long (length chars) chars)

  -- the total that was read, and the characters after it, aren't as many as the runs have
  pub other_total : (done : List Head) (after : List ℕ) (sum total : ℕ) (more : List ℕ)
      → AreHeads None done → length done ≡ count → total_of done ≡ sum
      → rest ≡ flat_map head_spelling done ++ after → total < 2 ^ 32
      → after ≡ number_spelling w32 total ++ more → (total ≢ sum) ⊎ (length more ≢ sum)
      → (heads : List Head) (chars : List ℕ) → IsFormattedBody heads chars bytes → ⊥
  other_total done after sum total more done_are counted sum_is e total_fits f why heads chars r =
      let there = total_after done after done_are counted e heads chars r in
      let same =
      number_told (length chars) total chars more (chars_fit heads chars bytes r) total_fits (sym there.1 ∙ f) in
      let is_sum : length chars ≡ sum = sym r.total ∙ ap total_of there.0 ∙ sum_is in
      elim why [
        | inl other ↦ other (sym same.0 ∙ is_sum)
        | inr other ↦ other (sym (ap length same.1) ∙ is_sum)
      ]
