-- Rows of letters: each letter of one, and what a chunk tells with one more.
use Rattle.std.proofs.Common.{◌≡◌, ℕ, zero, suc, ◌+◌, ◌<◌, ◌≤◌, inl, inr, true, false, eqb, List, [], ◌∷◌, ◌++◌, length, get_or, take}
use Rattle.std.proofs.Common.{refl, sym, ap, subst, ◌∙◌, append_assoc, length-append, eq-eqb, arith}
use Rattle.std.specs.Prelude.{All}
use Rattle.std.proofs.lemmas.Bool.{cond-true}
use Rattle.std.proofs.lemmas.List.{append-nil, length-take-le, take_more}
use Rattle.std.proofs.lemmas.List.Elements.{All-cons, All-head, All-nil, All-tail}
use Rattle.char_files.specs.declared.TheConstants.{MAX_FILE}
use Rattle.char_files.specs.declared.name.Anchor.{Anchor}
use Rattle.char_files.specs.declared.name.Anchor.TheVariants.{At}
use Rattle.operations.specs.Letters.{after_letter, letter, letters}
use Rattle.operations.specs.Operation.{Operation}
use Rattle.operations.specs.Spelling.{HasSpelling}
use Rattle.operations.specs.declared.typing.Typing.{Typing}
use Rattle.packed.specs.Letters.{AreTypedNext, TypesOn}
use Rattle.packed.specs.Reading.{CanBeNext}
use Rattle.packed.specs.Spelling.{is_code}
use Rattle.packed.specs.Told.{Told, after_one_more, expected, has_begun, told_after, told_on}
use Rattle.packed.proofs.Letters.{letter_packed, letters_follow, none_is_code, typed_on, types_on}
use Rattle.packed.proofs.Told.{has_begun_noted}
use Rattle.chunks.specs.Chunks.{Placed, CanCome}
use Rattle.chunks.specs.Parts.{ReadsFirst, placed}
use Rattle.chunks.specs.Rows.{ReadsSome, cause_at, typed_at}
use Rattle.chunks.proofs.Firsts.{later_parts}
use Rattle.chunks.proofs.Opening.{begun_here}
use Rattle.chunks.proofs.ReadAll.{SoFar, one_more, shorter}

-- ---- each letter of a row

-- letters of one text, site and looks are the same where their numbers and what they hang on are
same_letter : (t : Typing) (seq stamp at : ℕ) (cause : Anchor) (seq' stamp' at' : ℕ) (cause' : Anchor) (b : ℕ)
    → seq ≡ seq' → stamp ≡ stamp' → at ≡ at' → cause ≡ cause'
    → letter (record t { seq = seq; stamp = stamp; at = at; cause = cause }) b
    ≡ letter (record t { seq = seq'; stamp = stamp'; at = at'; cause = cause' }) b
same_letter t seq stamp at cause seq' stamp' at' cause' b seqs stamps ats causes = rw (seqs, stamps, ats, causes) refl

-- the first one's
first_letter : (t : Typing) (b : ℕ) → letter t b ≡ letter (typed_at t 0) b
first_letter t b =
    same_letter t t.seq t.stamp t.at t.cause (t.seq + 0) (t.stamp + 0) (t.at + 0) (cause_at t 0) b
    (omega arith) (omega arith) (omega arith) refl

next_cause : (t : Typing) (k : ℕ) → cause_at (after_letter t) k ≡ cause_at t (suc k)
next_cause t zero = ap (λ (n : ℕ). At (record { site = t.site; off = n })) (omega arith)
next_cause t (suc k) = ap (λ (n : ℕ). At (record { site = t.site; off = n })) (omega arith)

-- and the one after so many, counted from the second
next_letter : (t : Typing) (k b : ℕ) → letter (typed_at (after_letter t) k) b ≡ letter (typed_at t (suc k)) b
next_letter t k b =
    same_letter t (t.seq + 1 + k) (t.stamp + 1 + k) (t.at + 1 + k) (cause_at (after_letter t) k)
    (t.seq + suc k) (t.stamp + suc k) (t.at + suc k) (cause_at t (suc k)) b
    (omega arith) (omega arith) (omega arith) (next_cause t k)

pub letter_there : (t : Typing) (bytes : List ℕ) (k : ℕ) (d : Operation) (b : ℕ) → k < length bytes
    → get_or (letters t bytes) k d ≡ letter (typed_at t k) (get_or bytes k b)
letter_there t [] k d b lt = absurd (omega (arith, lt))
letter_there t (x ∷ bytes) zero d b lt = first_letter t x
letter_there t (x ∷ bytes) (suc k) d b lt =
    letter_there (after_letter t) bytes k d b (omega (arith, lt)) ∙ next_letter t k (get_or bytes k b)

pub length_letters : (t : Typing) (bytes : List ℕ) → length (letters t bytes) ≡ length bytes
length_letters t [] = refl
length_letters t (b ∷ bytes) = ap suc (length_letters (after_letter t) bytes)

pub letters_pushed : (t : Typing) (bytes : List ℕ) (b : ℕ)
    → letters t (bytes ++ b ∷ []) ≡ letters t bytes ++ letter (typed_at t (length bytes)) b ∷ []
letters_pushed t [] b = ap (λ (op : Operation). op ∷ []) (first_letter t b)
letters_pushed t (x ∷ bytes) b =
    ap (λ (ops : List Operation). letter t x ∷ ops)
    (letters_pushed (after_letter t) bytes b
    ∙ ap (λ (op : Operation). letters (after_letter t) bytes ++ op ∷ []) (next_letter t (length bytes) b))

-- one letter more
pub letters_more : (t : Typing) (bytes : List ℕ) (k b : ℕ) → k < length bytes
    → letters t (take (k + 1) bytes) ≡ letters t (take k bytes) ++ letter (typed_at t k) (get_or bytes k b) ∷ []
letters_more t bytes k b lt =
    ap (letters t) (take_more bytes k b lt) ∙ letters_pushed t (take k bytes) (get_or bytes k b)
    ∙ ap (λ (n : ℕ). letters t (take k bytes) ++ letter (typed_at t n) (get_or bytes k b) ∷ []) (length-take-le k bytes (omega (arith, lt)))

-- each has a spelling where all have
pub letter_spelled : (t : Typing) (bytes : List ℕ) (k b : ℕ) → All HasSpelling (letters t bytes) → k < length bytes
    → HasSpelling (letter (typed_at t k) (get_or bytes k b))
letter_spelled t bytes k b spelled lt =
    subst HasSpelling (letter_there t bytes k (letter t 0) b lt)
    (spelled k (letter t 0) (omega (arith, lt, length_letters t bytes)))

-- ---- what a chunk tells with a row more

module _ (t : Told) (text : ℕ) (typing : Typing) (b : ℕ) (after_it : List ℕ) (on : TypesOn t text typing)
    (begun_already : has_begun t typing.site ≡ true) (plain : is_code t.in_chunk b ≡ false)
    (spelled : HasSpelling (letter typing b)) where
  abbrev here : Placed
  here = placed (letter typing b) (expected t typing.site).len

  can_come : (expected t typing.site).len ≤ MAX_FILE → CanCome t text here
  can_come within = record {
    next = subst (λ (u : Told). CanBeNext u text (letter typing b)) (sym (begun_here t here begun_already))
        (letters_follow t text typing (b ∷ []) on (All-cons HasSpelling (letter typing b) [] spelled (All-nil HasSpelling))).0;
    len = ap (λ (u : Told). (expected u typing.site).len) (sym (begun_here t here begun_already));
    in_file = within;
  }

  -- its letter is read as any other operation is
  reads_letter : (expected t typing.site).len ≤ MAX_FILE
      → ReadsFirst t (told_on t (letter typing b)) text (b ∷ after_it) (letter typing b) after_it
  reads_letter within = record {
    placed = here;
    is = refl;
    first = record {
      can = can_come within;
      parts = ap (λ (l : List ℕ). l ++ after_it)
          (sym (later_parts t here begun_already ∙ letter_packed t text typing b on plain));
    };
    tells = ap (λ (u : Told). told_on u (letter typing b)) (sym (begun_here t here begun_already));
  }

  still_begun : has_begun (told_on t (letter typing b)) typing.site ≡ true
  still_begun =
      has_begun_noted t typing.site (after_one_more (expected t typing.site) (letter typing b)) typing.site
      ∙ cond-true (eqb typing.site typing.site) _ _ (eq-eqb _ _ refl)

row_more : (text : ℕ) (all : List ℕ) (t : Told) (ops : List Operation) (typing : Typing) (bytes rest : List ℕ)
    → SoFar text all t ops (bytes ++ rest) → TypesOn t text typing → has_begun t typing.site ≡ true
    → All (λ b. is_code t.in_chunk b ≡ false) bytes → All HasSpelling (letters typing bytes)
    → SoFar text all (told_after t (letters typing bytes)) (ops ++ letters typing bytes) rest
row_more text all t ops typing [] rest s on begun_already plain spelled =
    subst (λ (l : List Operation). SoFar text all t l rest) (sym (append-nil ops)) s
row_more text all t ops typing (b ∷ bytes) rest s on begun_already plain spelled =
    let op = letter typing b in
    let more = letters (after_letter typing) bytes in
    let plain_b = All-head (λ b. is_code t.in_chunk b ≡ false) b bytes plain in
    let spelled_b = All-head HasSpelling op more spelled in
    let reads = reads_letter t text typing b (bytes ++ rest) on begun_already plain_b spelled_b (s.is_open.lens typing.site) in
    subst (λ (l : List Operation). SoFar text all (told_after (told_on t op) more) l rest) (append_assoc ops (op ∷ []) more)
    (row_more text all (told_on t op) (ops ++ op ∷ []) (after_letter typing) bytes rest
    (one_more text all t (told_on t op) ops (b ∷ bytes ++ rest) (bytes ++ rest) op s reads)
    (types_on t text typing b on) (still_begun t text typing b (bytes ++ rest) on begun_already plain_b spelled_b)
    (All-tail (λ b. is_code t.in_chunk b ≡ false) b bytes plain) (All-tail HasSpelling op more spelled))

-- what letters that come next tell of where they are typed
types_there : (t : Told) (text : ℕ) (typing : Typing) (bytes : List ℕ) → AreTypedNext t text typing bytes
    → TypesOn t text typing
types_there t text typing [] are = absurd (omega (arith, are.some))
types_there t text typing (b ∷ bytes) are = (typed_on t text typing b bytes are).0

-- ---- what was read next

pub some_more : (text : ℕ) (all : List ℕ) (t new : Told) (ops more : List Operation) (bytes rest : List ℕ)
    → SoFar text all t ops bytes → ReadsSome t new text bytes ops more rest → SoFar text all new more rest
some_more text all t new ops more bytes rest s (inl row) =
    let was : SoFar text all t ops (row.typed ++ rest) = subst (SoFar text all t ops) row.parts s in
    let read = row_more text all t ops row.typing row.typed rest was
    (types_there t text row.typing row.typed row.next) row.begun (none_is_code t text row.typing row.typed row.next)
    row.next.spelled in
    subst (λ (l : List Operation). SoFar text all new l rest) (sym row.are)
    (subst (λ (u : Told). SoFar text all u (ops ++ letters row.typing row.typed) rest) (sym row.tells) read)
some_more text all t new ops more bytes rest s (inr (op, are, reads)) =
    subst (λ (l : List Operation). SoFar text all new l rest) (sym are) (one_more text all t new ops bytes rest op s reads)

-- it takes a byte at least
pub some_shorter : (t new : Told) (text : ℕ) (ops more : List Operation) (bytes rest : List ℕ)
    → ReadsSome t new text bytes ops more rest → length rest < length bytes
some_shorter t new text ops more bytes rest (inl row) =
    omega (arith, ap length row.parts, length-append row.typed rest, row.next.some)
some_shorter t new text ops more bytes rest (inr (op, are, reads)) = shorter t new text bytes rest op reads
