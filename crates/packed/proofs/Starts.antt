-- What bytes begin with: by their first byte a reader knows what comes.
use Rattle.std.proofs.Common.{◌≡◌, ℕ, ◌<◌, ◌≤◌, ◌⊎◌, inl, inr, Bool, true, false, cond, ◌&&◌, ◌||◌, eqb, ltb, leb, List, [], ◌∷◌, ◌++◌}
use Rattle.std.proofs.Common.{refl, arith}
use Rattle.std.proofs.lemmas.Bool.{ne_eqb, or_parts}
use Rattle.std.proofs.lemmas.Bool.Decides.{nat_tests}
use Rattle.char_files.specs.declared.name.Anchor.{Anchor}
use Rattle.char_files.specs.declared.name.Anchor.TheVariants.{Root, At}
use Rattle.looks.specs.declared.looks.Looks.{Looks}
use Rattle.char_files.specs.Runs.{same_looks}
use Rattle.operations.specs.Spelling.{looks_spelling}
use Rattle.packed.specs.Numbers.{sevens, step_spelling}
use Rattle.packed.specs.Spelling.{is_code, looks_lead, place_lead, bytes_spelling}

-- not one of 1 to n
abbrev pub Past : ℕ → ℕ → Type 0
Past n first = (first ≡ 0) ⊎ (n < first)

pub past_ne : (n first k : ℕ) → Past n first → 0 < k → k ≤ n → eqb first k ≡ false
past_ne n first k (inl is) some le = ne_eqb first k (λ e. omega arith)
past_ne n first k (inr lt) some le = ne_eqb first k (λ e. omega arith)

pub past_less : (n m first : ℕ) → m ≤ n → Past n first → Past m first
past_less n m first le (inl is) = inl is
past_less n m first le (inr lt) = inr (omega arith)

-- no code of an operation on a set
pub record IsNoSet (first : ℕ) : Type 0 where
  pub delete : eqb first 7 ≡ false
  pub change : eqb first 11 ≡ false
  pub restore : eqb first 12 ≡ false

-- what an Insert or a Delete of one character can begin with, once so many leads are over
pub record IsStart (n first : ℕ) : Type 0 where
  pub past : Past n first
  pub no_set : IsNoSet first

-- the bytes begin so
pub record Starts (n : ℕ) (bytes : List ℕ) : Type 0 where
  pub first : ℕ
  pub after : List ℕ
  pub is : bytes ≡ first ∷ after
  pub start : IsStart n first

-- the bytes begin with no lead that tells the time
pub record AfterTime (bytes : List ℕ) : Type 0 where
  pub first : ℕ
  pub after : List ℕ
  pub is : bytes ≡ first ∷ after
  pub past : Past 2 first

pub after_time : (bytes : List ℕ) → Starts 2 bytes → AfterTime bytes
after_time bytes s = record { first = s.first; after = s.after; is = s.is; past = s.start.past }

-- a letter is no code
pub record IsLetter (b : ℕ) : Type 0 where
  pub start : IsStart 5 b
  pub long : eqb b 6 ≡ false
  pub one : eqb b 8 ≡ false
  pub escape : eqb b 14 ≡ false

-- a code in files and in chunks
abbrev is_any_code : ℕ → Bool
is_any_code b = (ltb 0 b && leb b 8) || eqb b 11 || eqb b 12 || eqb b 14

past_from : (b : ℕ) → is_any_code b ≡ false → Past 5 b
past_from b e = grind (arith, nat_tests)

no_code_is : (b : ℕ) → is_any_code b ≡ false → IsLetter b
no_code_is b e = record {
  start = record {
    past = past_from b e;
    no_set = record { delete = grind (arith, nat_tests); change = grind (arith, nat_tests); restore = grind (arith, nat_tests) };
  };
  long = grind (arith, nat_tests);
  one = grind (arith, nat_tests);
  escape = grind (arith, nat_tests);
}

pub letter_is : (chunk : Bool) (b : ℕ) → is_code chunk b ≡ false → IsLetter b
letter_is chunk b e = no_code_is b (or_parts (is_any_code b) (chunk && eqb b 15) e).0

start_by : (n first : ℕ) → n < first → eqb first 7 ≡ false → eqb first 11 ≡ false → eqb first 12 ≡ false → IsStart n first
start_by n first lt a b c = record { past = inr lt; no_set = record { delete = a; change = b; restore = c } }

pub starts_with : (n first : ℕ) (after : List ℕ) → IsStart n first → Starts n (first ∷ after)
starts_with n first after is = record { first = first; after = after; is = refl; start = is }

pub starts_less : (n m : ℕ) (bytes : List ℕ) → m ≤ n → Starts n bytes → Starts m bytes
starts_less n m bytes le s = record {
  first = s.first;
  after = s.after;
  is = s.is;
  start = record { past = past_less n m s.first le s.start.past; no_set = s.start.no_set };
}

-- the bytes of an Insert
pub bytes_start : (chunk : Bool) (bytes rest : List ℕ) → Starts 5 (bytes_spelling chunk bytes ++ rest)
bytes_start chunk [] rest = starts_with 5 6 _ (start_by 5 6 (omega arith) refl refl refl)
bytes_start chunk (b ∷ []) rest = by (is_code chunk b) refl
  where
    by : (t : Bool) → is_code chunk b ≡ t → Starts 5 (cond t (14 ∷ b ∷ []) (b ∷ []) ++ rest)
    by true e = starts_with 5 14 _ (start_by 5 14 (omega arith) refl refl refl)
    by false e = let l = letter_is chunk b e in starts_with 5 b _ l.start
bytes_start chunk (b ∷ c ∷ bytes) rest = starts_with 5 6 _ (start_by 5 6 (omega arith) refl refl refl)

-- a Delete of one character
pub one_starts : (rest : List ℕ) → Starts 5 (8 ∷ rest)
one_starts rest = starts_with 5 8 rest (start_by 5 8 (omega arith) refl refl refl)

-- the place before that
pub place_starts : (caret place : Anchor) (rest : List ℕ) → Starts 5 rest → Starts 3 (place_lead caret place ++ rest)
place_starts Root Root rest s = starts_less 5 3 rest (omega arith) s
place_starts Root (At name) rest s = starts_with 3 5 _ (start_by 3 5 (omega arith) refl refl refl)
place_starts (At caret) Root rest s = starts_with 3 5 _ (start_by 3 5 (omega arith) refl refl refl)
place_starts (At caret) (At name) rest s = by (eqb name.site caret.site) (eqb name.off caret.off)
  where
    by : (t u : Bool) → Starts 3 (cond t (cond u [] (4 ∷ step_spelling caret.off name.off))
        (5 ∷ sevens name.site ++ sevens name.off) ++ rest)
    by false u = starts_with 3 5 _ (start_by 3 5 (omega arith) refl refl refl)
    by true true = starts_less 5 3 rest (omega arith) s
    by true false = starts_with 3 4 _ (start_by 3 4 (omega arith) refl refl refl)

-- the looks before that
pub looks_start : (typed looks : Looks) (rest : List ℕ) → Starts 3 rest → Starts 2 (looks_lead typed looks ++ rest)
looks_start typed looks rest s = by (same_looks typed looks)
  where
    by : (t : Bool) → Starts 2 (cond t [] (3 ∷ looks_spelling looks) ++ rest)
    by true = starts_less 3 2 rest (omega arith) s
    by false = starts_with 2 3 _ (start_by 2 3 (omega arith) refl refl refl)
