-- A field that is read is the field that was written, and what was written is read again.
use Rattle.std.proofs.Common.{◌≡◌, ℕ, suc, ◌+◌, ◌^◌, ◌<◌, ◌≤◌, Bool, true, false, cond, eqb, ltb, List, []}
use Rattle.std.proofs.Common.{◌∷◌, ◌++◌, length, All, get_or, take, drop, Option, Some, None, refl, sym, ap}
use Rattle.std.proofs.Common.{subst, ◌∙◌, inl, inr, arith}
use Rattle.std.specs.Int.{Width, w16, w32, w64, byte_len, from_be_bytes, to_be_bytes}
use Rattle.std.proofs.lemmas.Bool.{cases_lt, ltb-false, le-ltb, eqb-false, ne_eqb}
use Rattle.std.proofs.lemmas.List.{take_at, drop_at, take-append-drop, length-append, length-take}
use Rattle.std.proofs.lemmas.List.{get_or-drop, get_or-take, get_or_past, get_or_append_left}
use Rattle.std.proofs.lemmas.List.{get_or_default}
use Rattle.std.proofs.lemmas.Nat.{be_bytes_2, be_bytes_4, be_bytes_8, from_be_bytes-to_be_bytes_2}
use Rattle.std.proofs.lemmas.Nat.{from_be_bytes-to_be_bytes_4, from_be_bytes-to_be_bytes_8}
use Rattle.byte_fields.specs.Fields.{◌>>=◌, stretch_at, number_at, positive_at, byte_at}
use Rattle.byte_fields.specs.Fields.{number_spelling}

abbrev pub IsBytes : List ℕ → Type 0
IsBytes bytes = (i : ℕ) → get_or bytes i 0 < 256

IsBytes-drop : (n : ℕ) (bytes : List ℕ) → IsBytes bytes → IsBytes (drop n bytes)
IsBytes-drop n bytes h i = rw get_or-drop (h (n + i))

IsBytes-take : (n : ℕ) (bytes : List ℕ) → IsBytes bytes → IsBytes (take n bytes)
IsBytes-take n bytes h i =
    elim (cases_lt i n) [
      | inl lt ↦ rw (get_or-take n bytes i 0 lt) (h i)
      | inr le ↦ rw (get_or_past (take n bytes) i 0 (omega (arith, length-take n bytes))) (omega arith)
    ]

-- ---- readers

-- x was read from the front of the bytes: it is in range, and the bytes are its spelling and what is left
pub record Took {A : Type 0} (spelling : A → List ℕ) (InRange : A → Type 0) (bytes : List ℕ) (x : A)
    (rest : List ℕ) : Type 0 where
  pub parts : bytes ≡ spelling x ++ rest
  pub rest_fits : IsBytes rest
  pub in_range : InRange x

-- a reader reads exactly what is spelled so
pub record Reads {A : Type 0} (reader : List ℕ → Option (A × List ℕ)) (spelling : A → List ℕ) (InRange : A
    → Type 0) : Type 0 where
  pub takes : (bytes : List ℕ) (x : A) (rest : List ℕ) → IsBytes bytes → reader bytes ≡ Some (x, rest)
      → Took spelling InRange bytes x rest
  pub again : (x : A) (rest : List ℕ) → InRange x → reader (spelling x ++ rest) ≡ Some (x, rest)

-- a step that found something: what it took, and how it went on
pub record Step {A C : Type 0} (spelling : A → List ℕ) (InRange : A → Type 0) (next : A × List ℕ
    → Option C) (bytes : List ℕ) (found : C) : Type 0 where
  pub x : A
  pub rest : List ℕ
  pub took : Took spelling InRange bytes x rest
  pub goes_on : next (x, rest) ≡ Some found

pub step : {A C : Type 0} (reader : List ℕ → Option (A × List ℕ)) (spelling : A → List ℕ) (InRange : A
    → Type 0) → Reads reader spelling InRange
    → (next : A × List ℕ → Option C) (bytes : List ℕ) (found : C) → IsBytes bytes → (reader bytes >>= next)
    ≡ Some found → Step spelling InRange next bytes found
step {A = A} reader spelling InRange reads next bytes found fits e = go (reader bytes) refl e
  where
    go : (o : Option (A × List ℕ)) → reader bytes ≡ o → (o >>= next) ≡ Some found
        → Step spelling InRange next bytes found
    go None is h = absurd cc
    go (Some y) is h = record { x = y.0; rest = y.1; took = reads.takes bytes y.0 y.1 fits is; goes_on = h }

pub bind_some : {A B : Type 0} (o : Option A) (f : A → Option B) (y : B) → (o >>= f) ≡ Some y
    → (x : A) × (o ≡ Some x) × (f x ≡ Some y)
bind_some None f y e = absurd cc
bind_some (Some x) f y e = (x, refl, e)

pub some_is : {A : Type 0} (x y : A) → ◌≡◌ {A = Option A} (Some x) (Some y) → x ≡ y
some_is x y e = cc

-- a test that let a value through
pub passed : {A : Type 0} (b : Bool) (x y : A) → cond b (Some x) None ≡ Some y → (b ≡ true) × (x ≡ y)
passed true x y e = (refl, cc)
passed false x y e = absurd cc

-- a test that didn't stop one
pub not_stopped : {A : Type 0} (b : Bool) (o : Option A) (y : A) → cond b None o ≡ Some y
    → (b ≡ false) × (o ≡ Some y)
not_stopped true o y e = absurd cc
not_stopped false o y e = (refl, e)

-- ---- numbers

pub record IsWide (w : Width) (limit : ℕ) : Type 0 where
  pub len : (n : ℕ) → length (to_be_bytes w n) ≡ byte_len w
  pub back : (bytes : List ℕ) → length bytes ≡ byte_len w → IsBytes bytes
      → to_be_bytes w (from_be_bytes w bytes) ≡ bytes
  pub again : (n : ℕ) → n < limit → from_be_bytes w (to_be_bytes w n) ≡ n
  pub below : (bytes : List ℕ) → IsBytes bytes → from_be_bytes w bytes < limit

pub wide16 : IsWide w16 (2 ^ 16)
wide16 = record {
  len = λ n. refl;
  back = λ bytes len fits. be_bytes_2 bytes _ len fits refl;
  again = λ n lt. from_be_bytes-to_be_bytes_2 n lt;
  below = λ bytes fits. omega (arith, fits 0, fits 1);
}

pub wide32 : IsWide w32 (2 ^ 32)
wide32 = record {
  len = λ n. refl;
  back = λ bytes len fits. be_bytes_4 bytes _ len fits refl;
  again = λ n lt. from_be_bytes-to_be_bytes_4 n lt;
  below = λ bytes fits. omega (arith, fits 0, fits 1, fits 2, fits 3);
}

pub wide64 : IsWide w64 (2 ^ 64)
wide64 = record {
  len = λ n. refl;
  back = λ bytes len fits. be_bytes_8 bytes _ len fits refl;
  again = λ n lt. from_be_bytes-to_be_bytes_8 n lt;
  below = λ bytes fits. omega (arith, fits 0, fits 1, fits 2, fits 3, fits 4, fits 5, fits 6, fits 7);
}

pub number_reads : (w : Width) (limit : ℕ) → IsWide w limit
    → Reads (number_at w) (number_spelling w) (λ n. n < limit)
unfolding number_spelling
number_reads w limit wide = record {
  takes = λ bytes n rest fits e.
      let front : List ℕ = take (byte_len w) bytes in
      let back : List ℕ = drop (byte_len w) bytes in
      let g = not_stopped (ltb (length bytes) (byte_len w)) (Some (from_be_bytes w front, back)) (n, rest)
      e in
      let long : byte_len w ≤ length bytes = ltb-false _ _ g.0 in
      let is : ◌≡◌ {A = ℕ × List ℕ} (from_be_bytes w front, back) (n, rest) = some_is _ _ g.1 in
      let n-is : from_be_bytes w front ≡ n = ap (λ (p : ℕ × List ℕ). p.0) is in
      let rest-is : back ≡ rest = ap (λ (p : ℕ × List ℕ). p.1) is in
      let front-is : to_be_bytes w n ≡ front =
      rw (← n-is) (wide.back front (omega (arith, length-take (byte_len w) bytes))
      (IsBytes-take (byte_len w) bytes fits)) in
      record {
        parts = rw (front-is, ← rest-is) (sym (take-append-drop (byte_len w) bytes));
        rest_fits = rw (← rest-is) (IsBytes-drop (byte_len w) bytes fits);
        in_range = rw (← n-is) (wide.below front (IsBytes-take (byte_len w) bytes fits));
      };
  again = λ n rest lt.
      let long : ltb (length (to_be_bytes w n ++ rest)) (byte_len w) ≡ false =
      le-ltb _ _ (omega (arith, wide.len n, length-append (to_be_bytes w n) rest)) in
      rw (
        long,
        take_at (to_be_bytes w n) rest (byte_len w) (wide.len n),
        drop_at (to_be_bytes w n) rest
            (byte_len w) (wide.len n),
        wide.again n lt,
      ) refl;
}

-- a number that was found is what the bytes begin with
pub number_first : (w : Width) (limit : ℕ) → IsWide w limit → (bytes : List ℕ) (n : ℕ) (rest : List ℕ) → IsBytes bytes
    → number_at w bytes ≡ Some (n, rest) → (n < limit) × (bytes ≡ number_spelling w n ++ rest)
number_first w limit wide bytes n rest fits e =
    let took = (number_reads w limit wide).takes bytes n rest fits e in (took.in_range, took.parts)

-- where none was found there are too few bytes
pub number_missing : (w : Width) (bytes : List ℕ) → number_at w bytes ≡ None → length bytes < byte_len w
number_missing w bytes e =
    elim (cases_lt (length bytes) (byte_len w)) [
      | inl lt ↦ lt
      | inr le ↦ let no : number_at w bytes ≡ Some (from_be_bytes w (take (byte_len w) bytes), drop (byte_len w) bytes) =
          rw (le-ltb _ _ le) refl in absurd cc
    ]

-- a number from 1 on
abbrev pub IsPositive : ℕ → ℕ → Type 0
IsPositive limit n = (0 < n) × (n < limit)

pub positive_reads : (w : Width) (limit : ℕ) → IsWide w limit
    → Reads (positive_at w) (number_spelling w) (IsPositive limit)
unfolding positive_at
positive_reads w limit wide = record {
  takes = λ bytes n rest fits e.
      let s = step _ _ _ (number_reads w limit wide) _ bytes (n, rest) fits e in
      let g = not_stopped (eqb s.x 0) (Some (s.x, s.rest)) (n, rest) s.goes_on in
      subst (λ (p : ℕ × List ℕ). Took (number_spelling w) (IsPositive limit) bytes p.0 p.1) (some_is _ _ g.1)
      (record {
        parts = s.took.parts;
        rest_fits = s.took.rest_fits;
        in_range =
            (omega (arith, eqb-false _ _ g.0), s.took.in_range);
      });
  again = λ n rest h.
      let ne : eqb n 0 ≡ false = ne_eqb _ _ (λ z. absurd (omega arith)) in
      rw ((number_reads w limit wide).again n rest h.1, ne) refl;
}

pub positive_is : (w : Width) (bytes : List ℕ) (n : ℕ) (rest : List ℕ) → positive_at w bytes
    ≡ Some (n, rest) → 0 < n
unfolding positive_at
positive_is w bytes n rest e =
    let s = bind_some (number_at w bytes) _ (n, rest) e in
    let g = not_stopped (eqb s.0.0 0) (Some s.0) (n, rest) s.2 in
    subst (λ (p : ℕ × List ℕ). 0 < p.0) (some_is _ _ g.1) (omega (arith, eqb-false _ _ g.0))

-- ---- bytes

IsBytes-tail : (b : ℕ) (bytes : List ℕ) → IsBytes (b ∷ bytes) → IsBytes bytes
IsBytes-tail b bytes h i = h (suc i)

-- the bytes of a front
pub front_bytes : (x rest bytes : List ℕ) → bytes ≡ x ++ rest → IsBytes bytes → All (λ b. b < 256) x
front_bytes x rest bytes e fits k d lt =
    let here : get_or bytes k 0 ≡ get_or x k d =
    ap (λ (l : List ℕ). get_or l k 0) e ∙ get_or_append_left x rest 0 k lt
    ∙ get_or_default x k 0 d lt in
    rw (← here) (fits k)

pub byte_reads : Reads byte_at (λ b. b ∷ []) (λ b. b < 256)
byte_reads = record { takes = takes; again = λ b rest h. refl }
  where
    takes : (bytes : List ℕ) (b : ℕ) (rest : List ℕ) → IsBytes bytes → byte_at bytes ≡ Some (b, rest)
        → Took (λ b. b ∷ []) (λ b. b < 256) bytes b rest
    takes [] b rest fits e = absurd cc
    takes (x ∷ bytes) b rest fits e =
        subst (λ (p : ℕ × List ℕ). Took (λ b. b ∷ []) (λ b. b < 256) (x ∷ bytes) p.0 p.1) (some_is _ _ e)
        (record { parts = refl; rest_fits = IsBytes-tail x bytes fits; in_range = fits 0 })

-- bytes as they are
abbrev pub as_it_is : List ℕ → List ℕ
as_it_is bytes = bytes

pub stretch_reads : (n : ℕ) → Reads (stretch_at n) as_it_is (λ x. length x ≡ n)
stretch_reads n = record {
  takes = λ bytes x rest fits e.
      let g = not_stopped (ltb (length bytes) n) (Some (take n bytes, drop n bytes)) (x, rest) e in
      let long : n ≤ length bytes = ltb-false _ _ g.0 in
      subst (λ (p : List ℕ × List ℕ). Took as_it_is (λ x. length x ≡ n) bytes p.0 p.1) (some_is _ _ g.1)
      (record {
        parts = sym (take-append-drop n bytes);
        rest_fits = IsBytes-drop n bytes fits;
        in_range =
            omega (arith, length-take n bytes);
      });
  again = λ x rest is.
      let long : ltb (length (x ++ rest)) n ≡ false = le-ltb _ _ (omega (arith, length-append x rest)) in
      rw (long, take_at x rest n is, drop_at x rest n is) refl;
}
