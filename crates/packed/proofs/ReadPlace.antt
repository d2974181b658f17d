-- The place of an edit, and the bytes of an Insert, are read as they are written.
use Rattle.std.proofs.Common.{◌≡◌, ℕ, suc, ◌+◌, ◌-◌, ◌^◌, ◌<◌, ◌≤◌, inl, inr, Bool, true, false, cond}
use Rattle.std.proofs.Common.{◌&&◌, eqb, ltb, List, [], ◌∷◌, ◌++◌, length, Option, Some, None, refl, sym, ap, subst, ◌∙◌}
use Rattle.std.proofs.Common.{append_assoc, arith}
use Rattle.std.proofs.lemmas.Bool.{cases_Bool, and_parts, and_from, ltb-true, lt-ltb, eqb-true, ne_eqb, eq-eqb, cond-true, cond-false}
use Rattle.byte_fields.specs.Fields.{stretch_at}
use Rattle.byte_fields.proofs.Readers.{IsBytes, Took, step, bind_some, some_is, passed, not_stopped, byte_reads}
use Rattle.byte_fields.proofs.Readers.{stretch_reads}
use Rattle.char_files.specs.CharName.{CharName}
use Rattle.char_files.specs.declared.TheConstants.{MAX_FILE}
use Rattle.char_files.specs.declared.name.Anchor.{Anchor}
use Rattle.char_files.specs.declared.name.Anchor.TheVariants.{Root, At}
use Rattle.packed.specs.Numbers.{sevens, step_spelling}
use Rattle.packed.specs.Told.{IsOffsetInFile}
use Rattle.packed.specs.Spelling.{is_code, place_lead, bytes_spelling}
use Rattle.packed.specs.Reading.{named, near_at, root_from, is_of, name_from, far_at, step_from, place_at}
use Rattle.packed.specs.Reading.{long_at, code_at, bytes_at}
use Rattle.packed.proofs.Sevens.{sevens_reads}
use Rattle.packed.proofs.Steps.{step_reads}
use Rattle.packed.proofs.Starts.{past_ne, Starts, letter_is}
use Rattle.packed.proofs.ReadParts.{either, Whatever}

-- a name in some site's file
abbrev pub IsName : CharName → Type 0
IsName n = (0 < n.site) × (n.site < 2 ^ 16) × (n.off < MAX_FILE)

-- the root or such a name
abbrev pub IsPlace : Anchor → Type 0
IsPlace Root = Unit {0}
IsPlace (At name) = IsName name

name_of : (site off : ℕ) → CharName
name_of site off = record { site = site; off = off }

-- the name that was made of numbers
named_is : (site off : ℕ) (n : CharName) → named site off ≡ Some n
    → (IsName n) × (n.site ≡ site) × (n.off ≡ off)
named_is site off n e =
    let g = passed (ltb 0 site && ltb site (2 ^ 16) && ltb off MAX_FILE) (record { site = site; off = off }) n e in
    let two = and_parts (ltb 0 site && ltb site (2 ^ 16)) (ltb off MAX_FILE) g.0 in
    let one = and_parts (ltb 0 site) (ltb site (2 ^ 16)) two.0 in
    subst (λ (m : CharName). (IsName m) × (m.site ≡ site) × (m.off ≡ off)) g.1
    ((ltb-true _ _ one.0, ltb-true _ _ one.1, ltb-true _ _ two.1), refl, refl)

named_again : (n : CharName) → IsName n → named n.site n.off ≡ Some n
named_again n is =
    cond-true (ltb 0 n.site && ltb n.site (2 ^ 16) && ltb n.off MAX_FILE) (Some n) None
    (and_from _ _ (and_from _ _ (lt-ltb _ _ is.0) (lt-ltb _ _ is.1)) (lt-ltb _ _ is.2))

near_lead : (caret name : CharName) → name.site ≡ caret.site → eqb name.off caret.off ≡ false
    → place_lead (At caret) (At name) ≡ 4 ∷ step_spelling caret.off name.off
near_lead caret name on e =
    cond-true (eqb name.site caret.site) _ _ (eq-eqb _ _ on) ∙ cond-false (eqb name.off caret.off) _ _ e

here_lead : (caret name : CharName) → name.site ≡ caret.site → eqb name.off caret.off ≡ true
    → place_lead (At caret) (At name) ≡ []
here_lead caret name on e =
    cond-true (eqb name.site caret.site) _ _ (eq-eqb _ _ on) ∙ cond-true (eqb name.off caret.off) _ _ e

no_place : (caret : Anchor) → place_lead caret caret ≡ []
no_place Root = refl
no_place (At caret) = here_lead caret caret refl (eq-eqb _ _ refl)

far_lead : (caret : Anchor) (name : CharName) → is_of caret name.site ≡ false
    → place_lead caret (At name) ≡ 5 ∷ sevens name.site ++ sevens name.off
far_lead Root name e = refl
far_lead (At caret) name e = cond-false (eqb name.site caret.site) _ _ e

near_taken : (caret : CharName) (bytes : List ℕ) (p : Anchor) (rest : List ℕ) → caret.off < MAX_FILE → IsBytes bytes
    → near_at caret bytes ≡ Some (p, rest) → Took (place_lead (At caret)) Whatever (4 ∷ bytes) p rest
unfolding near_at
near_taken caret bytes p rest below fits e =
    let reads = step_reads caret.off (omega arith) in
    let s = step _ _ _ reads _ bytes (p, rest) fits e in
    let n = bind_some (named caret.site s.x) _ (p, rest) s.goes_on in
    let is = named_is caret.site s.x n.0 n.1 in
    let g = not_stopped (eqb s.x caret.off) (Some (At n.0, s.rest)) (p, rest) n.2 in
    let apart : eqb n.0.off caret.off ≡ false = ap (λ (m : ℕ). eqb m caret.off) is.2 ∙ g.0 in
    subst (λ (x : Anchor × List ℕ). Took (place_lead (At caret)) Whatever (4 ∷ bytes) x.0 x.1) (some_is _ _ g.1)
    (record {
      parts = ap (λ (r : List ℕ). 4 ∷ r) s.took.parts
          ∙ ap (λ (m : ℕ). 4 ∷ step_spelling caret.off m ++ s.rest) (sym is.2)
          ∙ ap (λ (l : List ℕ). l ++ s.rest) (sym (near_lead caret n.0 is.1 apart));
      rest_fits = s.took.rest_fits;
      in_range = tt;
    })

root_taken : (caret : Anchor) (bytes : List ℕ) (p : Anchor) (rest : List ℕ) → root_from caret bytes ≡ Some (p, rest)
    → (place_lead caret p ≡ 5 ∷ sevens 0) × (rest ≡ bytes)
root_taken Root bytes p rest e = absurd cc
root_taken (At caret) bytes p rest e =
    subst (λ (x : Anchor × List ℕ). (place_lead (At caret) x.0 ≡ 5 ∷ sevens 0) × (x.1 ≡ bytes)) (some_is _ _ e)
    (refl, refl)

name_taken : (caret : Anchor) (site : ℕ) (bytes : List ℕ) (p : Anchor) (rest : List ℕ) → IsBytes bytes
    → name_from caret site bytes ≡ Some (p, rest) → Took (place_lead caret) Whatever (5 ∷ sevens site ++ bytes) p rest
unfolding name_from
name_taken caret site bytes p rest fits e =
    let s = step _ _ _ sevens_reads _ bytes (p, rest) fits e in
    let n = bind_some (named site s.x) _ (p, rest) s.goes_on in
    let is = named_is site s.x n.0 n.1 in
    let g = not_stopped (is_of caret site) (Some (At n.0, s.rest)) (p, rest) n.2 in
    let lead : place_lead caret (At n.0) ≡ 5 ∷ sevens site ++ sevens s.x =
    far_lead caret n.0 (ap (is_of caret) is.1 ∙ g.0)
    ∙ ap (λ (m : ℕ). 5 ∷ sevens m ++ sevens n.0.off) is.1 ∙ ap (λ (m : ℕ). 5 ∷ sevens site ++ sevens m) is.2 in
    subst (λ (x : Anchor × List ℕ). Took (place_lead caret) Whatever (5 ∷ sevens site ++ bytes) x.0 x.1) (some_is _ _ g.1)
    (record {
      parts = ap (λ (r : List ℕ). 5 ∷ sevens site ++ r) s.took.parts
          ∙ ap (λ (r : List ℕ). 5 ∷ r) (sym (append_assoc (sevens site) (sevens s.x) s.rest))
          ∙ ap (λ (l : List ℕ). l ++ s.rest) (sym lead);
      rest_fits = s.took.rest_fits;
      in_range = tt;
    })

far_taken : (caret : Anchor) (bytes : List ℕ) (p : Anchor) (rest : List ℕ) → IsBytes bytes
    → far_at caret bytes ≡ Some (p, rest) → Took (place_lead caret) Whatever (5 ∷ bytes) p rest
unfolding far_at
far_taken caret bytes p rest fits e =
    let s = step _ _ _ sevens_reads _ bytes (p, rest) fits e in
    elim (either (eqb s.x 0) _ _ _ s.goes_on) [
      | inl h ↦
          let r = root_taken caret s.rest p rest h.1 in
          record {
            parts = ap (λ (x : List ℕ). 5 ∷ x) s.took.parts
                ∙ ap (λ (n : ℕ). 5 ∷ sevens n ++ s.rest) (eqb-true _ _ h.0)
                ∙ ap (λ (x : List ℕ). 5 ∷ sevens 0 ++ x) (sym r.1)
                ∙ ap (λ (l : List ℕ). l ++ rest) (sym r.0);
            rest_fits = subst IsBytes (sym r.1) s.took.rest_fits;
            in_range = tt;
          }
      | inr h ↦
          subst (λ (b : List ℕ). Took (place_lead caret) Whatever (5 ∷ b) p rest) (sym s.took.parts)
          (name_taken caret s.x s.rest p rest s.took.rest_fits h.1)
    ]

step_taken : (caret : Anchor) (bytes : List ℕ) (p : Anchor) (rest : List ℕ) → IsOffsetInFile caret → IsBytes bytes
    → step_from caret bytes ≡ Some (p, rest) → Took (place_lead caret) Whatever (4 ∷ bytes) p rest
step_taken Root bytes p rest below fits e = absurd cc
step_taken (At caret) bytes p rest below fits e = near_taken caret bytes p rest below fits e

pub place_taken : (caret : Anchor) (bytes : List ℕ) (p : Anchor) (rest : List ℕ) → IsOffsetInFile caret → IsBytes bytes
    → place_at caret bytes ≡ Some (p, rest) → Took (place_lead caret) Whatever bytes p rest
unfolding place_at
place_taken caret bytes p rest below fits e =
    let s = step _ _ _ byte_reads _ bytes (p, rest) fits e in
    elim (either (eqb s.x 4) _ _ _ s.goes_on) [
      | inl h ↦
          subst (λ (b : List ℕ). Took (place_lead caret) Whatever b p rest)
          (sym (s.took.parts ∙ ap (λ (b : ℕ). b ∷ s.rest) (eqb-true _ _ h.0)))
          (step_taken caret s.rest p rest below s.took.rest_fits h.1)
      | inr h ↦
          elim (either (eqb s.x 5) _ _ _ h.1) [
            | inl k ↦
                subst (λ (b : List ℕ). Took (place_lead caret) Whatever b p rest)
                (sym (s.took.parts ∙ ap (λ (b : ℕ). b ∷ s.rest) (eqb-true _ _ k.0)))
                (far_taken caret s.rest p rest s.took.rest_fits k.1)
            | inr k ↦
                subst (λ (x : Anchor × List ℕ). Took (place_lead caret) Whatever bytes x.0 x.1) (some_is _ _ k.1)
                (record {
                  parts = ap (λ (l : List ℕ). l ++ bytes) (sym (no_place caret));
                  rest_fits = fits;
                  in_range = tt;
                })
          ]
    ]

-- ---- the same again

place_not : (caret : Anchor) (rest : List ℕ) → Starts 5 rest → place_at caret rest ≡ Some (caret, rest)
unfolding place_at
place_not caret rest s =
    let four = past_ne 5 s.first 4 s.start.past (omega arith) (omega arith) in
    let five = past_ne 5 s.first 5 s.start.past (omega arith) (omega arith) in
    rw s.is (rw (four, five) refl)

far_again : (caret : Anchor) (name : CharName) (rest : List ℕ) → IsName name → is_of caret name.site ≡ false
    → place_at caret (place_lead caret (At name) ++ rest) ≡ Some (At name, rest)
unfolding place_at far_at name_from
far_again caret name rest is other =
    let some : eqb name.site 0 ≡ false = ne_eqb _ _ (λ z. absurd (omega (arith, is.0))) in
    ap (λ (l : List ℕ). place_at caret (l ++ rest)) (far_lead caret name other)
    ∙ ap (λ (l : List ℕ). far_at caret l) (append_assoc (sevens name.site) (sevens name.off) rest)
    ∙ rw (
      sevens_reads.again name.site (sevens name.off ++ rest) (omega (arith, is.1)),
      some,
      sevens_reads.again name.off rest (omega (arith, is.2)),
      named_again name is,
      other,
    ) refl

near_again : (caret name : CharName) (rest : List ℕ) → caret.off < MAX_FILE → IsName name → name.site ≡ caret.site
    → eqb name.off caret.off ≡ false → place_at (At caret) (place_lead (At caret) (At name) ++ rest) ≡ Some (At name, rest)
unfolding place_at near_at
near_again caret name rest below is on apart =
    let reads = step_reads caret.off (omega arith) in
    ap (λ (l : List ℕ). place_at (At caret) (l ++ rest)) (near_lead caret name on apart)
    ∙ rw (
      reads.again name.off rest (omega (arith, is.2)),
      ap (λ (s : ℕ). named s name.off) (sym on) ∙ named_again name is,
      apart,
    ) refl

pub place_again : (caret p : Anchor) (rest : List ℕ) → IsOffsetInFile caret → IsPlace p → Starts 5 rest
    → place_at caret (place_lead caret p ++ rest) ≡ Some (p, rest)
unfolding place_at far_at
place_again Root Root rest below is s = place_not Root rest s
place_again Root (At name) rest below is s = far_again Root name rest is refl
place_again (At caret) Root rest below is s = rw (sevens_reads.again 0 rest (omega arith)) refl
place_again (At caret) (At name) rest below is s =
    elim (cases_Bool (eqb name.site caret.site)) [
      | inr other ↦ far_again (At caret) name rest is other
      | inl on ↦
          elim (cases_Bool (eqb name.off caret.off)) [
            | inr apart ↦ near_again caret name rest below is (eqb-true _ _ on) apart
            | inl at ↦
                let same : At caret ≡ At name = place_same caret name (eqb-true _ _ on) (eqb-true _ _ at) in
                ap (λ (l : List ℕ). place_at (At caret) (l ++ rest)) (here_lead caret name (eqb-true _ _ on) at)
                ∙ place_not (At caret) rest s ∙ ap (λ (q : Anchor). Some (q, rest)) same
          ]
    ]
  where
    place_same : (a b : CharName) → b.site ≡ a.site → b.off ≡ a.off → At a ≡ At b
    place_same a b on at =
        ap (λ (s : ℕ). At (record { site = s; off = a.off })) (sym on)
        ∙ ap (λ (o : ℕ). At (record { site = b.site; off = o })) (sym at)

-- ---- the bytes of an Insert

abbrev pub IsText : List ℕ → Type 0
IsText text = (0 < length text) × (length text < 2 ^ 49)

-- more bytes than one
long_spelling : (chunk : Bool) (text : List ℕ) → 2 ≤ length text → bytes_spelling chunk text ≡ 6 ∷ sevens (length text - 2) ++ text
long_spelling chunk [] le = absurd (omega arith)
long_spelling chunk (b ∷ []) le = absurd (omega arith)
long_spelling chunk (b ∷ c ∷ text) le = refl

long_taken : (chunk : Bool) (bytes text rest : List ℕ) → IsBytes bytes → long_at bytes ≡ Some (text, rest)
    → Took (bytes_spelling chunk) (λ text. 0 < length text) (6 ∷ bytes) text rest
unfolding long_at
long_taken chunk bytes text rest fits e =
    let s = step _ _ _ sevens_reads _ bytes (text, rest) fits e in
    let t = (stretch_reads (s.x + 2)).takes s.rest text rest s.took.rest_fits s.goes_on in
    let more : length text - 2 ≡ s.x = omega (arith, t.in_range) in
    record {
      parts = ap (λ (r : List ℕ). 6 ∷ r) s.took.parts
          ∙ ap (λ (r : List ℕ). 6 ∷ sevens s.x ++ r) t.parts
          ∙ ap (λ (r : List ℕ). 6 ∷ r) (sym (append_assoc (sevens s.x) text rest))
          ∙ ap (λ (n : ℕ). (6 ∷ sevens n ++ text) ++ rest) (sym more)
          ∙ ap (λ (l : List ℕ). l ++ rest) (sym (long_spelling chunk text (omega (arith, t.in_range))));
      rest_fits = t.rest_fits;
      in_range = omega (arith, t.in_range);
    }

first_byte : (b : ℕ) (bytes : List ℕ) → stretch_at 1 (b ∷ bytes) ≡ Some (b ∷ [], bytes)
first_byte b bytes = (stretch_reads 1).again (b ∷ []) bytes refl

one_letter : (chunk : Bool) (b : ℕ) → is_code chunk b ≡ false → bytes_spelling chunk (b ∷ []) ≡ b ∷ []
one_letter chunk b e = cond-false (is_code chunk b) _ _ e

one_code : (chunk : Bool) (b : ℕ) → is_code chunk b ≡ true → bytes_spelling chunk (b ∷ []) ≡ 14 ∷ b ∷ []
one_code chunk b e = cond-true (is_code chunk b) _ _ e

code_taken : (chunk : Bool) (bytes text rest : List ℕ) → IsBytes bytes → code_at chunk bytes ≡ Some (text, rest)
    → Took (bytes_spelling chunk) (λ text. 0 < length text) (14 ∷ bytes) text rest
unfolding code_at
code_taken chunk [] text rest fits e = absurd cc
code_taken chunk (b ∷ bytes) text rest fits e =
    let g = passed_on (is_code chunk b) (stretch_at 1 (b ∷ bytes)) (text, rest) e in
    subst (λ (x : List ℕ × List ℕ). Took (bytes_spelling chunk) (λ text. 0 < length text) (14 ∷ b ∷ bytes) x.0 x.1)
    (some_is _ _ (sym (first_byte b bytes) ∙ g.1))
    (record {
      parts = ap (λ (l : List ℕ). l ++ bytes) (sym (one_code chunk b g.0));
      rest_fits = λ i. fits (suc i);
      in_range = omega arith;
    })
  where
    passed_on : {A : Type 0} (t : Bool) (o : Option A) (y : A) → cond t o None ≡ Some y → (t ≡ true) × (o ≡ Some y)
    passed_on true o y e = (refl, e)
    passed_on false o y e = absurd cc

pub bytes_taken : (chunk : Bool) (bytes text rest : List ℕ) → IsBytes bytes → bytes_at chunk bytes ≡ Some (text, rest)
    → Took (bytes_spelling chunk) (λ text. 0 < length text) bytes text rest
unfolding bytes_at
bytes_taken chunk [] text rest fits e = absurd cc
bytes_taken chunk (b ∷ bytes) text rest fits e =
    let after : IsBytes bytes = λ i. fits (suc i) in
    elim (either (eqb b 6) _ _ _ e) [
      | inl h ↦
          subst (λ (n : ℕ). Took (bytes_spelling chunk) (λ text. 0 < length text) (n ∷ bytes) text rest) (sym (eqb-true _ _ h.0))
          (long_taken chunk bytes text rest after h.1)
      | inr h ↦
          elim (either (eqb b 14) _ _ _ h.1) [
            | inl k ↦
                subst (λ (n : ℕ). Took (bytes_spelling chunk) (λ text. 0 < length text) (n ∷ bytes) text rest)
                (sym (eqb-true _ _ k.0))
                (code_taken chunk bytes text rest after k.1)
            | inr k ↦
                let g = not_stopped (is_code chunk b) (stretch_at 1 (b ∷ bytes)) (text, rest) k.1 in
                subst (λ (x : List ℕ × List ℕ). Took (bytes_spelling chunk) (λ text. 0 < length text) (b ∷ bytes) x.0 x.1)
                (some_is _ _ (sym (first_byte b bytes) ∙ g.1))
                (record {
                  parts = ap (λ (l : List ℕ). l ++ bytes) (sym (one_letter chunk b g.0));
                  rest_fits = after;
                  in_range = omega arith;
                })
          ]
    ]

pub bytes_again : (chunk : Bool) (text rest : List ℕ) → IsText text
    → bytes_at chunk (bytes_spelling chunk text ++ rest) ≡ Some (text, rest)
unfolding bytes_at long_at code_at
bytes_again chunk [] rest is = absurd (omega (arith, is.0))
bytes_again chunk (b ∷ []) rest is =
    elim (cases_Bool (is_code chunk b)) [
      | inl code ↦
          ap (λ (l : List ℕ). bytes_at chunk (l ++ rest)) (one_code chunk b code) ∙ rw code (first_byte b rest)
      | inr letter ↦
          let l = letter_is chunk b letter in
          ap (λ (l : List ℕ). bytes_at chunk (l ++ rest)) (one_letter chunk b letter) ∙ rw (letter, l.long, l.escape)
          (first_byte b rest)
    ]
bytes_again chunk (b ∷ c ∷ text) rest is =
    let all : List ℕ = b ∷ c ∷ text in
    let more : length all - 2 + 2 ≡ length all = omega arith in
    ap long_at (append_assoc (sevens (length all - 2)) all rest)
    ∙ rw (sevens_reads.again (length all - 2) (all ++ rest) (omega (arith, is.1)))
    (ap (λ (n : ℕ). stretch_at n (all ++ rest)) more ∙ (stretch_reads (length all)).again all rest refl)
