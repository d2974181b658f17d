-- The parts of an operation are read as they are written.
use Rattle.std.proofs.Common.{◌≡◌, ℕ, ◌^◌, ◌<◌, ◌⊎◌, inl, inr, Bool, true, false, cond}
use Rattle.std.proofs.Common.{◌&&◌, eqb, ltb, List, [], ◌∷◌, ◌++◌, Option, Some, None, refl, sym, ap, subst, ◌∙◌}
use Rattle.std.proofs.Common.{append_assoc, arith}
use Rattle.std.proofs.lemmas.Bool.{cases_Bool, and_parts, and_from, ltb-true, lt-ltb, eqb-true, eq-eqb, cond-true, cond-false}
use Rattle.byte_fields.proofs.Readers.{IsBytes, Took, Reads, step, some_is, passed, not_stopped, byte_reads}
use Rattle.byte_fields.proofs.Readers.{IsPositive}
use Rattle.looks.specs.declared.looks.Looks.{Looks}
use Rattle.looks.specs.Looks.{IsLooks}
use Rattle.char_files.specs.Runs.{same_looks}
use Rattle.char_files.proofs.MaximalRuns.{same_looks_decides}
use Rattle.operations.specs.Spelling.{looks_spelling}
use Rattle.operations.proofs.ReadLooks.{looks_reads}
use Rattle.packed.specs.Numbers.{sevens}
use Rattle.packed.specs.Spelling.{is_last, time_lead, looks_lead}
use Rattle.packed.specs.Reading.{site_at, same_site, other_site_at, later_at, time_at, other_looks_at, typed_looks_at}
use Rattle.packed.proofs.Sevens.{sevens_reads}
use Rattle.packed.proofs.Starts.{past_ne, Starts, AfterTime}

-- of two ways that one was taken that found something
pub either : {A : Type 0} (b : Bool) (x y : Option A) (z : A) → cond b x y ≡ Some z
    → ((b ≡ true) × (x ≡ Some z)) ⊎ ((b ≡ false) × (y ≡ Some z))
either true x y z e = inl (refl, e)
either false x y z e = inr (refl, e)

-- whatever was read
abbrev pub Whatever : {A : Type 0} → A → Type 0
Whatever x = Unit {0}

-- ---- the site and the stamp

site_reads : Reads site_at sevens (IsPositive (2 ^ 16))
unfolding site_at
site_reads = record {
  takes = λ bytes n rest fits e.
      let s = step _ _ _ sevens_reads _ bytes (n, rest) fits e in
      let g = passed (ltb 0 s.x && ltb s.x (2 ^ 16)) (s.x, s.rest) (n, rest) s.goes_on in
      let tests = and_parts (ltb 0 s.x) (ltb s.x (2 ^ 16)) g.0 in
      subst (λ (p : ℕ × List ℕ). Took sevens (IsPositive (2 ^ 16)) bytes p.0 p.1) g.1
      (record {
        parts = s.took.parts;
        rest_fits = s.took.rest_fits;
        in_range = (ltb-true _ _ tests.0, ltb-true _ _ tests.1);
      });
  again = λ n rest h.
      rw (sevens_reads.again n rest (omega arith), and_from _ _ (lt-ltb _ _ h.0) (lt-ltb _ _ h.1)) refl;
}

-- how a site and a stamp are spelled after this site
abbrev pub timed : Option ℕ → ℕ × ℕ → List ℕ
timed last t = time_lead last t.0 t.1

record IsOther (last : Option ℕ) (bytes : List ℕ) (t : ℕ × ℕ) (rest : List ℕ) : Type 0 where
  parts : bytes ≡ (sevens t.0 ++ sevens t.1) ++ rest
  rest_fits : IsBytes rest
  other : is_last last t.0 ≡ false

other_taken : (last : Option ℕ) (bytes : List ℕ) (t : ℕ × ℕ) (rest : List ℕ) → IsBytes bytes
    → other_site_at last bytes ≡ Some (t, rest) → IsOther last bytes t rest
unfolding other_site_at
other_taken last bytes t rest fits e =
    let s = step _ _ _ site_reads _ bytes (t, rest) fits e in
    let m = step _ _ _ sevens_reads _ s.rest (t, rest) s.took.rest_fits s.goes_on in
    let g = not_stopped (is_last last s.x) (Some ((s.x, m.x), m.rest)) (t, rest) m.goes_on in
    subst (λ (p : (ℕ × ℕ) × List ℕ). IsOther last bytes p.0 p.1) (some_is _ _ g.1)
    (record {
      parts = s.took.parts ∙ ap (λ (r : List ℕ). sevens s.x ++ r) m.took.parts
          ∙ sym (append_assoc (sevens s.x) (sevens m.x) m.rest);
      rest_fits = m.took.rest_fits;
      other = g.0;
    })

-- the site of the operation before
record IsSame (last : Option ℕ) (more : ℕ) (bytes : List ℕ) (t : ℕ × ℕ) (rest : List ℕ) : Type 0 where
  is : last ≡ Some t.0
  more_is : t.1 ≡ more
  rest_is : rest ≡ bytes

same_taken : (last : Option ℕ) (more : ℕ) (bytes : List ℕ) (t : ℕ × ℕ) (rest : List ℕ)
    → same_site last more bytes ≡ Some (t, rest) → IsSame last more bytes t rest
same_taken None more bytes t rest e = absurd cc
same_taken (Some site) more bytes t rest e =
    subst (λ (p : (ℕ × ℕ) × List ℕ). IsSame (Some site) more bytes p.0 p.1) (some_is _ _ e)
    (record { is = refl; more_is = refl; rest_is = refl })

-- it is the last
is_last_here : (last : Option ℕ) (site : ℕ) → last ≡ Some site → is_last last site ≡ true
is_last_here None site e = absurd cc
is_last_here (Some other) site e = eq-eqb site other (sym (some_is _ _ e))

last_is : (last : Option ℕ) (site : ℕ) → is_last last site ≡ true → last ≡ Some site
last_is None site e = absurd cc
last_is (Some other) site e = ap Some (sym (eqb-true site other e))

other_lead : (last : Option ℕ) (site more : ℕ) → is_last last site ≡ false
    → time_lead last site more ≡ 1 ∷ sevens site ++ sevens more
other_lead last site more e = cond-false _ _ _ e

later_lead : (last : Option ℕ) (site more : ℕ) → is_last last site ≡ true → eqb more 0 ≡ false
    → time_lead last site more ≡ 2 ∷ sevens more
later_lead last site more e f = cond-true _ _ _ e ∙ cond-false _ _ _ f

no_lead : (last : Option ℕ) (site more : ℕ) → is_last last site ≡ true → eqb more 0 ≡ true
    → time_lead last site more ≡ []
no_lead last site more e f = cond-true _ _ _ e ∙ cond-true _ _ _ f

later_taken : (last : Option ℕ) (bytes : List ℕ) (t : ℕ × ℕ) (rest : List ℕ) → IsBytes bytes
    → later_at last bytes ≡ Some (t, rest) → Took (timed last) Whatever (2 ∷ bytes) t rest
unfolding later_at
later_taken last bytes t rest fits e =
    let s = step _ _ _ sevens_reads _ bytes (t, rest) fits e in
    let g = not_stopped (eqb s.x 0) (same_site last s.x s.rest) (t, rest) s.goes_on in
    let h = same_taken last s.x s.rest t rest g.1 in
    let lead : time_lead last t.0 t.1 ≡ 2 ∷ sevens s.x =
    later_lead last t.0 t.1 (is_last_here last t.0 h.is) (ap (λ (n : ℕ). eqb n 0) h.more_is ∙ g.0)
    ∙ ap (λ (n : ℕ). 2 ∷ sevens n) h.more_is in
    record {
      parts = ap (λ (r : List ℕ). 2 ∷ r) s.took.parts ∙ ap (λ (r : List ℕ). 2 ∷ sevens s.x ++ r) (sym h.rest_is)
          ∙ ap (λ (l : List ℕ). l ++ rest) (sym lead);
      rest_fits = subst IsBytes (sym h.rest_is) s.took.rest_fits;
      in_range = tt;
    }

pub time_taken : (last : Option ℕ) (bytes : List ℕ) (t : ℕ × ℕ) (rest : List ℕ) → IsBytes bytes
    → time_at last bytes ≡ Some (t, rest) → Took (timed last) Whatever bytes t rest
unfolding time_at
time_taken last bytes t rest fits e =
    let s = step _ _ _ byte_reads _ bytes (t, rest) fits e in
    elim (either (eqb s.x 1) _ _ _ s.goes_on) [
      | inl h ↦
          let o = other_taken last s.rest t rest s.took.rest_fits h.1 in
          let lead = other_lead last t.0 t.1 o.other in
          record {
            parts = s.took.parts ∙ ap (λ (b : ℕ). b ∷ s.rest) (eqb-true _ _ h.0)
                ∙ ap (λ (r : List ℕ). 1 ∷ r) o.parts ∙ ap (λ (l : List ℕ). l ++ rest) (sym lead);
            rest_fits = o.rest_fits;
            in_range = tt;
          }
      | inr h ↦
          elim (either (eqb s.x 2) _ _ _ h.1) [
            | inl k ↦
                subst (λ (b : List ℕ). Took (timed last) Whatever b t rest)
                (sym (s.took.parts ∙ ap (λ (b : ℕ). b ∷ s.rest) (eqb-true _ _ k.0)))
                (later_taken last s.rest t rest s.took.rest_fits k.1)
            | inr k ↦
                let m = same_taken last 0 bytes t rest k.1 in
                let lead = no_lead last t.0 t.1 (is_last_here last t.0 m.is) (eq-eqb _ _ m.more_is) in
                record {
                  parts = sym m.rest_is ∙ ap (λ (l : List ℕ). l ++ rest) (sym lead);
                  rest_fits = subst IsBytes (sym m.rest_is) fits;
                  in_range = tt;
                }
          ]
    ]

other_again : (last : Option ℕ) (site more : ℕ) (rest : List ℕ) → IsPositive (2 ^ 16) site → more < 2 ^ 49
    → is_last last site ≡ false → other_site_at last ((sevens site ++ sevens more) ++ rest) ≡ Some ((site, more), rest)
unfolding other_site_at
other_again last site more rest is bound other =
    ap (other_site_at last) (append_assoc (sevens site) (sevens more) rest)
    ∙ rw (site_reads.again site (sevens more ++ rest) is, sevens_reads.again more rest bound, other) refl

same_again : (last : Option ℕ) (site more : ℕ) (rest : List ℕ) → last ≡ Some site
    → same_site last more rest ≡ Some ((site, more), rest)
same_again last site more rest e = ap (λ (l : Option ℕ). same_site l more rest) e

later_again : (last : Option ℕ) (site more : ℕ) (rest : List ℕ) → more < 2 ^ 49 → last ≡ Some site
    → eqb more 0 ≡ false → later_at last (sevens more ++ rest) ≡ Some ((site, more), rest)
unfolding later_at
later_again last site more rest bound is some =
    rw (sevens_reads.again more rest bound, some) (same_again last site more rest is)

starts_same : (last : Option ℕ) (site more : ℕ) (rest : List ℕ) → last ≡ Some site → more ≡ 0 → AfterTime rest
    → time_at last rest ≡ Some ((site, more), rest)
unfolding time_at
starts_same last site more rest is none s =
    let one = past_ne 2 s.first 1 s.past (omega arith) (omega arith) in
    let two = past_ne 2 s.first 2 s.past (omega arith) (omega arith) in
    rw s.is (rw (one, two) (same_again last site 0 (s.first ∷ s.after) is
    ∙ ap (λ (n : ℕ). Some ((site, n), s.first ∷ s.after)) (sym none)))

pub time_again : (last : Option ℕ) (site more : ℕ) (rest : List ℕ) → IsPositive (2 ^ 16) site → more < 2 ^ 49
    → AfterTime rest → time_at last (time_lead last site more ++ rest) ≡ Some ((site, more), rest)
unfolding time_at
time_again last site more rest is bound s =
    elim (cases_Bool (is_last last site)) [
      | inr other ↦
          ap (λ (l : List ℕ). time_at last (l ++ rest)) (other_lead last site more other)
          ∙ other_again last site more rest is bound other
      | inl same ↦
          elim (cases_Bool (eqb more 0)) [
            | inl none ↦
                ap (λ (l : List ℕ). time_at last (l ++ rest)) (no_lead last site more same none)
                ∙ starts_same last site more rest (last_is last site same) (eqb-true _ _ none) s
            | inr some ↦
                ap (λ (l : List ℕ). time_at last (l ++ rest)) (later_lead last site more same some)
                ∙ later_again last site more rest bound (last_is last site same) some
          ]
    ]

-- ---- looks

same_from : (a b : Looks) → same_looks a b ≡ true → a ≡ b
same_from a b e = (same_looks_decides a b).0 e

pub same_as_itself : (a : Looks) → same_looks a a ≡ true
same_as_itself a = (same_looks_decides a a).1 refl

other_looks_taken : (typed : Looks) (bytes : List ℕ) (l : Looks) (rest : List ℕ) → IsBytes bytes
    → other_looks_at typed bytes ≡ Some (l, rest) → Took (looks_lead typed) Whatever (3 ∷ bytes) l rest
unfolding other_looks_at
other_looks_taken typed bytes l rest fits e =
    let s = step _ _ _ looks_reads _ bytes (l, rest) fits e in
    let g = not_stopped (same_looks typed s.x) (Some (s.x, s.rest)) (l, rest) s.goes_on in
    subst (λ (p : Looks × List ℕ). Took (looks_lead typed) Whatever (3 ∷ bytes) p.0 p.1) (some_is _ _ g.1)
    (record {
      parts = ap (λ (r : List ℕ). 3 ∷ r) s.took.parts
          ∙ ap (λ (r : List ℕ). r ++ s.rest) (sym (cond-false (same_looks typed s.x) [] (3 ∷ looks_spelling s.x) g.0));
      rest_fits = s.took.rest_fits;
      in_range = tt;
    })

pub typed_taken : (typed : Looks) (bytes : List ℕ) (l : Looks) (rest : List ℕ) → IsBytes bytes
    → typed_looks_at typed bytes ≡ Some (l, rest) → Took (looks_lead typed) Whatever bytes l rest
unfolding typed_looks_at
typed_taken typed bytes l rest fits e =
    let s = step _ _ _ byte_reads _ bytes (l, rest) fits e in
    elim (either (eqb s.x 3) _ _ _ s.goes_on) [
      | inl h ↦
          subst (λ (b : List ℕ). Took (looks_lead typed) Whatever b l rest)
          (sym (s.took.parts ∙ ap (λ (b : ℕ). b ∷ s.rest) (eqb-true _ _ h.0)))
          (other_looks_taken typed s.rest l rest s.took.rest_fits h.1)
      | inr h ↦
          subst (λ (p : Looks × List ℕ). Took (looks_lead typed) Whatever bytes p.0 p.1) (some_is _ _ h.1)
          (record {
            parts = ap (λ (r : List ℕ). r ++ bytes)
                (sym (cond-true (same_looks typed typed) [] (3 ∷ looks_spelling typed) (same_as_itself typed)));
            rest_fits = fits;
            in_range = tt;
          })
    ]

pub typed_not : (typed : Looks) (rest : List ℕ) → Starts 3 rest → typed_looks_at typed rest ≡ Some (typed, rest)
unfolding typed_looks_at
typed_not typed rest s =
    let three = past_ne 3 s.first 3 s.start.past (omega arith) (omega arith) in
    rw s.is (rw three refl)

pub typed_again : (typed l : Looks) (rest : List ℕ) → IsLooks l → Starts 3 rest
    → typed_looks_at typed (looks_lead typed l ++ rest) ≡ Some (l, rest)
unfolding typed_looks_at other_looks_at
typed_again typed l rest is s =
    elim (cases_Bool (same_looks typed l)) [
      | inl same ↦
          ap (λ (r : List ℕ). typed_looks_at typed (r ++ rest)) (cond-true (same_looks typed l) [] (3 ∷ looks_spelling l) same)
          ∙ typed_not typed rest s ∙ ap (λ (k : Looks). Some (k, rest)) (same_from typed l same)
      | inr other ↦
          ap (λ (r : List ℕ). typed_looks_at typed (r ++ rest)) (cond-false (same_looks typed l) [] (3 ∷ looks_spelling l) other)
          ∙ rw (looks_reads.again l rest is, other) refl
    ]
