-- What an operation does is read as it is written.
use Rattle.std.proofs.Common.{◌≡◌, ℕ, ◌<◌, ◌≤◌, inl, inr, Bool, true, false, cond, eqb}
use Rattle.std.proofs.Common.{List, [], ◌∷◌, ◌++◌, length, Some, refl, sym, ap, subst, ◌∙◌, append_assoc, arith}
use Rattle.std.proofs.lemmas.Bool.{cases_Bool, eqb-true, cond-true, cond-false}
use Rattle.byte_fields.proofs.Readers.{IsBytes, Took, step, bind_some, some_is, passed, not_stopped, byte_reads}
use Rattle.looks.specs.declared.looks.Looks.{Looks}
use Rattle.looks.specs.Looks.{IsLooks}
use Rattle.looks.specs.Sel.{Selection, bits_of}
use Rattle.char_files.specs.CharName.{CharName}
use Rattle.char_files.specs.Runs.{same_looks}
use Rattle.char_files.proofs.MaximalRuns.{same_looks_decides}
use Rattle.char_files.specs.declared.name.Anchor.{Anchor}
use Rattle.char_files.specs.declared.name.Anchor.TheVariants.{Root, At}
use Rattle.operations.specs.declared.kind.TheConstants.{MAX_INSERT}
use Rattle.operations.specs.NameSet.{Range, IsNamed, of_name}
use Rattle.operations.specs.Operation.{OpKind, insert, delete, restore, change_looks, Begins}
use Rattle.operations.specs.Spelling.{selected_spelling, IsKind, IsCause}
use Rattle.operations.proofs.ReadLooks.{sel_reads, selected_looks_reads}
use Rattle.packed.specs.Sets.{packed_set, is_one}
use Rattle.packed.specs.declared.expected.Expected.{Expected}
use Rattle.packed.specs.Told.{IsOffsetInFile}
use Rattle.packed.specs.Spelling.{is_code, looks_lead, place_lead, bytes_spelling, delete_spelling, edit_spelling}
use Rattle.packed.specs.Reading.{typed_looks_at, place_at, bytes_at, one_from, insert_from, here_at, placed_at}
use Rattle.packed.specs.Reading.{packed_delete_at, packed_restore_at, packed_change_at, edit_at}
use Rattle.packed.proofs.ReadSets.{packed_set_reads}
use Rattle.packed.proofs.Starts.{Starts, AfterTime, after_time, starts_less, bytes_start, one_starts, place_starts, looks_start, letter_is}
use Rattle.packed.proofs.ReadParts.{either, same_as_itself, typed_taken, typed_again, typed_not}
use Rattle.packed.proofs.ReadPlace.{IsName, IsPlace, place_taken, place_again, bytes_taken, bytes_again}

-- ---- sets

-- a Delete of another set than one name
many_spelling : (caret : Anchor) (names : List Range) → is_one names ≡ false
    → delete_spelling caret names ≡ 7 ∷ packed_set names
many_spelling caret [] e = refl
many_spelling caret (r ∷ []) e = cond-false (eqb r.len 1) _ _ e
many_spelling caret (r ∷ s ∷ names) e = refl

delete_taken : (chunk : Bool) (e : Expected) (bytes : List ℕ) (kind : OpKind) (rest : List ℕ) → IsBytes bytes
    → packed_delete_at bytes ≡ Some (kind, rest)
    → Took (edit_spelling chunk e) (λ kind. Begins kind e.len) (7 ∷ bytes) kind rest
unfolding packed_delete_at
delete_taken chunk e bytes kind rest fits h =
    let s = step _ _ _ packed_set_reads _ bytes (kind, rest) fits h in
    let g = not_stopped (is_one s.x) (Some (delete s.x, s.rest)) (kind, rest) s.goes_on in
    subst (λ (p : OpKind × List ℕ). Took (edit_spelling chunk e) (λ kind. Begins kind e.len) (7 ∷ bytes) p.0 p.1)
    (some_is _ _ g.1)
    (record {
      parts = ap (λ (r : List ℕ). 7 ∷ r) s.took.parts
          ∙ ap (λ (l : List ℕ). l ++ s.rest) (sym (many_spelling e.caret s.x g.0));
      rest_fits = s.took.rest_fits;
      in_range = tt;
    })

restore_taken : (chunk : Bool) (e : Expected) (bytes : List ℕ) (kind : OpKind) (rest : List ℕ) → IsBytes bytes
    → packed_restore_at bytes ≡ Some (kind, rest)
    → Took (edit_spelling chunk e) (λ kind. Begins kind e.len) (12 ∷ bytes) kind rest
unfolding packed_restore_at
restore_taken chunk e bytes kind rest fits h =
    let s = step _ _ _ packed_set_reads _ bytes (kind, rest) fits h in
    subst (λ (p : OpKind × List ℕ). Took (edit_spelling chunk e) (λ kind. Begins kind e.len) (12 ∷ bytes) p.0 p.1)
    (some_is _ _ s.goes_on)
    (record { parts = ap (λ (r : List ℕ). 12 ∷ r) s.took.parts; rest_fits = s.took.rest_fits; in_range = tt })

change_split : (sel : Selection) (looks : Looks) (names : List Range) (rest : List ℕ)
    → (bits_of sel ∷ selected_spelling sel looks ++ packed_set names) ++ rest
    ≡ bits_of sel ∷ (selected_spelling sel looks ++ (packed_set names ++ rest))
change_split sel looks names rest =
    ap (λ (r : List ℕ). bits_of sel ∷ r) (append_assoc (selected_spelling sel looks) (packed_set names) rest)

change_taken : (chunk : Bool) (e : Expected) (bytes : List ℕ) (kind : OpKind) (rest : List ℕ) → IsBytes bytes
    → packed_change_at bytes ≡ Some (kind, rest)
    → Took (edit_spelling chunk e) (λ kind. Begins kind e.len) (11 ∷ bytes) kind rest
unfolding packed_change_at
change_taken chunk e bytes kind rest fits h =
    let s = step _ _ _ sel_reads _ bytes (kind, rest) fits h in
    let t = step _ _ _ (selected_looks_reads s.x) _ s.rest (kind, rest) s.took.rest_fits s.goes_on in
    let u = step _ _ _ packed_set_reads _ t.rest (kind, rest) t.took.rest_fits t.goes_on in
    let whole : bytes ≡ (bits_of s.x ∷ selected_spelling s.x t.x ++ packed_set u.x) ++ u.rest =
    s.took.parts ∙ ap (λ (r : List ℕ). bits_of s.x ∷ r) (t.took.parts
    ∙ ap (λ (r : List ℕ). selected_spelling s.x t.x ++ r) u.took.parts) ∙ sym (change_split s.x t.x u.x u.rest) in
    subst (λ (p : OpKind × List ℕ). Took (edit_spelling chunk e) (λ kind. Begins kind e.len) (11 ∷ bytes) p.0 p.1)
    (some_is _ _ u.goes_on)
    (record { parts = ap (λ (r : List ℕ). 11 ∷ r) whole; rest_fits = u.took.rest_fits; in_range = tt })

-- ---- Inserts, and Deletes of one character

same_from : (a b : Looks) → same_looks a b ≡ true → a ≡ b
same_from a b h = (same_looks_decides a b).0 h

-- what an Insert or a Delete of one character has after its place
abbrev here_spelling : (chunk : Bool) → OpKind → List ℕ
here_spelling chunk (insert cause at looks bytes) = bytes_spelling chunk bytes
here_spelling chunk (delete names) = 8 ∷ []
here_spelling chunk (restore names) = []
here_spelling chunk (change_looks sel looks names) = []

-- with these looks, at this place
record IsHere (chunk : Bool) (e : Expected) (looks : Looks) (place : Anchor) (bytes : List ℕ) (kind : OpKind) (rest : List ℕ)
    : Type 0 where
  parts : bytes ≡ here_spelling chunk kind ++ rest
  rest_fits : IsBytes rest
  begins : Begins kind e.len
  whole : edit_spelling chunk e kind ≡ looks_lead e.looks looks ++ place_lead e.caret place ++ here_spelling chunk kind

one_taken : (chunk : Bool) (e : Expected) (looks : Looks) (place : Anchor) (bytes : List ℕ) (kind : OpKind) (rest : List ℕ)
    → IsBytes bytes → one_from e.looks looks place bytes ≡ Some (kind, rest) → IsHere chunk e looks place (8 ∷ bytes) kind rest
one_taken chunk e looks Root bytes kind rest fits h = absurd cc
one_taken chunk e looks (At name) bytes kind rest fits h =
    let g = passed (same_looks e.looks looks) (delete (of_name name ∷ []), bytes) (kind, rest) h in
    subst (λ (p : OpKind × List ℕ). IsHere chunk e looks (At name) (8 ∷ bytes) p.0 p.1) g.1
    (record {
      parts = refl;
      rest_fits = fits;
      begins = tt;
      whole = ap (λ (l : List ℕ). l ++ place_lead e.caret (At name) ++ 8 ∷ [])
          (sym (cond-true (same_looks e.looks looks) [] _ g.0));
    })

insert_taken : (chunk : Bool) (e : Expected) (looks : Looks) (place : Anchor) (bytes : List ℕ) (kind : OpKind) (rest : List ℕ)
    → IsBytes bytes → insert_from chunk e.len looks place bytes ≡ Some (kind, rest) → IsHere chunk e looks place bytes kind rest
unfolding insert_from
insert_taken chunk e looks place bytes kind rest fits h =
    let s = bind_some (bytes_at chunk bytes) _ (kind, rest) h in
    let t = bytes_taken chunk bytes s.0.0 s.0.1 fits s.1 in
    subst (λ (p : OpKind × List ℕ). IsHere chunk e looks place bytes p.0 p.1) (some_is _ _ s.2)
    (record { parts = t.parts; rest_fits = t.rest_fits; begins = refl; whole = refl })

here_taken : (chunk : Bool) (e : Expected) (looks : Looks) (place : Anchor) (bytes : List ℕ) (kind : OpKind) (rest : List ℕ)
    → IsBytes bytes → here_at chunk e looks place bytes ≡ Some (kind, rest) → IsHere chunk e looks place bytes kind rest
unfolding here_at
here_taken chunk e looks place bytes kind rest fits h =
    let s = step _ _ _ byte_reads _ bytes (kind, rest) fits h in
    elim (either (eqb s.x 8) _ _ _ s.goes_on) [
      | inl k ↦
          subst (λ (b : List ℕ). IsHere chunk e looks place b kind rest)
          (sym (s.took.parts ∙ ap (λ (b : ℕ). b ∷ s.rest) (eqb-true _ _ k.0)))
          (one_taken chunk e looks place s.rest kind rest s.took.rest_fits k.1)
      | inr k ↦ insert_taken chunk e looks place bytes kind rest fits k.1
    ]

three_parts : (a b c rest : List ℕ) → (a ++ b ++ c) ++ rest ≡ a ++ (b ++ (c ++ rest))
three_parts a b c rest = append_assoc (a ++ b) c rest ∙ append_assoc a b (c ++ rest)

placed_taken : (chunk : Bool) (e : Expected) (bytes : List ℕ) (kind : OpKind) (rest : List ℕ) → IsOffsetInFile e.caret → IsBytes bytes
    → placed_at chunk e bytes ≡ Some (kind, rest)
    → Took (edit_spelling chunk e) (λ kind. Begins kind e.len) bytes kind rest
unfolding placed_at
placed_taken chunk e bytes kind rest below fits h =
    let s = bind_some (typed_looks_at e.looks bytes) _ (kind, rest) h in
    let looks = typed_taken e.looks bytes s.0.0 s.0.1 fits s.1 in
    let t = bind_some (place_at e.caret s.0.1) _ (kind, rest) s.2 in
    let place = place_taken e.caret s.0.1 t.0.0 t.0.1 below looks.rest_fits t.1 in
    let here = here_taken chunk e s.0.0 t.0.0 t.0.1 kind rest place.rest_fits t.2 in
    record {
      parts = looks.parts
          ∙ ap (λ (r : List ℕ). looks_lead e.looks s.0.0 ++ r) (place.parts
          ∙ ap (λ (r : List ℕ). place_lead e.caret t.0.0 ++ r) here.parts)
          ∙ sym (three_parts (looks_lead e.looks s.0.0) (place_lead e.caret t.0.0) (here_spelling chunk kind) rest)
          ∙ ap (λ (l : List ℕ). l ++ rest) (sym here.whole);
      rest_fits = here.rest_fits;
      in_range = here.begins;
    }

pub edit_taken : (chunk : Bool) (e : Expected) (bytes : List ℕ) (kind : OpKind) (rest : List ℕ) → IsOffsetInFile e.caret → IsBytes bytes
    → edit_at chunk e bytes ≡ Some (kind, rest)
    → Took (edit_spelling chunk e) (λ kind. Begins kind e.len) bytes kind rest
unfolding edit_at
edit_taken chunk e bytes kind rest below fits h =
    let s = step _ _ _ byte_reads _ bytes (kind, rest) fits h in
    let back : (n : ℕ) → eqb s.x n ≡ true → Took (edit_spelling chunk e) (λ kind. Begins kind e.len) (n ∷ s.rest) kind rest
    → Took (edit_spelling chunk e) (λ kind. Begins kind e.len) bytes kind rest = λ n is t.
    subst (λ (b : List ℕ). Took (edit_spelling chunk e) (λ kind. Begins kind e.len) b kind rest)
    (sym (s.took.parts ∙ ap (λ (b : ℕ). b ∷ s.rest) (eqb-true _ _ is))) t in
    elim (either (eqb s.x 7) _ _ _ s.goes_on) [
      | inl k ↦ back 7 k.0 (delete_taken chunk e s.rest kind rest s.took.rest_fits k.1)
      | inr k ↦
          elim (either (eqb s.x 11) _ _ _ k.1) [
            | inl l ↦ back 11 l.0 (change_taken chunk e s.rest kind rest s.took.rest_fits l.1)
            | inr l ↦
                elim (either (eqb s.x 12) _ _ _ l.1) [
                  | inl m ↦ back 12 m.0 (restore_taken chunk e s.rest kind rest s.took.rest_fits m.1)
                  | inr m ↦ placed_taken chunk e bytes kind rest below fits m.1
                ]
          ]
    ]

-- ---- the same again

placed_first : (chunk : Bool) (e : Expected) (bytes : List ℕ) → Starts 2 bytes → edit_at chunk e bytes ≡ placed_at chunk e bytes
unfolding edit_at
placed_first chunk e bytes s =
    let no = s.start.no_set in rw s.is (rw (no.delete, no.change, no.restore) refl)

insert_again : (chunk : Bool) (e : Expected) (looks : Looks) (place : Anchor) (bytes rest : List ℕ) → 0 < length bytes
    → length bytes ≤ MAX_INSERT
    → here_at chunk e looks place (bytes_spelling chunk bytes ++ rest) ≡ Some (insert place e.len looks bytes, rest)
unfolding here_at insert_from
insert_again chunk e looks place [] rest some few = absurd (omega (arith, some))
insert_again chunk e looks place (b ∷ []) rest some few =
    elim (cases_Bool (is_code chunk b)) [
      | inl code ↦ rw (bytes_again chunk (b ∷ []) rest (some, omega (arith, few)), code) refl
      | inr letter ↦
          let l = letter_is chunk b letter in
          rw (bytes_again chunk (b ∷ []) rest (some, omega (arith, few)), letter, l.one) refl
    ]
insert_again chunk e looks place (b ∷ c ∷ bytes) rest some few =
    rw (bytes_again chunk (b ∷ c ∷ bytes) rest (some, omega (arith, few))) refl

-- read as it is written, where its looks and its place were read
placed_again : (chunk : Bool) (e : Expected) (looks : Looks) (place : Anchor) (last rest : List ℕ) (kind : OpKind) → IsOffsetInFile e.caret
    → IsLooks looks → IsPlace place → Starts 5 (last ++ rest)
    → here_at chunk e looks place (last ++ rest) ≡ Some (kind, rest)
    → edit_at chunk e ((looks_lead e.looks looks ++ place_lead e.caret place ++ last) ++ rest) ≡ Some (kind, rest)
unfolding placed_at
placed_again chunk e looks place last rest kind below is at start here =
    let after = place_starts e.caret place (last ++ rest) start in
    let whole = looks_start e.looks looks (place_lead e.caret place ++ (last ++ rest)) after in
    ap (edit_at chunk e) (three_parts (looks_lead e.looks looks) (place_lead e.caret place) last rest)
    ∙ placed_first chunk e (looks_lead e.looks looks ++ (place_lead e.caret place ++ (last ++ rest))) whole
    ∙ rw (
      typed_again e.looks looks (place_lead e.caret place ++ (last ++ rest)) is after,
      place_again e.caret place (last ++ rest) below at start,
    ) here

-- with no looks of its own
one_again : (chunk : Bool) (e : Expected) (name : CharName) (rest : List ℕ) → IsOffsetInFile e.caret → IsName name
    → edit_at chunk e ((place_lead e.caret (At name) ++ 8 ∷ []) ++ rest) ≡ Some (delete (of_name name ∷ []), rest)
unfolding placed_at here_at
one_again chunk e name rest below is =
    let start = one_starts rest in
    let after = place_starts e.caret (At name) (8 ∷ rest) start in
    ap (edit_at chunk e) (append_assoc (place_lead e.caret (At name)) (8 ∷ []) rest)
    ∙ placed_first chunk e (place_lead e.caret (At name) ++ (8 ∷ rest)) (starts_less 3 2 _ (omega arith) after)
    ∙ rw (
      typed_not e.looks (place_lead e.caret (At name) ++ (8 ∷ rest)) after,
      place_again e.caret (At name) (8 ∷ rest) below is start,
      same_as_itself e.looks,
    ) refl

delete_again : (chunk : Bool) (e : Expected) (names : List Range) (rest : List ℕ) → IsOffsetInFile e.caret → IsNamed names
    → edit_at chunk e (delete_spelling e.caret names ++ rest) ≡ Some (delete names, rest)
unfolding edit_at packed_delete_at
delete_again chunk e names rest below is = by (is_one names) refl
  where
    one : (names : List Range) → IsNamed names → is_one names ≡ true
        → edit_at chunk e (delete_spelling e.caret names ++ rest) ≡ Some (delete names, rest)
    one [] named is = absurd cc
    one (r ∷ s ∷ names) named is = absurd cc
    one (r ∷ []) named is =
        let lone : r.len ≡ 1 = eqb-true _ _ is in
        let name : CharName = record { site = r.site; off = r.at } in
        let range = named.set.ranges 0 r (omega arith) in
        ap (λ (l : List ℕ). edit_at chunk e (l ++ rest)) (cond-true (eqb r.len 1) _ _ is)
        ∙ one_again chunk e name rest below (range.0, range.1, omega (arith, range.3))
        ∙ ap (λ (n : ℕ). Some (delete (record { site = r.site; at = r.at; len = n } ∷ []), rest)) (sym lone)

    by : (t : Bool) → is_one names ≡ t → edit_at chunk e (delete_spelling e.caret names ++ rest) ≡ Some (delete names, rest)
    by true h = one names is h
    by false h =
        ap (λ (l : List ℕ). edit_at chunk e (l ++ rest)) (many_spelling e.caret names h)
        ∙ rw (packed_set_reads.again names rest is, h) refl

change_again : (chunk : Bool) (e : Expected) (site : ℕ) (sel : Selection) (looks : Looks) (names : List Range) (rest : List ℕ)
    → IsKind site (change_looks sel looks names)
    → edit_at chunk e ((11 ∷ bits_of sel ∷ selected_spelling sel looks ++ packed_set names) ++ rest)
    ≡ Some (change_looks sel looks names, rest)
unfolding edit_at packed_change_at
change_again chunk e site sel looks names rest is =
    ap packed_change_at (change_split sel looks names rest)
    ∙ rw (
      sel_reads.again sel (selected_spelling sel looks ++ (packed_set names ++ rest)) is.some,
      (selected_looks_reads sel).again looks (packed_set names ++ rest) (is.valid_looks, is.plain_elsewhere),
      packed_set_reads.again names rest is.named,
    ) refl

restore_again : (chunk : Bool) (e : Expected) (names : List Range) (rest : List ℕ) → IsNamed names
    → edit_at chunk e ((12 ∷ packed_set names) ++ rest) ≡ Some (restore names, rest)
unfolding edit_at packed_restore_at
restore_again chunk e names rest is = rw (packed_set_reads.again names rest is) refl

place_of_cause : (site at : ℕ) (cause : Anchor) → IsCause site at cause → IsPlace cause
place_of_cause site at Root is = tt
place_of_cause site at (At name) is = (is.0, is.1, is.2)

pub edit_again : (chunk : Bool) (e : Expected) (site : ℕ) (kind : OpKind) (rest : List ℕ) → IsOffsetInFile e.caret → IsKind site kind
    → Begins kind e.len → edit_at chunk e (edit_spelling chunk e kind ++ rest) ≡ Some (kind, rest)
edit_again chunk e site (insert cause at looks bytes) rest below is begins =
    placed_again chunk e looks cause (bytes_spelling chunk bytes) rest (insert cause at looks bytes) below is.valid_looks
    (place_of_cause site at cause is.caused) (bytes_start chunk bytes rest)
    (insert_again chunk e looks cause bytes rest is.some is.few
    ∙ ap (λ (n : ℕ). Some (insert cause n looks bytes, rest)) (sym begins))
edit_again chunk e site (delete names) rest below is begins = delete_again chunk e names rest below is
edit_again chunk e site (restore names) rest below is begins = restore_again chunk e names rest is
edit_again chunk e site (change_looks sel looks names) rest below is begins =
    change_again chunk e site sel looks names rest is

-- an edit begins with no lead that tells the time
delete_starts : (caret : Anchor) (names : List Range) (rest : List ℕ) → AfterTime (delete_spelling caret names ++ rest)
delete_starts caret [] rest = record { first = 7; after = _; is = refl; past = inr (omega arith) }
delete_starts caret (r ∷ s ∷ names) rest = record { first = 7; after = _; is = refl; past = inr (omega arith) }
delete_starts caret (r ∷ []) rest = by (eqb r.len 1)
  where
    place : Anchor
    place = At (record { site = r.site; off = r.at })

    by : (t : Bool) → AfterTime (cond t (place_lead caret place ++ 8 ∷ []) (7 ∷ packed_set (r ∷ [])) ++ rest)
    by false = record { first = 7; after = _; is = refl; past = inr (omega arith) }
    by true =
        subst AfterTime (sym (append_assoc (place_lead caret place) (8 ∷ []) rest))
        (after_time _ (starts_less 3 2 _ (omega arith) (place_starts caret place (8 ∷ rest) (one_starts rest))))

pub edit_starts : (chunk : Bool) (e : Expected) (kind : OpKind) (rest : List ℕ) → AfterTime (edit_spelling chunk e kind ++ rest)
edit_starts chunk e (insert cause at looks bytes) rest =
    subst AfterTime (sym (three_parts (looks_lead e.looks looks) (place_lead e.caret cause) (bytes_spelling chunk bytes) rest))
    (after_time _ (looks_start e.looks looks _ (place_starts e.caret cause _ (bytes_start chunk bytes rest))))
edit_starts chunk e (delete names) rest = delete_starts e.caret names rest
edit_starts chunk e (restore names) rest = record { first = 12; after = _; is = refl; past = inr (omega arith) }
edit_starts chunk e (change_looks sel looks names) rest = record { first = 11; after = _; is = refl; past = inr (omega arith) }
