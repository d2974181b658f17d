-- Looks that are read are the looks that were written, and what was written is read again.
use Rattle.std.proofs.Common.{◌≡◌, ℕ, ℤ, zero, suc, ◌<◌, ◌≤◌, Bool, true, false, cond, ltb, leb, ◌&&◌, List}
use Rattle.std.proofs.Common.{[], ◌∷◌, ◌++◌, length, take, ◌-◌, ◌↔◌, Option, Some, None, refl, sym, ap}
use Rattle.std.proofs.Common.{subst, ◌∙◌, append_assoc, length-append, arith}
use Rattle.std.specs.Prelude.{FitsSigned, IfSome, IsNone}
use Rattle.std.proofs.lemmas.List.{take_at}
use Rattle.std.specs.Int.{w8, cast_signed, cast_unsigned}
use Rattle.std.proofs.lemmas.Bool.{and_parts, and_from, ltb-true, lt-ltb, leb-true, le-leb}
use Rattle.std.proofs.lemmas.Int.{to_z-of_z, of_z-to_z}
use borrow.Author.Gap.{read_sfits}
use Rattle.looks.specs.declared.colour.TheConstants.{MAX_COLOUR}
use Rattle.looks.specs.declared.looks.Looks.{Looks}
use Rattle.looks.specs.FontName.{IsFontName}
use Rattle.looks.specs.Looks.{IsLooks, plain_looks}
use Rattle.looks.specs.Sel.{Selection, bits_of}
use Rattle.byte_fields.specs.Fields.{Finds}
use Rattle.operations.specs.Reading.{looks_len_at, is_font_name, font_at, colour_at, offset_at}
use Rattle.operations.specs.Reading.{looks_at, selected_or, selected_at, selection_of, sel_at}
use Rattle.operations.specs.Spelling.{font_spelling, offset_spelling, looks_spelling, selected_spelling}
use Rattle.operations.specs.Spelling.{IsPlainElsewhere}
use Rattle.operations.proofs.Fields.{font_name_is, selection_is}
use Rattle.byte_fields.proofs.Readers.{IsBytes, Took, Reads, step, some_is, passed, byte_reads, stretch_reads}

pub font_reads : Reads font_at font_spelling IsFontName
unfolding font_at
font_reads = record {
  takes = λ bytes font rest fits e.
      let s = step _ _ _ byte_reads _ bytes (font, rest) fits e in
      let t = step _ _ _ (stretch_reads s.x) _ s.rest (font, rest) s.took.rest_fits s.goes_on in
      let g = passed (is_font_name t.x) (t.x, t.rest) (font, rest) t.goes_on in
      let whole : bytes ≡ font_spelling t.x ++ t.rest =
      s.took.parts ∙ ap (λ (r : List ℕ). s.x ∷ r) t.took.parts
      ∙ ap (λ (n : ℕ). n ∷ (t.x ++ t.rest)) (sym t.took.in_range) in
      subst (λ (p : List ℕ × List ℕ). Took font_spelling IsFontName bytes p.0 p.1) g.1
      (record { parts = whole; rest_fits = t.took.rest_fits; in_range = (font_name_is t.x).0 g.0 });
  again = λ font rest is. rw ((stretch_reads (length font)).again font rest refl, (font_name_is font).1 is)
      refl;
}

abbrev pub colour_spelling : ℕ → List ℕ
colour_spelling colour = colour ∷ []

abbrev pub IsColour : ℕ → Type 0
IsColour colour = colour ≤ MAX_COLOUR

pub colour_reads : Reads colour_at colour_spelling IsColour
unfolding colour_at
colour_reads = record {
  takes = λ bytes colour rest fits e.
      let s = step _ _ _ byte_reads _ bytes (colour, rest) fits e in
      let g = passed (leb s.x MAX_COLOUR) (s.x, s.rest) (colour, rest) s.goes_on in
      subst (λ (p : ℕ × List ℕ). Took colour_spelling IsColour bytes p.0 p.1) g.1
      (record { parts = s.took.parts; rest_fits = s.took.rest_fits; in_range = leb-true _ _ g.0 });
  again = λ colour rest le. rw (le-leb _ _ le) refl;
}

pub offset_reads : Reads offset_at offset_spelling (FitsSigned w8)
unfolding offset_at
offset_reads = record {
  takes = λ bytes offset rest fits e.
      let s = step _ _ _ byte_reads _ bytes (offset, rest) fits e in
      let back : cast_unsigned w8 (cast_signed w8 s.x) ≡ s.x = of_z-to_z w8 s.x s.took.in_range in
      subst (λ (p : ℤ × List ℕ). Took offset_spelling (FitsSigned w8) bytes p.0 p.1) (some_is _ _ s.goes_on)
      (record {
        parts = s.took.parts ∙ ap (λ (b : ℕ). b ∷ s.rest) (sym back);
        rest_fits =
            s.took.rest_fits;
        in_range = read_sfits w8 s.x;
      });
  again = λ offset rest fits. rw (to_z-of_z w8 offset fits) refl;
}

looks_split : (l : Looks) (rest : List ℕ) → looks_spelling l ++ rest ≡ font_spelling l.font
    ++ (colour_spelling l.colour ++ (offset_spelling l.offset ++ rest))
looks_split l rest = append_assoc (font_spelling l.font) (l.colour ∷ offset_spelling l.offset) rest

pub looks_reads : Reads looks_at looks_spelling IsLooks
unfolding looks_at
looks_reads = record {
  takes = λ bytes looks rest fits e.
      let s = step _ _ _ font_reads _ bytes (looks, rest) fits e in
      let t = step _ _ _ colour_reads _ s.rest (looks, rest) s.took.rest_fits s.goes_on in
      let u = step _ _ _ offset_reads _ t.rest (looks, rest) t.took.rest_fits t.goes_on in
      let made : Looks = record { font = s.x; colour = t.x; offset = u.x } in
      let whole : bytes ≡ looks_spelling made ++ u.rest =
      s.took.parts ∙ ap (λ (r : List ℕ). font_spelling s.x ++ r) (t.took.parts
      ∙ ap (λ (r : List ℕ). t.x ∷ r) u.took.parts) ∙ sym (looks_split made u.rest) in
      subst (λ (p : Looks × List ℕ). Took looks_spelling IsLooks bytes p.0 p.1) (some_is _ _ u.goes_on)
      (record {
        parts = whole;
        rest_fits = u.took.rest_fits;
        in_range =
            record { font = s.took.in_range; colour = t.took.in_range; offset = u.took.in_range };
      });
  again = λ l rest is.
      ap looks_at (looks_split l rest)
      ∙ rw (
        font_reads.again l.font (colour_spelling l.colour ++ (offset_spelling l.offset ++ rest))
            is.font,
        colour_reads.again l.colour (offset_spelling l.offset ++ rest) is.colour,
        offset_reads.again l.offset rest is.offset,
      ) refl;
}

pub looks_are_determined : (a b : Looks) (x y : List ℕ) → IsLooks a → IsLooks b
    → looks_spelling a ++ x ≡ looks_spelling b ++ y → (a ≡ b) × (x ≡ y)
looks_are_determined a b x y a_is b_is e =
    let same : ◌≡◌ {A = Option (Looks × List ℕ)} (Some (a, x)) (Some (b, y)) =
    sym (looks_reads.again a x a_is) ∙ ap looks_at e ∙ looks_reads.again b y b_is in
    let both : ◌≡◌ {A = Looks × List ℕ} (a, x) (b, y) = some_is _ _ same in (
      ap (λ (p : Looks × List ℕ). p.0) both,
      ap (λ (p : Looks × List ℕ). p.1) both,
    )

pub looks_shorter : (bytes : List ℕ) (l : Looks) (rest : List ℕ) → IsBytes bytes
    → looks_at bytes ≡ Some (l, rest) → length rest ≤ length bytes
looks_shorter bytes l rest fits e = let t = looks_reads.takes bytes l rest fits e in
    omega (arith, ap length t.parts, length-append (looks_spelling l) rest)

-- looks with their length, as they are found
record IsFront (bytes : List ℕ) (l : Looks) (n : ℕ) : Type 0 where
  is : IsLooks l
  rest : List ℕ
  parts : bytes ≡ looks_spelling l ++ rest
  len : n ≡ length (looks_spelling l)

front_of : (bytes : List ℕ) (found : Looks × ℕ) → IsBytes bytes → looks_len_at bytes ≡ Some found
    → IsFront bytes found.0 found.1
unfolding looks_len_at
front_of bytes found fits e =
    let s = step _ _ _ looks_reads _ bytes found fits e in
    subst (λ (p : Looks × ℕ). IsFront bytes p.0 p.1) (some_is _ _ s.goes_on)
    (record {
      is = s.took.in_range;
      rest = s.rest;
      parts = s.took.parts;
      len =
          omega (arith, ap length s.took.parts, length-append (looks_spelling s.x) s.rest);
    })

front_again : (l : Looks) (rest : List ℕ) → IsLooks l → looks_len_at (looks_spelling l ++ rest)
    ≡ Some (l, length (looks_spelling l))
unfolding looks_len_at
front_again l rest is =
    let len : length (looks_spelling l ++ rest) - length rest ≡ length (looks_spelling l) =
    omega (arith, length-append (looks_spelling l) rest) in
    rw (looks_reads.again l rest is) (ap (λ (n : ℕ). Some (l, n)) len)

pub front_is : (bytes : List ℕ) (r : Option (Looks × ℕ)) → IsBytes bytes
    → Finds (λ x. x) r (looks_len_at bytes)
    → IfSome r (λ found. IsLooks found.0 × (found.1 ≤ length bytes)
    × (take found.1 bytes ≡ looks_spelling found.0))
front_is bytes None fits found = tt
front_is bytes (Some x) fits found =
    let f = front_of bytes x fits found in (
      f.is,
      omega (arith, f.len, ap length f.parts, length-append (looks_spelling x.0) f.rest),
      ap (take x.1)
          f.parts ∙ take_at (looks_spelling x.0) f.rest x.1 (sym f.len),
    )

pub front_only : (bytes : List ℕ) (r : Option (Looks × ℕ)) (l : Looks) (rest : List ℕ) → IsLooks l
    → bytes ≡ looks_spelling l ++ rest → Finds (λ x. x) r (looks_len_at bytes)
    → r ≡ Some (l, length (looks_spelling l))
front_only bytes None l rest is e found =
    let read : looks_len_at bytes ≡ Some (l, length (looks_spelling l)) =
    ap looks_len_at e ∙ front_again l rest is in absurd cc
front_only bytes (Some x) l rest is e found = sym found ∙ ap looks_len_at e ∙ front_again l rest is

pub front_none : (bytes : List ℕ) (r : Option (Looks × ℕ)) → IsBytes bytes
    → Finds (λ x. x) r (looks_len_at bytes) → IsNone r ↔ ((l : Looks) (rest : List ℕ) → IsLooks l
    → bytes ≡ looks_spelling l ++ rest → ⊥)
front_none bytes None fits found = (
  λ h l rest is e. let some = front_only bytes None l rest is e found in
      absurd cc,
  λ h. refl,
)
front_none bytes (Some x) fits found = (
  λ h. absurd (cc),
  λ h. let f = front_of bytes x fits found in
      absurd (h x.0 f.rest f.is f.parts),
)

-- ---- selected values

abbrev selected_part : {A : Type 0} → Bool → (A → List ℕ) → A → List ℕ
selected_part selected spelling x = cond selected (spelling x) []

abbrev IsSelected : {A : Type 0} → Bool → A → (A → Type 0) → A → Type 0
IsSelected selected default InRange x = InRange x × (selected ≡ false → x ≡ default)

selected_reads : {A : Type 0} (selected : Bool) (default : A) (reader : List ℕ
    → Option (A × List ℕ)) (spelling : A → List ℕ) (InRange : A → Type 0)
    → Reads reader spelling InRange → InRange default
    → Reads (selected_or selected default reader) (selected_part selected spelling)
    (IsSelected selected default InRange)
selected_reads true default reader spelling InRange reads is = record {
  takes = λ bytes x rest fits e. let t = reads.takes bytes x rest fits e in
      record { parts = t.parts; rest_fits = t.rest_fits; in_range = (t.in_range, λ f. absurd cc) };
  again = λ x rest h. reads.again x rest h.0;
}
selected_reads {A = A} false default reader spelling InRange reads is = record {
  takes = λ bytes x rest fits e.
      subst (λ (p : A × List ℕ). Took (selected_part false spelling) (IsSelected false default InRange)
      bytes p.0 p.1) (some_is _ _ e)
      (record { parts = refl; rest_fits = fits; in_range = (is, λ f. refl) });
  again = λ x rest h. rw (h.1 refl) refl;
}

plain_is : IsLooks plain_looks
plain_is = record {
  font = (font_name_is plain_looks.font).0 refl;
  colour = omega arith;
  offset =
      read_sfits w8 0;
}

selected_split : (sel : Selection) (l : Looks) (rest : List ℕ) → selected_spelling sel l ++ rest
    ≡ selected_part sel.font font_spelling l.font ++ (selected_part sel.colour colour_spelling l.colour
    ++ (selected_part sel.offset offset_spelling l.offset ++ rest))
selected_split sel l rest = simp append_assoc

-- looks of which the selected values alone are spelled
abbrev pub IsSelectedLooks : Selection → Looks → Type 0
IsSelectedLooks sel l = IsLooks l × IsPlainElsewhere sel l

pub selected_looks_reads : (sel : Selection)
    → Reads (selected_at sel) (selected_spelling sel) (IsSelectedLooks sel)
unfolding selected_at
selected_looks_reads sel =
    let font = selected_reads sel.font plain_looks.font font_at font_spelling IsFontName font_reads
    plain_is.font in
    let colour =
    selected_reads sel.colour plain_looks.colour colour_at colour_spelling IsColour colour_reads
    plain_is.colour in
    let offset = selected_reads sel.offset plain_looks.offset offset_at offset_spelling (FitsSigned w8)
    offset_reads plain_is.offset in
    record {
      takes = λ bytes looks rest fits e.
          let s = step _ _ _ font _ bytes (looks, rest) fits e in
          let t = step _ _ _ colour _ s.rest (looks, rest) s.took.rest_fits s.goes_on in
          let u = step _ _ _ offset _ t.rest (looks, rest) t.took.rest_fits t.goes_on in
          let made : Looks = record { font = s.x; colour = t.x; offset = u.x } in
          let whole : bytes ≡ selected_spelling sel made ++ u.rest =
          s.took.parts ∙ ap (λ (r : List ℕ). selected_part sel.font font_spelling s.x
          ++ r) (t.took.parts ∙ ap (λ (r : List ℕ). selected_part sel.colour colour_spelling t.x
          ++ r) u.took.parts) ∙ sym (selected_split sel made u.rest) in
          let is : IsLooks made = record {
            font = s.took.in_range.0;
            colour = t.took.in_range.0;
            offset =
                u.took.in_range.0;
          } in
          let plain : IsPlainElsewhere sel made = record {
            font = s.took.in_range.1;
            colour =
                t.took.in_range.1;
            offset = u.took.in_range.1;
          } in
          subst (λ (p : Looks × List ℕ). Took (selected_spelling sel) (IsSelectedLooks sel) bytes p.0 p.1)
          (some_is _ _ u.goes_on)
          (record { parts = whole; rest_fits = u.took.rest_fits; in_range = (is, plain) });
      again = λ l rest is.
          ap (selected_at sel) (selected_split sel l rest)
          ∙ rw (
            font.again l.font (selected_part sel.colour colour_spelling l.colour
                ++ (selected_part sel.offset offset_spelling l.offset ++ rest)) (is.0.font, is.1.font),
            colour.again l.colour (selected_part sel.offset offset_spelling l.offset ++ rest)
                (is.0.colour, is.1.colour),
            offset.again l.offset rest (is.0.offset, is.1.offset),
          ) refl;
    }

-- ---- selections

bits_below : (s : Selection) → bits_of s < 8
bits_below s = go s.font s.colour s.offset
  where
    go : (font colour offset : Bool) → bits_of (record { font = font; colour = colour; offset = offset }) < 8
    go false false false = omega arith
    go false false true = omega arith
    go false true false = omega arith
    go false true true = omega arith
    go true false false = omega arith
    go true false true = omega arith
    go true true false = omega arith
    go true true true = omega arith

bits_are : (n : ℕ) → n < 8 → bits_of (selection_of n) ≡ n
bits_are zero lt = refl
bits_are (suc zero) lt = refl
bits_are (suc (suc zero)) lt = refl
bits_are (suc (suc (suc zero))) lt = refl
bits_are (suc (suc (suc (suc zero)))) lt = refl
bits_are (suc (suc (suc (suc (suc zero))))) lt = refl
bits_are (suc (suc (suc (suc (suc (suc zero)))))) lt = refl
bits_are (suc (suc (suc (suc (suc (suc (suc zero))))))) lt = refl
bits_are (suc (suc (suc (suc (suc (suc (suc (suc n)))))))) lt = absurd (omega arith)

abbrev pub sel_spelling : Selection → List ℕ
sel_spelling sel = bits_of sel ∷ []

abbrev pub IsSel : Selection → Type 0
IsSel sel = 0 < bits_of sel

pub sel_reads : Reads sel_at sel_spelling IsSel
unfolding sel_at
sel_reads = record {
  takes = λ bytes sel rest fits e.
      let s = step _ _ _ byte_reads _ bytes (sel, rest) fits e in
      let g = passed (ltb 0 s.x && ltb s.x 8) (selection_of s.x, s.rest) (sel, rest) s.goes_on in
      let tests = and_parts (ltb 0 s.x) (ltb s.x 8) g.0 in
      let back : bits_of (selection_of s.x) ≡ s.x = bits_are s.x (ltb-true _ _ tests.1) in
      subst (λ (p : Selection × List ℕ). Took sel_spelling IsSel bytes p.0 p.1) g.1
      (record {
        parts = s.took.parts ∙ ap (λ (b : ℕ). b ∷ s.rest) (sym back);
        rest_fits =
            s.took.rest_fits;
        in_range = rw back (ltb-true _ _ tests.0);
      });
  again = λ sel rest some.
      let test : (ltb 0 (bits_of sel) && ltb (bits_of sel) 8) ≡ true =
      and_from _ _ (lt-ltb _ _ some) (lt-ltb _ _ (bits_below sel)) in
      rw (test, selection_is sel) refl;
}
