-- Tests of fields, as the code makes them and as reading does.
use Rattle.std.proofs.Common.{◌≡◌, ◌↔◌, ℕ, Bool, true, false, ltb, leb, ◌&&◌, List, length, get_or, refl}
use Rattle.std.proofs.Common.{arith}
use Rattle.std.proofs.lemmas.Bool.{and_parts, and_from, ltb-true, leb-true, lt-ltb, le-leb}
use Rattle.std.proofs.lemmas.Bool.Decides.{nat_tests}
use Rattle.std.proofs.lemmas.List.Sums.{AllPass-from_list_all, list_all-from_AllPass}
use Rattle.std.specs.Char.{is_ascii_alphabetic}
use Rattle.std.specs.List.{list_all}
use Rattle.looks.specs.declared.font_name.TheConstants.{MAX_FONT_NAME}
use Rattle.looks.specs.FontName.{IsFontName, is_font_byte}
use Rattle.looks.specs.Sel.{Selection, bits_of}
use Rattle.char_files.specs.declared.name.Anchor.{Anchor}
use Rattle.char_files.specs.declared.name.Anchor.TheVariants.{Root, At}
use Rattle.operations.specs.Spelling.{IsCause}
use Rattle.operations.specs.Reading.{is_font_name, selection_of, is_cause}

pub font_name_is : (bytes : List ℕ) → (is_font_name bytes ≡ true) ↔ IsFontName bytes
font_name_is bytes =
    let some = ltb 0 (length bytes) in
    let few = leb (length bytes) MAX_FONT_NAME in
    let first = is_ascii_alphabetic (get_or bytes 0 0) in
    let each = list_all is_font_byte bytes in (
      λ e.
          let last = and_parts ((some && few) && first) each e in
          let third = and_parts (some && few) first last.0 in
          let front = and_parts some few third.0 in
          record {
            some = ltb-true _ _ front.0;
            few = leb-true _ _ front.1;
            first = third.1;
            each =
                AllPass-from_list_all is_font_byte bytes last.1;
          },
      λ f. and_from ((some && few) && first) each
          (and_from (some && few) first (and_from some few (lt-ltb _ _ f.some) (le-leb _ _ f.few)) f.first)
          (list_all-from_AllPass is_font_byte bytes f.each),
    )

pub selection_is : (s : Selection) → selection_of (bits_of s) ≡ s
selection_is s = go s.font s.colour s.offset
  where
    go : (font colour offset : Bool)
        → selection_of (bits_of (record { font = font; colour = colour; offset = offset }))
        ≡ record { font = font; colour = colour; offset = offset }
    go false false false = refl
    go false false true = refl
    go false true false = refl
    go false true true = refl
    go true false false = refl
    go true false true = refl
    go true true false = refl
    go true true true = refl

pub is_cause_is : (site at : ℕ) (cause : Anchor) → (is_cause site at cause ≡ true) ↔ IsCause site at cause
is_cause_is site at Root = (λ e. tt, λ h. refl)
is_cause_is site at (At name) = (λ e. grind (arith, nat_tests), λ h. grind (arith, nat_tests))
