-- Plain files, read from left to right.
use Rattle.std.proofs.Common.{◌≡◌, ◌≢◌, ℕ, ◌<◌, ◌≤◌, Bool, true, false, cond, List, [], ◌∷◌, ◌++◌, length, refl, sym}
use Rattle.std.proofs.Common.{ap, ◌∙◌, append_assoc, length-append, arith}
use Rattle.std.specs.Prelude.{◌==◌, ◌&&◌}
use Rattle.std.proofs.lemmas.Bool.{ne_eqb}
use Rattle.std.proofs.lemmas.List.{append-nil, length-map}
use Rattle.looks.specs.declared.looks.Looks.{Looks}
use Rattle.looks.specs.Looks.{plain_looks}
use Rattle.char_files.specs.declared.TheConstants.{MAX_FILE}
use Rattle.char_files.specs.Plain.{plain_items}
use Rattle.char_files.specs.Stretch.{Item}
use Rattle.text_file.specs.declared.TheConstants.{MAX_STORED}
use Rattle.text_file.specs.Files.{as_line_end, without_newline, plain_bytes}

-- line ends become shorter
pub plain_few : (bytes : List ℕ) → length (plain_bytes bytes) ≤ length bytes
unfolding plain_bytes
plain_few [] = omega arith
plain_few (a ∷ []) = omega arith
plain_few (a ∷ b ∷ rest) = go (a == 13 && b == 10) (plain_few rest) (plain_few (b ∷ rest))
  where
    go : (test : Bool) → length (plain_bytes rest) ≤ length rest
        → length (plain_bytes (b ∷ rest)) ≤ length (b ∷ rest)
        → length (cond test (13 ∷ plain_bytes rest) (as_line_end a ∷ plain_bytes (b ∷ rest)))
        ≤ length (a ∷ b ∷ rest)
    go true few others = omega arith
    go false few others = omega arith

pub plain_none : (bytes : List ℕ) → bytes ≡ [] → length (plain_bytes bytes) ≡ 0
unfolding plain_bytes
plain_none bytes e = ap (λ (l : List ℕ). length (plain_bytes l)) e

-- ---- the first character

at_return : (rest : List ℕ) → plain_bytes (13 ∷ rest) ≡ 13 ∷ plain_bytes (without_newline rest)
unfolding plain_bytes
at_return [] = refl
at_return (b ∷ rest) = go (b == 10)
  where
    go : (test : Bool) → cond test (13 ∷ plain_bytes rest) (13 ∷ plain_bytes (b ∷ rest))
        ≡ 13 ∷ plain_bytes (cond test rest (b ∷ rest))
    go true = refl
    go false = refl

at_other : (a : ℕ) (rest : List ℕ) → a ≢ 13 → plain_bytes (a ∷ rest) ≡ as_line_end a ∷ plain_bytes rest
unfolding plain_bytes
at_other a [] other = refl
at_other a (b ∷ rest) other =
    let test : (a == 13) ≡ false = ne_eqb a 13 other in
    ap (λ (t : Bool). cond (t && b == 10) (13 ∷ plain_bytes rest) (as_line_end a ∷ plain_bytes (b ∷ rest))) test

pub return_first : (bytes : List ℕ) (a : ℕ) (rest after : List ℕ) → bytes ≡ a ∷ rest → a ≡ 13
    → after ≡ without_newline rest → plain_bytes bytes ≡ 13 ∷ plain_bytes after
return_first bytes a rest after e is after_is =
    ap plain_bytes (e ∙ ap (λ (b : ℕ). b ∷ rest) is) ∙ at_return rest
    ∙ ap (λ (l : List ℕ). 13 ∷ plain_bytes l) (sym after_is)

pub other_first : (bytes : List ℕ) (a : ℕ) (rest : List ℕ) (b : ℕ) → bytes ≡ a ∷ rest → a ≢ 13
    → b ≡ as_line_end a → plain_bytes bytes ≡ b ∷ plain_bytes rest
other_first bytes a rest b e other b_is =
    ap plain_bytes e ∙ at_other a rest other ∙ ap (λ (c : ℕ). c ∷ plain_bytes rest) (sym b_is)

-- ---- characters that are put into a buffer one by one

pub plain_length : (bytes : List ℕ) → length (plain_items bytes) ≡ length bytes
plain_length bytes = let item : ℕ → Item = λ b. (b, plain_looks) in length-map bytes item

pub none_pushed : (text : List Item) (chars : List ℕ) → text ≡ [] → text ++ plain_items chars ≡ plain_items chars
none_pushed text chars e = ap (λ (t : List Item). t ++ plain_items chars) e

pub room_for_one : (text : List Item) (b : ℕ) (rest after all : List ℕ) → rest ≡ b ∷ after
    → text ++ plain_items rest ≡ plain_items all → length all ≤ MAX_STORED → length text < MAX_FILE
room_for_one text b rest after all e so_far few =
    omega (
      arith,
      few,
      ap length e,
      ap length so_far,
      length-append text (plain_items rest),
      plain_length rest,
      plain_length all,
    )

pub one_pushed : (old new : List Item) (b : ℕ) (looks : Looks) (rest after all : List ℕ)
    → new ≡ old ++ (b, looks) ∷ [] → looks ≡ plain_looks → rest ≡ b ∷ after
    → old ++ plain_items rest ≡ plain_items all → new ++ plain_items after ≡ plain_items all
one_pushed old new b looks rest after all pushed is e so_far =
    let item : Looks → Item = λ l. (b, l) in
    ap (λ (t : List Item). t ++ plain_items after) (pushed ∙ ap (λ (l : Looks). old ++ item l ∷ []) is)
    ∙ append_assoc old (item plain_looks ∷ []) (plain_items after)
    ∙ ap (λ (r : List ℕ). old ++ plain_items r) (sym e) ∙ so_far

pub all_pushed : (text : List Item) (rest all : List ℕ) → rest ≡ []
    → text ++ plain_items (plain_bytes rest) ≡ plain_items all → text ≡ plain_items all
unfolding plain_bytes
all_pushed text rest all e so_far =
    sym (append-nil text) ∙ ap (λ (r : List ℕ). text ++ plain_items (plain_bytes r)) (sym e) ∙ so_far
