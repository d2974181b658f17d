-- A room is filled from its beginning, one element after the other.
use Rattle.std.proofs.Common.{◌≡◌, ℕ, ◌+◌, ◌<◌, ◌≤◌, List, [], ◌∷◌, ◌++◌, length, map, take, drop, set, refl, sym, ap, ◌∙◌, arith}
use Rattle.std.proofs.lemmas.List.{append-nil, append_assoc, drop-drop, drop-set-lt, length-set, take-append-drop, take_more_set}
use Rattle.char_files.specs.declared.character.Char.{Char}
use Rattle.list_changes.specs.declared.change.Change.{Change}
use Rattle.vialshoal_c.specs.Asking.{number_of_kind}
use Rattle.vialshoal_c.specs.declared.outputs.CharName.{CharName}
use Rattle.vialshoal_c.specs.declared.outputs.TextChange.{TextChange}

-- so many are put in, these are left, and the rest of the room is as it was
pub record IsFilled {A B : Type 0} (f : A → B) (all left : List A) (old new : List B) (at : ℕ) : Type 0 where
  pub count : at + length left ≡ length all
  pub fits : length all ≤ length old
  pub len : length new ≡ length old
  pub put : take at new ++ map f left ≡ map f all
  pub rest : drop at new ≡ drop at old

module _ {A B : Type 0} (f : A → B) where
  pub fill_begins : (all : List A) (old : List B) → length all ≤ length old → IsFilled f all all old old 0
  fill_begins all old fits = record { count = omega arith; fits = fits; len = refl; put = refl; rest = refl }

  pub has_room : (all left : List A) (x : A) (old new : List B) (at : ℕ) → IsFilled f all (x ∷ left) old new at
      → at < length new
  has_room all left x old new at is = omega (arith, is.count, is.fits, is.len)

  pub fill_more : (all left : List A) (x : A) (old new : List B) (at : ℕ) → IsFilled f all (x ∷ left) old new at
      → IsFilled f all left old (set new at (f x)) (at + 1)
  fill_more all left x old new at is =
      let here : at < length new = has_room all left x old new at is in
      record {
        count = omega (arith, is.count);
        fits = is.fits;
        len = length-set new at (f x) ∙ is.len;
        put =
            ap (λ (ys : List B). ys ++ map f left) (take_more_set new at (f x) here)
            ∙ append_assoc (take at new) (f x ∷ []) (map f left) ∙ is.put;
        rest =
            drop-set-lt (at + 1) new at (f x) (omega arith) ∙ sym (drop-drop 1 at new)
            ∙ ap (λ (ys : List B). drop 1 ys) is.rest ∙ drop-drop 1 at old;
      }

  pub fill_ends : (all : List A) (old new : List B) (at : ℕ) → IsFilled f all [] old new at
      → new ≡ map f all ++ drop (length all) old
  fill_ends all old new at is =
      let whole : at ≡ length all = omega (arith, is.count) in
      sym (take-append-drop at new)
      ∙ ap (λ (ys : List B). ys ++ drop at new) (sym (append-nil (take at new)) ∙ is.put)
      ∙ ap (λ (ys : List B). map f all ++ ys) (is.rest ∙ ap (λ (n : ℕ). drop n old) whole)

-- what is put into a room of a character, and of a change
abbrev pub name_of : Char → CharName
name_of c = record { site = c.name.site; offset = c.name.off }

abbrev pub change_of : Change → TextChange
change_of c = record { kind = number_of_kind c.kind; beg = c.beg; end = c.end }

-- a number, which is put in as it is
abbrev pub same_number : ℕ → ℕ
same_number n = n

pub same_numbers : (ns : List ℕ) → map same_number ns ≡ ns
same_numbers [] = refl
same_numbers (n ∷ ns) = ap (λ (ms : List ℕ). n ∷ ms) (same_numbers ns)
