-- The verb of a word, among the rows that are left.
use Rattle.std.proofs.Common.{◌≡◌, ℕ, ◌+◌, ◌<◌, ◌≤◌, List, ◌∷◌, length, drop, get_or, map, Bool, true, false, Option, Some, None}
use Rattle.std.proofs.Common.{Bor, add-one, drop-cons, refl, sym, ap, ◌∙◌}
use Rattle.std.proofs.lemmas.List.{drop_all}
use Rattle.script_events.specs.Script.{verb_among}
use Rattle.script_events.specs.Words.{is_word}
use Rattle.script_events.specs.declared.event.verbs.Verb.{Verb}

-- a row as the code has it
abbrev pub Row : Type 0
Row = Bor (List ℕ) × Verb

-- the verb of a word, among the rows from this one on
abbrev pub among : List Row → ℕ → List ℕ → Option Verb
among rows i word = verb_among (map (λ (row : Row). (row.0.now, row.1)) (drop i rows)) word

-- that is told by the first of them, if it has the word
by_test : (row : Row) (rows : List Row) (word : List ℕ) (test : Bool) → is_word row.0.now word ≡ test
    → among (row ∷ rows) 0 word ≡ (elim test as (λ _. Option Verb) [ true ↦ Some row.1 | false ↦ among rows 0 word ])
by_test row rows word true is = rw is refl
by_test row rows word false is = rw is refl

from_row : (rows : List Row) (i : ℕ) (d : Row) (word : List ℕ) → i < length rows
    → among rows i word ≡ among (get_or rows i d ∷ drop (i + 1) rows) 0 word
from_row rows i d word within = rw add-one (ap (λ (rest : List Row). among rest 0 word) (drop-cons rows i d within))

pub found : (rows : List Row) (i : ℕ) (d : Row) (word : List ℕ) (test : Bool) (whole : Option Verb)
    → test ≡ is_word (get_or rows i d).0.now word → test ≡ true → i < length rows → among rows i word ≡ whole
    → Some (get_or rows i d).1 ≡ whole
found rows i d word test whole is passes within left =
    sym (from_row rows i d word within ∙ by_test (get_or rows i d) (drop (i + 1) rows) word true (sym is ∙ passes)) ∙ left

-- else by those after it
pub passed : (rows : List Row) (i : ℕ) (d : Row) (word : List ℕ) (test : Bool) (whole : Option Verb)
    → test ≡ is_word (get_or rows i d).0.now word → test ≡ false → i < length rows → among rows i word ≡ whole
    → among rows (i + 1) word ≡ whole
passed rows i d word test whole is fails within left =
    sym (from_row rows i d word within ∙ by_test (get_or rows i d) (drop (i + 1) rows) word false (sym is ∙ fails)) ∙ left

-- and where none is left there is none
pub ended : (rows : List Row) (i : ℕ) (word : List ℕ) (whole : Option Verb) → length rows ≤ i
    → among rows i word ≡ whole → None ≡ whole
ended rows i word whole past left =
    sym (ap (λ (rest : List Row). among rest 0 word) (drop_all i rows past)) ∙ left
