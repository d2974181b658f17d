-- Messages that stand in rows, and those that stand aside.
use Rattle.std.specs.Prelude.{◌≡◌, ◌≢◌, ℕ, ◌+◌, List, Contains, Option, None, Some, slice_get}
use Rattle.std.specs.List.{IsDistinct, flat_map}
use Rattle.std.specs.Map.{keys_of, values_of}
use Rattle.note_laws.specs.Note.{Saying}
use Rattle.note_laws.specs.Chains.{AreBranches}
use Rattle.note_entries.specs.Branches.{IsPutSaying, Place, is_same_place, place_in_chain}
use Rattle.note_entries.specs.Keyed.{StandUnderKeys}

-- where a row of a place's author, text and number begins
abbrev pub row_begin : Place → Place
row_begin p = record { author = p.author; text = p.text; site = p.site; seq = 1; before = 0 }

-- the messages of a row begin there, and have the seqs from 1 on
abbrev pub IsRow : Place → List Saying → Type 0
IsRow begin row = (n : ℕ) (s : Saying) → slice_get row n ≡ Some s
    → (row_begin (place_in_chain s) ≡ begin) × (s.op.seq ≡ n + 1)

-- the messages of all rows
abbrev pub said_in : List (Place × List Saying) → List Saying
said_in rows = flat_map (λ (r : Place × List Saying). r.1) rows

-- each row stands where it begins, and no two begin at one place
pub record AreSayingRows (rows : List (Place × List Saying)) : Type 0 where
  pub each : (begin : Place) (row : List Saying) → Contains rows (begin, row) → IsRow begin row
  pub distinct : IsDistinct is_same_place (keys_of rows)

-- those that stand aside are found by their places, of which none is one of a row
pub record StandApart (rows : List Saying) (aside : List (Place × Saying)) : Type 0 where
  pub keyed : StandUnderKeys is_same_place place_in_chain aside
  pub apart : (s t : Saying) → Contains rows s → Contains (values_of aside) t → place_in_chain s ≢ place_in_chain t

-- a message is put among these, or given back where none of its place is there
abbrev pub PutsOrReturns : (old : List Saying) → Saying → (back : Option Saying) → (new : List Saying) → Type 0
PutsOrReturns old s None new = IsPutSaying old s new
PutsOrReturns old s (Some back) new = (back ≡ s) × (new ≡ old) × ((kept : Saying) → Contains old kept → ¬ AreBranches s kept)
