-- What `names` prints and what `where` prints are inverse to each other.
use Rattle.std.specs.Prelude.{◌≡◌, ℕ, List, [], ◌∷◌, ◌++◌, All, IsFalse, codes, map, slice_range}
use Rattle.operations.specs.NameSet.{Range, names_in, touches}
use Rattle.texts.specs.Text.{IsText}
use Rattle.texts.specs.TextState.{TextState, shown_of}
use Rattle.machine.specs.NamesShown.{NamedStretch, named_stretches}
use Rattle.machine.specs.OnTexts.{Prints}
use Rattle.machine.specs.Printing.{line}
use Rattle.machine.specs.WhereShown.{shown_line}
use Rattle.machine.specs.declared.asked.Query.TheVariants.{WhereShown}

-- none of these ranges goes on with the one after it
abbrev pub AreApart : List Range → Type 0
AreApart [] = Unit {0}
AreApart (r ∷ []) = Unit {0}
AreApart (r ∷ s ∷ ranges) = IsFalse (touches r s) × AreApart (s ∷ ranges)

-- asked for the names of this stretch, `where` prints that they are shown so, and nothing else
abbrev pub IsGivenBack : TextState → NamedStretch → Type 0
IsGivenBack t s =
    Prints (WhereShown s.names) t
    (shown_line (shown_of t) (record { at = s.names.at; pos = s.pos; len = s.names.len }) ++ line (codes "ok"))

-- `names` tells all that is shown from beg to end, in its order, by stretches that are as long as they can be; and each of them
-- is given back.
pub record NamesAreGivenBack (t : TextState) (beg end : ℕ) : Type 0 where
  pub all : names_in (map (λ s. s.names) (named_stretches (shown_of t) beg end))
      ≡ map (λ c. c.name) (slice_range (shown_of t) beg end)
  pub longest : AreApart (map (λ s. s.names) (named_stretches (shown_of t) beg end))
  pub where_shown : All (IsGivenBack t) (named_stretches (shown_of t) beg end)

-- so it is with each text that is what its operations define
abbrev pub WhereGivesNamesBack : Type 0
WhereGivesNamesBack = (t : TextState) (beg end : ℕ) → IsText t → NamesAreGivenBack t beg end
