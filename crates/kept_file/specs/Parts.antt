-- What files have in either form, and what becomes of their operations.
use Rattle.std.specs.Prelude.{ℕ, List, ◌++◌, Option, Some}
use Rattle.std.specs.Int.{w16}
use Rattle.byte_fields.specs.Fields.{◌>>=◌, number_spelling, positive_at}
use Rattle.texts.specs.SiteFiles.{IsNumber}
use Rattle.texts.specs.declared.took.Took.{Took}
use Rattle.texts.specs.declared.took.Took.TheVariants.{Taken, Repeat, Waits}
use Rattle.kept_file.specs.declared.head.Head.{Head}

-- what stands behind the tag: the text and the site
abbrev pub packed_head_spelling : Head → List ℕ
packed_head_spelling h = number_spelling w16 h.text ++ number_spelling w16 h.site

-- the text and the site are in range
pub record IsPackedHead (h : Head) : Type 0 where
  pub text : IsNumber h.text
  pub site : IsNumber h.site

-- the text and the site
unfoldable pub head_at : List ℕ → Option (Head × List ℕ)
head_at bytes = do
  text ← positive_at w16 bytes
  site ← positive_at w16 text.1
  Some (record { text = text.0; site = site.0 }, site.1)

-- an operation was taken in, rather than that it is held already or waits
abbrev pub WasTaken : Took → Type 0
WasTaken (Taken drained dropped stopped) = Unit {0}
WasTaken Repeat = ⊥
WasTaken Waits = ⊥
