-- A site's text as a file in one of two forms, as messages or packed.
use Rattle.std.specs.Prelude.{◌≡◌, ◌⊎◌, ℕ, List}
use Rattle.operations.specs.Operation.{Operation}
use Rattle.texts.specs.SiteFiles.{IsSiteFileOf, site_bytes}
use Rattle.texts.specs.declared.TheConstants.{MAX_KEPT}
use Rattle.kept_file.specs.PackedFiles.{IsPackedFileOf, packed_bytes}
use Rattle.kept_file.specs.declared.TheConstants.{MAX_PACKED}
use Rattle.kept_file.specs.declared.form.KeptForm.{KeptForm}
use Rattle.kept_file.specs.declared.form.KeptForm.TheVariants.{Messages, Packed}

-- the most operations that a file of this form tells
abbrev pub most_kept : KeptForm → ℕ
most_kept Messages = MAX_KEPT
most_kept Packed = MAX_PACKED

-- the file, in this form, of a text, a site and operations
abbrev pub kept_bytes : KeptForm → (text site : ℕ) → List Operation → List ℕ
kept_bytes Messages text site ops = site_bytes text site ops
kept_bytes Packed text site ops = packed_bytes text site ops

-- a file of this text and site, with these operations, in one of the forms
abbrev pub IsKeptFileOf : (text site : ℕ) → List Operation → (file : List ℕ) → Type 0
IsKeptFileOf text site ops file = IsSiteFileOf text site ops file ⊎ IsPackedFileOf text site ops file

-- it is no file of either form
abbrev pub IsNoKeptFile : List ℕ → Type 0
IsNoKeptFile file = (text site : ℕ) (ops : List Operation) → IsKeptFileOf text site ops file → ⊥

-- a file is of one text, one site and one list of operations at most, in whichever form
abbrev pub OneKept : Type 0
OneKept = (file : List ℕ) (text site other_text other_site : ℕ) (ops other_ops : List Operation)
    → IsKeptFileOf text site ops file → IsKeptFileOf other_text other_site other_ops file
    → (text ≡ other_text) × (site ≡ other_site) × (ops ≡ other_ops)
