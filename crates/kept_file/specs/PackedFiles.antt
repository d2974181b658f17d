-- A packed file of a site's text: the operations that the site has taken in, packed one after the other in the order of
-- their taking.
use Rattle.std.specs.Prelude.{◌≡◌, ◌≢◌, ℕ, ◌≤◌, List, ◌++◌, length, take, codes, All, AllPairs}
use Rattle.std.specs.Int.{w16}
use Rattle.byte_fields.specs.Fields.{number_spelling}
use Rattle.operations.specs.Operation.{Operation}
use Rattle.operations.specs.Spelling.{HasSpelling}
use Rattle.set_laws.specs.Sets.{KeepsCauses}
use Rattle.texts.specs.SiteFiles.{IsNumber}
use Rattle.texts.specs.TextState.{TextState}
use Rattle.packed.specs.Spelling.{packed, packed_after}
use Rattle.packed.specs.Told.{told}
use Rattle.kept_file.specs.declared.TheConstants.{MAX_PACKED}

-- what a packed file begins with
abbrev pub packed_tag : List ℕ
packed_tag = codes "OTP1"

-- the file: the tag, the text, the site, the packed operations
unfoldable pub packed_bytes : (text site : ℕ) → List Operation → List ℕ
packed_bytes text site ops = packed_tag ++ number_spelling w16 text ++ number_spelling w16 site ++ packed ops

-- operations that a packed file can tell, with the numbers of a text and a site: not too many, messages of this text all of
-- them, none twice, and each after its causes
pub record HasPackedFile (text site : ℕ) (ops : List Operation) : Type 0 where
  pub text_number : IsNumber text
  pub site_number : IsNumber site
  pub few : length ops ≤ MAX_PACKED
  pub spelled : All HasSpelling ops
  pub of_text : All (λ op. op.text ≡ text) ops
  pub once : AllPairs (λ a b. a ≢ b) ops
  pub in_order : KeepsCauses ops

-- the packed file of this text and site, with these operations
pub record IsPackedFileOf (text site : ℕ) (ops : List Operation) (file : List ℕ) : Type 0 where
  pub tells : HasPackedFile text site ops
  pub spelled : file ≡ packed_bytes text site ops

-- it is no packed file
abbrev pub IsNoPackedFile : List ℕ → Type 0
IsNoPackedFile file = (text site : ℕ) (ops : List Operation) → IsPackedFileOf text site ops file → ⊥

-- a file is of one text, one site and one list of operations at most
abbrev pub OnePackedFile : Type 0
OnePackedFile = (file : List ℕ) (text site other_text other_site : ℕ) (ops other_ops : List Operation)
    → IsPackedFileOf text site ops file → IsPackedFileOf other_text other_site other_ops file
    → (text ≡ other_text) × (site ≡ other_site) × (ops ≡ other_ops)

-- the bytes begin with the tag and the numbers of a text and of a site, whatever follows
pub record BeginsAsPackedFile (file : List ℕ) : Type 0 where
  pub text : ℕ
  pub site : ℕ
  pub rest : List ℕ
  pub text_number : IsNumber text
  pub site_number : IsNumber site
  pub parts : file ≡ packed_tag ++ number_spelling w16 text ++ number_spelling w16 site ++ rest

-- with operations more the file has bytes more: what they add to what those before told
abbrev pub FilesGrowAtTheEnd : Type 0
FilesGrowAtTheEnd = (text site : ℕ) (ops more : List Operation)
    → packed_bytes text site (ops ++ more) ≡ packed_bytes text site ops ++ packed_after (told ops) more

-- so the file of a text that has taken in more is that of before with bytes more
abbrev pub TextsGrowAtTheEnd : Type 0
TextsGrowAtTheEnd = (t new : TextState) (more : List Operation) → new.text ≡ t.text → new.site ≡ t.site
    → new.operations ≡ t.operations ++ more
    → packed_bytes new.text new.site new.operations
    ≡ packed_bytes t.text t.site t.operations ++ packed_after (told t.operations) more

-- the first of operations that have a file have one too, which is what that one begins with, since files grow at the end
abbrev pub FirstPartsAreFiles : Type 0
FirstPartsAreFiles = (text site : ℕ) (ops more : List Operation) → HasPackedFile text site (ops ++ more)
    → IsPackedFileOf text site ops (packed_bytes text site ops)

-- a file that another begins with is of the same text and site, and of the first of its operations
abbrev pub FirstPartsTellFirstOperations : Type 0
FirstPartsTellFirstOperations = (file rest : List ℕ) (text site other_text other_site : ℕ) (ops all : List Operation)
    → IsPackedFileOf text site ops file → IsPackedFileOf other_text other_site all (file ++ rest)
    → (more : List Operation) × (text ≡ other_text) × (site ≡ other_site) × (all ≡ ops ++ more)
    × (rest ≡ packed_after (told ops) more)

-- so a file that is cut where none of its operations ends is nobody's
abbrev pub OtherCutsAreNobodys : Type 0
OtherCutsAreNobodys = (text site : ℕ) (ops : List Operation) (cut rest : List ℕ)
    → IsPackedFileOf text site ops (cut ++ rest) → ((n : ℕ) → cut ≢ packed_bytes text site (take n ops))
    → IsNoPackedFile cut
