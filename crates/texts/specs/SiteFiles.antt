-- A site's file of a text: the operations that the site has taken in, as messages in the order of their taking.
use Rattle.std.specs.Prelude.{◌≡◌, ◌≢◌, ℕ, ◌^◌, ◌<◌, ◌≤◌, List, ◌++◌, length, codes, All, AllPairs}
use Rattle.std.specs.Int.{w16, w32}
use Rattle.std.specs.List.{flat_map}
use Rattle.operations.specs.Operation.{Operation}
use Rattle.operations.specs.Fields.{number_spelling}
use Rattle.operations.specs.Spelling.{HasSpelling, spelling}
use Rattle.set_laws.specs.Sets.{KeepsCauses}
use Rattle.texts.specs.declared.TheConstants.{MAX_KEPT}

-- what a site's file begins with
abbrev pub site_tag : List ℕ
site_tag = codes "OTS1"

-- a message, after its length
abbrev pub entry_spelling : Operation → List ℕ
entry_spelling op = number_spelling w16 (length (spelling op)) ++ spelling op

-- the file: the tag, the text, the site, how many messages there are, the messages
unfoldable pub site_bytes : (text site : ℕ) → List Operation → List ℕ
site_bytes text site ops =
    site_tag ++ number_spelling w16 text ++ number_spelling w16 site ++ number_spelling w32 (length ops)
    ++ flat_map entry_spelling ops

-- the number of a text or a site
abbrev pub IsNumber : ℕ → Type 0
IsNumber n = (0 < n) × (n < 2 ^ 16)

-- operations that a site's file can tell: not too many, messages of this text all of them, none twice, and each after its
-- causes
pub record HasSiteFile (text site : ℕ) (ops : List Operation) : Type 0 where
  pub text_number : IsNumber text
  pub site_number : IsNumber site
  pub few : length ops ≤ MAX_KEPT
  pub spelled : All HasSpelling ops
  pub of_text : All (λ op. op.text ≡ text) ops
  pub once : AllPairs (λ a b. a ≢ b) ops
  pub in_order : KeepsCauses ops

-- the file of this text and site, with these operations
pub record IsSiteFileOf (text site : ℕ) (ops : List Operation) (file : List ℕ) : Type 0 where
  pub tells : HasSiteFile text site ops
  pub spelled : file ≡ site_bytes text site ops

-- it is no site's file
abbrev pub IsNoSiteFile : List ℕ → Type 0
IsNoSiteFile file = (text site : ℕ) (ops : List Operation) → IsSiteFileOf text site ops file → ⊥

-- a file is of one text, one site and one list of operations at most
abbrev pub OneSite : Type 0
OneSite = (file : List ℕ) (text site other_text other_site : ℕ) (ops other_ops : List Operation)
    → IsSiteFileOf text site ops file → IsSiteFileOf other_text other_site other_ops file
    → (text ≡ other_text) × (site ≡ other_site) × (ops ≡ other_ops)
