-- The parts of a site's file.
use Rattle.std.specs.Prelude.{◌≡◌, ℕ, ◌^◌, ◌<◌, ◌≤◌, List, ◌++◌, length, All, Option, Some}
use Rattle.std.specs.Int.{w16, w32}
use Rattle.std.specs.List.{flat_map}
use Rattle.operations.specs.Operation.{Operation}
use Rattle.byte_fields.specs.Fields.{◌>>=◌, number_at, stretch_at}
use Rattle.byte_fields.specs.Fields.{number_spelling}
use Rattle.operations.specs.Spelling.{HasSpelling}
use Rattle.texts.specs.SiteFiles.{IsNumber, entry_spelling, site_tag}
use Rattle.texts.specs.declared.TheConstants.{MAX_KEPT}
use Rattle.kept_file.specs.declared.site_file.reading.CountedHead.{CountedHead}
use Rattle.kept_file.specs.Parts.{head_at}

-- what stands between the tag and the messages: the text, the site, how many messages there are
abbrev pub counted_spelling : CountedHead → List ℕ
counted_spelling h = number_spelling w16 h.text ++ number_spelling w16 h.site ++ number_spelling w32 h.count

-- the text, the site and the count are in range
pub record IsCountedHead (h : CountedHead) : Type 0 where
  pub text : IsNumber h.text
  pub site : IsNumber h.site
  pub count : h.count < 2 ^ 32

-- the text, the site, how many messages there are
unfoldable pub counted_at : List ℕ → Option (CountedHead × List ℕ)
counted_at bytes = do
  head ← head_at bytes
  count ← number_at w32 head.1
  Some (record { text = head.0.text; site = head.0.site; count = count.0 }, count.1)

-- a message after its length
abbrev pub message_spelling : List ℕ → List ℕ
message_spelling message = number_spelling w16 (length message) ++ message

-- its length, and a message of so many bytes
unfoldable pub message_at : List ℕ → Option (List ℕ × List ℕ)
message_at bytes = do
  len ← number_at w16 bytes
  stretch_at len.0 len.1

-- a message whose length two bytes tell
abbrev pub IsShort : List ℕ → Type 0
IsShort message = length message < 2 ^ 16

-- the bytes are so many messages, each after its length
pub record AreMessages (messages : List (List ℕ)) (count : ℕ) (bytes : List ℕ) : Type 0 where
  pub counted : length messages ≡ count
  pub short : All IsShort messages
  pub parts : bytes ≡ flat_map message_spelling messages

-- The bytes are cut as a site's file is, whatever its messages tell: the tag, the numbers of a text and of a site, and as many
-- messages as it says, each after its length.
pub record IsCutAsFile (file : List ℕ) : Type 0 where
  pub text : ℕ
  pub site : ℕ
  pub messages : List (List ℕ)
  pub text_number : IsNumber text
  pub site_number : IsNumber site
  pub few : length messages ≤ MAX_KEPT
  pub short : All IsShort messages
  pub parts : file ≡ site_tag ++ number_spelling w16 text ++ number_spelling w16 site ++ number_spelling w32 (length messages)
      ++ flat_map message_spelling messages

-- the bytes are the messages of so many operations
pub record AreEntries (ops : List Operation) (count : ℕ) (bytes : List ℕ) : Type 0 where
  pub counted : length ops ≡ count
  pub spelled : All HasSpelling ops
  pub parts : bytes ≡ flat_map entry_spelling ops
