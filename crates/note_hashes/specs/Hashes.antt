-- The hashes of a note's messages, as numbers.
use Rattle.std.specs.Prelude.{ℕ, List, [], ◌∷◌, ◌++◌, Option, Some, None}
use Rattle.std.specs.List.{flat_map}
use Rattle.operations.specs.Operation.{Operation}
use Rattle.operations.specs.Spelling.{spelling}
use Rattle.note_laws.specs.Note.{Saying}
use Rattle.note_entries.specs.Bytes.{hash_bytes, hash_of}
use Rattle.note_hashes.specs.Hmac.{hmac}

-- the HMAC of bytes, as a hash
abbrev pub keyed_hash : (key bytes : List ℕ) → ℕ
keyed_hash key bytes = hash_of (hmac key bytes)

-- the bytes of what a message builds on, none where it says nothing
abbrev pub on_bytes : Option ℕ → List ℕ
on_bytes None = []
on_bytes (Some on) = hash_bytes on

-- what is hashed of a message
abbrev pub said_bytes : (author before : ℕ) → (message : List ℕ) → Option ℕ → List ℕ
said_bytes author before message on = 1 ∷ hash_bytes author ++ hash_bytes before ++ message ++ on_bytes on

-- the digest of hashes, which a message says that it builds on
abbrev pub digest_of : List ℕ → List ℕ → ℕ
digest_of key hashes = keyed_hash key (2 ∷ flat_map hash_bytes hashes)

-- what an author says, with its hash
abbrev pub said_by : List ℕ → (author before : ℕ) → Operation → Option ℕ → Saying
said_by key author before op on = record {
  author = author;
  hash = keyed_hash key (said_bytes author before (spelling op) on);
  before = before;
  on = on;
  op = op;
}

-- a message of the base, whose hash is by the base's own key
abbrev pub copied_by : List ℕ → (author before : ℕ) → Operation → Saying
copied_by key author before op = record {
  author = author;
  hash = keyed_hash key (hash_bytes before ++ spelling op);
  before = before;
  on = None;
  op = op;
}
