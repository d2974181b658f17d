-- A folder at each of its moments, and what may be found in it after a crash.
use Rattle.std.specs.Prelude.{◌≡◌, ◌⊎◌, ℕ, Bool, true, List, [], ◌∷◌, ◌++◌, Option, Some, None, ⊤}
use Rattle.std.specs.List.{AllByRecursion}
use Rattle.std.specs.Option.{option_map}

-- what a name leads to: a plain file with its bytes; or a link, a folder, a pipe or a device
pub data Content : Type 0 where
  Plain : (bytes : List ℕ) → Content
  Special : Content

-- a file; it is synced where nothing was written since its last sync
pub record File : Type 0 where
  pub content : Content
  pub synced : Bool
  -- what its owner, its group and others may do with it
  pub mode : ℕ

-- the file of each name, by its number
abbrev pub Names : Type 0
Names = List ℕ → Option ℕ

-- the folder at a moment
pub record Moment : Type 0 where
  pub names : Names
  -- the names at each earlier moment since the folder was last synced, that one included
  pub kept : List Names
  pub files : ℕ → File
  -- how many calls have failed
  pub faults : ℕ

-- the folder so far
pub record History : Type 0 where
  pub now : Moment
  pub past : List Moment

-- what a name leads to
abbrev pub seen : Moment → (name : List ℕ) → Option Content
seen moment name = option_map (λ file. (moment.files file).content) (moment.names name)

-- the mode of a name's file
abbrev pub mode_of : Moment → (name : List ℕ) → Option ℕ
mode_of moment name = option_map (λ file. (moment.files file).mode) (moment.names name)

-- some of these names has this file, or none
abbrev pub Among : List Names → (name : List ℕ) → Option ℕ → Type 0
Among [] name file = ⊥
Among (names ∷ kept) name file = (file ≡ names name) ⊎ Among kept name file

-- a crash may make this of a name with this file: anything, where the file isn't synced
abbrev pub Survives : (ℕ → File) → Option ℕ → Option Content → Type 0
Survives files None found = found ≡ None
Survives files (Some file) found = (content : Content) × (found ≡ Some content) × ((files file).synced ≡ true → content ≡ (files file).content)

-- the names of which a crash leaves each name one
abbrev pub lasting : Moment → List Names
lasting moment = moment.names ∷ moment.kept

-- a crash may leave this under a name: each making, renaming and removal that no sync of the folder followed may be undone
abbrev pub CrashLeaves : Moment → (name : List ℕ) → Option Content → Type 0
CrashLeaves moment name found = (file : Option ℕ) × Among (lasting moment) name file × Survives moment.files file found

-- all moments, the newest first
abbrev pub moments : History → List Moment
moments history = history.now ∷ history.past

-- from one history to a later one: each moment since is so beside the one that was the newest, and so is the last
pub record LeadsToHistory (Each Last : Moment → Moment → Type 0) (old new : History) : Type 0 where
  pub since : List Moment
  pub later : moments new ≡ since ++ moments old
  pub each : AllByRecursion (Each old.now) since
  pub last : Last old.now new.now

-- the same where a history is told
abbrev pub Since : (Each Last : Moment → Moment → Type 0) → (old new : Option History) → Type 0
Since Each Last None None = ⊤
Since Each Last None (Some new) = ⊥
Since Each Last (Some old) None = ⊥
Since Each Last (Some old) (Some new) = LeadsToHistory Each Last old new

-- a call takes the folder to its next moment
pub record Comes (step : Moment → Moment → Type 0) (old new : History) : Type 0 where
  pub past : new.past ≡ moments old
  pub next : step old.now new.now

-- the same where a history is told
abbrev pub Goes : (step : Moment → Moment → Type 0) → (old new : Option History) → Type 0
Goes step None None = ⊤
Goes step None (Some new) = ⊥
Goes step (Some old) None = ⊥
Goes step (Some old) (Some new) = Comes step old new

-- nothing is said
abbrev pub Anything : Moment → Moment → Type 0
Anything old now = ⊤
