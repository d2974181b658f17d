-- What each call does to a folder.
use Rattle.std.specs.Prelude.{◌≡◌, ◌≢◌, ◌⊎◌, ◌<◌, ◌≤◌, ◌+◌, ℕ, true, List, [], ◌++◌, Option, Some, None, length, take, drop}
use Rattle.std.specs.IoError.{error_kind}
use Rattle.std.specs.declared.io.Error.{Error}
use Rattle.std.specs.declared.io.ErrorKind.TheVariants.{AlreadyExists, OutOfMemory}
use Rattle.folder_shelf.specs.Moments.{Among, Moment, Plain, Special, lasting, mode_of, seen}
use Rattle.folder_shelf.specs.declared.folder.TheConstants.{MAX_PIECE, PRIVATE}

-- no name and no file changes
pub record Same (old new : Moment) : Type 0 where
  pub names : new.names ≡ old.names
  pub kept : new.kept ≡ old.kept
  pub files : new.files ≡ old.files

-- no call failed
abbrev pub NoFault : (old new : Moment) → Type 0
NoFault old new = new.faults ≡ old.faults

-- a call failed
abbrev pub CallFailed : (old new : Moment) → Type 0
CallFailed old new = old.faults < new.faults

-- a failed call is counted, unless it was refused memory
abbrev pub Fails : Error → (old new : Moment) → Type 0
Fails error old new = ((error_kind error ≡ OutOfMemory) × NoFault old new) ⊎ ((error_kind error ≢ OutOfMemory) × CallFailed old new)

-- a new file of no bytes under a name that had none: no name led to it, nor might after a crash
pub record MakesFile (name : List ℕ) (file : ℕ) (old new : Moment) : Type 0 where
  pub absent : old.names name ≡ None
  pub fresh : (other : List ℕ) → ¬ Among (lasting old) other (Some file)
  pub here : new.names name ≡ Some file
  pub others : (other : List ℕ) → (other ≡ name) ⊎ (new.names other ≡ old.names other)
  pub kept : new.kept ≡ lasting old
  pub content : (new.files file).content ≡ Plain []
  pub files : (other : ℕ) → other ≢ file → new.files other ≡ old.files other

-- a new file that is to take the place of a name's plain file, if there is one, is its owner's alone
pub record IsMadeFor (target : List ℕ) (file : ℕ) (old new : Moment) : Type 0 where
  pub private : mode_of old target ≢ None → (new.files file).mode ≡ PRIVATE
  pub plain : seen old target ≢ Some Special

-- A making that failed: the name has a file, and nothing has changed; or otherwise, and then a file may have been made.
abbrev pub MakesNot : Error → (name target : List ℕ) → (old new : Moment) → Type 0
MakesNot error name target old new =
    ((error_kind error ≡ AlreadyExists) × (old.names name ≢ None) × Same old new × NoFault old new)
    ⊎ ((error_kind error ≢ AlreadyExists)
    × (Same old new ⊎ ((file : ℕ) × MakesFile name file old new × IsMadeFor target file old new)) × Fails error old new)

-- one file changes at most, and a crash may make anything of it
pub record Touches (file : ℕ) (old new : Moment) : Type 0 where
  pub names : new.names ≡ old.names
  pub kept : new.kept ≡ old.kept
  pub files : (other : ℕ) → other ≢ file → new.files other ≡ old.files other

-- so, and the file keeps its mode
pub record TouchesContent (file : ℕ) (old new : Moment) : Type 0 where
  pub touches : Touches file old new
  pub mode : (new.files file).mode ≡ (old.files file).mode

-- so, and the file keeps its mode or has that of a name's file, if there is one
pub record TouchesMode (file : ℕ) (name : List ℕ) (old new : Moment) : Type 0 where
  pub touches : Touches file old new
  pub mode : (before : ℕ) → mode_of old name ≡ Some before
      → ((new.files file).mode ≡ (old.files file).mode) ⊎ ((new.files file).mode ≡ before)

-- bytes come to a file's end
pub record AppendsToFile (file : ℕ) (bytes : List ℕ) (old new : Moment) : Type 0 where
  pub touches : Touches file old new
  pub content : (before : List ℕ) → (old.files file).content ≡ Plain before → (new.files file).content ≡ Plain (before ++ bytes)
  pub mode : (new.files file).mode ≡ (old.files file).mode

-- a file has the mode of a name's file, if there is one; and that is plain
pub record TakesMode (file : ℕ) (name : List ℕ) (old new : Moment) : Type 0 where
  pub touches : Touches file old new
  pub content : (new.files file).content ≡ (old.files file).content
  pub mode : (before : ℕ) → mode_of old name ≡ Some before → (new.files file).mode ≡ before
  pub plain : seen old name ≢ Some Special

-- a file's content is on the disk
pub record Syncs (file : ℕ) (old new : Moment) : Type 0 where
  pub touches : Touches file old new
  pub content : (new.files file).content ≡ (old.files file).content
  pub mode : (new.files file).mode ≡ (old.files file).mode
  pub synced : (new.files file).synced ≡ true

-- a name takes the file of another, in place of its own
pub record Moves (from to : List ℕ) (old new : Moment) : Type 0 where
  pub gone : from ≢ to → new.names from ≡ None
  pub here : new.names to ≡ old.names from
  pub others : (other : List ℕ) → (other ≡ from) ⊎ (other ≡ to) ⊎ (new.names other ≡ old.names other)
  pub kept : new.kept ≡ lasting old
  pub files : new.files ≡ old.files

-- a name loses its file
pub record Removes (name : List ℕ) (old new : Moment) : Type 0 where
  pub here : new.names name ≡ None
  pub others : (other : List ℕ) → (other ≡ name) ⊎ (new.names other ≡ old.names other)
  pub kept : new.kept ≡ lasting old
  pub files : new.files ≡ old.files

-- all names are on the disk
pub record SyncsFolder (old new : Moment) : Type 0 where
  pub names : new.names ≡ old.names
  pub kept : new.kept ≡ []
  pub files : new.files ≡ old.files

-- a call that went well
abbrev pub Well : (step : Moment → Moment → Type 0) → (old new : Moment) → Type 0
Well step old new = step old new × NoFault old new

-- a call that failed, and may have done it or not
abbrev pub Perhaps : Error → (step : Moment → Moment → Type 0) → (old new : Moment) → Type 0
Perhaps error step old new = (Same old new ⊎ step old new) × Fails error old new

-- what a look at a name answers: the length of its plain file, or that there is none
abbrev pub AnswersLength : (name : List ℕ) → Option ℕ → Moment → Type 0
AnswersLength name (Some len) old = (bytes : List ℕ) × (seen old name ≡ Some (Plain bytes)) × (length bytes ≡ len)
AnswersLength name None old = (bytes : List ℕ) → seen old name ≢ Some (Plain bytes)

-- the next piece of a file, of which so many bytes were read: shorter than a piece only at the end
pub record GivesPiece (file start count end : ℕ) (before after : List ℕ) (old : Moment) : Type 0 where
  pub place : end ≡ start + count
  pub bytes : (all : List ℕ) → (old.files file).content ≡ Plain all → after ≡ before ++ take count (drop start all)
  pub within : (all : List ℕ) → (old.files file).content ≡ Plain all → end ≤ length all
  pub last : (all : List ℕ) → (old.files file).content ≡ Plain all → count < MAX_PIECE → end ≡ length all
