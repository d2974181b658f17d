-- A file read whole, and one put in the place of another, at any moment.
use Rattle.std.specs.Prelude.{◌≡◌, ◌≢◌, ◌⊎◌, ◌<◌, ℕ, true, List, [], ◌++◌, Option, Some, None, length}
use Rattle.std.specs.IoError.{error_kind}
use Rattle.std.specs.declared.io.Error.{Error}
use Rattle.std.specs.declared.io.ErrorKind.TheVariants.{AlreadyExists, OutOfMemory}
use Rattle.folder_shelf.specs.Calls.{CallFailed, IsMadeFor, MakesFile, NoFault, Same}
use Rattle.folder_shelf.specs.Moments.{Among, Content, CrashLeaves, Moment, Plain, Special, lasting, mode_of, seen}
use Rattle.folder_shelf.specs.declared.folder.TheConstants.{PRIVATE}
use Rattle.folder_shelf.specs.declared.whole_files.TheConstants.{BESIDE, MAX_FILE_LEN}

-- the name of a file that isn't whole yet
abbrev pub IsBeside : List ℕ → Type 0
IsBeside name = (number : List ℕ) × (name ≡ BESIDE.now ++ number)

-- At a moment of the replacing of a file: the name shows what it did before, or the new bytes, whole, and a crash leaves
-- under it what it could before, or the new bytes, whole; so does another name, but for a new file beside. The name's file has
-- the mode that it had before, and what is no plain file stays. If the name had a file, nobody can open the new one who couldn't open
-- that: the new file is its owner's alone, or has the same mode.
pub record BeforeOrAfter (name bytes : List ℕ) (old now : Moment) : Type 0 where
  pub shows : (seen now name ≡ seen old name) ⊎ (seen now name ≡ Some (Plain bytes))
  pub leaves : (found : Option Content) → CrashLeaves now name found → CrashLeaves old name found ⊎ (found ≡ Some (Plain bytes))
  pub mode : (before : ℕ) → mode_of old name ≡ Some before → mode_of now name ≡ Some before
  pub special : seen old name ≡ Some Special → seen now name ≡ Some Special
  pub private : (before : ℕ) → mode_of old name ≡ Some before → (beside : List ℕ) → IsBeside beside → old.names beside ≡ None
      → (mode : ℕ) → mode_of now beside ≡ Some mode → (mode ≡ PRIVATE) ⊎ (mode ≡ before)
  pub others_show : (other : List ℕ) → other ≢ name → (seen now other ≡ seen old other) ⊎ (IsBeside other × (old.names other ≡ None))
  pub others_leave : (other : List ℕ) → other ≢ name → (found : Option Content) → CrashLeaves now other found
      → CrashLeaves old other found ⊎ (IsBeside other × (old.names other ≡ None))

-- The file is replaced: the name shows the new bytes, whole, a crash leaves them, and no other name has changed. The file has
-- the mode of the one before, if there was one, which was plain.
pub record Replaced (name bytes : List ℕ) (old now : Moment) : Type 0 where
  pub shows : seen now name ≡ Some (Plain bytes)
  pub leaves : (found : Option Content) → CrashLeaves now name found → found ≡ Some (Plain bytes)
  pub mode : (before : ℕ) → mode_of old name ≡ Some before → mode_of now name ≡ Some before
  pub plain : seen old name ≢ Some Special
  pub others_show : (other : List ℕ) → other ≢ name → seen now other ≡ seen old other
  pub others_leave : (other : List ℕ) → other ≢ name → (found : Option Content) → CrashLeaves now other found → CrashLeaves old other found
  pub no_fault : NoFault old now

-- a call failed, or there is a file of some name beside
abbrev pub IsHindered : (old now : Moment) → Type 0
IsHindered old now = CallFailed old now ⊎ ((other : List ℕ) × IsBeside other × (old.names other ≢ None))

-- why a replacing was given up: a call failed, memory was refused, or there is a file of some name beside
abbrev pub GivenUp : Error → (old now : Moment) → Type 0
GivenUp error old now =
    CallFailed old now ⊎ (error_kind error ≡ OutOfMemory)
    ⊎ ((error_kind error ≡ AlreadyExists) × (other : List ℕ) × IsBeside other × (old.names other ≢ None))

-- a new file was made under this name, to take the place of the target's
pub record MakesFor (target name : List ℕ) (file : ℕ) (old now : Moment) : Type 0 where
  pub makes : MakesFile name file old now
  pub is_for : IsMadeFor target file old now

-- nothing has changed, or a new file was made beside
abbrev pub MakesBeside : (target : List ℕ) → (old now : Moment) → Type 0
MakesBeside target old now = Same old now ⊎ ((beside : List ℕ) × (file : ℕ) × IsBeside beside × MakesFor target beside file old now)

-- a file that was new, and so empty, has these bytes, and they are on the disk; it has the mode of the name's file, if there is
-- one, which is plain
pub record IsWhole (file : ℕ) (name bytes : List ℕ) (old now : Moment) : Type 0 where
  pub content : (old.files file).content ≡ Plain [] → (now.files file).content ≡ Plain bytes
  pub synced : (now.files file).synced ≡ true
  pub mode : (before : ℕ) → mode_of old name ≡ Some before → (now.files file).mode ≡ before
  pub plain : seen old name ≢ Some Special

-- While bytes are written to a new file beside, which then takes a name: no other name and no other file changes, and the
-- name has another file, or may have it after a crash, only when that file is whole. The new file keeps its mode, or has that of the
-- name's.
pub record Placing (file : ℕ) (beside name bytes : List ℕ) (old now : Moment) : Type 0 where
  pub names : (other : List ℕ) → (now.names other ≡ old.names other) ⊎ (other ≡ beside)
      ⊎ ((other ≡ name) × (now.names other ≡ old.names beside) × IsWhole file name bytes old now)
  pub kept : (other : List ℕ) (left : Option ℕ) → Among (lasting now) other left → Among (lasting old) other left ⊎ (other ≡ beside)
      ⊎ ((other ≡ name) × (left ≡ old.names beside) × IsWhole file name bytes old now)
  pub files : (other : ℕ) → other ≢ file → now.files other ≡ old.files other
  pub here : beside ≢ name → (now.names beside ≡ old.names beside) ⊎ (now.names beside ≡ None)
  pub mode : (before : ℕ) → mode_of old name ≡ Some before
      → ((now.files file).mode ≡ (old.files file).mode) ⊎ ((now.files file).mode ≡ before)

-- the name has the file, which is whole
pub record IsPlacedWhole (file : ℕ) (beside name bytes : List ℕ) (old now : Moment) : Type 0 where
  pub placing : Placing file beside name bytes old now
  pub gone : beside ≢ name → now.names beside ≡ None
  pub here : now.names name ≡ old.names beside
  pub others : (other : List ℕ) → (other ≡ beside) ⊎ (other ≡ name) ⊎ (now.names other ≡ old.names other)
  pub whole : IsWhole file name bytes old now
  pub no_fault : NoFault old now

-- a name has no plain file, or one that is too long
abbrev pub HasNoPlain : Moment → (name : List ℕ) → Type 0
HasNoPlain moment name = (bytes : List ℕ) → seen moment name ≡ Some (Plain bytes) → MAX_FILE_LEN < length bytes

-- the plain file of a name is open, and nothing of it was read
pub record Opened (name : List ℕ) (file place : ℕ) (old now : Moment) : Type 0 where
  pub same : Same old now
  pub no_fault : NoFault old now
  pub start : place ≡ 0
  pub bytes : List ℕ
  pub seen_bytes : seen old name ≡ Some (Plain bytes)
  pub content : (old.files file).content ≡ Plain bytes

-- all bytes were read of a file of which nothing was read before
pub record ReadAll (file place : ℕ) (bytes : List ℕ) (old now : Moment) : Type 0 where
  pub same : Same old now
  pub no_fault : NoFault old now
  pub read : place ≡ 0 → (all : List ℕ) → (old.files file).content ≡ Plain all → bytes ≡ all

-- such a file is too long
abbrev pub IsFileTooLong : (file place : ℕ) → Moment → Type 0
IsFileTooLong file place old = place ≡ 0 → (all : List ℕ) → (old.files file).content ≡ Plain all → MAX_FILE_LEN < length all

-- the plain file of a name has these bytes, and no call failed
pub record IsRead (name bytes : List ℕ) (old now : Moment) : Type 0 where
  pub content : seen old name ≡ Some (Plain bytes)
  pub no_fault : NoFault old now

-- an error that says that memory was refused, and no call failed; or another, and one did, or there is this reason
abbrev pub RefusesCall : Error → (reason : Type 0) → (old now : Moment) → Type 0
RefusesCall error reason old now =
    ((error_kind error ≡ OutOfMemory) × NoFault old now) ⊎ ((error_kind error ≢ OutOfMemory) × (CallFailed old now ⊎ reason))
