use Rattle.std.specs.Prelude.{◌≡◌, ℕ, Result, IfErr}
use Rattle.looks.specs.declared.refusal.Refusal.{Refusal}
use Rattle.looks.specs.declared.refusal.Refusal.TheVariants.{Malformed, WrongText, Conflict, BadOffset}
use Rattle.looks.specs.declared.refusal.Refusal.TheVariants.{BadStamp, RoomFull, OutOfMemory, Behind}
use Rattle.looks.specs.declared.refusal.Refusal.TheVariants.{StampsSpent, FileSpent, OutOfRange, Scattered}
use Rattle.looks.specs.declared.refusal.Refusal.TheVariants.{BadFile, NoRoom, NoViewer, UnknownCommand}
use Rattle.looks.specs.declared.refusal.Refusal.TheVariants.{BadParameter, NoSelection, NoCaret, BadEvent}
use Rattle.looks.specs.declared.refusal.Refusal.TheVariants.{ReadFault, WriteFault, SeqSpent}

-- the number that stands for each refusal
abbrev pub number_of : Refusal → ℕ
number_of Malformed = 1
number_of WrongText = 2
number_of Conflict = 3
number_of BadOffset = 4
number_of BadStamp = 5
number_of RoomFull = 6
number_of OutOfMemory = 7
number_of Behind = 8
number_of StampsSpent = 9
number_of FileSpent = 10
number_of OutOfRange = 11
number_of Scattered = 12
number_of BadFile = 13
number_of NoRoom = 14
number_of NoViewer = 15
number_of UnknownCommand = 16
number_of BadParameter = 17
number_of NoSelection = 18
number_of NoCaret = 19
number_of BadEvent = 20
number_of ReadFault = 21
number_of WriteFault = 22
number_of SeqSpent = 23

-- the call ended well, or memory was refused
abbrev pub RefusedForMemoryAlone : {X : Type 0} → Result X Refusal → Type 0
RefusedForMemoryAlone result = IfErr result (λ e. e ≡ OutOfMemory)
