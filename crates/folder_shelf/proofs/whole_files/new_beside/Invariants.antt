use Rattle.folder_shelf.specs.Calls.{Same}
use Rattle.folder_shelf.specs.Moments.{Since}
use Rattle.folder_shelf.proofs.Beside.{Tried}
use Rattle.folder_shelf.proofs.whole_files.new_beside.Given as goal

-- each name that was tried has a file
abbrev pub invariant-loop-number : goal.invariant-loop-number
invariant-loop-number g l = Since Same (Tried l.number) (g.F.Folder.history l.fn.folder) (g.F.Folder.history l.folder)
