use Rattle.std.proofs.Common.{◌≡◌, ◌+◌, ◌-◌, length}
use Rattle.folder_shelf.specs.Calls.{Same}
use Rattle.folder_shelf.specs.Moments.{Since}
use Rattle.folder_shelf.specs.declared.whole_files.TheConstants.{MAX_FILE_LEN}
use Rattle.folder_shelf.proofs.Reading.{ReadSoFar}
use Rattle.folder_shelf.proofs.whole_files.read_pieces.Given as goal

abbrev pub invariant-loop-folder : goal.invariant-loop-folder
invariant-loop-folder g l = record {
  read : Since Same (ReadSoFar (g.F.Folder.number l.fn.file) (g.F.Folder.place l.fn.file) (g.F.Folder.place l.file) l.bytes.items) (g.F.Folder.history l.fn.folder) (g.F.Folder.history l.folder);
  number : g.F.Folder.number l.file ≡ g.F.Folder.number l.fn.file;
}

abbrev pub decreases-loop-folder : goal.decreases-loop-folder
decreases-loop-folder g l = MAX_FILE_LEN + 1 - length l.bytes.items
