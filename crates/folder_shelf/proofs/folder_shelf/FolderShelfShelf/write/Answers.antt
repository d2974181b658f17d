use Rattle.std.proofs.Common.{inl, inr, arith}
use Rattle.folder_shelf.specs.Moments.{Anything}
use Rattle.folder_shelf.proofs.Replaced.{hindered_or_short}
use Rattle.folder_shelf.proofs.folder_shelf.FolderShelfShelf.write.Goals as goal
use Rattle.folder_shelf.proofs.folder_shelf.FolderShelfShelf.write.Goals.{else-is_file_name, then-is_file_name+then-bytes-le-MAX_FILE_LEN+in-Err}

pub returns-clause-cause : goal.returns-clause-cause
returns-clause-cause g c = λ failed named short. elim c.if-is_file_name.branch [
  | then-is_file_name+then-bytes-le-MAX_FILE_LEN+in-Err w ↦
      rw (c.count.ensures.refused, c.count.ensures.folder, w.self-is)
      (hindered_or_short Anything w.of_error.result w.in-Err.why (g.F.Folder.history c.args.self.now.folder) (g.F.Folder.history w.replace.new.folder) w.of_error.ensures.memory w.in-Err.ensures.cause)
  | else-is_file_name w ↦ elim w.else-is_file_name.either [
    | inl long ↦ absurd (omega (arith, short, long.1))
    | inr unnamed ↦ absurd (cc (named, unnamed, c.is_file_name.ensures, c.as_bytes.ensures.value))
  ]
]
