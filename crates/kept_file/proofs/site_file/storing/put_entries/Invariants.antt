use Rattle.std.proofs.Common.{◌≡◌, ◌++◌, take}
use Rattle.std.specs.Prelude.{All}
use Rattle.std.specs.List.{flat_map}
use Rattle.operations.specs.Spelling.{HasSpelling}
use Rattle.texts.specs.SiteFiles.{entry_spelling}
use Rattle.kept_file.proofs.site_file.storing.put_entries.Given as goal

-- the messages so far
abbrev pub invariant-loop-place : goal.invariant-loop-place
invariant-loop-place l = record {
  so_far : l.out.items ≡ l.fn.out.items ++ flat_map entry_spelling (take l.place l.replica.operations);
  spelled : All HasSpelling (take l.place l.replica.operations);
}
