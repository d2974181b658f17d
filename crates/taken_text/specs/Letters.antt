-- Letters that a site types one after the other, as a run of pieces.
use Rattle.std.specs.Prelude.{ℕ, true}
use Rattle.operations.specs.declared.typing.Typing.{Typing}
use Rattle.piece_list.specs.declared.run.Run.{Run}

-- so many letters
abbrev pub typed_run : Typing → ℕ → Run
typed_run t n = record {
  site = t.site;
  off = t.at;
  len = n;
  key = record { stamp = t.stamp; site = t.site };
  rising = true;
  looks = t.looks;
}
