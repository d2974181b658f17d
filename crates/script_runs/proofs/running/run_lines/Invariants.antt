use Rattle.std.proofs.Common.{◌≤◌}
use Rattle.std.specs.Prelude.{IfSome, is_some, vec_capacity}
use Rattle.shelved_texts.specs.Filing.{shelf_seen}
use Rattle.script_io.specs.declared.lines.TheConstants.{MAX_LINE}
use Rattle.script_sites.specs.Seen.{OverFiles, run_seen}
use Rattle.script_runs.proofs.Traces.{IsSoFar}
use Rattle.script_runs.proofs.running.run_lines.Given as goal

abbrev pub invariant-loop : goal.invariant-loop
invariant-loop g l = record {
  so_far : OverFiles (shelf_seen (g.S.Shelf.files l.fn.shelf) (g.S.Shelf.faults l.fn.shelf)) (shelf_seen (g.S.Shelf.files l.shelf) (g.S.Shelf.faults l.shelf)) (λ was now. IfSome l.fn.input.left (λ script.
      IsSoFar (is_some (g.S.Shelf.files l.fn.shelf)) (run_seen l.fn.sites was) script l.input.left l.fn.output.contents l.output.contents l.counter (run_seen l.sites now)));
  room : MAX_LINE ≤ vec_capacity l.line;
}
