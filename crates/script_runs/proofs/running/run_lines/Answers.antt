use Rattle.std.proofs.Common.{◌≢◌, ◌+◌, Ok, arith, rules}
use Rattle.std.specs.Prelude.{is_some}
use Rattle.shelved_texts.specs.Filing.{shelf_seen}
use Rattle.script_runs.specs.Ends.{Ends}
use Rattle.script_sites.specs.Seen.{run_seen}
use Rattle.script_sites.proofs.Filing.{over_same, over_then, over_weaker}
use Rattle.script_sites.proofs.WriteLemmas.{failed_at_err}
use Rattle.script_runs.proofs.Traces.{AnsweredOver, EndsOver, IsSoFar, SoFarOver, IfSome-weaker, begins_known, so_far_out, goes_on_by, ends_by_last, ends_by_end, ends_by_fault, ends_by_limit, ends_by_line, ends_by_put_out}
use Rattle.script_io.specs.declared.lines.NextLine.TheVariants.{End}
use Rattle.script_runs.proofs.running.run_lines.Goals as goal
use Rattle.script_runs.proofs.running.run_lines.Goals.{in_default-via-in-Ok+in_default, in_default-via-in_default}

pub loop-init : goal.loop-init
loop-init g c = record {
  so_far = over_same (shelf_seen (g.S.Shelf.files c.args.shelf.now) (g.S.Shelf.faults c.args.shelf.now))
      (SoFarOver (is_some (g.S.Shelf.files c.args.shelf.now)) c.args.sites.now c.args.input.now.left c.args.input.now.left c.args.output.now.contents c.args.output.now.contents 0 c.args.sites.now)
      (λ files. begins_known (is_some (g.S.Shelf.files c.args.shelf.now)) (run_seen c.args.sites.now files) c.args.input.now.left c.args.output.now.contents);
  room = c.requires;
}

pub returns-in-Ok-Last-clause-answers : goal.returns-in-Ok-Last-clause-answers
returns-in-Ok-Last-clause-answers g c =
    let written = rw c.deref-in-Ok-Last.ensures.value at c.answer_last.ensures.answers in
    over_then (shelf_seen (g.S.Shelf.files c.args.shelf.now) (g.S.Shelf.faults c.args.shelf.now)) (shelf_seen (g.S.Shelf.files c.loop.shelf) (g.S.Shelf.faults c.loop.shelf)) (shelf_seen (g.S.Shelf.files c.answer_last.new.shelf) (g.S.Shelf.faults c.answer_last.new.shelf))
    (SoFarOver (is_some (g.S.Shelf.files c.args.shelf.now)) c.args.sites.now c.args.input.now.left c.loop.input.left c.args.output.now.contents c.loop.output.contents c.loop.counter c.loop.sites)
    (AnsweredOver c.loop.sites c.next_line.new.line.items written.0 c.answer_last.new.sites)
    (EndsOver (is_some (g.S.Shelf.files c.args.shelf.now)) c.args.sites.now c.args.input.now.left c.answer_last.result c.next_line.new.input.failed c.next_line.new.input.left c.args.output.now.contents c.answer_last.new.output.contents)
    (λ was mid_files then now meanwhile so_far step.
    let start = run_seen c.args.sites.now was in
    let failed = c.next_line.new.input.failed in
    let cut = c.answer_last.new.output.failed in
    let left = c.loop.input.left in
    let left' = c.next_line.new.input.left in
    let old = c.args.output.now.contents in
    let mid = c.put_out.new.output.contents in
    let new = c.answer_last.new.output.contents in
    let s = run_seen c.loop.sites mid_files in
    let s' = run_seen c.answer_last.new.sites now in
    let r = c.answer_last.result in
    let taken = rw c.in-Ok-Last.field-0-is at c.in-Ok-Last.ensures.taken in
    IfSome-weaker c.args.input.now.left (λ script. IsSoFar (is_some (g.S.Shelf.files c.args.shelf.now)) start script left old mid c.loop.counter s) (λ script. Ends (is_some (g.S.Shelf.files c.args.shelf.now)) start script r failed left' old new now)
    (λ script f. ends_by_last (is_some (g.S.Shelf.files c.args.shelf.now)) start script failed cut left left' old mid new c.loop.counter s s' f r c.next_line.new.line.items (omega arith) taken (written.0, written.1, (then, meanwhile, step))) (so_far_out (is_some (g.S.Shelf.files c.args.shelf.now)) start c.args.input.now.left left old c.loop.output.contents mid c.loop.counter s so_far c.put_out.ensures.kept)) c.loop.invariant.so_far written.2

pub returns-in-Ok-End-clause-answers : goal.returns-in-Ok-End-clause-answers
returns-in-Ok-End-clause-answers g c =
    over_weaker (shelf_seen (g.S.Shelf.files c.args.shelf.now) (g.S.Shelf.faults c.args.shelf.now)) (shelf_seen (g.S.Shelf.files c.loop.shelf) (g.S.Shelf.faults c.loop.shelf))
    (SoFarOver (is_some (g.S.Shelf.files c.args.shelf.now)) c.args.sites.now c.args.input.now.left c.loop.input.left c.args.output.now.contents c.loop.output.contents c.loop.counter c.loop.sites)
    (EndsOver (is_some (g.S.Shelf.files c.args.shelf.now)) c.args.sites.now c.args.input.now.left c.flush.result c.next_line.new.input.failed c.next_line.new.input.left c.args.output.now.contents c.flush.new.self.contents)
    (λ was now so_far.
    let start = run_seen c.args.sites.now was in
    let failed = c.next_line.new.input.failed in
    let cut = c.flush.new.self.failed in
    let left = c.loop.input.left in
    let left' = c.next_line.new.input.left in
    let old = c.args.output.now.contents in
    let mid = c.put_out.new.output.contents in
    let new = c.flush.new.self.contents in
    let s = run_seen c.loop.sites now in
    let r = c.flush.result in
    let taken = rw c.in-Ok-End.field-0-is at c.in-Ok-End.ensures.taken in
    IfSome-weaker c.args.input.now.left (λ script. IsSoFar (is_some (g.S.Shelf.files c.args.shelf.now)) start script left old mid c.loop.counter s) (λ script. Ends (is_some (g.S.Shelf.files c.args.shelf.now)) start script r failed left' old new now)
    (λ script f. ends_by_end (is_some (g.S.Shelf.files c.args.shelf.now)) start script failed cut left left' old mid new c.loop.counter s s f r c.next_line.new.line.items (omega arith) taken c.flush.ensures.kept c.flush.ensures.errors (failed_at_err r c.put_out.new.output.failed cut c.flush.ensures.failed)) (so_far_out (is_some (g.S.Shelf.files c.args.shelf.now)) start c.args.input.now.left left old c.loop.output.contents mid c.loop.counter s so_far c.put_out.ensures.kept)) c.loop.invariant.so_far

pub returns-in-Err-clause-answers : goal.returns-in-Err-clause-answers
returns-in-Err-clause-answers g c =
    over_weaker (shelf_seen (g.S.Shelf.files c.args.shelf.now) (g.S.Shelf.faults c.args.shelf.now)) (shelf_seen (g.S.Shelf.files c.loop.shelf) (g.S.Shelf.faults c.loop.shelf))
    (SoFarOver (is_some (g.S.Shelf.files c.args.shelf.now)) c.args.sites.now c.args.input.now.left c.loop.input.left c.args.output.now.contents c.loop.output.contents c.loop.counter c.loop.sites)
    (EndsOver (is_some (g.S.Shelf.files c.args.shelf.now)) c.args.sites.now c.args.input.now.left c.break_off.result c.next_line.new.input.failed c.next_line.new.input.left c.args.output.now.contents c.break_off.new.output.contents)
    (λ was now so_far.
    let start = run_seen c.args.sites.now was in
    let failed = c.next_line.new.input.failed in
    let cut = c.break_off.new.output.failed in
    let left = c.loop.input.left in
    let left' = c.next_line.new.input.left in
    let old = c.args.output.now.contents in
    let mid = c.put_out.new.output.contents in
    let new = c.break_off.new.output.contents in
    let s = run_seen c.loop.sites now in
    let r = c.break_off.result in
    IfSome-weaker c.args.input.now.left (λ script. IsSoFar (is_some (g.S.Shelf.files c.args.shelf.now)) start script left old mid c.loop.counter s) (λ script. Ends (is_some (g.S.Shelf.files c.args.shelf.now)) start script r failed left' old new now)
    (λ script f. ends_by_fault (is_some (g.S.Shelf.files c.args.shelf.now)) start script failed cut left left' old mid new c.loop.counter s s f r c.next_line.new.line.items c.in-Err.field-0 (omega arith) c.in-Err.ensures.taken c.break_off.ensures.ends) (so_far_out (is_some (g.S.Shelf.files c.args.shelf.now)) start c.args.input.now.left left old c.loop.output.contents mid c.loop.counter s so_far c.put_out.ensures.kept)) c.loop.invariant.so_far

pub returns-in_err-put_out-clause-answers : goal.returns-in_err-put_out-clause-answers
returns-in_err-put_out-clause-answers g c =
    over_weaker (shelf_seen (g.S.Shelf.files c.args.shelf.now) (g.S.Shelf.faults c.args.shelf.now)) (shelf_seen (g.S.Shelf.files c.loop.shelf) (g.S.Shelf.faults c.loop.shelf))
    (SoFarOver (is_some (g.S.Shelf.files c.args.shelf.now)) c.args.sites.now c.args.input.now.left c.loop.input.left c.args.output.now.contents c.loop.output.contents c.loop.counter c.loop.sites)
    (EndsOver (is_some (g.S.Shelf.files c.args.shelf.now)) c.args.sites.now c.args.input.now.left c.from_residual.result c.loop.input.failed c.loop.input.left c.args.output.now.contents c.put_out.new.output.contents)
    (λ was now so_far.
    let start = run_seen c.args.sites.now was in
    let left = c.loop.input.left in
    let old = c.args.output.now.contents in
    let mid = c.loop.output.contents in
    let new = c.put_out.new.output.contents in
    let s = run_seen c.loop.sites now in
    let r = c.from_residual.result in
    IfSome-weaker c.args.input.now.left (λ script. IsSoFar (is_some (g.S.Shelf.files c.args.shelf.now)) start script left old mid c.loop.counter s) (λ script. Ends (is_some (g.S.Shelf.files c.args.shelf.now)) start script r c.loop.input.failed left old new now)
    (λ script f. ends_by_put_out (is_some (g.S.Shelf.files c.args.shelf.now)) start script c.loop.input.failed left old mid new c.loop.counter s r c.in_err-put_out.field-0.0 f (omega arith) c.from_residual.ensures.1 c.in_err-put_out.ensures.errors c.put_out.ensures.kept) so_far) c.loop.invariant.so_far

pub returns-in_err-answer-in-Ok-Line-clause-answers : goal.returns-in_err-answer-in-Ok-Line-clause-answers
returns-in_err-answer-in-Ok-Line-clause-answers g c =
    let written = rw c.deref.ensures.value at c.in_err-answer-in-Ok-Line.ensures in
    over_then (shelf_seen (g.S.Shelf.files c.args.shelf.now) (g.S.Shelf.faults c.args.shelf.now)) (shelf_seen (g.S.Shelf.files c.loop.shelf) (g.S.Shelf.faults c.loop.shelf)) (shelf_seen (g.S.Shelf.files c.answer.new.shelf) (g.S.Shelf.faults c.answer.new.shelf))
    (SoFarOver (is_some (g.S.Shelf.files c.args.shelf.now)) c.args.sites.now c.args.input.now.left c.loop.input.left c.args.output.now.contents c.loop.output.contents c.loop.counter c.loop.sites)
    (AnsweredOver c.loop.sites c.next_line.new.line.items written.0 c.answer.new.self)
    (EndsOver (is_some (g.S.Shelf.files c.args.shelf.now)) c.args.sites.now c.args.input.now.left c.from_residual-in_err-answer-in-Ok-Line.result c.next_line.new.input.failed c.next_line.new.input.left c.args.output.now.contents c.answer.new.output.contents)
    (λ was mid_files then now meanwhile so_far step.
    let start = run_seen c.args.sites.now was in
    let failed = c.next_line.new.input.failed in
    let cut = c.answer.new.output.failed in
    let left = c.loop.input.left in
    let left' = c.next_line.new.input.left in
    let old = c.args.output.now.contents in
    let mid = c.put_out.new.output.contents in
    let new = c.answer.new.output.contents in
    let s = run_seen c.loop.sites mid_files in
    let s' = run_seen c.answer.new.self now in
    let r = c.from_residual-in_err-answer-in-Ok-Line.result in
    let taken = rw c.in-Ok-Line.field-0-is at c.in-Ok-Line.ensures.taken in
    IfSome-weaker c.args.input.now.left (λ script. IsSoFar (is_some (g.S.Shelf.files c.args.shelf.now)) start script left old mid c.loop.counter s) (λ script. Ends (is_some (g.S.Shelf.files c.args.shelf.now)) start script r failed left' old new now)
    (λ script f. ends_by_line (is_some (g.S.Shelf.files c.args.shelf.now)) start script failed cut left left' old mid new c.loop.counter s s' f r c.in_err-answer-in-Ok-Line.field-0.0 c.next_line.new.line.items (omega arith) taken c.from_residual-in_err-answer-in-Ok-Line.ensures.1 (written.0, written.1, (then, meanwhile, step))) (so_far_out (is_some (g.S.Shelf.files c.args.shelf.now)) start c.args.input.now.left left old c.loop.output.contents mid c.loop.counter s so_far c.put_out.ensures.kept)) c.loop.invariant.so_far written.2

pub loop-preserved : goal.loop-preserved
loop-preserved g c =
    let failed = c.next_line.new.input.failed in
    let cut = c.answer.new.output.failed in
    let left = c.loop.input.left in
    let left' = c.next_line.new.input.left in
    let old = c.args.output.now.contents in
    let mid = c.put_out.new.output.contents in
    let new = c.answer.new.output.contents in
    let n = c.loop.counter in
    let taken = rw c.in-Ok-Line.field-0-is at c.in-Ok-Line.ensures.taken in
    let written = rw c.deref.ensures.value at c.in_ok-answer-in-Ok-Line.ensures in
    record {
      so_far = over_then (shelf_seen (g.S.Shelf.files c.args.shelf.now) (g.S.Shelf.faults c.args.shelf.now)) (shelf_seen (g.S.Shelf.files c.loop.shelf) (g.S.Shelf.faults c.loop.shelf)) (shelf_seen (g.S.Shelf.files c.answer.new.shelf) (g.S.Shelf.faults c.answer.new.shelf))
          (SoFarOver (is_some (g.S.Shelf.files c.args.shelf.now)) c.args.sites.now c.args.input.now.left c.loop.input.left c.args.output.now.contents c.loop.output.contents c.loop.counter c.loop.sites)
          (AnsweredOver c.loop.sites c.next_line.new.line.items written.0 c.answer.new.self)
          (SoFarOver (is_some (g.S.Shelf.files c.args.shelf.now)) c.args.sites.now c.args.input.now.left c.next_line.new.input.left c.args.output.now.contents c.answer.new.output.contents (c.loop.counter + 1) c.answer.new.self)
          (λ was mid_files then now meanwhile so_far step.
          let start = run_seen c.args.sites.now was in
          let s = run_seen c.loop.sites mid_files in
          let s' = run_seen c.answer.new.self now in
          IfSome-weaker c.args.input.now.left (λ script. IsSoFar (is_some (g.S.Shelf.files c.args.shelf.now)) start script left old mid n s) (λ script. IsSoFar (is_some (g.S.Shelf.files c.args.shelf.now)) start script left' old new (n + 1) s')
          (λ script f. goes_on_by (is_some (g.S.Shelf.files c.args.shelf.now)) start script failed cut left left' old mid new n s s' f c.next_line.new.line.items taken (written.0, written.1, (then, meanwhile, step))) (so_far_out (is_some (g.S.Shelf.files c.args.shelf.now)) start c.args.input.now.left left old c.loop.output.contents mid n s so_far c.put_out.ensures.kept)) c.loop.invariant.so_far written.2;
      room = c.next_line.ensures.room;
    }

pub returns-in_err-put_out-2-clause-answers : goal.returns-in_err-put_out-2-clause-answers
returns-in_err-put_out-2-clause-answers g c =
    over_weaker (shelf_seen (g.S.Shelf.files c.args.shelf.now) (g.S.Shelf.faults c.args.shelf.now)) (shelf_seen (g.S.Shelf.files c.loop.shelf) (g.S.Shelf.faults c.loop.shelf))
    (SoFarOver (is_some (g.S.Shelf.files c.args.shelf.now)) c.args.sites.now c.args.input.now.left c.loop.input.left c.args.output.now.contents c.loop.output.contents c.loop.counter c.loop.sites)
    (EndsOver (is_some (g.S.Shelf.files c.args.shelf.now)) c.args.sites.now c.args.input.now.left c.from_residual-in_err-put_out-2.result c.loop.input.failed c.loop.input.left c.args.output.now.contents c.put_out-2.new.output.contents)
    (λ was now so_far.
    let start = run_seen c.args.sites.now was in
    let left = c.loop.input.left in
    let old = c.args.output.now.contents in
    let mid = c.loop.output.contents in
    let new = c.put_out-2.new.output.contents in
    let s = run_seen c.loop.sites now in
    let r = c.from_residual-in_err-put_out-2.result in
    IfSome-weaker c.args.input.now.left (λ script. IsSoFar (is_some (g.S.Shelf.files c.args.shelf.now)) start script left old mid c.loop.counter s) (λ script. Ends (is_some (g.S.Shelf.files c.args.shelf.now)) start script r c.loop.input.failed left old new now)
    (λ script f. ends_by_put_out (is_some (g.S.Shelf.files c.args.shelf.now)) start script c.loop.input.failed left old mid new c.loop.counter s r c.in_err-put_out-2.field-0.0 f (omega arith) c.from_residual-in_err-put_out-2.ensures.1 c.in_err-put_out-2.ensures.errors c.put_out-2.ensures.kept) so_far) c.loop.invariant.so_far

pub returns-in-Ok-End-next_line-clause-answers : goal.returns-in-Ok-End-next_line-clause-answers
returns-in-Ok-End-next_line-clause-answers g c =
    over_weaker (shelf_seen (g.S.Shelf.files c.args.shelf.now) (g.S.Shelf.faults c.args.shelf.now)) (shelf_seen (g.S.Shelf.files c.loop.shelf) (g.S.Shelf.faults c.loop.shelf))
    (SoFarOver (is_some (g.S.Shelf.files c.args.shelf.now)) c.args.sites.now c.args.input.now.left c.loop.input.left c.args.output.now.contents c.loop.output.contents c.loop.counter c.loop.sites)
    (EndsOver (is_some (g.S.Shelf.files c.args.shelf.now)) c.args.sites.now c.args.input.now.left c.flush-in-Ok-End-next_line.result c.next_line-2.new.input.failed c.next_line-2.new.input.left c.args.output.now.contents c.flush-in-Ok-End-next_line.new.self.contents)
    (λ was now so_far.
    let start = run_seen c.args.sites.now was in
    let failed = c.next_line-2.new.input.failed in
    let cut = c.flush-in-Ok-End-next_line.new.self.failed in
    let left = c.loop.input.left in
    let left' = c.next_line-2.new.input.left in
    let old = c.args.output.now.contents in
    let mid = c.put_out-2.new.output.contents in
    let new = c.flush-in-Ok-End-next_line.new.self.contents in
    let s = run_seen c.loop.sites now in
    let r = c.flush-in-Ok-End-next_line.result in
    let taken = rw c.in-Ok-End-next_line.field-0-is at c.in-Ok-End-next_line.ensures.taken in
    IfSome-weaker c.args.input.now.left (λ script. IsSoFar (is_some (g.S.Shelf.files c.args.shelf.now)) start script left old mid c.loop.counter s) (λ script. Ends (is_some (g.S.Shelf.files c.args.shelf.now)) start script r failed left' old new now)
    (λ script f. ends_by_end (is_some (g.S.Shelf.files c.args.shelf.now)) start script failed cut left left' old mid new c.loop.counter s s f r c.next_line-2.new.line.items (omega arith) taken c.flush-in-Ok-End-next_line.ensures.kept c.flush-in-Ok-End-next_line.ensures.errors (failed_at_err r c.put_out-2.new.output.failed cut c.flush-in-Ok-End-next_line.ensures.failed)) (so_far_out (is_some (g.S.Shelf.files c.args.shelf.now)) start c.args.input.now.left left old c.loop.output.contents mid c.loop.counter s so_far c.put_out-2.ensures.kept)) c.loop.invariant.so_far

pub returns-in_default-clause-answers : goal.returns-in_default-clause-answers
returns-in_default-clause-answers g c =
    over_weaker (shelf_seen (g.S.Shelf.files c.args.shelf.now) (g.S.Shelf.faults c.args.shelf.now)) (shelf_seen (g.S.Shelf.files c.loop.shelf) (g.S.Shelf.faults c.loop.shelf))
    (SoFarOver (is_some (g.S.Shelf.files c.args.shelf.now)) c.args.sites.now c.args.input.now.left c.loop.input.left c.args.output.now.contents c.loop.output.contents c.loop.counter c.loop.sites)
    (EndsOver (is_some (g.S.Shelf.files c.args.shelf.now)) c.args.sites.now c.args.input.now.left c.break_off-in_default.result c.next_line-2.new.input.failed c.next_line-2.new.input.left c.args.output.now.contents c.break_off-in_default.new.output.contents)
    (λ was now so_far.
    let start = run_seen c.args.sites.now was in
    let failed = c.next_line-2.new.input.failed in
    let cut = c.break_off-in_default.new.output.failed in
    let left = c.loop.input.left in
    let left' = c.next_line-2.new.input.left in
    let old = c.args.output.now.contents in
    let mid = c.put_out-2.new.output.contents in
    let new = c.break_off-in_default.new.output.contents in
    let s = run_seen c.loop.sites now in
    let r = c.break_off-in_default.result in
    let some : c.next_line-2.result ≢ Ok End = elim c.in_default.branch [ in_default-via-in-Ok+in_default w ↦ (search rules) | in_default-via-in_default w ↦ (search rules) ] in
    IfSome-weaker c.args.input.now.left (λ script. IsSoFar (is_some (g.S.Shelf.files c.args.shelf.now)) start script left old mid c.loop.counter s) (λ script. Ends (is_some (g.S.Shelf.files c.args.shelf.now)) start script r failed left' old new now)
    (λ script f. ends_by_limit (is_some (g.S.Shelf.files c.args.shelf.now)) start script failed cut left left' old mid new c.loop.counter s s f r c.next_line-2.result c.next_line-2.new.line.items (omega arith) some c.next_line-2.ensures.taken c.break_off-in_default.ensures.ends) (so_far_out (is_some (g.S.Shelf.files c.args.shelf.now)) start c.args.input.now.left left old c.loop.output.contents mid c.loop.counter s so_far c.put_out-2.ensures.kept)) c.loop.invariant.so_far
