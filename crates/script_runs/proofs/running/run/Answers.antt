use Rattle.std.specs.Prelude.{IfSome, is_some}
use Rattle.shelved_texts.specs.Filing.{shelf_seen}
use Rattle.script_runs.specs.Ends.{Ends}
use Rattle.script_sites.specs.Trace.{begun_run}
use Rattle.script_sites.proofs.Filing.{over_same, over_weaker}
use Rattle.script_runs.proofs.Traces.{EndsOver, ends_unbegun}
use Rattle.script_runs.proofs.running.run.Goals as goal

pub returns-clause-answers : goal.returns-clause-answers
returns-clause-answers g c =
    let told = is_some (g.S.Shelf.files c.args.shelf.now) in
    let settings = c.args.settings in
    let known = c.args.input.now.left in
    let r = c.run_lines.result in
    let failed = c.run_lines.new.input.failed in
    let left = c.run_lines.new.input.left in
    let old = c.args.output.now.contents in
    let new = c.run_lines.new.output.contents in
    over_weaker (shelf_seen (g.S.Shelf.files c.args.shelf.now) (g.S.Shelf.faults c.args.shelf.now)) (shelf_seen (g.S.Shelf.files c.run_lines.new.shelf) (g.S.Shelf.faults c.run_lines.new.shelf))
    (EndsOver told c.in_ok-sites.sites known r failed left old new)
    (λ was now. IfSome known (λ script. Ends told (begun_run settings.first settings.count settings.width settings.height was) script r failed left old new now))
    (λ was now ends. rw (← c.in_ok-sites.ensures.ok was.files) ends) c.run_lines.ensures.answers

pub returns-in_err-line-clause-answers : goal.returns-in_err-line-clause-answers
returns-in_err-line-clause-answers g c =
    let settings = c.args.settings in
    let told = shelf_seen (g.S.Shelf.files c.args.shelf.now) (g.S.Shelf.faults c.args.shelf.now) in
    let known = c.args.input.now.left in
    let old = c.args.output.now.contents in
    let start = begun_run settings.first settings.count settings.width settings.height in
    let r = c.from_residual.result in
    over_same told (λ was now. IfSome known (λ script. Ends (is_some told.files) (start was) script r c.args.input.now.failed known old old now))
    (λ files. ends_unbegun (is_some told.files) (start files) r c.args.input.now.failed known old c.from_residual.ensures.1)

pub returns-in_err-sites-clause-answers : goal.returns-in_err-sites-clause-answers
returns-in_err-sites-clause-answers g c =
    let settings = c.args.settings in
    let told = shelf_seen (g.S.Shelf.files c.args.shelf.now) (g.S.Shelf.faults c.args.shelf.now) in
    let known = c.args.input.now.left in
    let old = c.args.output.now.contents in
    let start = begun_run settings.first settings.count settings.width settings.height in
    let r = c.from_residual-in_err-sites.result in
    over_same told (λ was now. IfSome known (λ script. Ends (is_some told.files) (start was) script r c.args.input.now.failed known old old now))
    (λ files. ends_unbegun (is_some told.files) (start files) r c.args.input.now.failed known old (rw c.in_err-sites.ensures.errors at c.from_residual-in_err-sites.ensures.1))
