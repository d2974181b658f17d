use Rattle.std.proofs.Common.{◌≡◌, ◌≢◌, [], true, false, sym, ◌∙◌, arith, rules}
use Rattle.char_files.specs.Stretch.{EndsIn}
use Rattle.char_files.proofs.Runs.{AreRuns-push, AreRuns-push_to_last, items_of-push_to_last}
use Rattle.char_files.proofs.buffer.push_bytes.Goals as goal

pub returns-then-ends_in-clause-ok : goal.returns-then-ends_in-clause-ok
returns-then-ends_in-clause-ok c =
    let runs = c.args.runs.now in
    let ends : EndsIn runs.items c.args.looks.now =
    rw c.deref.ensures.value at (c.ends_in.ensures.0 c.if-ends_in.true) in
    items_of-push_to_last runs.items c.len-last.result c.args.looks.now ends (omega (arith, runs.ok.0))
    c.index_mut.result.now c.push_all.new.self c.args.bytes.now c.index_mut.ensures.value c.push_all.result
    c.push_all.ensures

pub returns-then-ends_in-clause-maximal : goal.returns-then-ends_in-clause-maximal
returns-then-ends_in-clause-maximal c =
    let runs = c.args.runs.now in
    let ends : EndsIn runs.items c.args.looks.now =
    rw c.deref.ensures.value at (c.ends_in.ensures.0 c.if-ends_in.true) in
    AreRuns-push_to_last runs.items c.len-last.result c.args.looks.now ends (omega (arith, runs.ok.0))
    c.index_mut.result.now c.push_all.new.self c.args.bytes.now c.index_mut.ensures.value c.push_all.result
    c.push_all.ensures

pub returns-clause-maximal : goal.returns-clause-maximal
returns-clause-maximal c =
    let apart : ¬ EndsIn c.args.runs.now.items c.args.looks.now =
    λ e. absurd (search (rules, c.ends_in.ensures.1 (rw c.deref.ensures.value e), c.if-ends_in.false)) in
    let some : c.args.bytes.now ≢ [] =
    λ e. let empty : c.is_empty.result ≡ true = rw e at c.is_empty.ensures in
    let clash : true ≡ false = sym empty ∙ c.if-is_empty.false in
    cc in
    λ h. rw (c.in_ok-push.ensures.items, c.in_ok-run.ensures, c.copy.ensures) (AreRuns-push
    c.args.runs.now.items c.args.looks.now c.args.bytes.now h apart some)
