use Rattle.std.proofs.Common.{◌≡◌, ◌-◌, Some, subst}
use Rattle.std.specs.Prelude.{slice_get}
use Rattle.reader_scanner.specs.ReaderState.{ReaderState, item_bytes}
use Rattle.reader_scanner.specs.Tokens.{IsTokenAt}
use Rattle.texts.specs.TextState.{TextState}
use Rattle.machine.specs.SiteTexts.{IsTextOf}
use Rattle.machine.specs.Windows.{marked}
use Rattle.machine_laws.proofs.OneOfTexts.{one_element}
use Rattle.commands.proofs.Clicks.{marked_told}
use Rattle.commands.specs.Steps.{DeskSeen}
use Rattle.commands.proofs.desk.Desk.marked_value.Goals as goal

pub returns-clause-value : goal.returns-clause-value
returns-clause-value c =
    let seen : DeskSeen = c.args.self.now in let t : TextState = c.replica.result.now in
    let (at, is, viewer, text, beg, end, there) = c.in-Some.ensures.stretch in
    let same : t ≡ at.text = one_element (slice_get c.self.inside.texts.texts (at.window.text - 1)) t at.text
    (subst (λ n. IsTextOf c.self.inside.texts n t) text c.replica.ensures) there in
    marked_told seen.texts seen.screen at t c.in-Some.marked.beg c.scan-token.result
    (subst (λ (x : DeskSeen). marked x.texts x.screen ≡ Some at) c.self.view_is is) same beg
    (subst (λ (p : ReaderState). IsTokenAt (item_bytes p.items) p.pos c.scan-token.result) c.open.ensures c.scan-token.ensures.token)
