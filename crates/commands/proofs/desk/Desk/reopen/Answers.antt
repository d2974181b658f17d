use Rattle.std.proofs.Common.{◌≡◌, ◌-◌, false, sym, subst, ◌∙◌}
use Rattle.std.specs.Prelude.{slice_get}
use Rattle.texts.specs.TextState.{TextState}
use Rattle.machine.specs.SiteTexts.{IsTextOf}
use Rattle.machine.specs.Tasks.{text_has_begun}
use Rattle.machine_laws.proofs.OneOfTexts.{one_element}
use Rattle.commands.proofs.Faultless.{begins_unfailed}
use Rattle.commands.proofs.Reopening.{begun_as, begun_step, unread_step}
use Rattle.shelved_texts.specs.Filing.{shelf_seen}
use Rattle.commands.specs.Steps.{DeskSeen}
use Rattle.commands.proofs.desk.Desk.reopen.Goals as goal

pub returns-then-has_begun-clause-step : goal.returns-then-has_begun-clause-step
returns-then-has_begun-clause-step g c = λ sent.
    let seen : DeskSeen = c.args.self.now in let t : TextState = c.replica.result.now in
    begun_step seen.texts seen.screen c.args.text t
    (subst (λ (x : DeskSeen). IsTextOf x.texts c.args.text t) c.self.view_is c.replica.ensures) c.args.name.now
    (shelf_seen (g.S.Shelf.files c.args.shelf.now) (g.S.Shelf.faults c.args.shelf.now)) sent (sym c.has_begun.ensures ∙ c.if-has_begun.true)

pub returns-in-Ok-clause-step : goal.returns-in-Ok-clause-step
returns-in-Ok-clause-step g c = λ sent.
    let seen : DeskSeen = c.args.self.now in let t : TextState = c.replica.result.now in
    let (file, has, of, taken, unfailed) = c.in-Ok.ensures.reads in
    let (u, at, begins) = c.begin_as.ensures in
    let there : IsTextOf seen.texts c.args.text t =
    subst (λ (x : DeskSeen). IsTextOf x.texts c.args.text t) c.self.view_is c.replica.ensures in
    let same : t ≡ u = one_element (slice_get seen.texts.texts (c.args.text - 1)) t u there at in
    let fresh : text_has_begun u ≡ false =
    subst (λ (x : TextState). text_has_begun x ≡ false) same (sym c.has_begun.ensures ∙ c.if-has_begun.false) in
    begun_as seen.texts seen.screen c.args.text u at c.args.name.now fresh (shelf_seen (g.S.Shelf.files c.args.shelf.now) (g.S.Shelf.faults c.args.shelf.now))
    (shelf_seen (g.S.Shelf.files c.read_site.new.shelf) (g.S.Shelf.faults c.read_site.new.shelf)) c.in-Ok.ensures.files sent c.in-Ok.kept file has of taken unfailed c.begin_as.result
    c.begin_as.new.self begins

pub returns-in-Err-clause-step : goal.returns-in-Err-clause-step
returns-in-Err-clause-step g c = λ sent.
    let seen : DeskSeen = c.args.self.now in let t : TextState = c.replica.result.now in
    unread_step seen.texts seen.screen c.args.text t
    (subst (λ (x : DeskSeen). IsTextOf x.texts c.args.text t) c.self.view_is c.replica.ensures) c.args.name.now
    (sym c.has_begun.ensures ∙ c.if-has_begun.false) (shelf_seen (g.S.Shelf.files c.args.shelf.now) (g.S.Shelf.faults c.args.shelf.now)) (shelf_seen (g.S.Shelf.files c.read_site.new.shelf) (g.S.Shelf.faults c.read_site.new.shelf))
    c.in-Err.ensures.files sent c.in-Err.why c.in-Err.ensures.reads

pub returns-in-Ok-clause-fault : goal.returns-in-Ok-clause-fault
returns-in-Ok-clause-fault g c = λ failed.
    absurd (begins_unfailed c.args.self.now c.args.text c.in-Ok.kept c.begin_as.result c.begin_as.new.self c.begin_as.ensures failed)
