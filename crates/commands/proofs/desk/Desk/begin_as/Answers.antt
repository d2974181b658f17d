use Rattle.std.proofs.Common.{◌≡◌, false, Ok, subst, sym}
use Rattle.texts.specs.TextState.{TextState, all_told}
use Rattle.machine.specs.SiteTexts.{IsTextOf, with_text}
use Rattle.machine.specs.Tasks.{text_has_begun}
use Rattle.desk_windows.specs.Windows.{screened}
use Rattle.commands.proofs.Reopening.{begins_apart, begins_its_own, replaced_grows, replaced_now}
use Rattle.commands.specs.Filing.{BeginsSo}
use Rattle.commands.specs.declared.answer.Answer.TheVariants.{Done}
use Rattle.commands.specs.Steps.{DeskSeen}
use Rattle.commands.proofs.desk.Desk.begin_as.Goals as goal

pub returns-then-not-is_same_copy : goal.returns-then-not-is_same_copy
returns-then-not-is_same_copy c =
    begins_apart c.args.self.now c.args.text c.replica.result.now c.args.kept c.is_same_copy.result
    (subst (λ (x : DeskSeen). IsTextOf x.texts c.args.text c.replica.result.now) c.self.view_is c.replica.ensures)
    c.is_same_copy.ensures c.if-not-is_same_copy.true

pub invariant_of-self : goal.invariant_of-self
invariant_of-self c =
    let d = c.self.inside.texts in
    let fresh : (t : TextState) → IsTextOf d c.args.text t → text_has_begun t ≡ false =
    subst (λ (x : DeskSeen). (t : TextState) → IsTextOf x.texts c.args.text t → text_has_begun t ≡ false) (sym c.self.view_is)
    c.requires.fresh in
    c.tell.ensures.shown d c.self.invariant.0 c.self.invariant.1
    (replaced_grows d c.replace.new.self c.args.text c.args.kept c.lemma_has_text.ensures c.self.invariant.1 fresh c.requires.kept
    c.replace.ensures)

pub returns : goal.returns
returns c =
    let d = c.self.inside.texts in let kept = c.args.kept in
    let fresh : (t : TextState) → IsTextOf d c.args.text t → text_has_begun t ≡ false =
    subst (λ (x : DeskSeen). (t : TextState) → IsTextOf x.texts c.args.text t → text_has_begun t ≡ false) (sym c.self.view_is)
    c.requires.fresh in
    let now : c.tell.new.texts ≡ with_text d c.args.text (all_told kept) =
    replaced_now d c.replace.new.self c.tell.new.texts c.args.text kept c.lemma_has_text.ensures c.self.invariant.1 fresh
    c.requires.kept c.replace.ensures c.tell.ensures.told in
    subst (λ (x : DeskSeen). BeginsSo x c.args.text kept (Ok Done)
    (record { texts = c.tell.new.texts; screen = screened c.tell.new.windows })) c.self.view_is
    (begins_its_own d c.tell.new.texts (screened c.self.inside.windows) (screened c.tell.new.windows) c.args.text
    c.replica.result.now kept c.is_same_copy.result c.replica.ensures c.is_same_copy.ensures c.if-not-is_same_copy.false now
    c.tell.ensures.screen)
