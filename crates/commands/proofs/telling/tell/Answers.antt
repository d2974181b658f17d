use Rattle.std.proofs.Common.{List, sym, subst}
use Rattle.list_changes.specs.declared.change.Change.{Change}
use Rattle.machine.specs.SiteTexts.{SiteTexts, IsTextOf, InText}
use Rattle.desk_windows.specs.Windows.{AreOf, AreToldOnce, FollowsChanges}
use Rattle.commands.specs.Steps.{AreTold}
use Rattle.commands.proofs.Following.{site_follows, desk_is_told}
use Rattle.commands.proofs.telling.tell.Goals as goal

pub returns-clause-once : goal.returns-clause-once
returns-clause-once c =
    let (t, at, since) = c.changes-changes.ensures.told in
    let (now, here, once) = c.tell.ensures.once in (
      c.changes-changes.result.items,
      t,
      now,
      at,
      since,
      subst (λ (d : SiteTexts). IsTextOf d c.args.text now) (sym c.reuse.ensures) here,
      subst (λ (changes : List Change). AreToldOnce c.args.text changes now c.args.windows.now.viewers c.tell.new.self.viewers)
          c.deref.ensures.value once,
    )

pub returns-clause-shown : goal.returns-clause-shown
returns-clause-shown c = λ d are told grown.
    let asked = c.changes-changes.ensures.asked in
    let new = c.changes-changes.new.self in (
      subst (λ (texts : SiteTexts). AreOf texts c.tell.new.self) (sym c.reuse.ensures) (c.tell.ensures.of d are
          (subst (λ (changes : List Change). InText (FollowsChanges changes) d c.args.text new) (sym c.deref.ensures.value)
          (site_follows d c.args.texts.now new c.args.text told grown asked c.changes-changes.result.items
          c.changes-changes.ensures.told))),
      subst AreTold (sym c.reuse.ensures) (desk_is_told d c.args.texts.now new c.args.text told grown asked),
    )
