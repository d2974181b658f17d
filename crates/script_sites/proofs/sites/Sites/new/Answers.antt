use Rattle.std.proofs.Common.{None, ap, subst, sym, ◌∙◌}
use Rattle.std.proofs.lemmas.List.Elements.{All-nil}
use Rattle.shelf.specs.Files.{Files}
use Rattle.machine.specs.State.{State}
use Rattle.script_sites.specs.Seen.{sent_after, state_of, texts_of}
use Rattle.script_sites.specs.Sent.{AreSentOperations, AreSound, IsSentOperation, messages_at}
use Rattle.script_sites.proofs.Keeping.{new_sound}
use Rattle.script_sites.proofs.sites.Sites.new.Goals as goal

no_files : Files
no_files name = None

pub invariant_of-result : goal.invariant_of-result
invariant_of-result c =
    let asked = c.args.settings in
    let desks = texts_of c.in_ok-desks.desks in
    let new = c.in_ok-desks.ensures.ok no_files in (
      subst (AreSentOperations desks) (sym c.new-sent.ensures.items) (All-nil (IsSentOperation desks)),
      subst AreSound (sym (ap (λ (s : State). s.desks) new)) (new_sound asked.first asked.count asked.width asked.height no_files),
    )

pub returns-clause-ok : goal.returns-clause-ok
returns-clause-ok c = λ files.
    let d = c.in_ok-desks.desks in
    (λ k. state_of (sent_after (messages_at (texts_of d) (c.new-sent.ensures.items k)) d) files) ∙ c.in_ok-desks.ensures.ok files
