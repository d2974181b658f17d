use Rattle.std.proofs.Common.{◌≡◌, ◌∷◌, ◌++◌, [], ℕ, List, Some, ap, subst, ◌∙◌, append_assoc}
use Rattle.std.specs.Prelude.{slice_get}
use Rattle.std.proofs.lemmas.List.Elements.{All-push}
use Rattle.script_sites.specs.Seen.{SitesSeen, texts_of}
use Rattle.script_sites.specs.Sent.{IsSentOperation}
use Rattle.script_sites.specs.declared.sent_at.SentAt.{SentAt}
use Rattle.script_sites.proofs.Sending.{note_more}
use Rattle.script_sites.proofs.desks.Desks.note_each.Goals as goal

pub loop-index-preserved : goal.loop-index-preserved
loop-index-preserved c =
    let desks = texts_of c.args.self.now in
    let at = c.in_ok-at.at in
    let message = c.message.result.now in
    let (more, is, held, all) = c.loop-index.invariant in
    let (op, stands, valid, spelled) = c.in_ok-at.ensures in
    let there = subst (λ (l : List (List ℕ)). slice_get l c.loop-index.index ≡ Some message) (ap (λ (x : SitesSeen). x.sent) c.self.view_is) c.message.ensures in (
      more ++ at ∷ [],
      c.in-Ok.ensures.items ∙ ap (λ (l : List SentAt). l ++ at ∷ []) is ∙ append_assoc c.args.noted.now.items more (at ∷ []),
      All-push (IsSentOperation desks) more at held (op, stands, valid),
      note_more desks c.args.self.now.sent c.loop-index.index message more at there all (op, stands, valid, spelled),
    )
