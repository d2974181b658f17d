use Rattle.std.proofs.Common.{sym, subst}
use Rattle.list_changes.specs.Changes.{Leads}
use Rattle.taken_text.specs.Noted.{SameChar}
use Rattle.texts.specs.Laws.{KeepsTheOrder}
use Rattle.texts.specs.Text.{IsAnchor, IsText}
use Rattle.texts.specs.TextState.{TextState, shown_of}
use Rattle.text_frames.specs.Frames.{IsDrawn, ReadsOnce}
use Rattle.text_frames.proofs.frame.Frame.update.Goals as goal

pub returns-clause-drawn : goal.returns-clause-drawn
returns-clause-drawn c =
    subst (λ (u : TextState). (t : TextState) → IsText t → IsDrawn c.args.self.now t → KeepsTheOrder t u
    → IsAnchor u.operations c.args.self.now.anchor → Leads SameChar c.args.changes.now (shown_of t) (shown_of u)
    → IsDrawn c.follow.new.self u) c.of.ensures.text c.follow.ensures.drawn

pub returns-clause-anew : goal.returns-clause-anew
returns-clause-anew c = λ loud char.
    subst (λ (u : TextState). ReadsOnce u c.args.self.now c.follow.new.self) c.of.ensures.text
    (c.follow.ensures.anew loud
    (subst (λ (u : TextState). IsAnchor u.operations c.args.self.now.anchor) (sym c.of.ensures.text) char))
