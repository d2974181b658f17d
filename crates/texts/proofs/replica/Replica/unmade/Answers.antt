use Rattle.std.proofs.Common.{inl, inr, ◌∙◌}
use Rattle.set_laws.specs.Fronts.{file_len}
use Rattle.texts.specs.Edit.{anchor_before}
use Rattle.texts.specs.TextState.{shown_of}
use Rattle.texts.proofs.Unmade.{unmade}
use Rattle.texts.proofs.replica.Replica.unmade.Goals as goal

-- what refuses an Insert of so many bytes refuses the first one
pub returns-in-Some : goal.returns-in-Some
returns-in-Some c = λ pos items sent in_text first.
    let t = c.args.self.now in
    unmade t pos items c.args.len c.in-Some.first sent c.lemma_is_text.ensures in_text c.requires.some
    (λ looks bytes long. inl (c.insert_refusal.ensures (anchor_before (shown_of t) pos) (file_len t.operations t.site) looks bytes long
    ∙ c.in-Some.is)) first

-- where nothing does, it would stand
pub returns-in-None : goal.returns-in-None
returns-in-None c = λ pos items sent in_text first.
    let t = c.args.self.now in
    unmade t pos items c.args.len c.args.why sent c.lemma_is_text.ensures in_text c.requires.some
    (λ looks bytes long. inr (
      c.requires.memory,
      inl (c.insert_refusal.ensures (anchor_before (shown_of t) pos) (file_len t.operations t.site) looks bytes long ∙ c.in-None.is),
    )) first
