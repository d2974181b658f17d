use Rattle.desk_texts.proofs.site_texts.Texts.lemma_has_text.Goals as goal

pub returns : goal.returns
returns c = (c.replica.result.now, c.replica.ensures, c.lemma_is_text.ensures)
