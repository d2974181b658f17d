use Rattle.text_file.proofs.Texts.{formatted_told, one_text_shares, one_text_of}
use Rattle.text_file.proofs.laws.lemma_one_text.Goals as goal

pub returns-clause-text : goal.returns-clause-text
returns-clause-text c = one_text_of c.lemma_one_spelling.ensures.looks c.lemma_runs_are_maximal.ensures.runs

pub returns-clause-shared : goal.returns-clause-shared
returns-clause-shared c = one_text_shares c.lemma_one_spelling.ensures.looks c.lemma_runs_are_maximal.ensures.runs

pub returns-clause-prefix : goal.returns-clause-prefix
returns-clause-prefix c =
    λ a b rest a_text b_text e.
    (formatted_told c.lemma_one_spelling.ensures.looks c.lemma_runs_are_maximal.ensures.runs a b rest a_text b_text e).1
