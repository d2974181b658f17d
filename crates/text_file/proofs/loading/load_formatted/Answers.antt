use Rattle.std.proofs.Common.{refl}
use Rattle.text_file.proofs.Texts.{formatted_loaded, formatted_refused, formatted_none}
use Rattle.text_file.proofs.loading.load_formatted.Goals as goal

pub returns-in_default-clause-refused : goal.returns-in_default-clause-refused
returns-in_default-clause-refused c =
    (λ e. formatted_none c.lemma_runs_are_maximal.ensures.runs c.args.bytes.now c.in_default.ensures.none, λ none. refl)

pub returns-clause-ok : goal.returns-clause-ok
returns-clause-ok c =
    let found = c.in-Some.ensures.some in
    formatted_loaded c.lemma_runs_are_maximal.ensures.only c.args.bytes.now c.text_of.result found.0
    c.in-Some.parts.chars.now c.in-Some.parts.heads.now found.1 found.2 c.text_of.ensures.ok

pub returns-clause-refused : goal.returns-clause-refused
returns-clause-refused c =
    let found = c.in-Some.ensures.some in
    formatted_refused c.lemma_runs_are_maximal.ensures.only c.args.bytes.now c.text_of.result found.0
    c.in-Some.parts.chars.now found.1 c.text_of.ensures.errors
