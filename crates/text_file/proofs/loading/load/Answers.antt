use Rattle.text_file.proofs.Texts.{only_formatted, plain_refused}
use Rattle.text_file.proofs.loading.load.Goals as goal

pub returns-in-Some-clause-only : goal.returns-in-Some-clause-only
returns-in-Some-clause-only c =
    only_formatted c.args.bytes.now c.in-Some.rest.now c.load_formatted.result c.lemma_one_text.ensures.text
    c.in-Some.ensures c.load_formatted.ensures.ok

pub returns-in-None-clause-refused : goal.returns-in-None-clause-refused
returns-in-None-clause-refused c =
    plain_refused c.args.bytes.now c.load_plain.result c.in-None.ensures c.load_plain.ensures.refused
