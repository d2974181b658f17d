use Rattle.reader_scanner.proofs.OneToken.{token_there, lemma_one_token}
use Rattle.reader_scanner.proofs.laws.lemma_one_token.Goals as goal

pub returns-clause-there : goal.returns-clause-there
returns-clause-there c = token_there

pub returns-clause-one : goal.returns-clause-one
returns-clause-one c = lemma_one_token
