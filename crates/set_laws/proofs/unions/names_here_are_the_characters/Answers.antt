use Rattle.set_laws.proofs.Files.{here_is_char, char_is_here}
use Rattle.set_laws.proofs.unions.names_here_are_the_characters.Goals as goal

pub returns : goal.returns
returns c = λ ops name good known. (here_is_char ops good known name, char_is_here ops good known name)
