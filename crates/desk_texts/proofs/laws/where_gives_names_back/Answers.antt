use Rattle.desk_texts.proofs.GivenBack.{given_back}
use Rattle.desk_texts.proofs.laws.where_gives_names_back.Goals as goal

pub returns : goal.returns
returns c = given_back
