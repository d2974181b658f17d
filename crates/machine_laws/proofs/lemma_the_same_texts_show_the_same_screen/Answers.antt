use Rattle.machine_laws.proofs.SameScreens.{printed_alike}
use Rattle.machine_laws.proofs.lemma_the_same_texts_show_the_same_screen.Goals as goal

pub returns : goal.returns
returns c = λ d e w same. printed_alike c.lemma_the_operations_determine_the_text.ensures d e w same
