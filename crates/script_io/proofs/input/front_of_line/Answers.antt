use Rattle.std.proofs.Common.{◌≡◌, ◌==◌, take, rules, tests}
use Rattle.std.specs.List.{position}
use Rattle.std.proofs.lemmas.Iterator.{YieldsList-from_slice}
use Rattle.std.proofs.lemmas.Iterator.Search.{position_from_yields_List}
use Rattle.script_io.proofs.Held.{front_is}
use Rattle.script_io.proofs.input.front_of_line.Goals as goal

pub returns : goal.returns
returns c =
    let found : c.position.result ≡ position (λ b. b == 10) (take c.min.result c.args.held.now) =
    position_from_yields_List (λ b. b == 10) _ _ _ c.position.ensures.ran
    (YieldsList-from_slice (take c.min.result c.args.held.now) cc) (λ x b q k. search (rules, tests)) in
    front_is c.args.most c.args.held.now c.min.result c.unwrap_or-count.result c.position.result c.min.ensures found
    c.unwrap_or-count.ensures
