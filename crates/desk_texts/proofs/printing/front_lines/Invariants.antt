use Rattle.std.proofs.Common.{◌≡◌, take}
use Rattle.std.specs.List.{flat_map}
use Rattle.set_laws.specs.Fronts.{front_of}
use Rattle.machine.specs.Printing.{front_line}
use Rattle.desk_texts.proofs.printing.front_lines.Given as goal

abbrev pub invariant-loop-site : goal.invariant-loop-site
invariant-loop-site l = l.lines.items ≡ flat_map (λ site. front_line site (front_of l.replica.operations site)) (take l.site-index l.site-items)
