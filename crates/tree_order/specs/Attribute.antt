-- What a change of looks can select.
use Rattle.std.specs.Prelude.{Bool}
use Rattle.looks.specs.Sel.{Selection}
use Rattle.tree_order.specs.declared.attributes.Attribute.{Attribute}
use Rattle.tree_order.specs.declared.attributes.Attribute.TheVariants.{Font, Colour, Offset}

-- whether a selection has the attribute
abbrev pub selects : Attribute → Selection → Bool
selects Font s = s.font
selects Colour s = s.colour
selects Offset s = s.offset
