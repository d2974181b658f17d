-- What an operation mentions, as ranges, and the last name of each number among them.
use Rattle.std.specs.Prelude.{Bool, true, List, [], ◌∷◌, ◌==◌, ◌&&◌, not, if◌then◌else◌}
use Rattle.char_files.specs.CharName.{CharName}
use Rattle.char_files.specs.declared.name.Anchor.TheVariants.{Root, At}
use Rattle.operations.specs.NameSet.{Range, of_name}
use Rattle.operations.specs.Operation.{OpKind, insert, delete, restore, change_looks}
use Rattle.waiting_room.specs.Judged.{last_of}

-- the maximal ranges of what each kind mentions, rising
abbrev pub mentioned_ranges_by : OpKind → List Range
mentioned_ranges_by (insert Root at looks bytes) = []
mentioned_ranges_by (insert (At cause) at looks bytes) = of_name cause ∷ []
mentioned_ranges_by (delete names) = names
mentioned_ranges_by (restore names) = names
mentioned_ranges_by (change_looks sel looks names) = names

-- whether none of the ranges that follow is of the same number
abbrev pub ends_site : Range → List Range → Bool
ends_site r [] = true
ends_site r (s ∷ rest) = not (s.site == r.site)

-- of each number the last name, where that one is so
abbrev pub lasts_of : (CharName → Bool) → List Range → List CharName
lasts_of so [] = []
lasts_of so (r ∷ rest) =
    if ends_site r rest && so (last_of r) then last_of r ∷ lasts_of so rest else lasts_of so rest
