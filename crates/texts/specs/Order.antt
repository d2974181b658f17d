-- What an operation of the site itself, the latest of all, does to the list of all characters.
use Rattle.std.specs.Prelude.{ℕ, ◌+◌, Bool, List, [], ◌∷◌, ◌++◌, length, take, drop, map, if◌then◌else◌}
use Rattle.std.specs.Prelude.{slice_range}
use Rattle.std.specs.List.{list_any}
use Rattle.looks.specs.Sel.{Selection}
use Rattle.looks.specs.declared.looks.Looks.{Looks}
use Rattle.char_files.specs.Stretch.{Item}
use Rattle.char_files.specs.declared.character.Char.{Char}
use Rattle.char_files.specs.declared.name.Anchor.{Anchor}
use Rattle.char_files.specs.declared.name.Anchor.TheVariants.{Root, At}
use Rattle.operations.specs.NameSet.{Range, range_contains}
use Rattle.operations.specs.Operation.{Operation, OpKind, insert, delete, restore, change_looks}
use Rattle.taken_text.specs.Rows.{chars_from}
use Rattle.tree_order.specs.Shown.{up_to}

-- the first n, the run, the rest
abbrev pub with_inserted : {X : Type 0} → List X → ℕ → List X → List X
with_inserted xs n run = take n xs ++ run ++ drop n xs

-- how many characters of the list are the anchor or stand before it; the root stands before all
abbrev pub count_to : List Char → Anchor → ℕ
count_to order Root = 0
count_to order (At name) = length (up_to name (map (λ c. c.name) order))

-- characters of any looks, after at bytes of the site's file
abbrev pub item_chars : (site at : ℕ) → List Item → List Char
item_chars site at [] = []
item_chars site at (i ∷ items) =
    record { name = record { site = site; off = at }; byte = i.0; looks = i.1 } ∷ item_chars site (at + 1) items

-- the old looks, with those that are selected replaced
abbrev pub with_selected : Selection → Looks → Looks → Looks
with_selected sel looks old = record {
  font = if sel.font then looks.font else old.font;
  colour = if sel.colour then looks.colour else old.colour;
  offset = if sel.offset then looks.offset else old.offset;
}

-- the character, with those of its looks replaced that are selected
abbrev pub dressed : Selection → Looks → Char → Char
dressed sel looks c = record c { looks = with_selected sel looks c.looks }

-- whether the set has the character's name
abbrev pub is_named : List Range → Char → Bool
is_named names c = list_any (λ r. range_contains r c.name) names

-- the character, in new looks where the set has its name
abbrev pub with_looks : Selection → Looks → List Range → Char → Char
with_looks sel looks names c =
    if is_named names c then dressed sel looks c else c

-- all but those from beg to end
abbrev pub cut : {X : Type 0} → List X → (beg end : ℕ) → List X
cut xs beg end = take beg xs ++ drop end xs

-- those from beg to end in new looks, all others as they are
abbrev pub dress : Selection → Looks → List Char → (beg end : ℕ) → List Char
dress sel looks chars beg end =
    take beg chars ++ map (dressed sel looks) (slice_range chars beg end) ++ drop end chars

-- an Insert's run stands directly after its cause; a Delete hides, a Restore shows again, and neither moves
-- anything; a ChangeLooks gives looks to those that it names
abbrev pub order_by : OpKind → ℕ → List Char → List Char
order_by (insert cause at looks bytes) site order =
    with_inserted order (count_to order cause) (chars_from site at looks bytes)
order_by (delete names) site order = order
order_by (restore names) site order = order
order_by (change_looks sel looks names) site order = map (with_looks sel looks names) order

-- all characters in order, after one more operation of the site itself
abbrev pub order_after : List Char → Operation → List Char
order_after order op = order_by op.kind op.site order
