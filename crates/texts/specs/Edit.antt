-- The edits of a site's own: the operations that they make, and what these show.
use Rattle.std.specs.Prelude.{ℕ, ◌+◌, ◌-◌, List, [], ◌∷◌, ◌++◌, length, take, map, filter, slice_range}
use Rattle.std.specs.Prelude.{slice_get, Bool, true, nat_lt, nat_le, ◌==◌, ◌&&◌, ◌||◌, if◌then◌else◌}
use Rattle.std.specs.List.{flat_map, list_all}
use Rattle.std.specs.Option.{option_map_or}
use Rattle.looks.specs.Sel.{Selection}
use Rattle.looks.specs.declared.looks.Looks.{Looks}
use Rattle.looks.specs.Looks.{plain_looks}
use Rattle.char_files.specs.Runs.{maximal_runs}
use Rattle.char_files.specs.Stretch.{Item, Stretch, items_of}
use Rattle.char_files.specs.declared.character.Char.{Char}
use Rattle.char_files.specs.declared.name.Anchor.{Anchor}
use Rattle.char_files.specs.declared.name.Anchor.TheVariants.{Root, At}
use Rattle.operations.specs.NameSet.{Range, names_in, set_of}
use Rattle.operations.specs.Operation.{Operation, OpKind, insert, delete, restore, change_looks}
use Rattle.operations.specs.declared.kind.TheConstants.{MAX_INSERT}
use Rattle.set_laws.specs.Fronts.{front_of, greatest_stamp, file_len}
use Rattle.tree_order.specs.Shown.{is_visible}
use Rattle.texts.specs.Order.{item_chars, cut, dress, is_named, order_after, with_inserted, with_selected}
use Rattle.texts.specs.TextState.{TextState, shown_of}

-- What an edit asks: to put characters after the first pos shown; to take those from beg to end out of what is
-- shown, or to give them looks; to show again those that were cut last, or to put them in anew, as a copy.
pub data Edit : Type 0 where
  insertion : (pos : ℕ) (items : List Item) → Edit
  deletion : (beg end : ℕ) → Edit
  looks_change : (beg end : ℕ) (sel : Selection) (looks : Looks) → Edit
  restoration : Edit
  recalling : (pos : ℕ) → Edit

-- whether beg to end lie in the text
abbrev pub is_range_in : TextState → (beg end : ℕ) → Bool
is_range_in t beg end = nat_le beg end && nat_le end (length (shown_of t))

-- whether the positions of an edit lie in the text
abbrev pub is_in_text : TextState → Edit → Bool
is_in_text t (insertion pos items) = nat_le pos (length (shown_of t))
is_in_text t (deletion beg end) = is_range_in t beg end
is_in_text t (looks_change beg end sel looks) = is_range_in t beg end
is_in_text t restoration = true
is_in_text t (recalling pos) = nat_le pos (length (shown_of t))

-- what a character hangs on that is typed after the first pos characters shown: the last of them, or the
-- root
abbrev pub anchor_before : List Char → ℕ → Anchor
anchor_before shown pos =
    if pos == 0 then Root else option_map_or (λ c. At c.name) (slice_get shown (pos - 1)) Root

-- the operation of this kind that the site makes next
abbrev pub own_op : TextState → OpKind → Operation
own_op t kind = record {
  text = t.text;
  site = t.site;
  seq = front_of t.operations t.site + 1;
  stamp = greatest_stamp t.operations + 1;
  kind = kind;
}

-- the Insert of a run after the first pos characters shown
abbrev pub own_insert : TextState → ℕ → Looks → List ℕ → Operation
own_insert t pos looks bytes =
    own_op t (insert (anchor_before (shown_of t) pos) (file_len t.operations t.site) looks bytes)

-- the names of the characters shown from beg to end
abbrev pub names_shown : TextState → (beg end : ℕ) → List Range
names_shown t beg end = set_of (map (λ c. c.name) (slice_range (shown_of t) beg end))

-- the characters shown that a set names, outside the text
abbrev pub stretch_named : TextState → List Range → List Item
stretch_named t names = map (λ c. (c.byte, c.looks)) (filter (is_named names) (shown_of t))

-- the stretch that was cut last, after one more operation of the site's own: a Delete keeps what it hides
abbrev pub stretch_after : TextState → OpKind → List Item
stretch_after t (insert cause at looks bytes) = t.last_stretch
stretch_after t (delete names) = stretch_named t names
stretch_after t (restore names) = t.last_stretch
stretch_after t (change_looks sel looks names) = t.last_stretch

-- its names alike
abbrev pub set_after : TextState → OpKind → List Range
set_after t (insert cause at looks bytes) = t.last_set
set_after t (delete names) = names
set_after t (restore names) = t.last_set
set_after t (change_looks sel looks names) = t.last_set

-- the text with one more operation of the site itself
abbrev pub with_operation : TextState → Operation → TextState
with_operation t op = record t {
  operations = t.operations ++ op ∷ [];
  order = order_after t.order op;
  last_stretch = stretch_after t op.kind;
  last_set = set_after t op.kind;
}

-- the text after these operations of the site itself
abbrev pub after : TextState → List Operation → TextState
after t [] = t
after t (op ∷ ops) = after (with_operation t op) ops

-- bytes after those of a part, cut after each 4,096
abbrev pub parts_from : (part bytes : List ℕ) → List (List ℕ)
parts_from [] [] = []
parts_from (p ∷ part) [] = (p ∷ part) ∷ []
parts_from part (b ∷ bytes) =
    if length part == MAX_INSERT then part ∷ parts_from (b ∷ []) bytes else parts_from (part ++ b ∷ []) bytes

-- the parts of a run, of 4,096 bytes each but for the last
abbrev pub parts_of : Stretch → List Stretch
parts_of r = map (λ part. record { looks = r.looks; bytes = part }) (parts_from [] r.bytes)

-- the pieces of a stretch that are inserted one by one: cut where the looks change, and after each 4,096
-- bytes of equal looks
abbrev pub pieces_of : List Item → List Stretch
pieces_of items = flat_map parts_of (maximal_runs items)

-- the Inserts of pieces: the first one after the first pos characters shown, each other one after the piece
-- before it
abbrev pub inserts : TextState → ℕ → List Stretch → List Operation
inserts t pos [] = []
inserts t pos (p ∷ pieces) =
    own_insert t pos p.looks p.bytes
    ∷ inserts (with_operation t (own_insert t pos p.looks p.bytes)) (pos + length p.bytes) pieces

-- the operation of this kind, where there is something from beg to end
abbrev pub unless_empty : TextState → (beg end : ℕ) → OpKind → List Operation
unless_empty t beg end kind = if nat_lt beg end then own_op t kind ∷ [] else []

-- whether all that was cut last is shown
abbrev pub is_restored : TextState → Bool
is_restored t = list_all (λ c. is_visible t.operations c) (names_in t.last_set)

-- the operations that an edit makes: none where it is empty
abbrev pub plan : TextState → Edit → List Operation
plan t (insertion pos items) = inserts t pos (pieces_of items)
plan t (deletion beg end) = unless_empty t beg end (delete (names_shown t beg end))
plan t (looks_change beg end sel looks) =
    unless_empty t beg end (change_looks sel (with_selected sel looks plain_looks) (names_shown t beg end))
plan t restoration = if is_restored t then [] else own_op t (restore t.last_set) ∷ []
plan t (recalling pos) = inserts t pos (pieces_of t.last_stretch)

-- what is shown with these characters of the site's after the first pos
abbrev pub shown_with : TextState → ℕ → List Item → List Char
shown_with t pos items = with_inserted (shown_of t) pos (item_chars t.site (file_len t.operations t.site) items)

-- what is shown with those that were cut last beside those that are shown, each at its place among all
abbrev pub shown_again : TextState → List Char
shown_again t = filter (λ c. is_named t.last_set c || is_visible t.operations c.name) t.order

-- What an edit that was done wholly makes of the list shown: a plain edit of that list.
abbrev pub shown_after : TextState → Edit → List Char
shown_after t (insertion pos items) = shown_with t pos items
shown_after t (deletion beg end) = cut (shown_of t) beg end
shown_after t (looks_change beg end sel looks) = dress sel looks (shown_of t) beg end
shown_after t restoration = shown_again t
shown_after t (recalling pos) = shown_with t pos t.last_stretch

-- the insertion of the first n pieces alone
abbrev pub first_pieces : ℕ → ℕ → List Item → Edit
first_pieces n pos items = insertion pos (items_of (take n (pieces_of items)))

-- the edit of an edit's first n operations alone; only an insertion has more than one
abbrev pub first_part : TextState → ℕ → Edit → Edit
first_part t n (insertion pos items) = first_pieces n pos items
first_part t n (deletion beg end) = deletion beg end
first_part t n (looks_change beg end sel looks) = looks_change beg end sel looks
first_part t n restoration = restoration
first_part t n (recalling pos) = first_pieces n pos t.last_stretch
