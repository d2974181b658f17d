-- How queries are answered: lines that print a part of the state.
use Rattle.std.specs.Prelude.{◌≡◌, ℕ, List, [], ◌∷◌, ◌++◌, Bool, ◌&&◌, ◌==◌, not, nat_le, if◌then◌else◌, length}
use Rattle.std.specs.Prelude.{map, codes}
use Rattle.std.specs.List.{flat_map}
use Rattle.std.specs.Fmt.{decimal, signed_decimal}
use Rattle.hex.specs.Hex.{encode_lower}
use Rattle.looks.specs.declared.looks.Looks.{Looks}
use Rattle.char_files.specs.Stretch.{AreRuns, Item, Stretch, items_of}
use Rattle.char_files.specs.declared.character.Char.{Char}
use Rattle.set_laws.specs.Fronts.{front_of}
use Rattle.texts.specs.TextState.{TextState, shown_of}

-- a line, with its end
abbrev pub line : List ℕ → List ℕ
line text = text ++ 10 ∷ []

-- whether a byte is printed as itself: 20H to 7EH, but for the backslash
abbrev pub is_plain : ℕ → Bool
is_plain b = nat_le 32 b && nat_le b 126 && not (b == 92)

-- a byte of a text: itself, or a backslash and two lower case hex digits
abbrev pub printed_byte : ℕ → List ℕ
printed_byte b = if is_plain b then b ∷ [] else 92 ∷ encode_lower (b ∷ [])

-- the characters of a text, one after the other
abbrev pub print_of : List Char → List ℕ
print_of chars = flat_map printed_byte (map (λ c. c.byte) chars)

-- the answer to `text`: the length, then a blank and the characters if there are any
abbrev pub text_lines : TextState → List ℕ
text_lines t =
    line (codes "text " ++ decimal (length (shown_of t))
    ++ (if length (shown_of t) == 0 then [] else 32 ∷ print_of (shown_of t)))

-- the line of a site's front: the greatest seq of its operations that were taken in
abbrev pub front_line : (site front : ℕ) → List ℕ
front_line site front = line (codes "front " ++ decimal site ++ 32 ∷ decimal front)

-- the line of how many operations wait
abbrev pub waiting_line : ℕ → List ℕ
waiting_line count = line (codes "waiting " ++ decimal count)

-- the answer to `front`: a line per site that has operations, then how many operations wait
abbrev pub front_lines : TextState → List ℕ → List ℕ
front_lines t sites =
    flat_map (λ site. front_line site (front_of t.operations site)) sites ++ waiting_line (length t.waiting_room)

-- these are the maximal runs of equal looks of some characters
abbrev pub AreRunsOf : List Item → List Stretch → Type 0
AreRunsOf items runs = AreRuns runs × (items_of runs ≡ items)

-- the line of a run: its font, colour and offset, and how many characters it has
abbrev pub run_line : Looks → (len : ℕ) → List ℕ
run_line looks len =
    line (codes "run " ++ looks.font ++ 32 ∷ decimal looks.colour ++ 32 ∷ signed_decimal looks.offset
    ++ 32 ∷ decimal len)

-- the line of each run
abbrev pub lines_of_runs : List Stretch → List ℕ
lines_of_runs runs = flat_map (λ r. run_line r.looks (length r.bytes)) runs

-- the answer to `runs`: a line per maximal run, then `ok`
abbrev pub run_lines : List Stretch → List ℕ
run_lines runs = lines_of_runs runs ++ line (codes "ok")
