-- How a walk over characters counts their runs.
use Rattle.std.proofs.Common.{◌≡◌, ◌≢◌, ℕ, ◌+◌, ◌≤◌, List, [], ◌∷◌, ◌++◌, length, map, refl, sym, ap, ◌∙◌, append_assoc, append-nil, arith, length-append, false}
use Rattle.std.specs.Prelude.{◌==◌}
use Rattle.std.proofs.lemmas.List.{map-append, length-map}
use Rattle.std.proofs.lemmas.List.Concat.{flat_map-append}
use Rattle.looks.specs.declared.looks.Looks.{Looks}
use Rattle.char_files.specs.Stretch.{AreRuns, Item, Stretch, items_of, items_of_run}
use Rattle.char_files.specs.declared.character.Char.{Char}
use Rattle.machine.specs.Printing.{AreRunsOf, lines_of_runs, run_line}
use Rattle.desk_texts.specs.RunSoFar.{HasRunsSoFar, ended_line, runs_of_bytes}

-- a run with one more character
longer : (before : List Stretch) (looks : Looks) (b : ℕ) (bytes : List ℕ) (byte : ℕ) → AreRuns (before ++ runs_of_bytes looks (b ∷ bytes))
    → AreRuns (before ++ runs_of_bytes looks (b ∷ bytes ++ byte ∷ []))
longer [] looks b bytes byte h = λ e. cc
longer (x ∷ []) looks b bytes byte h = (h.0, h.1, λ e. cc)
longer (x ∷ y ∷ before) looks b bytes byte h = (h.0, h.1, longer (y ∷ before) looks b bytes byte h.2)

longer-items : (before : List Stretch) (looks : Looks) (b : ℕ) (bytes : List ℕ) (byte : ℕ)
    → items_of (before ++ runs_of_bytes looks (b ∷ bytes ++ byte ∷ [])) ≡ items_of (before ++ runs_of_bytes looks (b ∷ bytes)) ++ (byte, looks) ∷ []
longer-items before looks b bytes byte =
    let r : Stretch = record { looks = looks; bytes = b ∷ bytes } in
    let r' : Stretch = record { looks = looks; bytes = b ∷ bytes ++ byte ∷ [] } in
    let more : items_of_run r' ≡ items_of_run r ++ (byte, looks) ∷ [] = map-append (λ (x : ℕ). (x, looks)) (b ∷ bytes) (byte ∷ []) in
    let one : items_of (before ++ r ∷ []) ≡ items_of before ++ items_of_run r = simp (flat_map-append, append-nil) in
    let one' : items_of (before ++ r' ∷ []) ≡ items_of before ++ items_of_run r' = simp (flat_map-append, append-nil) in
    one' ∙ ap (λ (is : List Item). items_of before ++ is) more ∙ sym (append_assoc (items_of before) (items_of_run r) ((byte, looks) ∷ []))
    ∙ ap (λ (is : List Item). is ++ (byte, looks) ∷ []) (sym one)

-- a run of other looks after the last
another : (before : List Stretch) (r : Stretch) (looks : Looks) (byte : ℕ) → AreRuns (before ++ r ∷ []) → r.looks ≢ looks
    → AreRuns ((before ++ r ∷ []) ++ runs_of_bytes looks (byte ∷ []))
another [] r looks byte h apart = (h, apart, λ e. cc)
another (x ∷ []) r looks byte h apart = (h.0, h.1, another [] r looks byte h.2 apart)
another (x ∷ y ∷ before) r looks byte h apart = (h.0, h.1, another (y ∷ before) r looks byte h.2 apart)

another-items : (runs : List Stretch) (looks : Looks) (byte : ℕ) → items_of (runs ++ runs_of_bytes looks (byte ∷ [])) ≡ items_of runs ++ (byte, looks) ∷ []
another-items runs looks byte = simp (flat_map-append, append-nil)

-- a character of the looks of the last run
same : (before : List Stretch) (bytes : List ℕ) (items : List Item) (looks : Looks) (byte : ℕ) → (bytes ≡ [] → before ≡ []) → AreRunsOf items (before ++ runs_of_bytes looks bytes)
    → AreRunsOf (items ++ (byte, looks) ∷ []) (before ++ runs_of_bytes looks (bytes ++ byte ∷ []))
same [] [] items looks byte begun h = (λ e. cc, ap (λ (is : List Item). is ++ (byte, looks) ∷ []) h.1)
same (x ∷ before) [] items looks byte begun h = let none : x ∷ before ≡ [] = begun refl in absurd cc
same before (b ∷ bytes) items looks byte begun h =
    (longer before looks b bytes byte h.0, longer-items before looks b bytes byte ∙ ap (λ (is : List Item). is ++ (byte, looks) ∷ []) h.1)

-- a character of other looks
other : (before : List Stretch) (bytes : List ℕ) (items : List Item) (looks new : Looks) (byte : ℕ) → (bytes ≡ [] → before ≡ []) → looks ≢ new → AreRunsOf items (before ++ runs_of_bytes looks bytes)
    → AreRunsOf (items ++ (byte, new) ∷ []) ((before ++ runs_of_bytes looks bytes) ++ runs_of_bytes new (byte ∷ []))
other [] [] items looks new byte begun apart h = (λ e. cc, ap (λ (is : List Item). is ++ (byte, new) ∷ []) h.1)
other (x ∷ before) [] items looks new byte begun apart h = let none : x ∷ before ≡ [] = begun refl in absurd cc
other before (b ∷ bytes) items looks new byte begun apart h =
    let r : Stretch = record { looks = looks; bytes = b ∷ bytes } in
    (another before r new byte h.0 apart, another-items (before ++ r ∷ []) new byte ∙ ap (λ (is : List Item). is ++ (byte, new) ∷ []) h.1)

-- the lines of all runs, the last one's too
all_lines : (before : List Stretch) (looks : Looks) (bytes : List ℕ) → lines_of_runs before ++ ended_line looks (length bytes) ≡ lines_of_runs (before ++ runs_of_bytes looks bytes)
all_lines before looks [] = append-nil (lines_of_runs before) ∙ ap lines_of_runs (sym (append-nil before))
all_lines before looks (b ∷ bytes) =
    let r : Stretch = record { looks = looks; bytes = b ∷ bytes } in
    let some : (length (b ∷ bytes) == 0) ≡ false = grind arith in
    let last : ended_line looks (length (b ∷ bytes)) ≡ run_line looks (length (b ∷ bytes)) = rw some refl in
    let one : lines_of_runs (before ++ r ∷ []) ≡ lines_of_runs before ++ run_line looks (length (b ∷ bytes)) = simp (flat_map-append, append-nil) in
    ap (λ (tail : List ℕ). lines_of_runs before ++ tail) last ∙ sym one

pub IsCounted-begins : (looks : Looks) → HasRunsSoFar [] [] looks 0
IsCounted-begins looks = record { before = []; bytes = []; printed = refl; counted = refl; begun = λ e. refl; are_runs = (tt, refl) }

pub IsCounted-same : {items : List Item} {lines : List ℕ} {looks : Looks} {len : ℕ} (byte : ℕ) → HasRunsSoFar items lines looks len
    → HasRunsSoFar (items ++ (byte, looks) ∷ []) lines looks (len + 1)
IsCounted-same {items} {lines} {looks} {len} byte so_far = record {
  before = so_far.before;
  bytes = so_far.bytes ++ byte ∷ [];
  printed = so_far.printed;
  counted = omega (arith, so_far.counted, length-append so_far.bytes (byte ∷ []));
  begun = λ e. absurd (omega (arith, ap length e, length-append so_far.bytes (byte ∷ [])));
  are_runs = same so_far.before so_far.bytes items looks byte so_far.begun so_far.are_runs;
}

-- where the last run ends, all are printed
pub IsCounted-ended : {items : List Item} {lines : List ℕ} {looks : Looks} {len : ℕ} (so_far : HasRunsSoFar items lines looks len)
    → lines ++ ended_line looks len ≡ lines_of_runs (so_far.before ++ runs_of_bytes looks so_far.bytes)
IsCounted-ended {items} {lines} {looks} {len} so_far =
    ap (λ (front : List ℕ). front ++ ended_line looks len) so_far.printed
    ∙ ap (λ (n : ℕ). lines_of_runs so_far.before ++ ended_line looks n) so_far.counted
    ∙ all_lines so_far.before looks so_far.bytes

pub IsCounted-other : {items : List Item} {lines : List ℕ} {looks : Looks} {len : ℕ} (new : Looks) (byte : ℕ) → looks ≢ new → HasRunsSoFar items lines looks len
    → HasRunsSoFar (items ++ (byte, new) ∷ []) (lines ++ ended_line looks len) new 1
IsCounted-other {items} {lines} {looks} {len} new byte apart so_far = record {
  before = so_far.before ++ runs_of_bytes looks so_far.bytes;
  bytes = byte ∷ [];
  printed = IsCounted-ended so_far;
  counted = refl;
  begun = λ e. absurd cc;
  are_runs = other so_far.before so_far.bytes items looks new byte so_far.begun apart so_far.are_runs;
}

within : (before : List Stretch) (looks : Looks) (bytes : List ℕ) → length bytes ≤ length (items_of (before ++ runs_of_bytes looks bytes))
within before looks [] = omega arith
within before looks (b ∷ bytes) =
    let r : Stretch = record { looks = looks; bytes = b ∷ bytes } in
    let parts : items_of (before ++ r ∷ []) ≡ items_of before ++ items_of_run r = simp (flat_map-append, append-nil) in
    omega (arith, ap length parts, length-append (items_of before) (items_of_run r), length-map {B = Item} (b ∷ bytes) (λ (x : ℕ). (x, looks)))

-- a run has no more characters than there are
pub IsCounted-within : {items : List Item} {lines : List ℕ} {looks : Looks} {len : ℕ} → HasRunsSoFar items lines looks len → len ≤ length items
IsCounted-within {items} {lines} {looks} {len} so_far =
    omega (arith, so_far.counted, ap length so_far.are_runs.1, within so_far.before looks so_far.bytes)

-- a character that is still to come finds room in its run
pub IsCounted-room : {items : List Item} {lines : List ℕ} {looks : Looks} {len : ℕ} (left rest shown : List Char) (char : Char) → HasRunsSoFar items lines looks len
    → items ++ map (λ c. (c.byte, c.looks)) left ≡ map (λ c. (c.byte, c.looks)) shown → left ≡ char ∷ rest → len + 1 ≤ length shown
IsCounted-room {items} {lines} {looks} {len} left rest shown char so_far all steps =
    let item : Char → Item = λ (c : Char). (c.byte, c.looks) in
    let counts : length (items ++ map item left) ≡ length (map item shown) = ap length all in
    omega (arith, IsCounted-within so_far, counts, length-append items (map item left), length-map {B = Item} left item, length-map {B = Item} shown item, ap length steps)
