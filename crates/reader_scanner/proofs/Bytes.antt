-- Bytes between two positions, one more at a time.
use Rattle.std.proofs.Common.{◌≡◌, ℕ, ◌+◌, ◌-◌, ◌<◌, ◌≤◌, List, [], ◌∷◌, ◌++◌, length, get_or, take}
use Rattle.std.proofs.Common.{sym, ap, ◌∙◌, arith}
use Rattle.std.proofs.lemmas.List.{length-take, length-drop, length-map, get_or-drop, take_more}
use Rattle.char_files.specs.Stretch.{Item}
use Rattle.reader_scanner.specs.ReaderState.{item_bytes, bytes_from, bytes_between}

pub between_length : (items : List Item) (beg end : ℕ) → beg ≤ end → end ≤ length items
    → length (bytes_between items beg end) ≡ end - beg
between_length items beg end le inside =
    omega (
      arith,
      length-take (end - beg) (bytes_from items beg),
      length-drop beg (item_bytes items),
      length-map items (λ (i : Item). i.0),
    )

pub between_more : (items : List Item) (beg pos b : ℕ) → beg ≤ pos → pos < length items
    → b ≡ get_or (item_bytes items) pos 0
    → bytes_between items beg (pos + 1) ≡ bytes_between items beg pos ++ b ∷ []
between_more items beg pos b le lt is =
    let n : ℕ = pos - beg in
    let next : (pos + 1) - beg ≡ n + 1 = omega arith in
    let at : beg + n ≡ pos = omega arith in
    let within : n < length (bytes_from items beg) =
    omega (arith, length-drop beg (item_bytes items), length-map items (λ (i : Item). i.0)) in
    let here : get_or (bytes_from items beg) n 0 ≡ b =
    get_or-drop beg (item_bytes items) n 0 ∙ ap (λ (k : ℕ). get_or (item_bytes items) k 0) at ∙ sym is in
    ap (λ (k : ℕ). take k (bytes_from items beg)) next ∙ take_more (bytes_from items beg) n 0 within
    ∙ ap (λ (x : ℕ). bytes_between items beg pos ++ x ∷ []) here
