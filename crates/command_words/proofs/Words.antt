-- The word at a position, by what is found near the position.
use Rattle.std.proofs.Common.{◌≡◌, ℕ, ◌-◌, ◌<◌, ◌≤◌, true, false, List, length, get_or, take, drop, inl, inr, subst, arith}
use Rattle.std.proofs.Common.{sym}
use Rattle.std.proofs.lemmas.Bool.{cases_lt}
use Rattle.std.proofs.lemmas.List.{length-map, length-take, length-drop}
use Rattle.char_files.specs.Stretch.{Item}
use Rattle.reader_scanner.specs.ReaderState.{item_bytes}
use Rattle.reader_scanner.specs.Tokens.{is_name_byte}
use Rattle.command_words.specs.declared.calls.Call.{Call}
use Rattle.command_words.specs.declared.command.Command.{Command}
use Rattle.command_words.specs.declared.command.Command.TheVariants as command
use Rattle.command_words.specs.Calls.{IsCallAt, IsWordAt}
use Rattle.command_words.specs.Commands.{name_of}

-- what is found within 32 bytes before a position, and from what was found there on
pub record IsNear (bytes : List ℕ) (pos beg end : ℕ) : Type 0 where
  pub from : beg ≤ pos
  pub to : pos ≤ end
  pub within : end ≤ length bytes
  pub left : (k : ℕ) → beg ≤ k → k < pos → is_name_byte (get_or bytes k 0) ≡ true
  pub right : (k : ℕ) → pos ≤ k → k < end → is_name_byte (get_or bytes k 0) ≡ true
  pub before : 0 < beg → pos - beg < 32 → is_name_byte (get_or bytes (beg - 1) 0) ≡ false
  pub after : end < length bytes → end - beg < 32 → is_name_byte (get_or bytes end 0) ≡ false

-- what is found in a source is so of its bytes
pub is_near : (items : List Item) (pos beg end : ℕ) → beg ≤ pos → pos ≤ end → end ≤ length items
    → ((k : ℕ) → beg ≤ k → k < pos → is_name_byte (get_or (item_bytes items) k 0) ≡ true)
    → ((k : ℕ) → pos ≤ k → k < end → is_name_byte (get_or (item_bytes items) k 0) ≡ true)
    → (0 < beg → pos - beg < 32 → is_name_byte (get_or (item_bytes items) (beg - 1) 0) ≡ false)
    → (end < length items → end - beg < 32 → is_name_byte (get_or (item_bytes items) end 0) ≡ false)
    → IsNear (item_bytes items) pos beg end
is_near items pos beg end from to within left right before after =
    let same : length (item_bytes items) ≡ length items = length-map items (λ (i : Item). i.0) in
    record {
      from = from;
      to = to;
      within = omega (arith, within, same);
      left = left;
      right = right;
      before = before;
      after = λ inside. after (omega (arith, inside, same));
    }

-- a byte can't be both
pub both : (b : ℕ) → is_name_byte b ≡ true → is_name_byte b ≡ false → ⊥
both b passes fails = cc

-- where it is short it is the word
pub word_is : (bytes : List ℕ) (pos beg end : ℕ) → IsNear bytes pos beg end → pos < end → end - beg < 32
    → IsWordAt bytes pos beg end
word_is bytes pos beg end near some short =
    let from : beg ≤ pos = near.from in
    record {
      from = near.from;
      to = some;
      within = near.within;
      each = λ k a b. elim (cases_lt k pos) [
        | inl lt ↦ near.left k a lt
        | inr le ↦ near.right k le b
      ];
      before = λ positive. near.before positive (omega (arith, from, some, short));
      after = λ inside. near.after inside short;
    }

-- a short word begins where it was found to begin
pub same_begin : (bytes : List ℕ) (pos beg end b e : ℕ) → IsNear bytes pos beg end → IsWordAt bytes pos b e
    → e - b < 32 → b ≡ beg
same_begin bytes pos beg end b e near word short =
    let h1 : beg ≤ pos = near.from in
    let h2 : b ≤ pos = word.from in
    let h3 : pos < e = word.to in
    elim (cases_lt b beg) [
      | inl lt ↦ absurd (both (get_or bytes (beg - 1) 0)
          (word.each (beg - 1) (omega (arith, lt)) (omega (arith, lt, h1, h3)))
          (near.before (omega (arith, lt)) (omega (arith, lt, h1, h2, h3, short))))
      | inr le ↦ elim (cases_lt beg b) [
        | inl lt ↦ absurd (both (get_or bytes (b - 1) 0)
            (near.left (b - 1) (omega (arith, lt)) (omega (arith, lt, h2)))
            (word.before (omega (arith, lt))))
        | inr ge ↦ omega (arith, le, ge)
      ]
    ]

-- and ends where it was found to end
pub same_end : (bytes : List ℕ) (pos beg end b e : ℕ) → IsNear bytes pos beg end → IsWordAt bytes pos b e
    → e - b < 32 → e ≡ end
same_end bytes pos beg end b e near word short =
    let h1 : pos ≤ end = near.to in
    let h2 : b ≤ pos = word.from in
    let h3 : pos < e = word.to in
    let h4 : e ≤ length bytes = word.within in
    let h5 : end ≤ length bytes = near.within in
    let same : b ≡ beg = same_begin bytes pos beg end b e near word short in
    elim (cases_lt end e) [
      | inl lt ↦ absurd (both (get_or bytes end 0)
          (word.each end (omega (arith, h1, h2)) lt)
          (near.after (omega (arith, lt, h4)) (omega (arith, lt, same, short))))
      | inr le ↦ elim (cases_lt e end) [
        | inl lt ↦ absurd (both (get_or bytes e 0)
            (near.right e (omega (arith, h3)) lt)
            (word.after (omega (arith, lt, h5))))
        | inr ge ↦ omega (arith, le, ge)
      ]
    ]

-- each command's word is short
pub name_short : (c : Command) → length (name_of c) < 32
name_short command.SystemOpen = omega arith
name_short command.SystemClose = omega arith
name_short command.EditOpen = omega arith
name_short command.EditLoad = omega arith
name_short command.EditStore = omega arith
name_short command.EditRecall = omega arith
name_short command.EditRestore = omega arith
name_short command.EditChangeFont = omega arith
name_short command.EditChangeColor = omega arith
name_short command.EditChangeOffset = omega arith
name_short command.EditSearch = omega arith
name_short command.ShareForget = omega arith

-- a stretch that is a command's word is short
pub named_short : (bytes : List ℕ) (beg end : ℕ) (c : Command) → end ≤ length bytes
    → take (end - beg) (drop beg bytes) ≡ name_of c → end - beg < 32
named_short bytes beg end c within named =
    let long : length (take (end - beg) (drop beg bytes)) < 32 =
    subst (λ (w : List ℕ). length w < 32) (sym named) (name_short c) in
    omega (arith, long, within, length-take (end - beg) (drop beg bytes), length-drop beg bytes)

-- the word of each call there ends after the position
pub ends_after : (bytes : List ℕ) (pos beg end : ℕ) → IsNear bytes pos beg end → (call : Call)
    → IsCallAt bytes pos call → pos < end
ends_after bytes pos beg end near call is =
    let to : pos < is.end = is.word.to in
    let short : is.end - is.beg < 32 =
    named_short bytes is.beg is.end call.command is.word.within is.named in
    omega (arith, to, same_end bytes pos beg end is.beg is.end near is.word short)

-- what was found has the word of each call there
pub word_of_call : (bytes : List ℕ) (pos beg end : ℕ) → IsNear bytes pos beg end → (call : Call)
    → IsCallAt bytes pos call → name_of call.command ≡ take (end - beg) (drop beg bytes)
word_of_call bytes pos beg end near call is =
    let short : is.end - is.beg < 32 =
    named_short bytes is.beg is.end call.command is.word.within is.named in
    let b : is.beg ≡ beg = same_begin bytes pos beg end is.beg is.end near is.word short in
    let e : is.end ≡ end = same_end bytes pos beg end is.beg is.end near is.word short in
    let P : ℕ → Type 0 = λ x. take (is.end - x) (drop x bytes) ≡ name_of call.command in
    let Q : ℕ → Type 0 = λ y. take (y - beg) (drop beg bytes) ≡ name_of call.command in
    sym (subst Q e (subst P b is.named))
