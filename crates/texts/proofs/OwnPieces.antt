-- The Inserts of pieces, one after the other, are one insertion of their characters.
use Rattle.std.proofs.Common.{◌≡◌, ℕ, zero, suc, ◌+◌, ◌≤◌, List, [], ◌∷◌, ◌++◌, length, take, refl, sym, ap, ◌∙◌}
use Rattle.std.proofs.Common.{arith}
use Rattle.std.specs.Prelude.{◌==◌}
use Rattle.std.proofs.lemmas.Bool.{cond-true}
use Rattle.std.proofs.Math.Seq.{take-length}
use Rattle.char_files.specs.Stretch.{Item, Stretch, items_of, items_of_run}
use Rattle.char_files.specs.declared.character.Char.{Char}
use Rattle.operations.specs.Operation.{Operation}
use Rattle.set_laws.specs.Fronts.{file_len}
use Rattle.texts.specs.Edit.{after, inserts, insertion, own_insert, pieces_of, shown_with, with_operation}
use Rattle.texts.specs.Laws.{IsPlainEdit, IsPlainPart}
use Rattle.texts.specs.Order.{item_chars, with_inserted}
use Rattle.taken_text.specs.Rows.{chars_from}
use Rattle.texts.specs.Text.{IsText}
use Rattle.texts.specs.TextState.{TextState, shown_of}
use Rattle.set_laws.proofs.Counting.{counted_on}
use Rattle.texts.proofs.OwnInsert.{insert_is_plain}
use Rattle.texts.proofs.RunsInserted.{chars_from_run, items_of_pieces, length-chars_of, length-insert_at, put_after, put_none}

-- this text shows what another one did, with characters put in
pub record ShowsWith (t : TextState) (pos : ℕ) (items : List Item) (u : TextState) : Type 0 where
  pub text : IsText u
  pub shown : shown_of u ≡ shown_with t pos items

-- one piece, and what was put in after it
module _ (t : TextState) (pos : ℕ) (p : Stretch) (is : IsText t) (in_text : pos ≤ length (shown_of t)) where
  abbrev own : Operation
  own = own_insert t pos p.looks p.bytes

  abbrev new : TextState
  new = with_operation t own

  abbrev at : ℕ
  at = file_len t.operations t.site

  abbrev run : List Char
  run = chars_from t.site at p.looks p.bytes

  plain : IsPlainEdit t pos p.looks p.bytes
  plain = insert_is_plain t pos p.looks p.bytes is in_text

  -- the site's file is longer by the piece's bytes
  file_grows : file_len new.operations t.site ≡ at + length p.bytes
  file_grows =
      (counted_on t.operations own is.good is.identified plain.new plain.ready.0).file t.site
      ∙ cond-true (t.site == t.site) (at + length p.bytes) at (grind arith)

  long : length run ≡ length p.bytes
  long = length-chars_of t.site at p.looks p.bytes

  pub next_in_text : pos + length p.bytes ≤ length (shown_of new)
  next_in_text =
      let longer = ap (length {A = Char}) plain.shown ∙ length-insert_at (shown_of t) pos run in_text in
      omega (arith, long, longer)

  pub with_first : (more : List Item) (u : TextState) → ShowsWith new (pos + length p.bytes) more u
      → ShowsWith t pos (items_of_run p ++ more) u
  with_first more u shows = record { text = shows.text; shown = is_shown } where
    later : ℕ → List Char
    later from = item_chars t.site from more

    was : List Char
    was = with_inserted (shown_of t) pos run

    is_shown : shown_of u ≡ shown_with t pos (items_of_run p ++ more)
    is_shown =
        shows.shown
        ∙ ap (λ (xs : List Char). with_inserted xs (pos + length p.bytes) (later (file_len new.operations t.site))) plain.shown
        ∙ ap (λ (n : ℕ). with_inserted was (pos + length p.bytes) (later n)) file_grows
        ∙ ap (λ (n : ℕ). with_inserted was (pos + n) (later (at + length p.bytes))) (sym long)
        ∙ put_after (shown_of t) pos run (later (at + length p.bytes)) in_text
        ∙ ap (with_inserted (shown_of t) pos) (sym (chars_from_run t.site at p.looks p.bytes more))

-- the first pieces of several
pub shows_pieces : (pieces : List Stretch) (k : ℕ) (t : TextState) (pos : ℕ) → IsText t → pos ≤ length (shown_of t)
    → ShowsWith t pos (items_of (take k pieces)) (after t (take k (inserts t pos pieces)))
shows_pieces pieces zero t pos is in_text =
    record { text = is; shown = sym (put_none (shown_of t) pos) }
shows_pieces [] (suc k) t pos is in_text =
    record { text = is; shown = sym (put_none (shown_of t) pos) }
shows_pieces (p ∷ pieces) (suc k) t pos is in_text =
    let own : Operation = own_insert t pos p.looks p.bytes in
    let new : TextState = with_operation t own in
    let next : ℕ = pos + length p.bytes in
    with_first t pos p is in_text (items_of (take k pieces))
    (after new (take k (inserts new next pieces)))
    (shows_pieces pieces k new next (insert_is_plain t pos p.looks p.bytes is in_text).text
    (next_in_text t pos p is in_text))

pub length-inserts : (pieces : List Stretch) (t : TextState) (pos : ℕ) → length (inserts t pos pieces) ≡ length pieces
length-inserts [] t pos = refl
length-inserts (p ∷ pieces) t pos =
    ap suc (length-inserts pieces (with_operation t (own_insert t pos p.looks p.bytes)) (pos + length p.bytes))

-- so a part of an insertion is the insertion of its first pieces, and all of it that of all characters
pub insertion_is_plain : (t : TextState) (pos : ℕ) (items : List Item) (n : ℕ) → IsText t → pos ≤ length (shown_of t) → IsPlainPart t (insertion pos items) n
insertion_is_plain t pos items n is in_text =
    let pieces : List Stretch = pieces_of items in
    let made = shows_pieces pieces n t pos is in_text in
    let all : n ≡ length (inserts t pos pieces) → items_of (take n pieces) ≡ items =
    λ e. ap (λ (k : ℕ). items_of (take k pieces)) (e ∙ length-inserts pieces t pos)
    ∙ ap items_of (take-length pieces) ∙ items_of_pieces items in
    record {
      text = made.text;
      whole = λ e. made.shown ∙ ap (shown_with t pos) (all e);
      part = λ some. made.shown;
    }
