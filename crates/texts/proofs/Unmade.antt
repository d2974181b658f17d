-- Insertions whose stretch memory was refused, so that the first of their operations wasn't made.
use Rattle.std.proofs.Common.{◌≡◌, ◌≢◌, ℕ, ◌+◌, ◌<◌, ◌≤◌, List, [], ◌∷◌, length, map, Err, inl, inr, refl, sym, ap, ◌∙◌}
use Rattle.std.proofs.Common.{append-nil, arith}
use Rattle.std.specs.Prelude.{nat_le}
use Rattle.std.specs.List.{flat_map}
use Rattle.std.proofs.lemmas.Bool.{cases_Bool, leb-false, leb-true}
use Rattle.std.proofs.lemmas.List.{length-take-le}
use Rattle.looks.specs.declared.looks.Looks.{Looks}
use Rattle.looks.specs.declared.refusal.Refusal.{Refusal}
use Rattle.char_files.specs.Stretch.{Item, Stretch}
use Rattle.char_files.proofs.MaximalRuns.{runs_again}
use Rattle.operations.specs.declared.kind.TheConstants.{MAX_INSERT}
use Rattle.texts.specs.Edit.{inserts, insertion, own_insert, parts_of, pieces_of, recalling, with_operation}
use Rattle.texts.specs.Outcome.{EditsSending}
use Rattle.texts.specs.Own.{IsWhyNot}
use Rattle.texts.specs.Pieces.{first_len, first_of, pieces_left}
use Rattle.texts.specs.Text.{IsText}
use Rattle.texts.specs.TextState.{TextState, shown_of}
use Rattle.texts.specs.declared.edit_refusal.EditRefusal.{EditRefusal}
use Rattle.texts.specs.declared.edit_refusal.EditRefusal.TheVariants.{Whole, Partial}
use Rattle.texts.proofs.Pieces.{all_left, full_piece, last_piece}
use Rattle.texts.proofs.Sending.{first_refused, in_position}

-- the first piece has so many bytes, and its Insert isn't made for this
module _ (t : TextState) (pos : ℕ) (items : List Item) (len : ℕ) (why : Refusal) (sent : List (List ℕ)) (is : IsText t)
    (in_text : pos ≤ length (shown_of t)) (some : 0 < len)
    (whynot : (looks : Looks) (bytes : List ℕ) → length bytes ≡ len → IsWhyNot t (own_insert t pos looks bytes) why) where
  by_pieces : (pieces : List Stretch) → pieces_of items ≡ pieces → first_of pieces ≡ len
      → EditsSending t (insertion pos items) (Err (Whole why)) t sent sent
  by_pieces [] e first = absurd (omega (arith, some, first))
  by_pieces (p ∷ pieces) e first =
      let op = own_insert t pos p.looks p.bytes in
      first_refused t (insertion pos items) is (in_position pos (length (shown_of t)) in_text) sent op
      (inserts (with_operation t op) (pos + length p.bytes) pieces) why (ap (inserts t pos) e) (whynot p.looks p.bytes first)

  pub unmade : first_len items ≡ len → EditsSending t (insertion pos items) (Err (Whole why)) t sent sent
  unmade first = by_pieces (pieces_of items) refl first

-- the first piece of a run
module _ (looks : Looks) (b : ℕ) (bytes : List ℕ) where
  abbrev run : Stretch
  run = record { looks = looks; bytes = b ∷ bytes }

  pieces_of_run : pieces_of (map (λ c. (c, looks)) (b ∷ bytes)) ≡ pieces_left (run ∷ []) 0
  pieces_of_run =
      ap pieces_of (sym (append-nil (map (λ c. (c, looks)) (b ∷ bytes))))
      ∙ ap (λ (runs : List Stretch). flat_map parts_of runs) (runs_again (run ∷ []) (λ e. cc))
      ∙ sym (all_left (run ∷ []))

  pub first_of_few : length (b ∷ bytes) ≤ MAX_INSERT → first_len (map (λ c. (c, looks)) (b ∷ bytes)) ≡ length (b ∷ bytes)
  first_of_few few = ap first_of (pieces_of_run ∙ last_piece run [] 0 (omega arith) few)

  pub first_of_many : MAX_INSERT < length (b ∷ bytes) → first_len (map (λ c. (c, looks)) (b ∷ bytes)) ≡ MAX_INSERT
  first_of_many many = ap first_of (pieces_of_run ∙ full_piece run [] 0 many) ∙ length-take-le MAX_INSERT (b ∷ bytes) (omega (arith, many))

-- so has the first of bytes of equal looks
pub first_len_of : (looks : Looks) (bytes : List ℕ) (len : ℕ) → bytes ≢ [] → (length bytes ≤ MAX_INSERT → len ≡ length bytes)
    → (MAX_INSERT < length bytes → len ≡ MAX_INSERT) → first_len (map (λ c. (c, looks)) bytes) ≡ len
first_len_of looks [] len some few many = absurd (some refl)
first_len_of looks (b ∷ bytes) len some few many =
    elim (cases_Bool (nat_le (length (b ∷ bytes)) MAX_INSERT)) [
      | inl le ↦ let le = leb-true _ _ le in first_of_few looks b bytes le ∙ sym (few le)
      | inr gt ↦ let gt = leb-false _ _ gt in first_of_many looks b bytes gt ∙ sym (many gt)
    ]

-- what was cut last is put in as any stretch is
pub recalled : (t : TextState) (pos : ℕ) (why : EditRefusal) (sent : List (List ℕ))
    → EditsSending t (insertion pos t.last_stretch) (Err why) t sent sent → EditsSending t (recalling pos) (Err why) t sent sent
recalled t pos (Whole why) sent sends = sends
recalled t pos (Partial done why) sent sends = sends
