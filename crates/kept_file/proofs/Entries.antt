-- Messages that follow one another, read from left to right.
use Rattle.std.proofs.Common.{◌≡◌, ℕ, ◌≤◌, List, [], ◌∷◌, ◌++◌, length, Some, refl}
use Rattle.std.proofs.Common.{sym, ap, ◌∙◌, append_assoc, arith}
use Rattle.std.specs.Prelude.{All}
use Rattle.std.specs.List.{flat_map}
use Rattle.std.proofs.lemmas.List.Elements.{All-head, All-tail}
use Rattle.operations.specs.Operation.{Operation}
use Rattle.operations.specs.Spelling.{HasSpelling, spelling}
use Rattle.operations.proofs.ReadMessages.{same_operation}
use Rattle.byte_fields.proofs.Readers.{some_is}
use Rattle.texts.specs.SiteFiles.{entry_spelling}
use Rattle.kept_file.specs.SiteParts.{IsShort, message_at, message_spelling}
use Rattle.kept_file.proofs.Lengths.{spelling_fits}
use Rattle.kept_file.proofs.SiteFields.{message_reads}

-- a message, and what follows it, are told by the bytes
message_told : (a b x y : List ℕ) → IsShort a → IsShort b → message_spelling a ++ x ≡ message_spelling b ++ y
    → (a ≡ b) × (x ≡ y)
message_told a b x y a_is b_is e =
    let read : ◌≡◌ {A = List ℕ × List ℕ} (a, x) (b, y) =
    some_is _ _ (sym (message_reads.again a x a_is) ∙ ap message_at e ∙ message_reads.again b y b_is) in
    (ap (λ (p : List ℕ × List ℕ). p.0) read, ap (λ (p : List ℕ × List ℕ). p.1) read)

-- the first of these messages, read again
pub entry_again : (op : Operation) (rest : List ℕ) → HasSpelling op
    → message_at (entry_spelling op ++ rest) ≡ Some (spelling op, rest)
entry_again op rest is = message_reads.again (spelling op) rest (spelling_fits op is)

-- an operation, and what follows its message, are told by the bytes
pub entry_told : (a b : Operation) (x y : List ℕ) → HasSpelling a → HasSpelling b
    → entry_spelling a ++ x ≡ entry_spelling b ++ y → (a ≡ b) × (x ≡ y)
entry_told a b x y a_is b_is e =
    let (same, rest) = message_told (spelling a) (spelling b) x y (spelling_fits a a_is) (spelling_fits b b_is) e in
    (same_operation a b a_is b_is same, rest)

-- whatever the bytes tell one after the other
module _ {A : Type 0} (spelled : A → List ℕ) (Fits : A → Type 0)
    (told : (a b : A) (x y : List ℕ) → Fits a → Fits b → spelled a ++ x ≡ spelled b ++ y → (a ≡ b) × (x ≡ y)) where
  all_told : (done all : List A) (rest : List ℕ) → All Fits done → All Fits all
      → length done ≤ length all → flat_map spelled done ++ rest ≡ flat_map spelled all
      → (todo : List A) × (all ≡ done ++ todo) × (rest ≡ flat_map spelled todo)
  all_told [] all rest done_are all_are few e = (all, refl, e)
  all_told (a ∷ done) [] rest done_are all_are few e = absurd (omega (arith, few))
  all_told (a ∷ done) (b ∷ all) rest done_are all_are few e =
      let of_done : List ℕ = flat_map spelled done in
      let of_all : List ℕ = flat_map spelled all in
      let split : spelled a ++ (of_done ++ rest) ≡ spelled b ++ of_all =
      sym (append_assoc (spelled a) of_done rest) ∙ e in
      let one = told a b (of_done ++ rest) of_all (All-head Fits a done done_are) (All-head Fits b all all_are) split in
      let others = all_told done all rest (All-tail Fits a done done_are) (All-tail Fits b all all_are) (omega (arith, few)) one.1 in (
        others.0,
        ap (λ (x : A). x ∷ all) (sym one.0) ∙ ap (λ (xs : List A). a ∷ xs) others.1,
        others.2,
      )

-- messages that were read are the first of any messages that the bytes are
pub messages_told : (done messages : List (List ℕ)) (rest : List ℕ) → All IsShort done → All IsShort messages
    → length done ≤ length messages → flat_map message_spelling done ++ rest ≡ flat_map message_spelling messages
    → (todo : List (List ℕ)) × (messages ≡ done ++ todo) × (rest ≡ flat_map message_spelling todo)
messages_told = all_told message_spelling IsShort message_told

-- and so are those of operations
pub entries_told : (done ops : List Operation) (rest : List ℕ) → All HasSpelling done → All HasSpelling ops
    → length done ≤ length ops → flat_map entry_spelling done ++ rest ≡ flat_map entry_spelling ops
    → (todo : List Operation) × (ops ≡ done ++ todo) × (rest ≡ flat_map entry_spelling todo)
entries_told = all_told entry_spelling HasSpelling entry_told
