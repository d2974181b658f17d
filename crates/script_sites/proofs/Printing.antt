-- Answers that are printed part by part.
use Rattle.std.proofs.Common.{◌≡◌, ℕ, ◌+◌, ◌-◌, ◌<◌, ◌≤◌, List, [], ◌∷◌, ◌++◌, length, take, drop, get_or, Result, Err, Option, sym, ap, subst, ◌∙◌, append_assoc, append-nil, add-one, drop-cons, take-append-drop, arith}
use Rattle.std.specs.Prelude.{slice_get, Bool, Some, IsErrAnd}
use Rattle.std.specs.Io.KnownBytes.{Appends}
use Rattle.std.proofs.KnownBytes.{Appends-trans}
use Rattle.std.proofs.lemmas.List.{take_more, get_or-drop, length-drop, length-take}
use Rattle.std.proofs.lemmas.Option.{get_or_from_slice_get, slice_get_within}
use Rattle.hex.specs.Hex.{encode_lower}
use Rattle.desk_texts.proofs.HexDigits.{encode_lower-append}
use Rattle.looks.specs.declared.refusal.Refusal.{Refusal}
use Rattle.script_sites.specs.Answers.{send_line, send_lines}
use Rattle.script_sites.specs.Writing.{WritesBytes}
use Rattle.script_sites.proofs.WriteLemmas.{writes_after, writes_stopped}

-- a list at an index: what is before it, the element there, and what is after it
split_at : {A : Type 0} (xs : List A) (i : ℕ) (d : A) → i < length xs → xs ≡ take i xs ++ (get_or xs i d ∷ drop (i + 1) xs)
split_at xs i d lt = rw add-one (sym (take-append-drop i xs) ∙ ap (λ (ys : List _). take i xs ++ ys) (drop-cons xs i d lt))

-- the hex of one stretch more
pub hex_more : (a b c : Option (List ℕ)) (done stretch : List ℕ) → Appends a b (encode_lower done) → Appends b c (encode_lower stretch) → Appends a c (encode_lower (done ++ stretch))
hex_more a b c done stretch p q = subst (Appends a c) (sym (encode_lower-append done stretch)) (Appends-trans a b c (encode_lower done) (encode_lower stretch) p q)

-- a fault in the hex of a stretch
pub hex_stopped : (result : Result (Unit {0}) Refusal) (failed : Bool) (why : Refusal) (old mid new : Option (List ℕ)) (done stretch after : List ℕ) → Appends old mid (encode_lower done)
    → IsErrAnd result (λ e. e ≡ why) → WritesBytes (Err why) failed mid new (encode_lower stretch) → WritesBytes result failed old new (encode_lower (done ++ (stretch ++ after)))
hex_stopped result failed why old mid new done stretch after p e w =
    let whole = encode_lower-append done (stretch ++ after) ∙ ap (λ (r : List ℕ). encode_lower done ++ r) (encode_lower-append stretch after) in
    subst (WritesBytes result failed old new) (sym whole) (writes_after result failed old mid new (encode_lower done) (encode_lower stretch ++ encode_lower after) p (writes_stopped result failed why mid new (encode_lower stretch) (encode_lower after) e w))

send_lines-append : (k : ℕ) (xs ys : List (List ℕ)) → send_lines k (xs ++ ys) ≡ send_lines k xs ++ send_lines (k + length xs) ys
send_lines-append k [] ys =
    let same : k ≡ k + 0 = omega arith in
    ap (λ (j : ℕ). send_lines j ys) same
send_lines-append k (x ∷ xs) ys =
    let place : k + 1 + length xs ≡ k + length (x ∷ xs) = omega arith in
    ap (λ (lines : List ℕ). send_line (k + 1) x ++ lines) (send_lines-append (k + 1) xs ys ∙ ap (λ (j : ℕ). send_lines (k + 1) xs ++ send_lines j ys) place)
    ∙ sym (append_assoc (send_line (k + 1) x) (send_lines (k + 1) xs) (send_lines (k + length (x ∷ xs)) ys))

-- the lines up to an index, the line there, and the lines after it
send_lines-split : (from index : ℕ) (m : List ℕ) (before after : List (List ℕ)) → from + length before ≡ index → send_lines from (before ++ (m ∷ after)) ≡ send_lines from before ++ (send_line (index + 1) m ++ send_lines (index + 1) after)
send_lines-split from index m before after e =
    send_lines-append from before (m ∷ after) ∙ ap (λ (j : ℕ). send_lines from before ++ send_lines j (m ∷ after)) e

-- a message among those that were sent after the first `from`
record IsSentAfter (sent : List (List ℕ)) (from index : ℕ) (m : List ℕ) : Type 0 where
  within : index - from < length (drop from sent)
  read : get_or (drop from sent) (index - from) m ≡ m
  number : from + length (take (index - from) (drop from sent)) ≡ index

sent_after : (sent : List (List ℕ)) (from index : ℕ) (m : List ℕ) → from ≤ index → slice_get sent index ≡ Some m → IsSentAfter sent from index m
sent_after sent from index m le is =
    let rest = drop from sent in
    let place : from + (index - from) ≡ index = omega arith in
    let in_sent = slice_get_within sent index m is in
    let long : index - from < length rest = omega (arith, length-drop from sent, in_sent, place) in
    record {
      within = long;
      read = get_or-drop from sent (index - from) m ∙ ap (λ (i : ℕ). get_or sent i m) place ∙ get_or_from_slice_get sent index m m is;
      number = omega (arith, length-take (index - from) rest, long, place);
    }

-- the line of one message more, where so many were sent before these
pub sends_more : (a b c : Option (List ℕ)) (sent : List (List ℕ)) (so_many from index : ℕ) (m : List ℕ) → from ≤ index → slice_get sent index ≡ Some m
    → Appends a b (send_lines (so_many + from) (take (index - from) (drop from sent))) → Appends b c (send_line (so_many + index + 1) m)
    → Appends a c (send_lines (so_many + from) (take (index + 1 - from) (drop from sent)))
sends_more a b c sent so_many from index m le is p q =
    let rest = drop from sent in
    let before = take (index - from) rest in
    let at = sent_after sent from index m le is in
    let number : so_many + from + length before ≡ so_many + index = omega (arith, at.number) in
    let one_more : index + 1 - from ≡ index - from + 1 = omega arith in
    let more : take (index + 1 - from) rest ≡ before ++ m ∷ [] = ap (λ (i : ℕ). take i rest) one_more ∙ take_more rest (index - from) m at.within ∙ ap (λ (x : List ℕ). before ++ x ∷ []) at.read in
    let lines = ap (send_lines (so_many + from)) more ∙ send_lines-split (so_many + from) (so_many + index) m before [] number ∙ ap (λ (l : List ℕ). send_lines (so_many + from) before ++ l) (append-nil (send_line (so_many + index + 1) m)) in
    subst (Appends a c) (sym lines) (Appends-trans a b c (send_lines (so_many + from) before) (send_line (so_many + index + 1) m) p q)

-- a fault in the line of a message
pub sends_stopped : (result : Result (Unit {0}) Refusal) (failed : Bool) (why : Refusal) (old mid new : Option (List ℕ)) (sent : List (List ℕ)) (so_many from index : ℕ) (m : List ℕ) → from ≤ index → slice_get sent index ≡ Some m
    → Appends old mid (send_lines (so_many + from) (take (index - from) (drop from sent))) → IsErrAnd result (λ e. e ≡ why) → WritesBytes (Err why) failed mid new (send_line (so_many + index + 1) m) → WritesBytes result failed old new (send_lines (so_many + from) (drop from sent))
sends_stopped result failed why old mid new sent so_many from index m le is p e w =
    let rest = drop from sent in
    let before = take (index - from) rest in
    let after = drop (index - from + 1) rest in
    let at = sent_after sent from index m le is in
    let number : so_many + from + length before ≡ so_many + index = omega (arith, at.number) in
    let split : rest ≡ before ++ (m ∷ after) = split_at rest (index - from) m at.within ∙ ap (λ (x : List ℕ). before ++ (x ∷ after)) at.read in
    let lines = ap (send_lines (so_many + from)) split ∙ send_lines-split (so_many + from) (so_many + index) m before after number in
    let line = send_line (so_many + index + 1) m in
    let later = send_lines (so_many + index + 1) after in
    subst (WritesBytes result failed old new) (sym lines) (writes_after result failed old mid new (send_lines (so_many + from) before) (line ++ later) p (writes_stopped result failed why mid new line later e w))
