-- Operations are handed in, one after the other.
use Rattle.std.proofs.Common.{◌≡◌, ◌≢◌, ℕ, ◌+◌, ◌≤◌, Bool, true, false, ◌||◌, inl, inr, ◌⊎◌, List, [], ◌∷◌, length}
use Rattle.std.proofs.Common.{◌-◌, ◌++◌, take, drop, ◌∙◌, Result, Ok, Err, ap, sym, subst, refl, length-append, arith}
use Rattle.std.specs.Prelude.{AllPairs, reverse}
use Rattle.std.proofs.lemmas.List.{length-drop, length-map, length-reverse, reverse-append, take-append-drop}
use Rattle.std.proofs.Math.Seq.{drop-append_seam}
use Rattle.looks.specs.declared.refusal.Refusal.{Refusal}
use Rattle.looks.specs.declared.refusal.Refusal.TheVariants.{Malformed, OutOfMemory, WrongText}
use Rattle.operations.specs.Letters.{letters}
use Rattle.operations.specs.Operation.{Operation}
use Rattle.operations.specs.declared.typing.Typing.{Typing}
use Rattle.packed.specs.Told.{Told, nothing_begun}
use Rattle.chunks.specs.Chunks.{BeginsAsChunk, IsChunkOf, IsNoChunk, Placed, added, added_after, head, operations_of, told_by}
use Rattle.chunks.specs.declared.TheConstants.{MAX_CHUNK}
use Rattle.chunks.proofs.OneChunk.{some_added}
use Rattle.chunks.proofs.TypedRows.{length_letters}
use Rattle.texts.specs.Take.{TakesOp, TakesOpShort}
use Rattle.texts.specs.Taking.{HasTakenAll}
use Rattle.texts.specs.Text.{IsText}
use Rattle.texts.specs.TextState.{TextState}
use Rattle.texts.specs.declared.took.Took.{Took}
use Rattle.text_chunks.specs.Parts.{CountsHaveRoom, HandsInOne, HasGrown}
use Rattle.text_chunks.specs.Typed.{AreHandedIn, AreTypedFirst, CountsAreLow}
use Rattle.text_chunks.specs.Unpacking.{HandsIn, HandsInAll, Unpacks, UnpacksShort, counted_in, nothing_unpacked, refusal_after}
use Rattle.text_chunks.specs.declared.unpacked.UnpackRefusal.{UnpackRefusal}
use Rattle.text_chunks.specs.declared.unpacked.UnpackRefusal.TheVariants.{Whole}
use Rattle.text_chunks.specs.declared.unpacked.Unpacked.{Unpacked}
use Rattle.text_chunks.proofs.HandedRows.{row_handed, with_taken}

-- ---- a chunk has no more operations than bytes

few_from : (t : Told) (ps : List Placed) → length ps ≤ length (added_after t ps)
few_from t [] = omega arith
few_from t (p ∷ ps) =
    omega (
      arith,
      length-append (added t p) (added_after (told_by t p) ps),
      some_added t p,
      few_from (told_by t p) ps,
    )

pub few : (text : ℕ) (ps : List Placed) (bytes : List ℕ) (ops : List Operation) → IsChunkOf text ps bytes
    → operations_of ps ≡ ops → length ops ≤ MAX_CHUNK
few text ps bytes ops is are =
    omega (
      arith,
      ap length (sym are),
      length-map ps (λ (p : Placed). p.op),
      few_from nothing_begun ps,
      length-append (head text) (added_after nothing_begun ps),
      ap length is.spelled,
      is.short,
    )

-- ---- one is handed in

pub one_handed : (c more : Unpacked) (t new : TextState) (op : Operation) (took : Took)
    → TakesOp t op (Ok took) new ⊎ TakesOpShort t op (Ok took) new → more ≡ counted_in c t new took
    → HandsInOne c t op (Ok more) new
one_handed c more t new op took (inl takes) is = (false, Ok took, takes, ap Ok is)
one_handed c more t new op took (inr takes) is = (true, Ok took, takes, ap Ok is)

pub none_handed : (c : Unpacked) (t new : TextState) (op : Operation) (why : Refusal)
    → TakesOp t op (Err why) new ⊎ TakesOpShort t op (Err why) new → HandsInOne c t op (Err why) new
none_handed c t new op why (inl takes) = (false, Err why, takes, refl)
none_handed c t new op why (inr takes) = (true, Err why, takes, refl)

-- ---- so many were handed in

-- there is room to count more
pub has_room : (done : ℕ) (c : Unpacked) (left : ℕ) → CountsAreLow done c left → CountsHaveRoom c
has_room done c left low = record {
  taken = omega (arith, low.taken, low.few);
  known = omega (arith, low.known, low.few);
  waiting = omega (arith, low.waiting, low.few);
}

pub low_counts : (start : TextState) (ops : List Operation) (done : ℕ) (c : Unpacked) (now : TextState) (left : List Operation)
    (n : ℕ) → AreHandedIn start ops done c now left → length ops ≤ MAX_CHUNK → n ≡ length left → CountsAreLow done c n
low_counts start ops done c now left n s short many = record {
  few = omega (arith, s.counted, short, many);
  taken = s.taken;
  known = s.known;
  waiting = s.waiting;
}

pub none_yet : (start : TextState) (ops left : List Operation) → left ≡ ops → AreHandedIn start ops 0 nothing_unpacked start left
none_yet start ops left same = record {
  was = false;
  counted = omega (arith, ap length same);
  taken = omega arith;
  known = omega arith;
  waiting = omega arith;
  on = λ short result new hands.
      subst (λ (l : List Operation). HandsInAll start l short result new) same hands;
}

module _ (start : TextState) (ops : List Operation) (done : ℕ) (c : Unpacked) (now : TextState) (op : Operation)
    (left : List Operation) (s : AreHandedIn start ops done c now (op ∷ left)) where
  -- one more was
  pub one_more : (more : Unpacked) (mid : TextState) → HandsInOne c now op (Ok more) mid → HasGrown c more
      → AreHandedIn start ops (done + 1) more mid left
  one_more more mid (one, Ok how, takes, is) grown =
      let same : more ≡ counted_in c now mid how = cc in
      record {
        was = s.was || one;
        counted = omega (arith, s.counted);
        taken = omega (arith, s.taken, grown.taken);
        known = omega (arith, s.known, grown.known);
        waiting = omega (arith, s.waiting, grown.waiting);
        on = λ short result new hands. s.on short result new (
          one,
          Ok how,
          mid,
          takes,
          subst (λ (x : Unpacked). HandsIn (done + 1) x (s.was || one) mid left short result new) same hands,
        );
      }
  one_more more mid (one, Err why, takes, is) grown = absurd cc

  -- it was refused
  pub one_refused : (why : Refusal) (mid : TextState) → HandsInOne c now op (Err why) mid
      → (short : Bool) × HandsInAll start ops short (Err (refusal_after done why)) mid
  one_refused why mid (one, Ok how, takes, is) = absurd cc
  one_refused why mid (one, Err reason, takes, is) =
      let same : why ≡ reason = cc in (
        s.was || one,
        s.on (s.was || one) (Err (refusal_after done why)) mid (
          one,
          Err reason,
          mid,
          takes,
          (refl, ap (λ (x : Refusal). Err (refusal_after done x)) same, refl),
        ),
      )

-- a row of letters was
pub row_more : (start : TextState) (ops : List Operation) (done : ℕ) (c : Unpacked) (now new : TextState)
    (left : List Operation) (typing : Typing) (bytes : List ℕ) (rest : List Operation) → IsText now → now.waiting_room ≡ []
    → AreTypedFirst left typing bytes rest → HasTakenAll now (letters typing bytes) new
    → AllPairs (λ a b. a ≢ b) new.operations → AreHandedIn start ops done c now left
    → AreHandedIn start ops (done + length bytes) (with_taken c (length bytes)) new rest
row_more start ops done c now new left typing bytes rest is none first taken once s =
    let many : length left ≡ length bytes + length rest =
    ap length first.parts ∙ length-append (letters typing bytes) rest
    ∙ ap (λ (n : ℕ). n + length rest) (length_letters typing bytes) in
    record {
      was = s.was;
      counted = omega (arith, s.counted, many);
      taken = omega (arith, s.taken);
      known = omega (arith, s.known);
      waiting = omega (arith, s.waiting);
      on = λ short result last hands. s.on short result last
          (subst (λ (l : List Operation). HandsIn done c s.was now l short result last) (sym first.parts)
          (row_handed bytes typing now new done c s.was rest short result last is none taken once hands));
    }

-- of operations in reverse, the first of which are so many letters, these are left
pub rest_left : (left : List Operation) (typing : Typing) (bytes : List ℕ) (rest : List Operation)
    → AreTypedFirst (reverse left) typing bytes rest → reverse (take (length left - length bytes) left) ≡ rest
rest_left left typing bytes rest first =
    let m : ℕ = length left - length bytes in
    let many : length (reverse left) ≡ length bytes + length rest =
    ap length first.parts ∙ length-append (letters typing bytes) rest
    ∙ ap (λ (n : ℕ). n + length rest) (length_letters typing bytes) in
    let whole : length (reverse left) ≡ length left = length-reverse left in
    let parts : reverse left ≡ reverse (drop m left) ++ reverse (take m left) =
    ap reverse (sym (take-append-drop m left)) ∙ reverse-append (take m left) (drop m left) in
    let front : length (reverse (drop m left)) ≡ length bytes =
    length-reverse (drop m left) ∙ length-drop m left ∙ omega (arith, many, whole) in
    sym (drop-append_seam (reverse (drop m left)) (reverse (take m left)))
    ∙ ap (λ (n : ℕ). drop n (reverse (drop m left) ++ reverse (take m left))) (front ∙ sym (length_letters typing bytes))
    ∙ ap (drop (length (letters typing bytes))) (sym parts ∙ first.parts)
    ∙ drop-append_seam (letters typing bytes) rest

-- all were
pub all_handed : (start : TextState) (ops : List Operation) (done : ℕ) (c : Unpacked) (now : TextState)
    → AreHandedIn start ops done c now [] → (short : Bool) × HandsInAll start ops short (Ok c) now
all_handed start ops done c now s = (s.was, s.on s.was (Ok c) now (refl, refl, refl))

-- ---- a chunk was read

-- it couldn't be
pub unread : (t : TextState) (bytes : List ℕ) (why : Refusal) → (why ≡ Malformed → IsNoChunk bytes)
    → (why ≡ OutOfMemory → BeginsAsChunk bytes) → (why ≡ Malformed) ⊎ (why ≡ OutOfMemory)
    → Unpacks t bytes (Err (Whole why)) t ⊎ UnpacksShort t bytes (Err (Whole why)) t
unread t bytes why none begins (inl bad) = inl (inl (none bad, (ap (λ (x : Refusal). Err (Whole x)) bad, refl)))
unread t bytes why none begins (inr short) = inr (inl (begins short, (ap (λ (x : Refusal). Err (Whole x)) short, refl)))

-- it is another text's
pub of_another : (t : TextState) (bytes : List ℕ) (text : ℕ) (ps : List Placed) → IsChunkOf text ps bytes
    → text ≢ t.text → Unpacks t bytes (Err (Whole WrongText)) t
of_another t bytes text ps is other = inr (text, ps, is, inl (other, (refl, refl)))

-- its operations were handed in
pub handed : (t new : TextState) (bytes : List ℕ) (text : ℕ) (ps : List Placed) (ops : List Operation)
    (result : Result Unpacked UnpackRefusal) → IsChunkOf text ps bytes → operations_of ps ≡ ops → text ≡ t.text
    → (short : Bool) × HandsInAll t ops short result new
    → Unpacks t bytes result new ⊎ UnpacksShort t bytes result new
handed t new bytes text ps ops result is are same (false, hands) =
    inl (inr (text, ps, is, inr (same, subst (λ (l : List Operation). HandsInAll t l false result new) (sym are) hands)))
handed t new bytes text ps ops result is are same (true, hands) =
    inr (inr (
      ps,
      subst (λ (n : ℕ). IsChunkOf n ps bytes) same is,
      subst (λ (l : List Operation). HandsInAll t l true result new) (sym are) hands,
    ))
