-- The lines of what was taken in beyond fronts, an operation more at a time.
use Rattle.std.proofs.Common.{◌≡◌, ℕ, zero, suc, ◌+◌, ◌<◌, ◌≤◌, List, [], ◌∷◌, ◌++◌, length, take, Bool, true, false, inl, inr}
use Rattle.std.proofs.Common.{refl, ap, subst, ◌∙◌, append-nil, arith}
use Rattle.std.specs.Prelude.{Option, Some, slice_get, IfSome, if◌then◌else◌}
use Rattle.std.proofs.lemmas.Bool.{cond-false}
use Rattle.std.proofs.lemmas.Bool.Decides.{nat_tests}
use Rattle.std.proofs.lemmas.Grind.{flat_map-append}
use Rattle.std.proofs.lemmas.List.{take_more}
use Rattle.std.proofs.lemmas.List.Elements.{filter-append}
use Rattle.std.proofs.lemmas.Option.{get_or_from_slice_get, slice_get_cases, slice_get_within}
use Rattle.operations.specs.Operation.{Operation}
use Rattle.texts.specs.Fronts.{beyond, front_in, is_beyond}
use Rattle.texts.specs.declared.front.Front.{Front}
use Rattle.machine.specs.Since.{message_line, message_lines}

one_line : (fronts : List Front) (op : Operation) (test : Bool) → is_beyond fronts op ≡ test
    → message_lines (beyond fronts (op ∷ [])) ≡ (if test then message_line op else [])
one_line fronts op true is = rw is (append-nil (message_line op))
one_line fronts op false is = rw is refl

-- the lines with the operation at a place more, which may be beyond the fronts
lines_more : (fronts : List Front) (ops : List Operation) (place : ℕ) (op : Operation) (test : Bool)
    → slice_get ops place ≡ Some op → is_beyond fronts op ≡ test
    → message_lines (beyond fronts (take (place + 1) ops))
    ≡ message_lines (beyond fronts (take place ops)) ++ (if test then message_line op else [])
lines_more fronts ops place op test at is =
    let before = take place ops in
    ap (λ (xs : List Operation). message_lines (beyond fronts xs))
    (take_more ops place op (slice_get_within ops place op at)
    ∙ ap (λ (o : Operation). before ++ o ∷ []) (get_or_from_slice_get ops place op op at))
    ∙ ap message_lines (filter-append (λ (o : Operation). is_beyond fronts o) before (op ∷ []))
    ∙ flat_map-append message_line (beyond fronts before) (beyond fronts (op ∷ []))
    ∙ ap (λ (lines : List ℕ). message_lines (beyond fronts before) ++ lines) (one_line fronts op test is)

-- none where none of the first operations is beyond the fronts
pub lines_none : (fronts : List Front) (ops : List Operation) (n : ℕ)
    → ((k : ℕ) → k < n → IfSome (slice_get ops k) (λ op. is_beyond fronts op ≡ false))
    → message_lines (beyond fronts (take n ops)) ≡ []
lines_none fronts ops zero none = refl
lines_none fronts [] (suc n) none = refl
lines_none fronts (op ∷ ops) (suc n) none =
    ap message_lines (cond-false (is_beyond fronts op) _ _ (none 0 (omega arith)))
    ∙ lines_none fronts ops n (λ k less. none (suc k) (omega arith))

lies_beyond : (fronts : List Front) (op : Operation) (front seq : ℕ) → front ≡ front_in fronts op.site → seq ≡ op.seq
    → front < seq → is_beyond fronts op ≡ true
lies_beyond fronts op front seq is_front is_seq below =
    let less : front_in fronts op.site < op.seq = omega (arith, is_front, is_seq, below) in
    grind (arith, nat_tests)

lies_before : (fronts : List Front) (op : Operation) (front seq : ℕ) → front ≡ front_in fronts op.site → seq ≡ op.seq
    → seq ≤ front → is_beyond fronts op ≡ false
lies_before fronts op front seq is_front is_seq above =
    let less : op.seq ≤ front_in fronts op.site = omega (arith, is_front, is_seq, above) in
    grind (arith, nat_tests)

-- these are the site and the seq of the operation
abbrev pub AreItsSiteAndSeq : (site seq : ℕ) → Operation → Type 0
AreItsSiteAndSeq site seq op = (site ≡ op.site) × (seq ≡ op.seq)

module _ (fronts : List Front) (ops : List Operation) (place site seq front : ℕ)
    (told : IfSome (slice_get ops place) (AreItsSiteAndSeq site seq)) (is : front ≡ front_in fronts site) where
  -- the lines with the operation at a place more, which is beyond the fronts, as its site and seq tell
  pub lines_beyond : (op : Operation) → slice_get ops place ≡ Some op → front < seq
      → message_lines (beyond fronts (take (place + 1) ops))
      ≡ message_lines (beyond fronts (take place ops)) ++ message_line op
  lines_beyond op here below =
      let own : AreItsSiteAndSeq site seq op =
      subst (λ (o : Option Operation). IfSome o (AreItsSiteAndSeq site seq)) here told in
      lines_more fronts ops place op true here
      (lies_beyond fronts op front seq (is ∙ ap (front_in fronts) own.0) own.1 below)

  -- it isn't, and the lines are the same
  pub lines_up_to : place < length ops → seq ≤ front
      → message_lines (beyond fronts (take (place + 1) ops)) ≡ message_lines (beyond fronts (take place ops))
  lines_up_to within above =
      elim (slice_get_cases ops place).1 [
        | inl (op, below, here, read) ↦
            let own : AreItsSiteAndSeq site seq op =
            subst (λ (o : Option Operation). IfSome o (AreItsSiteAndSeq site seq)) here told in
            lines_more fronts ops place op false here
            (lies_before fronts op front seq (is ∙ ap (front_in fronts) own.0) own.1 above)
            ∙ append-nil (message_lines (beyond fronts (take place ops)))
        | inr (past, none) ↦ absurd (omega (arith, within, past))
      ]
