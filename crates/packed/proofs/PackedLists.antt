-- Lists of operations that are packed one after the other.
use Rattle.std.proofs.Common.{◌≡◌, ℕ, ◌+◌, ◌-◌, ◌<◌, List, [], ◌∷◌, ◌++◌, length, refl, sym, ap, subst, ◌∙◌, append_assoc, length-append, arith}
use Rattle.std.proofs.lemmas.List.{append-nil, nil_from_length}
use Rattle.operations.specs.Operation.{Operation}
use Rattle.packed.specs.Told.{Told, nothing_told, told, told_on, told_after, expected, CaretsAreInFiles}
use Rattle.packed.specs.Spelling.{time_lead, edit_spelling, packed_next, packed, packed_after}
use Rattle.packed.specs.Reading.{CanBeNext}
use Rattle.packed.specs.Laws.{CanFollow, AddsAtTheEnd, NextIsDetermined, BeginningsAreHistories, NoneArePackedAlike}
use Rattle.packed.proofs.ReadEdits.{edit_starts}
use Rattle.packed.proofs.ReadNext.{one_packing}
use Rattle.packed.proofs.Told.{carets_on, no_carets}

packs_on : (ops : List Operation) (t : Told) (op : Operation)
    → packed_after t (ops ++ op ∷ []) ≡ packed_after t ops ++ packed_next (told_after t ops) op
packs_on [] t op = append-nil (packed_next t op)
packs_on (o ∷ ops) t op =
    ap (λ (l : List ℕ). packed_next t o ++ l) (packs_on ops (told_on t o) op)
    ∙ sym (append_assoc (packed_next t o) (packed_after (told_on t o) ops) (packed_next (told_after (told_on t o) ops) op))

tells_on : (ops : List Operation) (t : Told) (op : Operation) → told_after t (ops ++ op ∷ []) ≡ told_on (told_after t ops) op
tells_on [] t op = refl
tells_on (o ∷ ops) t op = tells_on ops (told_on t o) op

pub adds_at_the_end : AddsAtTheEnd
adds_at_the_end ops op = (packs_on ops nothing_told op, tells_on ops nothing_told op)

carets_after : (ops : List Operation) (t : Told) (text : ℕ) → CanFollow t text ops → CaretsAreInFiles t
    → CaretsAreInFiles (told_after t ops)
carets_after [] t text follow below = below
carets_after (o ∷ ops) t text follow below =
    carets_after ops (told_on t o) text follow.1 (carets_on t o follow.0.spelled below)

pub determined : (t : Told) (text : ℕ) (a b : Operation) (x y : List ℕ) → CaretsAreInFiles t → CanBeNext t text a
    → CanBeNext t text b → packed_next t a ++ x ≡ packed_next t b ++ y → (a ≡ b) × (x ≡ y)
determined t text a b x y below can_a can_b e =
    one_packing t a b x y below can_a.next can_a.spelled can_b.next can_b.spelled (can_a.on_text ∙ sym can_b.on_text) e

pub next_is_determined : NextIsDetermined
next_is_determined text ops a b x y follow can_a can_b e =
    determined (told ops) text a b x y (carets_after ops nothing_told text follow no_carets) can_a can_b e

-- an operation has a byte at least
pub some_bytes : (t : Told) (op : Operation) → 0 < length (packed_next t op)
some_bytes t op =
    let e = expected t op.site in
    let time : List ℕ = time_lead t.last op.site (op.stamp - (e.stamp + 1)) in
    let s = edit_starts t.in_chunk e op.kind [] in
    omega (arith, length-append time (edit_spelling t.in_chunk e op.kind), ap length s.is, ap length (append-nil (edit_spelling t.in_chunk e op.kind)))

begins : (ops all : List Operation) (t : Told) (text : ℕ) (rest : List ℕ) → CaretsAreInFiles t → CanFollow t text ops
    → CanFollow t text all → packed_after t all ≡ packed_after t ops ++ rest
    → (more : List Operation) × (all ≡ ops ++ more)
begins [] all t text rest below of_ops of_all e = (all, refl)
begins (a ∷ ops) [] t text rest below of_ops of_all e =
    let some = some_bytes t a in
    absurd (omega (
      arith,
      ap length e,
      length-append (packed_next t a ++ packed_after (told_on t a) ops) rest,
      length-append (packed_next t a) (packed_after (told_on t a) ops),
    ))
begins (a ∷ ops) (b ∷ all) t text rest below of_ops of_all e =
    let same = determined t text a b (packed_after (told_on t a) ops ++ rest) (packed_after (told_on t b) all) below
    of_ops.0 of_all.0 (sym (append_assoc (packed_next t a) (packed_after (told_on t a) ops) rest) ∙ sym e) in
    let follow : CanFollow (told_on t a) text all = subst (λ (o : Operation). CanFollow (told_on t o) text all) (sym same.0) of_all.1 in
    let after : packed_after (told_on t a) all ≡ packed_after (told_on t a) ops ++ rest =
    ap (λ (o : Operation). packed_after (told_on t o) all) same.0 ∙ sym same.1 in
    let (more, is) = begins ops all (told_on t a) text rest (carets_on t a of_ops.0.spelled below) of_ops.1 follow after in
    (more, ap (λ (o : Operation). o ∷ all) (sym same.0) ∙ ap (λ (l : List Operation). a ∷ l) is)

pub beginnings_are_histories : BeginningsAreHistories
beginnings_are_histories text ops all rest of_ops of_all e =
    begins ops all nothing_told text rest no_carets of_ops of_all e

pub none_are_packed_alike : NoneArePackedAlike
none_are_packed_alike text ops others of_ops of_others e =
    let (more, is) = beginnings_are_histories text ops others [] of_ops of_others (sym e ∙ sym (append-nil (packed ops))) in
    let (less, back) = beginnings_are_histories text others ops [] of_others of_ops (e ∙ sym (append-nil (packed others))) in
    let none : more ≡ [] = nil_from_length more (omega (arith, ap length is, ap length back, length-append ops more, length-append others less)) in
    sym (is ∙ ap (λ (l : List Operation). ops ++ l) none ∙ append-nil ops)
