-- A chunk is of one text and one list of operations.
use Rattle.std.proofs.Common.{◌≡◌, ℕ, ◌-◌, ◌^◌, ◌<◌, true, false, inl, inr, List, [], ◌∷◌, ◌++◌, length, Some}
use Rattle.std.proofs.Common.{refl, sym, ap, subst, ◌∙◌, append_assoc, length-append, arith}
use Rattle.std.specs.Int.{w16}
use Rattle.std.proofs.lemmas.Bool.{cases_Bool}
use Rattle.std.proofs.lemmas.List.{append_cancel_left}
use Rattle.byte_fields.specs.Fields.{number_spelling, positive_at}
use Rattle.byte_fields.proofs.Readers.{some_is, positive_reads, wide16}
use Rattle.operations.specs.Operation.{Operation}
use Rattle.packed.specs.Told.{Told, nothing_begun, has_begun, expected}
use Rattle.packed.specs.Spelling.{packed_next}
use Rattle.packed.specs.Reading.{CanBeNext}
use Rattle.packed.proofs.Told.{carets_begun}
use Rattle.packed.proofs.PackedLists.{determined, some_bytes}
use Rattle.chunks.specs.declared.reading.Begin.{Begin}
use Rattle.chunks.specs.Chunks.{Placed, begin_lead, begun_with, begun, added, told_by, added_after, chunk_tag, CanCome, CanAllCome, IsChunkOf}
use Rattle.chunks.specs.Laws.{OneChunk}
use Rattle.chunks.specs.Parts.{placed, begin_fields, begun_so, IsOpen, IsFirst}
use Rattle.chunks.proofs.Firsts.{begin_for, first_parts, later_parts, first_told, first_is_first}
use Rattle.chunks.proofs.Opening.{begun_here, begun_first, nothing_is_open, open_after}

same_placed : (a b : Placed) → a.op ≡ b.op → a.len ≡ b.len → a ≡ b
same_placed a b ops lens = ap (λ (x : Operation). placed x a.len) ops ∙ ap (λ (n : ℕ). placed b.op n) lens

module _ (t : Told) (text : ℕ) (a b : Placed) (x y : List ℕ) (is_open : IsOpen t) (can_a : CanCome t text a)
    (can_b : CanCome t text b) (e : added t a ++ x ≡ added t b ++ y) where
  once_first : has_begun t a.op.site ≡ false → (a ≡ b) × (x ≡ y)
  once_first none =
      let bytes : List ℕ = begin_fields (begin_for a) ++ (packed_next (begun_with t a) a.op ++ x) in
      let here : added t a ++ x ≡ 15 ∷ bytes = first_parts t a x none in
      let of_a : IsFirst t text (15 ∷ bytes) a x = record { can = can_a; parts = sym here } in
      let of_b : IsFirst t text (15 ∷ bytes) b y = record { can = can_b; parts = sym here ∙ e } in
      let none_b = first_is_first t text bytes b y is_open of_b in
      let same : ◌≡◌ {A = Begin × List ℕ} (begin_for a, packed_next (begun_with t a) a.op ++ x)
      (begin_for b, packed_next (begun_with t b) b.op ++ y) =
      some_is _ _ (sym (first_told t text bytes a x of_a none) ∙ first_told t text bytes b y of_b none_b) in
      let begins : begin_for a ≡ begin_for b = ap (λ (p : Begin × List ℕ). p.0) same in
      let told : begun_with t b ≡ begun_with t a = ap (begun_so t) (sym begins) in
      let ops = determined (begun_with t a) text a.op b.op x y
      (carets_begun t a.op.site (a.op.seq - 1) (a.op.stamp - 1) a.len is_open.carets)
      (subst (λ (u : Told). CanBeNext u text a.op) (begun_first t a none) can_a.next)
      (subst (λ (u : Told). CanBeNext u text b.op) (begun_first t b none_b ∙ told) can_b.next)
      (ap (λ (p : Begin × List ℕ). p.1) same ∙ ap (λ (u : Told). packed_next u b.op ++ y) told) in
      (same_placed a b ops.0 (ap (λ (n : Begin). n.len) begins), ops.1)

  both_begun : has_begun t a.op.site ≡ true → has_begun t b.op.site ≡ true
  both_begun h =
      elim (cases_Bool (has_begun t b.op.site)) [
        | inl k ↦ k
        | inr none ↦
            let bytes : List ℕ = begin_fields (begin_for b) ++ (packed_next (begun_with t b) b.op ++ y) in
            let of_a : IsFirst t text (15 ∷ bytes) a x = record { can = can_a; parts = sym (first_parts t b y none) ∙ sym e } in
            absurd (differ (sym h ∙ first_is_first t text bytes a x is_open of_a))
      ]
    where
      differ : true ≡ false → ⊥
      differ e = cc

  once_later : has_begun t a.op.site ≡ true → (a ≡ b) × (x ≡ y)
  once_later h =
      let k = both_begun h in
      let next_a = subst (λ (u : Told). CanBeNext u text a.op) (begun_here t a h) can_a.next in
      let next_b = subst (λ (u : Told). CanBeNext u text b.op) (begun_here t b k) can_b.next in
      let ops = determined t text a.op b.op x y is_open.carets next_a next_b
      (ap (λ (l : List ℕ). l ++ x) (sym (later_parts t a h)) ∙ e ∙ ap (λ (l : List ℕ). l ++ y) (later_parts t b k)) in
      let len_a : a.len ≡ (expected t a.op.site).len = can_a.len ∙ ap (λ (u : Told). (expected u a.op.site).len) (begun_here t a h) in
      let len_b : b.len ≡ (expected t b.op.site).len = can_b.len ∙ ap (λ (u : Told). (expected u b.op.site).len) (begun_here t b k) in
      (same_placed a b ops.0 (len_a ∙ ap (λ (o : Operation). (expected t o.site).len) ops.0 ∙ sym len_b), ops.1)

  -- in a chunk no operation's bytes begin another's
  pub added_once : (a ≡ b) × (x ≡ y)
  added_once =
      elim (cases_Bool (has_begun t a.op.site)) [
        | inl h ↦ once_later h
        | inr none ↦ once_first none
      ]

-- an operation has a byte at least
pub some_added : (t : Told) (p : Placed) → 0 < length (added t p)
some_added t p =
    omega (arith, some_bytes (begun t p) p.op, length-append (begin_lead t p) (packed_next (begun t p) p.op))

pub no_more : (t : Told) (p : Placed) (ps : List Placed) → added_after t (p ∷ ps) ≡ [] → ⊥
no_more t p ps e =
    omega (arith, ap length e, some_added t p, length-append (added t p) (added_after (told_by t p) ps))

lists_once : (ps qs : List Placed) (t : Told) (text : ℕ) → IsOpen t → CanAllCome t text ps → CanAllCome t text qs
    → added_after t ps ≡ added_after t qs → ps ≡ qs
lists_once [] [] t text is_open come_p come_q e = refl
lists_once [] (q ∷ qs) t text is_open come_p come_q e = absurd (no_more t q qs (sym e))
lists_once (p ∷ ps) [] t text is_open come_p come_q e = absurd (no_more t p ps e)
lists_once (p ∷ ps) (q ∷ qs) t text is_open come_p come_q e =
    let same = added_once t text p q (added_after (told_by t p) ps) (added_after (told_by t q) qs) is_open come_p.0 come_q.0 e in
    let rest = lists_once ps qs (told_by t p) text (open_after t text p is_open come_p.0) come_p.1
    (subst (λ (r : Placed). CanAllCome (told_by t r) text qs) (sym same.0) come_q.1)
    (same.1 ∙ ap (λ (r : Placed). added_after (told_by t r) qs) (sym same.0)) in
    ap (λ (r : Placed). r ∷ ps) same.0 ∙ ap (λ (l : List Placed). q ∷ l) rest

-- what stands after the tag
pub after_tag : (text : ℕ) (ps : List Placed) (bytes rest : List ℕ) → IsChunkOf text ps bytes → bytes ≡ chunk_tag ++ rest
    → positive_at w16 rest ≡ Some (text, added_after nothing_begun ps)
after_tag text ps bytes rest is e =
    let added : List ℕ = added_after nothing_begun ps in
    let after : rest ≡ number_spelling w16 text ++ added =
    append_cancel_left (chunk_tag) rest (number_spelling w16 text ++ added)
    (sym e ∙ is.spelled ∙ append_assoc (chunk_tag) (number_spelling w16 text) added) in
    ap (positive_at w16) after ∙ (positive_reads w16 (2 ^ 16) wide16).again text added is.text_number

pub one_chunk : OneChunk
one_chunk bytes text other ps qs is_p is_q =
    let rest : List ℕ = number_spelling w16 text ++ added_after nothing_begun ps in
    let tagged : bytes ≡ chunk_tag ++ rest =
    is_p.spelled ∙ append_assoc (chunk_tag) (number_spelling w16 text) (added_after nothing_begun ps) in
    let same : ◌≡◌ {A = ℕ × List ℕ} (text, added_after nothing_begun ps) (other, added_after nothing_begun qs) =
    some_is _ _ (sym (after_tag text ps bytes rest is_p tagged) ∙ after_tag other qs bytes rest is_q tagged) in
    let texts : text ≡ other = ap (λ (p : ℕ × List ℕ). p.0) same in (
      texts,
      lists_once ps qs nothing_begun text nothing_is_open is_p.come
          (subst (λ (n : ℕ). CanAllCome nothing_begun n qs) (sym texts) is_q.come) (ap (λ (p : ℕ × List ℕ). p.1) same),
    )
