-- Rows that quiet changes leave.
use Rattle.std.proofs.Common.{◌≡◌, ℕ, zero, suc, ◌+◌, ◌-◌, ◌<◌, ◌≤◌, List, ◌∷◌, ◌++◌, length, take, drop, get_or}
use Rattle.std.proofs.Common.{refl, sym, ap, subst, ◌∙◌, inl, inr, arith, length-append, drop-cons}
use Rattle.std.proofs.lemmas.Bool.{cases_lt}
use Rattle.std.proofs.lemmas.List.{get_or-take, length-take, take-append-drop, take-take}
use Rattle.line_drawing.specs.declared.drawing.TheConstants.{LINE_END}
use Rattle.line_drawing.specs.Lines.{lines, ends_in, end_of}
use Rattle.line_drawing.specs.Rows.{Row, row_of, rows_from}
use Rattle.line_drawing.specs.Laws.{IsOnLine}
use Rattle.line_drawing.proofs.Lines.{joined, one_more, own_line}
use Rattle.line_drawing.proofs.Stands.{lies_on_one, stands_between}
use Rattle.text_frames.proofs.Lines.{last_ends}

ends-append : (a rest : List ℕ) → ends_in (a ++ LINE_END ∷ rest) ≡ suc (ends_in a + ends_in rest)
ends-append a rest =
    omega (
      arith,
      ap length (joined a rest),
      length-append (lines a) (lines rest),
      one_more (a ++ LINE_END ∷ rest),
      one_more a,
      one_more rest,
    )

-- bytes at an end of a line
at_end : (bytes : List ℕ) (last : ℕ) → last < length bytes → get_or bytes last 0 ≡ LINE_END
    → bytes ≡ take last bytes ++ LINE_END ∷ drop (suc last) bytes
at_end bytes last lt is =
    sym (take-append-drop last bytes)
    ∙ ap (λ (l : List ℕ). take last bytes ++ l)
    (drop-cons bytes last 0 lt ∙ ap (λ (b : ℕ). b ∷ drop (suc last) bytes) is)

-- rows before an end of a line are those of the bytes before it
rows_own : (a rest : List ℕ) (width k n : ℕ) → k + n ≤ length (lines a)
    → rows_from (a ++ LINE_END ∷ rest) width k n ≡ rows_from a width k n
rows_own a rest width k zero le = refl
rows_own a rest width k (suc n) le =
    ap (λ (r : Row). r ∷ rows_from (a ++ LINE_END ∷ rest) width (suc k) n)
    (own_line a rest width k (omega (arith, le)))
    ∙ ap (λ (rs : List Row). row_of a width k ∷ rs) (rows_own a rest width (suc k) n (omega (arith, le)))

-- so many rows from this line on are full: the last of them ends here, with an end of a line
pub record AreFull (bytes : List ℕ) (k n last : ℕ) : Type 0 where
  pub some : 0 < n
  pub ends : last ≡ end_of bytes (k + (n - 1))
  pub within : last < length bytes

module _ (bytes : List ℕ) (k n last : ℕ) (full : AreFull bytes k n last) where
  line : ℕ
  line = k + (n - 1)

  there : k + (n - 1) < length (lines bytes)
  there = elim (cases_lt (k + (n - 1)) (length (lines bytes))) [
    | inl lt ↦ lt
    | inr le ↦
        let end : end_of bytes (k + (n - 1)) ≡ length bytes = last_ends bytes (k + (n - 1)) (omega (arith, le)) in
        let is : last ≡ end_of bytes (k + (n - 1)) = full.ends in
        let within : last < length bytes = full.within in
        absurd (omega (arith, end, is, within))
  ]

  pub ends_there : get_or bytes last 0 ≡ LINE_END
  ends_there =
      subst (λ (e : ℕ). e < length bytes → get_or bytes e 0 ≡ LINE_END) (sym full.ends)
      (stands_between bytes (k + (n - 1)) there).0.after full.within

  pub lines_before : k + n ≡ suc (ends_in (take last bytes))
  lines_before =
      let is : last ≡ end_of bytes (k + (n - 1)) = full.ends in
      let some : 0 < n = full.some in
      let within : last < length bytes = full.within in
      let on : IsOnLine bytes last (k + (n - 1)) =
      record { there = there; from = omega (arith, is); to = omega (arith, is) } in
      let same : k + (n - 1) ≡ ends_in (take last bytes) =
      (lies_on_one bytes last (omega (arith, within))).1 (k + (n - 1)) on in
      omega (arith, same, some)

  -- a place on the first of these lines stands before the end of the last
  pub place_before_end : (p : ℕ) → p ≤ length bytes → k ≡ ends_in (take p bytes) → p ≤ last
  place_before_end p le first = elim (cases_lt last p) [
    | inl lt ↦
        let long : length (take p bytes) ≡ p = omega (arith, length-take p bytes, le) in
        let at : get_or (take p bytes) last 0 ≡ LINE_END = get_or-take p bytes last 0 lt ∙ ends_there in
        let parts : take p bytes ≡ take last (take p bytes) ++ LINE_END ∷ drop (suc last) (take p bytes) =
        at_end (take p bytes) last (omega (arith, long, lt)) at in
        let before : ends_in (take last (take p bytes)) ≡ ends_in (take last bytes) =
        ap ends_in (take-take last p bytes (omega (arith, lt))) in
        let some : 0 < n = full.some in
        absurd (omega (
          arith,
          first,
          ap ends_in parts,
          ends-append (take last (take p bytes)) (drop (suc last) (take p bytes)),
          before,
          lines_before,
          some,
        ))
    | inr ge ↦ ge
  ]

  -- full rows hang on the bytes up to the end of the last
  pub full_rows_stay : (other : List ℕ) (width : ℕ) → take (suc last) other ≡ take (suc last) bytes
      → last < length other → rows_from other width k n ≡ rows_from bytes width k n
  full_rows_stay other width same lt =
      let front : take last other ≡ take last bytes =
      sym (take-take last (suc last) other (omega arith)) ∙ ap (take last) same
      ∙ take-take last (suc last) bytes (omega arith) in
      let at : get_or other last 0 ≡ LINE_END =
      sym (get_or-take (suc last) other last 0 (omega arith))
      ∙ ap (λ (l : List ℕ). get_or l last 0) same ∙ get_or-take (suc last) bytes last 0 (omega arith)
      ∙ ends_there in
      let few : k + n ≤ length (lines (take last bytes)) = omega (arith, lines_before, one_more (take last bytes)) in
      ap (λ (l : List ℕ). rows_from l width k n) (at_end other last lt at)
      ∙ ap (λ (l : List ℕ). rows_from (l ++ LINE_END ∷ drop (suc last) other) width k n) front
      ∙ rows_own (take last bytes) (drop (suc last) other) width k n few
      ∙ sym (rows_own (take last bytes) (drop (suc last) bytes) width k n few)
      ∙ ap (λ (l : List ℕ). rows_from l width k n) (sym (at_end bytes last full.within ends_there))
