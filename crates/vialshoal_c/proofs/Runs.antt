-- A run of characters that look alike, followed to its end.
use Rattle.std.proofs.Common.{◌≡◌, ◌≢◌, ℕ, ◌+◌, ◌<◌, ◌≤◌, List, [], ◌∷◌, ◌++◌, length, drop, slice_get, inl, inr, refl, sym, ap, subst, arith}
use Rattle.std.specs.Prelude.{IfSome}
use Rattle.std.proofs.lemmas.Bool.{cases_lt}
use Rattle.std.proofs.lemmas.List.{length-drop}
use Rattle.std.proofs.lemmas.Option.{slice_get_within}
use Rattle.looks.specs.declared.looks.Looks.{Looks}
use Rattle.char_files.specs.declared.character.Char.{Char}
use Rattle.taken_text.specs.Rows.{RowSeen, chars_from, chars_of_rows}
use Rattle.texts.proofs.Walking.{next_at}
use Rattle.vialshoal_c.specs.Asking.{IsRun}

-- the characters up to here look alike, and these are left
pub record IsFollowed (shown left : List Char) (pos end : ℕ) (looks : Looks) : Type 0 where
  pub next : left ≡ drop end shown
  pub begins : pos < end
  pub ends : end ≤ length shown
  pub same : (k : ℕ) → pos ≤ k → k < end → IfSome (slice_get shown k) (λ c. c.looks ≡ looks)

module _ (shown : List Char) (pos : ℕ) (looks : Looks) where
  pub run_begins : (left : List Char) → left ≡ drop (pos + 1) shown → pos < length shown
      → IfSome (slice_get shown pos) (λ c. c.looks ≡ looks) → IsFollowed shown left pos (pos + 1) looks
  run_begins left is within here = record {
    next = is;
    begins = omega arith;
    ends = omega (arith, within);
    same = λ k from to.
        let at : pos ≡ k = omega (arith, from, to) in
        subst (λ (n : ℕ). IfSome (slice_get shown n) (λ c. c.looks ≡ looks)) at here;
  }

  run_goes_on : (c : Char) (left : List Char) (end : ℕ) → IsFollowed shown (c ∷ left) pos end looks → c.looks ≡ looks
      → IsFollowed shown left pos (end + 1) looks
  run_goes_on c left end is same =
      let (here, rest) = next_at end shown left c (sym is.next) in
      record {
        next = sym rest;
        begins = omega (arith, is.begins);
        ends = omega (arith, slice_get_within shown end c here);
        same = λ k from to.
            elim (cases_lt k end) [
              | inl lt ↦ is.same k from lt
              | inr le ↦
                  let at : end ≡ k = omega (arith, le, to) in
                  subst (λ (n : ℕ). IfSome (slice_get shown n) (λ d. d.looks ≡ looks)) at
                  (subst (λ o. IfSome o (λ d. d.looks ≡ looks)) (sym here) same)
            ];
      }

  run_stops : (c : Char) (left : List Char) (end : ℕ) → IsFollowed shown (c ∷ left) pos end looks → c.looks ≢ looks
      → IsRun shown pos end looks
  run_stops c left end is other =
      let (here, rest) = next_at end shown left c (sym is.next) in
      record {
        begins = is.begins;
        ends = is.ends;
        same = is.same;
        longest = λ more. subst (λ o. IfSome o (λ d. d.looks ≢ looks)) (sym here) other;
      }

  followed_over : (site off : ℕ) (bytes : List ℕ) (left : List Char) (end : ℕ)
      → IsFollowed shown (chars_from site off looks bytes ++ left) pos end looks
      → IsFollowed shown left pos (end + length bytes) looks
  followed_over site off [] left end is =
      let same : end ≡ end + 0 = omega arith in subst (λ (n : ℕ). IsFollowed shown left pos n looks) same is
  followed_over site off (b ∷ bytes) left end is =
      let further : end + 1 + length bytes ≡ end + length (b ∷ bytes) = omega arith in
      subst (λ (n : ℕ). IsFollowed shown left pos n looks) further
      (followed_over site (off + 1) bytes left (end + 1)
      (run_goes_on (record { name = record { site = site; off = off }; byte = b; looks = looks })
      (chars_from site (off + 1) looks bytes ++ left) end is refl))

  stops_at : (site off : ℕ) (others : Looks) (bytes : List ℕ) (left : List Char) (end : ℕ) → 0 < length bytes
      → IsFollowed shown (chars_from site off others bytes ++ left) pos end looks → others ≢ looks → IsRun shown pos end looks
  stops_at site off others [] left end some is differ = absurd (omega (arith, some))
  stops_at site off others (b ∷ bytes) left end some is differ =
      run_stops (record { name = record { site = site; off = off }; byte = b; looks = others })
      (chars_from site (off + 1) others bytes ++ left) end is differ

  module _ (row : RowSeen) (rest left : List RowSeen) (end : ℕ) (next : left ≡ row ∷ rest)
      (is : IsFollowed shown (chars_of_rows left) pos end looks) where
    from_row : IsFollowed shown (chars_of_rows (row ∷ rest)) pos end looks
    from_row = subst (λ (rows : List RowSeen). IsFollowed shown (chars_of_rows rows) pos end looks) next is

    -- a row that looks so is followed to its end
    pub run_goes_over : row.looks ≡ looks → IsFollowed shown (chars_of_rows rest) pos (end + length row.bytes) looks
    run_goes_over same =
        followed_over row.site row.off row.bytes (chars_of_rows rest) end
        (subst (λ (l : Looks). IsFollowed shown (chars_from row.site row.off l row.bytes ++ chars_of_rows rest) pos end looks) same
        from_row)

    pub run_stops_before : 0 < length row.bytes → row.looks ≢ looks → IsRun shown pos end looks
    run_stops_before some differ = stops_at row.site row.off row.looks row.bytes (chars_of_rows rest) end some from_row differ

  pub run_ends : (end : ℕ) → IsFollowed shown [] pos end looks → IsRun shown pos end looks
  run_ends end is = record {
    begins = is.begins;
    ends = is.ends;
    same = is.same;
    longest = λ more. absurd (omega (arith, more, ap length is.next, length-drop end shown));
  }
