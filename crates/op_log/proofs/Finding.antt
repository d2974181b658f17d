-- The first entry past an offset: it is looked for in a window of the entries.
use Rattle.std.proofs.Common.{◌≡◌, ℕ, ◌+◌, ◌-◌, ◌<◌, ◌≤◌, inl, inr, true, false, leb, List, length, get_or, drop}
use Rattle.std.proofs.Common.{ap, ◌∙◌, arith}
use Rattle.std.specs.List.{slice_range}
use Rattle.std.specs.List.Sorted.{IsNonDecreasingBy, IsPartitionPoint}
use Rattle.std.proofs.lemmas.Bool.{cases_lt, leb-true, leb-false}
use Rattle.std.proofs.lemmas.List.{get_or-take, get_or-drop, length-drop, length-take-le}
use Rattle.std.proofs.lemmas.List.Sorted.{IsNonDecreasingBy-take, IsNonDecreasingBy-drop}
use Rattle.std.proofs.lemmas.Option.{slice_get-get_or, get_or_from_slice_get}
use Rattle.op_log.specs.declared.site_log.Entry.{Entry}
use Rattle.op_log.specs.Tables.{EndBy, EndsPast, IsFirstPast}

-- the entries below the point end at the offset at most, the others after it
abbrev pub IsPoint : List Entry → ℕ → ℕ → Type 0
IsPoint entries off at = IsPartitionPoint (λ (e : Entry). leb e.end off ≡ true)
    (λ (e : Entry). leb e.end off ≡ false) entries at

-- a window: all entries before it end at the offset at most, and the one after it past it
module _ (entries : List Entry) (off from to : ℕ) (le : from ≤ to) (low : EndBy entries off from)
    (high : EndsPast entries off to) where
  abbrev pub window : List Entry
  window = slice_range entries from to

  window_at : (k : ℕ) (d : Entry) → from + k < to → get_or window k d ≡ get_or entries (from + k) d
  window_at k d lt =
      get_or-take (to - from) (drop from entries) k d (omega arith) ∙ get_or-drop from entries k d

  window_long : length window ≡ to - from
  window_long =
      length-take-le (to - from) (drop from entries) (omega (arith, length-drop from entries, high.0))

  pub window_rises : IsNonDecreasingBy (λ (e : Entry). e.end) entries
      → IsNonDecreasingBy (λ (e : Entry). e.end) window
  window_rises rising =
      IsNonDecreasingBy-take (λ (e : Entry). e.end) (to - from) (drop from entries)
      (IsNonDecreasingBy-drop (λ (e : Entry). e.end) from entries rising)

  module _ (after : ℕ) (most : after ≤ length window) (point : IsPoint window off after) (d : Entry) where
    below : (k : ℕ) (e : Entry) → k < from + after → (get_or entries k e).end ≤ off
    below k e lt = elim (cases_lt k from) [
      | inl before ↦ low k e before
      | inr inside ↦ (
          let here : from + (k - from) < to = omega (arith, window_long) in
          let ends : (get_or window (k - from) e).end ≤ off =
          leb-true _ _ (point.0 (k - from) e (omega arith) (omega arith)) in
          let back : from + (k - from) ≡ k = omega arith in
          omega (
            arith,
            ends,
            ap (λ (x : Entry). x.end) (window_at (k - from) e here),
            ap (λ (i : ℕ). (get_or entries i e).end) back,
          ))
    ]

    past : off < (get_or entries (from + after) d).end
    past = elim (cases_lt after (to - from)) [
      | inl inside ↦ (
          let ends : off < (get_or window after d).end =
          leb-false _ _ (point.1 after d (omega arith) (omega (arith, window_long))) in
          omega (arith, ends, ap (λ (x : Entry). x.end) (window_at after d (omega arith))))
      | inr end ↦ (
          let at : from + after ≡ to = omega (arith, window_long) in
          omega (arith, high.1 d, ap (λ (i : ℕ). (get_or entries i d).end) at))
    ]

    -- the window's point is the first entry past the offset
    pub first_past : IsFirstPast entries off (get_or entries (from + after) d)
    first_past = record {
      at = from + after;
      there = slice_get-get_or entries (from + after) d (omega (arith, high.0, window_long));
      past = past;
      before = λ k e less is.
          omega (arith, below k e less, ap (λ (x : Entry). x.end) (get_or_from_slice_get entries k e e is));
    }
