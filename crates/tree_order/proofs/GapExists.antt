-- The order of a good set has a gap for one Insert more.
use Rattle.std.proofs.Common.{◌≡◌, inl, inr, List, [], ◌∷◌, ◌++◌, refl, sym, ap, subst}
use Rattle.std.proofs.Common.{◌∙◌, append_assoc, All, Contains}
use Rattle.std.proofs.lemmas.Bool.{cases_Bool}
use Rattle.std.proofs.lemmas.List.Elements.{All-nil, All-cons, Contains-append_right}
use Rattle.looks.specs.Key.{is_below}
use Rattle.looks.specs.declared.key.Key.{Key}
use Rattle.char_files.specs.CharName.{CharName}
use Rattle.operations.specs.Operation.{Operation, key_of}
use Rattle.tree_order.specs.Insertion.{IsGap, IsAbove, BeginsNotAbove}
use Rattle.tree_order.specs.Insertion.{OrderGainsRun, run_of}
use Rattle.tree_order.specs.Tree.{IsChar}
use Rattle.tree_order.specs.Order.{IsOrder}
use Rattle.tree_order.proofs.Gap.{into_gap}
use Rattle.tree_order.proofs.OneText.{one_order}
use Rattle.tree_order.proofs.UpTo.{AtCause, parts_at_cause}
use Rattle.tree_order.proofs.Sorted.{Contains-head, Contains-tail}

-- the longest stretch of greater keys that begins a list, and the rest
record Segment (ops : List Operation) (key : Key) (chars : List CharName) : Type 0 where
  skipped : List CharName
  after : List CharName
  parts : chars ≡ skipped ++ after
  greater : All (IsAbove ops key) skipped
  stops : BeginsNotAbove ops key after

stretch_of : (ops : List Operation) (key : Key) (chars : List CharName)
    → ((c : CharName) → Contains chars c → IsChar ops c) → Segment ops key chars
stretch_of ops key [] all = record {
  skipped = [];
  after = [];
  parts = refl;
  greater = All-nil (IsAbove ops key);
  stops = tt;
}
stretch_of ops key (c ∷ chars) all =
    let (j, is) = all c (Contains-head c chars) in
    elim (cases_Bool (is_below key (key_of j))) [
      | inl above ↦
          let rest : Segment ops key chars =
          stretch_of ops key chars (λ d h. all d (Contains-tail c chars d h)) in
          record {
            skipped = c ∷ rest.skipped;
            after = rest.after;
            parts = ap (λ (xs : List CharName). c ∷ xs) rest.parts;
            greater = All-cons (IsAbove ops key) c rest.skipped (key_of j, (j, is, refl), above) rest.greater;
            stops = rest.stops;
          }
      | inr not_above ↦ record {
        skipped = [];
        after = c ∷ chars;
        parts = refl;
        greater = All-nil (IsAbove ops key);
        stops = (key_of j, (j, is, refl), not_above);
      }
    ]

pub gains_run : OrderGainsRun
gains_run ops i cause order larger one at is is' =
    let first : AtCause order cause = parts_at_cause ops i one cause at order is in
    let old : (c : CharName) → Contains first.after c → IsChar ops c =
    λ c h. (is.each c).0 (subst (λ (xs : List CharName). Contains xs c) (sym first.parts)
    (Contains-append_right first.before first.after c h)) in
    let then : Segment ops (key_of i) first.after = stretch_of ops (key_of i) first.after old in
    let parts : order ≡ first.before ++ then.skipped ++ then.after =
    first.parts ∙ ap (λ (xs : List CharName). first.before ++ xs) then.parts
    ∙ sym (append_assoc first.before then.skipped then.after) in
    let gap : IsGap ops i first.before then.skipped then.after = record {
      cause = cause;
      of_insert = at;
      at_cause = first.ends;
      greater = then.greater;
      stops = then.stops;
    } in
    let new : IsOrder (ops ++ i ∷ []) (first.before ++ then.skipped ++ run_of i ++ then.after) =
    into_gap ops i first.before then.skipped then.after one (subst (IsOrder ops) parts is) gap in
    record {
      before = first.before;
      skipped = then.skipped;
      after = then.after;
      gap = gap;
      old = parts;
      new =
          one_order (ops ++ i ∷ []) one.larger larger
          (first.before ++ then.skipped ++ run_of i ++ then.after) is' new;
    }
