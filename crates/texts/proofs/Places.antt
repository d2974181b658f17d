-- A place is one of those that the text has.
use Rattle.std.proofs.Common.{ℕ, ◌≤◌, ◌==◌, ◌&&◌, List, [], ◌∷◌, length, Bool, true, false, cond, ap, ◌∙◌, arith}
use Rattle.std.specs.List.{filter}
use Rattle.std.proofs.lemmas.List.Sums.{length-filter}
use Rattle.std.proofs.lemmas.List.{length-map}
use Rattle.char_files.specs.CharName.{CharName}
use Rattle.char_files.specs.declared.character.Char.{Char}
use Rattle.char_files.specs.declared.name.Anchor.TheVariants.{At}
use Rattle.tree_order.specs.Shown.{IsPlace, IsShown, is_visible, up_to}
use Rattle.tree_order.proofs.OneText.{one_order}
use Rattle.texts.specs.Text.{IsText}
use Rattle.texts.specs.TextState.{TextState, shown_of}
use Rattle.texts.proofs.Chars.{shows_the_definition}

-- as many pass up to a name as pass in all, or fewer
few : (passes : CharName → Bool) (name : CharName) (order : List CharName)
    → length (filter passes (up_to name order)) ≤ length (filter passes order)
few passes name [] = omega arith
few passes name (d ∷ order) = go (passes d) (d.site == name.site && d.off == name.off) (few passes name order)
  where
    go : (here same : Bool) → length (filter passes (up_to name order)) ≤ length (filter passes order)
        → length (cond here (d ∷ filter passes (cond same [] (up_to name order)))
        (filter passes (cond same [] (up_to name order))))
        ≤ length (cond here (d ∷ filter passes order) (filter passes order))
    go true true rest = omega arith
    go true false rest = omega (arith, rest)
    go false true rest = omega arith
    go false false rest = rest

pub place_within : (t : TextState) → IsText t → (name : CharName) (n : ℕ) → IsPlace t.operations (At name) n
    → n ≤ length (shown_of t)
place_within t is name n (order, in_order, at) =
    let defined : IsShown t.operations (shown_of t) = shows_the_definition t is in
    omega (
      arith,
      at,
      length-filter (is_visible t.operations) (up_to name order),
      few (is_visible t.operations) name order,
      ap length (defined.visible
          ∙ ap (filter (is_visible t.operations)) (one_order t.operations is.good defined.order order defined.in_order in_order)),
      length-map (shown_of t) (λ (s : Char). s.name),
    )
