-- What is shown with one Insert more that is stamped above all others.
use Rattle.std.proofs.Common.{◌≡◌, List, [], ◌++◌, sym, ap, subst, ◌∙◌}
use Rattle.std.specs.Prelude.{count_by}
use Rattle.std.proofs.lemmas.List.{append-nil}
use Rattle.char_files.specs.CharName.{CharName}
use Rattle.tree_order.specs.Order.{IsOrder}
use Rattle.tree_order.specs.Sequential.{LatestIsShownAtPlace}
use Rattle.tree_order.specs.Shown.{is_visible}
use Rattle.tree_order.proofs.Latest.{latest_gap}
use Rattle.tree_order.proofs.ShownWithRun.{shown_gains_run}
use Rattle.tree_order.proofs.UpTo.{AtCause, parts_at_cause, place-up_to_anchor}

pub shown_at_place : LatestIsShownAtPlace
shown_at_place ops i cause shown n one latest at was (order, is, e) =
    let p : AtCause order cause = parts_at_cause ops i one cause at order is in
    let same : p.before ≡ p.before ++ [] = sym (append-nil p.before) in
    let is' : IsOrder ops (p.before ++ p.after) = subst (IsOrder ops) p.parts is in
    let count : n ≡ count_by (is_visible ops) (p.before ++ []) =
    e ∙ place-up_to_anchor ops order cause ∙ ap (count_by (is_visible ops)) (sym p.is_front ∙ same) in
    shown_gains_run ops i p.before [] p.after shown n one
    (subst (λ (xs : List CharName). IsOrder ops (xs ++ p.after)) same is')
    (latest_gap ops i cause p.before p.after latest at is' p.ends) was count
