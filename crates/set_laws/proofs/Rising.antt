-- Stamps rise along a site's file: of two of its characters the later one's Insert has no smaller stamp.
use Rattle.std.proofs.Common.{◌≡◌, ℕ, suc, ◌+◌, ◌-◌, ◌<◌, ◌≤◌, inl, inr, List, sym, subst, ◌∙◌, arith}
use Rattle.std.proofs.lemmas.Bool.{cases_lt}
use Rattle.char_files.specs.CharName.{CharName}
use Rattle.operations.specs.Operation.{Operation}
use Rattle.tree_order.specs.Good.{Good, file_before}
use Rattle.tree_order.specs.Tree.{IsInsertOf}
use Rattle.tree_order.proofs.Files.{file_before_grows, in_stretch}
use Rattle.set_laws.specs.Sets.{AreIdentified}
use Rattle.set_laws.proofs.Fronts.{own_stamps_rise}

module _ (ops : List Operation) (good : Good ops) (a b : CharName) (same : a.site ≡ b.site) (le : a.off ≤ b.off)
    (i j : Operation) (first : IsInsertOf ops a i) (second : IsInsertOf ops b j) where
  -- both Inserts are of one site
  own : i.site ≡ j.site
  own =
      let s = in_stretch ops good a i first in
      let t = in_stretch ops good b j second in
      sym s.own ∙ same ∙ t.own

  -- the Insert of the earlier character isn't after that of the later one
  not_after : i.seq ≤ j.seq
  not_after =
      let s = in_stretch ops good a i first in
      let t = in_stretch ops good b j second in
      let from : file_before ops j.site i.seq ≤ a.off =
      subst (λ (n : ℕ). file_before ops n i.seq ≤ a.off) own s.from in
      let below = t.below in
      elim (cases_lt j.seq i.seq) [
        | inl lt ↦ let grows = file_before_grows ops j.site (suc j.seq) i.seq (omega arith) in
            absurd (omega arith)
        | inr ge ↦ ge
      ]

  -- so its stamp is no greater
  pub inserts_rise : AreIdentified ops → i.stamp ≤ j.stamp
  inserts_rise known =
      let before = not_after in
      let far : i.seq + (j.seq - i.seq) ≡ j.seq = omega arith in
      own_stamps_rise ops good known (j.seq - i.seq) i j first.held second.held own far
