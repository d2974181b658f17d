use Rattle.std.proofs.Common.{◌≡◌, ◌-◌, List, refl, ap, sym, subst, ◌∙◌, arith}
use Rattle.char_files.specs.CharName.{CharName}
use Rattle.operations.specs.NameSet.{IsIn}
use Rattle.tree_order.specs.Registers.{Atom}
use Rattle.piece_list.specs.Spelled.{spelled}
use Rattle.piece_list.proofs.ChangedNames.{range}
use Rattle.piece_list.proofs.HiddenNames.{one_hidden}
use Rattle.piece_list.proofs.list.PieceList.has_hidden_in.Goals as goal

pub returns-then-hidden : goal.returns-then-hidden
returns-then-hidden c =
    let name : CharName = c.in-Some.name in
    let ks : List Atom = spelled c.args.self.now.items in
    let site : name.site ≡ c.args.range.site =
    ap (λ (d : CharName). d.site) c.in-Some.ensures.value ∙ c.site.ensures in
    let off : name.off ≡ c.loop-at.at = ap (λ (d : CharName). d.off) c.in-Some.ensures.value in
    let held : IsIn c.args.range name =
    (site, omega (arith, c.loop-at.invariant.low), omega (arith, c.loop-at.invariant.after, c.loop-at-test.true)) in (
      λ hidden. one_hidden ks c.args.range name (c.requires name (0, c.args.range, omega arith, refl, held)) held
          (λ k has named.
          let own : IsIn (range name.site name.off (c.hidden_from.result.1 - name.off)) name =
          (refl, omega arith, omega (arith, c.hidden_from.ensures.some)) in
          c.hidden_from.ensures.alike k has
          (subst (IsIn (range name.site name.off (c.hidden_from.result.1 - name.off))) (sym named) own)
          ∙ c.if-hidden.true),
      λ hidden. refl,
    )
