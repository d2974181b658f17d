use Rattle.std.proofs.Common.{◌≡◌, ◌-◌, List, [], ◌∷◌, refl, sym, ap, subst, ◌∙◌, not, zero, suc, arith}
use Rattle.char_files.specs.CharName.{CharName}
use Rattle.operations.specs.NameSet.{Range, IsAmong, IsIn}
use Rattle.operations.specs.Operation.{Operation}
use Rattle.tree_order.specs.Shown.{is_visible}
use Rattle.tree_order.specs.Tree.{IsChar}
use Rattle.piece_list.specs.Changing.{AreHere}
use Rattle.piece_list.specs.Spelled.{spelled}
use Rattle.taken_text.specs.Taken.{TakenSeen}
use Rattle.taken_text.proofs.Alike.{range}
use Rattle.taken_text.proofs.Spelling.{all_tell}
use Rattle.taken_text.proofs.Visible.{chars_are_here, visible_unless_hidden}
use Rattle.taken_text.proofs.taken_text.TakenText.first_alike.Goals as goal
use Rattle.taken_text.proofs.taken_text.TakenText.first_alike.Goals.{After-self}

-- the name of one range
of_one : (r : Range) (c : CharName) → IsAmong (r ∷ []) c → IsIn r c
of_one r c (zero, s, lt, is, held) = subst (λ (x : Range). IsIn x c) (sym is) held
of_one r c (suc k, s, lt, is, held) = absurd (omega (arith, lt))

-- the names are here
here : (c : goal.After-self) → AreHere (c.args.range ∷ []) (spelled c.self.inside.pieces.items)
here c =
    let t = c.self.inside in
    let atoms = spelled t.pieces.items in
    let ops : t.log.ops ≡ c.args.self.now.operations = ap (λ (s : TakenSeen). s.operations) c.self.view_is in
    chars_are_here t.log.ops atoms c.self.invariant.taken.atoms
    (all_tell t.log.ops c.self.invariant.taken.good atoms c.self.invariant.taken.atoms.registers)
    (c.args.range ∷ []) (λ name among.
    subst (λ (l : List Operation). IsChar l name) (sym ops) (c.requires name (of_one c.args.range name among)))

pub hidden_from-hidden-requires : goal.hidden_from-hidden-requires
hidden_from-hidden-requires c =
    let name : CharName = c.in-Some.name in
    here c name (
      0,
      c.args.range,
      omega arith,
      refl,
      (
        ap (λ (d : CharName). d.site) c.in-Some.ensures.value ∙ c.site.ensures,
        omega (arith, ap (λ (d : CharName). d.off) c.in-Some.ensures.value, c.at-at.ensures),
        omega (arith, ap (λ (d : CharName). d.off) c.in-Some.ensures.value, c.at-at.ensures, c.len-len.ensures.range.2),
      ),
    )

pub returns-clause-alike : goal.returns-clause-alike
returns-clause-alike c = λ name held.
    let t = c.self.inside in
    let atoms = spelled t.pieces.items in
    let ops : t.log.ops ≡ c.args.self.now.operations = ap (λ (s : TakenSeen). s.operations) c.self.view_is in
    let site : c.in-Some.name.site ≡ c.args.range.site = ap (λ (d : CharName). d.site) c.in-Some.ensures.value ∙ c.site.ensures in
    let off : c.in-Some.name.off ≡ c.args.range.at = ap (λ (d : CharName). d.off) c.in-Some.ensures.value ∙ c.at-at.ensures in
    let all = here ((goal.at.returns-clause-alike c).After-self) name (0, c.args.range, omega arith, refl, (held.0, held.1, omega (arith, held.2, c.min.ensures, c.len-len.ensures.value))) in
    subst (λ (l : List Operation). is_visible l name ≡ not c.hidden_from-hidden.result.0) ops
    (visible_unless_hidden t.log.ops atoms c.self.invariant.taken.atoms
    (all_tell t.log.ops c.self.invariant.taken.good atoms c.self.invariant.taken.atoms.registers)
    name all c.hidden_from-hidden.result.0 (λ k has is.
    c.hidden_from-hidden.ensures.alike k has
    (subst (IsIn (range c.in-Some.name.site c.in-Some.name.off (c.hidden_from-hidden.result.1 - c.in-Some.name.off))) (sym is)
    (held.0 ∙ sym site, omega (arith, held.1, off), omega (arith, held.2, off, c.min.ensures, c.hidden_from-hidden.ensures.some)))))
