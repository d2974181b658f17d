use Rattle.std.proofs.Common.{◌≡◌, ◌↔◌, not, List, ap, sym, subst}
use Rattle.std.specs.Prelude.{IsTrue}
use Rattle.char_files.specs.CharName.{CharName}
use Rattle.operations.specs.NameSet.{IsAmong}
use Rattle.operations.specs.Operation.{Operation}
use Rattle.tree_order.specs.Shown.{is_visible}
use Rattle.tree_order.specs.Tree.{IsChar}
use Rattle.piece_list.specs.Changing.{AreHere}
use Rattle.piece_list.specs.Spelled.{spelled}
use Rattle.taken_text.specs.Taken.{TakenSeen}
use Rattle.taken_text.proofs.Spelling.{all_tell}
use Rattle.taken_text.proofs.Visible.{chars_are_here, all_visible}
use Rattle.taken_text.proofs.taken_text.TakenText.are_shown.Goals as goal

here : (c : goal.After-self) → AreHere c.args.names.now (spelled c.self.inside.pieces.items)
here c =
    let t = c.self.inside in
    let atoms = spelled t.pieces.items in
    let ops : t.log.ops ≡ c.args.self.now.operations = ap (λ (s : TakenSeen). s.operations) c.self.view_is in
    chars_are_here t.log.ops atoms c.self.invariant.taken.atoms
    (all_tell t.log.ops c.self.invariant.taken.good atoms c.self.invariant.taken.atoms.registers)
    c.args.names.now (λ name named. subst (λ (l : List Operation). IsChar l name) (sym ops) (c.requires name named))

pub has_hidden-requires : goal.has_hidden-requires
has_hidden-requires c = here c

pub returns : goal.returns
returns c =
    let t = c.self.inside in
    let atoms = spelled t.pieces.items in
    let ops : t.log.ops ≡ c.args.self.now.operations = ap (λ (s : TakenSeen). s.operations) c.self.view_is in
    subst (λ (l : List Operation). IsTrue (not c.has_hidden.result)
    ↔ ((name : CharName) → IsAmong c.args.names.now name → IsTrue (is_visible l name))) ops
    (all_visible t.log.ops atoms c.self.invariant.taken.atoms
    (all_tell t.log.ops c.self.invariant.taken.good atoms c.self.invariant.taken.atoms.registers)
    c.args.names.now (here c.before) c.has_hidden.result c.has_hidden.ensures)
