use Rattle.std.proofs.Common.{◌≡◌, List, ap, subst}
use Rattle.std.specs.Prelude.{IfSome, IsSome, ◌↔◌}
use Rattle.char_files.specs.declared.name.Anchor.TheVariants.{At}
use Rattle.operations.specs.Operation.{Operation}
use Rattle.tree_order.specs.Shown.{IsPlace}
use Rattle.tree_order.specs.Tree.{IsChar}
use Rattle.piece_list.specs.Spelled.{spelled}
use Rattle.taken_text.specs.Taken.{TakenSeen}
use Rattle.taken_text.proofs.Placed.{place_is}
use Rattle.taken_text.proofs.Spelling.{all_tell}
use Rattle.taken_text.proofs.taken_text.TakenText.place_of.Goals as goal

pub returns-clause-here : goal.returns-clause-here
returns-clause-here c =
    let t = c.self.inside in
    let ops : t.log.ops ≡ c.args.self.now.operations = ap (λ (s : TakenSeen). s.operations) c.self.view_is in
    let each = c.self.invariant.taken.atoms.order.each c.args.name in
    subst (λ (l : List Operation). IsSome c.shown_to.result ↔ IsChar l c.args.name) ops
    (λ some. each.0 (c.shown_to.ensures.here.0 some), λ char. c.shown_to.ensures.here.1 (each.1 char))

pub returns-clause-place : goal.returns-clause-place
returns-clause-place c =
    let t = c.self.inside in
    let ops : t.log.ops ≡ c.args.self.now.operations = ap (λ (s : TakenSeen). s.operations) c.self.view_is in
    let taken = c.self.invariant.taken in
    subst (λ (l : List Operation). IfSome c.shown_to.result (IsPlace l (At c.args.name))) ops
    (place_is t.log.ops (spelled t.pieces.items) taken.atoms.order
    (all_tell t.log.ops taken.good (spelled t.pieces.items) taken.atoms.registers)
    c.args.name c.shown_to.result c.shown_to.ensures.here.0 c.shown_to.ensures.count)
