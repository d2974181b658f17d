use Rattle.std.proofs.Common.{ℤ, subst, w8}
use Rattle.std.proofs.lemmas.Int.{to_z-of_z}
use Rattle.vialshoal_c.specs.SessionState.{SessionState}
use Rattle.vialshoal_c.specs.Editing.{Dresses}
use Rattle.vialshoal_c.proofs.exports.vialshoal_change_looks.Goals as goal

pub returns : goal.returns
returns c =
    rw c.in-Some.ensures.some (rw c.close.ensures (subst (λ (s : SessionState). Dresses s c.args.beg c.args.end c.args.bits
    c.args.font.now c.args.colour c.args.offset c.change_looks-edited.result.number c.change_looks-edited.result.sent
    c.change_looks-edited.new.self) c.deref_mut.ensures.value
    (subst (λ (offset : ℤ). Dresses c.deref_mut.result.now c.args.beg c.args.end c.args.bits c.args.font.now c.args.colour offset
    c.change_looks-edited.result.number c.change_looks-edited.result.sent c.change_looks-edited.new.self)
    (to_z-of_z w8 c.args.offset c.ranges.offset) c.change_looks-edited.ensures)))
