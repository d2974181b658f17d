use Rattle.std.proofs.Common.{subst}
use Rattle.vialshoal_c.specs.SessionState.{SessionState}
use Rattle.vialshoal_c.specs.Naming.{EditsSessionNames}
use Rattle.vialshoal_c.proofs.exports.edit_names.Goals as goal

pub returns : goal.returns
returns c =
    rw c.in-Some.ensures.some (rw c.close.ensures (subst (λ (s : SessionState). EditsSessionNames s c.args.what c.args.names.now
    c.edit_by_names-edited.result.number c.edit_by_names-edited.result.sent c.edit_by_names-edited.new.self)
    c.deref_mut.ensures.value c.edit_by_names-edited.ensures))
