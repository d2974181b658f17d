use Rattle.std.proofs.Common.{List, inl, sym, ap, subst, ◌∙◌}
use Rattle.std.specs.Prelude.{IsTrue}
use Rattle.operations.specs.NameSet.{Range}
use Rattle.texts.specs.Named.{EditsByNamesSending, are_here}
use Rattle.vialshoal_c.specs.Naming.{replica_ranges}
use Rattle.vialshoal_c.specs.SessionState.{SessionState}
use Rattle.vialshoal_c.proofs.Names.{all_here}
use Rattle.vialshoal_c.proofs.session.Session.change_names.Goals as goal

pub edit_by_names-requires : goal.edit_by_names-requires
edit_by_names-requires c = record {
  here =
      subst (λ (ranges : List Range). IsTrue (are_here c.self.inside.replica ranges))
      (sym (c.deref.ensures.value ∙ c.in-Ok.ensures.ok))
      (subst (λ (s : SessionState). IsTrue (are_here s.text (replica_ranges c.args.names.now))) (sym c.self.view_is)
      (sym (all_here c.args.self.now.text c.args.names.now c.requires.names) ∙ c.requires.here));
}

pub returns-in-Ok : goal.returns-in-Ok
returns-in-Ok c = (
  inl (subst (λ (s : SessionState). EditsByNamesSending s.text c.args.what (replica_ranges c.args.names.now) c.edit_by_names.result
      c.edit_by_names.new.self s.sent c.edit_by_names.new.outbox) c.self.view_is
      (subst (λ (ranges : List Range). EditsByNamesSending c.self.inside.replica c.args.what ranges c.edit_by_names.result
      c.edit_by_names.new.self c.self.inside.outbox c.edit_by_names.new.outbox)
      (c.deref.ensures.value ∙ c.in-Ok.ensures.ok) c.edit_by_names.ensures)),
  ap (λ (s : SessionState). s.told) c.self.view_is,
)
