use Rattle.note_entries.proofs.Entered.{looked_none, looked_some}
use Rattle.note_admission.specs.Base.{is_same_spot, message_spot}
use Rattle.note_admission.proofs.Bases.{one_spot, spots}
use Rattle.note_admission.proofs.base_messages.Base.at.Goals as goal

pub returns-clause-some : goal.returns-clause-some
returns-clause-some c =
    looked_some is_same_spot spots one_spot message_spot c.self.inside.said.entries c.self.invariant.keyed
    c.args.self.now c.self.view_is (record { text = c.args.text; site = c.args.site; seq = c.args.seq }) c.get.result c.get.ensures.value

pub returns-clause-none : goal.returns-clause-none
returns-clause-none c =
    looked_none is_same_spot spots one_spot message_spot c.self.inside.said.entries c.self.invariant.keyed
    c.args.self.now c.self.view_is (record { text = c.args.text; site = c.args.site; seq = c.args.seq }) c.get.result c.get.ensures.value
