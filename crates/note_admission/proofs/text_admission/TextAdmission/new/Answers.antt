use Rattle.std.proofs.Common.{refl}
use Rattle.note_admission.specs.declared.text_admission.Unsettled.TheVariants.{Any}
use Rattle.note_admission.specs.Growing.{TextSeen}
use Rattle.note_admission.proofs.Expecting.{nothing_admitted}
use Rattle.note_admission.proofs.text_admission.TextAdmission.new.Goals as goal

pub returns-clause-ok : goal.returns-clause-ok
returns-clause-ok c =
    let t : TextSeen = record {
      text = c.args.text;
      ops = c.new-2.result.ops;
      kept = c.in_ok-admitted.admitted;
      sites = c.in_ok-sites.sites.items;
      unsettled = Any;
    } in
    λ note entries none of_base. nothing_admitted note entries t c.args.base.now none
    (c.in_ok-admitted.ensures.ok note of_base) c.new-2.ensures c.in_ok-sites.ensures.items refl of_base
