use Rattle.std.proofs.Common.{refl, sym, ◌∙◌}
use Rattle.desk_texts.proofs.NamedEdits.{named_edited, not_here}
use Rattle.desk_texts.proofs.site_texts.Texts.edit_by_names.Goals as goal

pub returns-then-not-has_names : goal.returns-then-not-has_names
returns-then-not-has_names c =
    let t = c.replica_mut-replica.result.now in
    let absent = sym c.has_names.ensures ∙ c.if-not-has_names.true in
    (t, t, c.replica_mut-replica.ensures.value, not_here t c.args.what c.args.names.now c.args.outbox.now absent, refl)

pub returns : goal.returns
returns c =
    let t = c.replica_mut-replica.result.now in
    let here = sym c.has_names.ensures ∙ c.if-not-has_names.false in
    let edited = named_edited t c.args.what c.args.names.now c.edit_by_names.result c.edit_by_names.new.self c.args.outbox.now
    c.edit_by_names.new.outbox here c.edit_by_names.ensures in
    (t, c.edit_by_names.new.self, c.replica_mut-replica.ensures.value, edited, refl)
