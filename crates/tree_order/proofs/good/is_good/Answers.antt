use Rattle.std.proofs.Common.{◌≡◌, false, sym, ◌∙◌}
use Rattle.std.proofs.lemmas.Bool.{false≢true}
use Rattle.tree_order.proofs.GoodParts.{parts, good_by}
use Rattle.tree_order.proofs.good.is_good.Goals as goal
use Rattle.tree_order.proofs.good.is_good.Goals.{then-not-identities_agree-via-then-not-identities_agree}
use Rattle.tree_order.proofs.good.is_good.Goals.{then-not-identities_agree-via-else-not-identities_agree+then-not-predecessors_are_held}
use Rattle.tree_order.proofs.good.is_good.Goals.{then-not-identities_agree-via-else-not-identities_agree+else-not-predecessors_are_held+then-not-mentions_are_held}
use Rattle.tree_order.proofs.good.is_good.Goals.{then-inserts_begin, else-inserts_begin}
use Rattle.tree_order.proofs.good.is_good.Goals.{then-own_names_are_earlier, else-own_names_are_earlier}

pub returns-then-not-identities_agree-clause-ok : goal.returns-then-not-identities_agree-clause-ok
returns-then-not-identities_agree-clause-ok c = (
  λ e. absurd (false≢true e),
  λ good.
      let p = parts c.args.ops.now good in
      elim c.then-not-identities_agree.branch [
        | then-not-identities_agree-via-then-not-identities_agree w ↦
            sym w.if-not-identities_agree.true ∙ c.identities_agree.ensures.1 p.identities
        | then-not-identities_agree-via-else-not-identities_agree+then-not-predecessors_are_held w ↦
            sym w.if-not-predecessors_are_held.true ∙ w.predecessors_are_held.ensures.1 p.predecessors
        | then-not-identities_agree-via-else-not-identities_agree+else-not-predecessors_are_held+then-not-mentions_are_held w ↦
            sym w.if-not-mentions_are_held.true ∙ w.mentions_are_held.ensures.1 p.mentions
      ],
)

pub returns-clause-ok : goal.returns-clause-ok
returns-clause-ok c =
    let ops = c.args.ops.now in
    let identities = c.identities_agree.ensures.0 c.if-not-identities_agree.false in
    let predecessors = c.predecessors_are_held.ensures.0 c.if-not-predecessors_are_held.false in
    let mentions = c.mentions_are_held.ensures.0 c.if-not-mentions_are_held.false in
    elim c.if-inserts_begin.branch [
      | then-inserts_begin v ↦
          elim c.if-own_names_are_earlier.branch [
            | then-own_names_are_earlier w ↦ (
              λ e. good_by ops (record {
                identities = identities;
                predecessors = predecessors;
                mentions = mentions;
                begins = c.inserts_begin.ensures.0 v.if-inserts_begin.true;
                own = v.own_names_are_earlier.ensures.0 (sym v.value-is ∙ w.if-own_names_are_earlier.true);
                stamps = w.stamps_rise.ensures.0 (sym w.result-is ∙ e);
              }),
              λ good. w.result-is ∙ w.stamps_rise.ensures.1 (parts ops good).stamps,
            )
            | else-own_names_are_earlier w ↦ (
              λ e. absurd (false≢true (sym w.if-own_names_are_earlier.false ∙ sym w.result-is ∙ e)),
              λ good. w.result-is ∙ v.value-is
                  ∙ v.own_names_are_earlier.ensures.1 (parts ops good).own,
            )
          ]
      | else-inserts_begin v ↦
          let out : c.if-inserts_begin.value ≡ false = v.value-is ∙ v.if-inserts_begin.false in
          elim c.if-own_names_are_earlier.branch [
            | then-own_names_are_earlier w ↦ absurd (false≢true (sym out ∙ w.if-own_names_are_earlier.true))
            | else-own_names_are_earlier w ↦ (
              λ e. absurd (false≢true (sym out ∙ sym w.result-is ∙ e)),
              λ good. w.result-is ∙ v.value-is
                  ∙ c.inserts_begin.ensures.1 (parts ops good).begins,
            )
          ]
    ]
