use Rattle.std.proofs.Common.{rules, ◌≡◌, ◌+◌, leb, List, get_or, sym, ap, subst, ◌∙◌}
use Rattle.std.specs.List.Sorted.{IsNonDecreasingBy}
use Rattle.std.proofs.lemmas.List.Sorted.{IsPartitionPoint-from_clause, IsPartitionedBy-leb}
use Rattle.op_log.specs.declared.site_log.Entry.{Entry}
use Rattle.op_log.specs.Tables.{SiteSeen, IsFirstPast}
use Rattle.op_log.proofs.Finding.{IsPoint, window, window_rises, first_past}
use Rattle.op_log.proofs.site_log.SiteLog.entry_past.Goals as goal

pub returns : goal.returns
returns c =
    let entries = c.as_slice-entries.result.now in
    let off = c.args.off in
    let from = c.low_index-from.result in
    let to = c.high_index-to.result in
    let le = c.high_index-to.ensures.within in
    let low = c.low_index-from.ensures.low in
    let high = c.high_index-to.ensures.high in
    let after = c.partition_point-after.result in
    let same : c.args.self.now.entries ≡ entries =
    ap (λ (t : SiteSeen). t.entries) (sym c.self.view_is) ∙ sym c.as_slice-entries.ensures.value in
    let rising = subst (IsNonDecreasingBy (λ (e : Entry). e.end)) same c.requires.rising in
    let point : IsPoint (window entries off from to le low high) off after =
    IsPartitionPoint-from_clause (λ (e : Entry). leb e.end off) _ _ c.partition_point-after.ensures.partitioned
    (IsPartitionedBy-leb (λ (e : Entry). e.end) (window entries off from to le low high) off
    (window_rises entries off from to le low high rising)) (λ a r q k. search rules) in
    let none : Entry = record { index = 0; end = 0; stamp = 0 } in
    subst (λ (es : List Entry). IsFirstPast es off (get_or entries (from + after) none)) (sym same)
    (first_past entries off from to le low high after c.partition_point-after.ensures.bound point none)
