use Rattle.std.proofs.Common.{◌≡◌, ◌++◌, List, length, subst, sym, ◌∙◌, arith}
use Rattle.std.specs.Prelude.{slice_set}
use Rattle.std.specs.Vec.{with_items}
use Rattle.std.proofs.lemmas.List.{length-append, length-set, with_items_is}
use Rattle.machine.specs.Events.{merge, merge_reply}
use Rattle.commands.specs.Steps.{DeskSeen}
use Rattle.script_sites.specs.Seen.{Replied, SitesSeen}
use Rattle.script_sites.proofs.Merging.{in_back, in_front, set_in_back, set_in_front}
use Rattle.script_sites.proofs.Standing.{desk_read, merged_still, replied_merge}
use Rattle.script_sites.proofs.desks.Desks.merge.Goals as goal

pub returns-then-other-desk : goal.returns-then-other-desk
returns-then-other-desk c =
    let s : SitesSeen = record { first = c.self.inside.first; desks = c.self.inside.desks.items; sent = c.self.inside.outbox } in
    let in_run = rw (← c.self.view_is) at c.requires.in_run in
    let parts = c.split_at_mut-front in
    let front = parts.result.0.now in
    let back = parts.result.1.now in
    let is : s.desks ≡ front ++ back = sym c.deref_mut.ensures.value ∙ parts.ensures.value in
    let d = c.index-back-0.result in
    let other = c.index-front-other.result in
    let new = front ++ slice_set back 0 c.merge.new.self in
    let len : length new ≡ c.self.inside.desks.len = simp (length-append, length-set) (omega (arith, parts.ensures.front_len, parts.ensures.back_len, c.deref_mut.ensures.len)) in
    let desks : (with_items c.self.inside.desks new).items ≡ new = with_items_is c.self.inside.desks new len in
    let merged = rw (← c.index-back-0.is, ← c.index-front-other.is) at c.merge.ensures in
    let at = in_back s.desks front back c.args.desk is parts.ensures.front_len d in_run c.index-back-0.is in
    let at_other = in_front s.desks front back c.args.desk is parts.ensures.front_len c.args.other other c.if-other-desk.true c.index-front-other.is in
    let set = set_in_back s.desks front back c.args.desk is parts.ensures.front_len c.merge.new.self in
    rw (← c.self.view_is, desks) (subst (λ (ds : List DeskSeen). Replied s (merge c.args.desk c.args.text c.args.other) (merge_reply c.merge.result) (record s { desks = ds })) set
    (replied_merge s c.args.desk d at c.args.text c.args.other other c.merge.result c.merge.new.self at_other merged))

pub returns-then-desk-other : goal.returns-then-desk-other
returns-then-desk-other c =
    let s : SitesSeen = record { first = c.self.inside.first; desks = c.self.inside.desks.items; sent = c.self.inside.outbox } in
    let in_run = rw (← c.self.view_is) at c.requires.other_in_run in
    let parts = c.split_at_mut-front-then-desk-other in
    let front = parts.result.0.now in
    let back = parts.result.1.now in
    let is : s.desks ≡ front ++ back = sym c.deref_mut-then-desk-other.ensures.value ∙ parts.ensures.value in
    let d = c.index-front-desk.result in
    let other = c.index-back-0-then-desk-other.result in
    let new = slice_set front c.args.desk c.merge-then-desk-other.new.self ++ back in
    let len : length new ≡ c.self.inside.desks.len = simp (length-append, length-set) (omega (arith, parts.ensures.front_len, parts.ensures.back_len, c.deref_mut-then-desk-other.ensures.len)) in
    let desks : (with_items c.self.inside.desks new).items ≡ new = with_items_is c.self.inside.desks new len in
    let merged = rw (← c.index-front-desk.is, ← c.index-back-0-then-desk-other.is) at c.merge-then-desk-other.ensures in
    let at = in_front s.desks front back c.args.other is parts.ensures.front_len c.args.desk d c.if-desk-other.true c.index-front-desk.is in
    let at_other = in_back s.desks front back c.args.other is parts.ensures.front_len other in_run c.index-back-0-then-desk-other.is in
    let set = set_in_front s.desks front back c.args.other is parts.ensures.front_len c.args.desk c.merge-then-desk-other.new.self c.if-desk-other.true in
    rw (← c.self.view_is, desks) (subst (λ (ds : List DeskSeen). Replied s (merge c.args.desk c.args.text c.args.other) (merge_reply c.merge-then-desk-other.result) (record s { desks = ds })) set
    (replied_merge s c.args.desk d at c.args.text c.args.other other c.merge-then-desk-other.result c.merge-then-desk-other.new.self at_other merged))

pub returns-else-desk-other : goal.returns-else-desk-other
returns-else-desk-other c =
    let s : SitesSeen = record { first = c.self.inside.first; desks = c.self.inside.desks.items; sent = c.self.inside.outbox } in
    let in_run = rw (← c.self.view_is) at c.requires.in_run in
    let at = desk_read s c.args.desk c.index.result.now in_run c.index.ensures in
    let (t, there, is, told) = c.lemma_has_text.ensures in
    let same : c.args.other ≡ c.args.desk = omega (arith, c.if-other-desk.false, c.if-desk-other.false) in
    rw (← c.self.view_is, same) (merged_still s c.args.desk c.args.text c.index.result.now t at there is told)
