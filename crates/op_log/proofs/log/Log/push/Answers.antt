use Rattle.std.proofs.Common.{rules, ◌≡◌, ℕ, ◌+◌, ◌<◌, max, List, [], ◌∷◌, ◌++◌, length, sym, subst}
use Rattle.std.proofs.Common.{arith}
use Rattle.operations.specs.Operation.{Operation, appended_len, Begins}
use Rattle.set_laws.specs.Fronts.{file_len}
use Rattle.op_log.specs.Seen.{LogSeen}
use Rattle.op_log.specs.Tables.{log_table, entries_end}
use Rattle.op_log.specs.Logged.{AreLogged}
use Rattle.op_log.proofs.Pushed.{fits_by_table, pushed}
use Rattle.op_log.proofs.Rooms.{room_told}
use Rattle.op_log.proofs.log.Log.push.Goals as goal

pub push-requires-2-clause-room : goal.push-requires-2-clause-room
push-requires-2-clause-room c =
    let tables = c.self.inside.sites in
    let room = rw (← c.self.view_is) at c.requires.reserved in
    subst (λ (s : ℕ). 0 < (log_table tables s).room) (sym c.site-site.ensures)
    (subst (λ (n : ℕ). 0 < n) (room_told tables c.args.op.site) room.1)

pub push-requires-2-clause-end : goal.push-requires-2-clause-end
push-requires-2-clause-end c =
    let op = c.args.op in
    let begins : Begins op.kind (file_len c.self.inside.ops.items op.site) =
    subst (λ (seen : LogSeen). Begins op.kind (file_len seen.ops op.site)) (sym c.self.view_is)
    c.requires.begins in
    let fits = fits_by_table c.self.invariant op c.site-site.result c.file_len.result c.site-site.ensures
    c.file_len.ensures.value c.lemma_has_spelling.ensures.kind begins c.file_len.ensures.bound in
    let len = c.appended_bytes.ensures.value in
    omega arith

pub invariant_of-self : goal.invariant_of-self
invariant_of-self c =
    let l = c.self.inside in
    let op = c.args.op in
    let site = c.site-site.result in
    let next = rw (← c.self.view_is) at c.requires.next in
    let begins : Begins op.kind (file_len l.ops.items op.site) =
    subst (λ (seen : LogSeen). Begins op.kind (file_len seen.ops op.site)) (sym c.self.view_is)
    c.requires.begins in
    let items : c.push.new.self.items ≡ l.ops.items ++ op ∷ [] = c.push.ensures.items in
    let most : c.max-self-inside.result ≡ max c.stamp.result l.stamp = search rules in
    let index : c.len.result ≡ length l.ops.items = search rules in
    let file = c.file_len.ensures.value in
    let len = c.appended_bytes.ensures.value in
    let ends : c.file_len.result + c.appended_bytes.result
    ≡ entries_end (log_table l.sites site).entries + appended_len op.kind = omega arith in
    subst (λ (xs : List Operation). AreLogged xs c.push-2.new.self c.max-self-inside.result) (sym items)
    (subst (λ (n : ℕ). AreLogged (l.ops.items ++ op ∷ []) c.push-2.new.self n) (sym most)
    (pushed c.self.invariant c.push-2.new.self op site (record {
      index = c.len.result;
      end = c.file_len.result + c.appended_bytes.result;
      stamp = c.stamp.result;
    }) next begins c.lemma_has_spelling.ensures.stamp.1 c.site-site.ensures c.stamp.ensures
    index ends c.push-2.ensures.entries c.push-2.ensures.others))
