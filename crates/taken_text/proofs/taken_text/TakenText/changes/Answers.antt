use Rattle.std.proofs.Common.{refl, sym, subst}
use Rattle.taken_text.specs.Noted.{AreChangesSince}
use Rattle.taken_text.specs.Taken.{TakenSeen, seen_in, shown_of_taken}
use Rattle.taken_text.proofs.Counted.{shown_now}
use Rattle.taken_text.proofs.Noting.{since_now}
use Rattle.taken_text.proofs.taken_text.TakenText.changes.Goals as goal

pub invariant_of-self : goal.invariant_of-self
invariant_of-self c =
    let t = c.self.inside in
    rw (c.len-self-inside.ensures, c.replace.ensures.after, c.new.ensures.items) (record {
      taken = c.self.invariant.taken;
      noted = since_now t.log.ops t.pieces.items t.files c.self.invariant.taken;
    })

pub returns-clause-told : goal.returns-clause-told
returns-clause-told c =
    let t = c.self.inside in
    let seen = seen_in t.log.ops t.pieces.items t.files t.asked in
    subst (λ (s : TakenSeen). AreChangesSince s.asked s.operations c.replace.result.items (shown_of_taken s)) c.self.view_is
    (rw c.replace.ensures.value (subst (AreChangesSince t.asked t.log.ops t.note.items)
    (sym (shown_now t.log.ops t.pieces.items t.files t.asked seen refl c.self.invariant.taken))
    c.self.invariant.noted))
