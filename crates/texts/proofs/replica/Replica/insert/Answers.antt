use Rattle.std.proofs.Common.{◌≡◌, ◌+◌, ℕ, List, length, Err, sym, ap, subst, arith}
use Rattle.char_files.specs.Stretch.{Stretch}
use Rattle.set_laws.specs.Fronts.{file_len}
use Rattle.texts.specs.Edit.{anchor_before, insertion, inserts, own_insert, plan, with_operation}
use Rattle.texts.specs.Outcome.{EditsSending}
use Rattle.texts.specs.TextState.{TextState, shown_of}
use Rattle.texts.specs.declared.edit_refusal.EditRefusal.{EditRefusal}
use Rattle.texts.proofs.Made.{never_scattered}
use Rattle.texts.proofs.Sending.{IsUnderWay, ended, goes_on, in_position, refused}
use Rattle.texts.proofs.replica.Replica.insert.Goals as goal

pub returns-in-Err : goal.returns-in-Err
returns-in-Err c =
    let (u, within, few) = c.loop-piece.invariant in
    let t = c.args.self.now in
    let e = insertion c.args.pos c.args.buffer.now in
    let now = c.loop-piece.self in
    let at = c.loop-piece.at in
    let p = c.in-Some.piece in
    let op = own_insert now at p.looks p.bytes in
    let rest = inserts (with_operation now op) (at + length p.bytes) c.next.new.self in
    let sent = c.args.outbox.now in
    let new = c.insert_piece.new.self in
    let left = subst (λ (ps : List Stretch). IsUnderWay t (plan t e) (inserts now at ps) c.loop-piece.done now sent c.loop-piece.outbox)
    c.in-Some.ensures.steps u in
    subst (λ (r : EditRefusal). EditsSending t e (Err r) new sent c.insert_piece.new.outbox) (sym c.refused_after.ensures)
    (refused t e c.lemma_is_text.ensures
    (in_position c.args.pos (length (shown_of t)) c.requires.in_text) c.loop-piece.done op rest c.in-Err.why now new sent
    c.loop-piece.outbox c.insert_piece.new.outbox left
    (λ h. absurd (never_scattered now (anchor_before (shown_of now) at) (file_len now.operations now.site) p.looks p.bytes h))
    c.in-Err.ensures.sends)

pub loop-piece-preserved : goal.loop-piece-preserved
loop-piece-preserved c =
    let (u, within, few) = c.loop-piece.invariant in
    let t = c.args.self.now in
    let e = insertion c.args.pos c.args.buffer.now in
    let now = c.loop-piece.self in
    let at = c.loop-piece.at in
    let done = c.loop-piece.done in
    let p = c.in-Some.piece in
    let op = own_insert now at p.looks p.bytes in
    let after = c.next.new.self in
    let rest = inserts (with_operation now op) (at + length p.bytes) after in
    let sent = c.args.outbox.now in
    let new = c.insert_piece.new.self in
    let sent' = c.insert_piece.new.outbox in
    let left = subst (λ (ps : List Stretch). IsUnderWay t (plan t e) (inserts now at ps) done now sent c.loop-piece.outbox)
    c.in-Some.ensures.steps u in
    let sends = c.in_default.ensures.sends in
    let more = goes_on t (plan t e) done now sent c.loop-piece.outbox op rest new sent' left sends in
    let moved = subst (λ (x : TextState). IsUnderWay t (plan t e) (inserts x (at + length p.bytes) after) (done + 1) new sent sent')
    (sym sends.1) more in
    let len : length p.bytes ≡ length c.piece.inside.bytes.now = sym (ap (λ (s : Stretch). length s.bytes) c.piece.view_is) in (
      subst (λ (n : ℕ). IsUnderWay t (plan t e) (inserts new (at + n) after) (done + 1) new sent sent') len moved,
      omega (arith, within, len, c.in_default.ensures.longer),
      omega (arith, few, ap (length {A = Stretch}) c.in-Some.ensures.steps),
    )

pub returns : goal.returns
returns c =
    let (u, within, few) = c.loop-piece.invariant in
    let t = c.args.self.now in
    let e = insertion c.args.pos c.args.buffer.now in
    let now = c.loop-piece.self in
    let sent = c.args.outbox.now in
    ended t e c.lemma_is_text.ensures
    (in_position c.args.pos (length (shown_of t)) c.requires.in_text) c.loop-piece.done now sent c.loop-piece.outbox
    (subst (λ (ps : List Stretch). IsUnderWay t (plan t e) (inserts now c.loop-piece.at ps) c.loop-piece.done now sent c.loop-piece.outbox)
    c.in-None.ensures.steps.0 u)
