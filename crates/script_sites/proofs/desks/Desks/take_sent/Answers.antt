use Rattle.std.proofs.Common.{◌≡◌, ℕ, ◌+◌, ◌-◌, ◌<◌, Some, length, inl, refl, subst, sym, arith}
use Rattle.std.specs.Prelude.{slice_get}
use Rattle.std.proofs.lemmas.List.{length-map}
use Rattle.std.proofs.lemmas.Option.{slice_get_read}
use Rattle.machine.specs.Events.{sent, take, take_reply}
use Rattle.script_sites.specs.Seen.{Replied, sent_after, texts_of}
use Rattle.script_sites.specs.Sent.{IsSentOperation, messages_at, sent_message}
use Rattle.script_sites.proofs.Sending.{noted_sent}
use Rattle.script_sites.proofs.Standing.{unsent_still}
use Rattle.script_sites.proofs.desks.Desks.take_sent.Goals as goal

pub returns-then-k-eq0 : goal.returns-then-k-eq0
returns-then-k-eq0 c =
    let s = c.args.self.now in
    unsent_still (sent_after (messages_at (texts_of s) c.args.noted.now) s) c.args.desk c.args.text c.args.k (inl (omega (arith, c.if-k-eq0.true)))

pub take_noted-requires-clause-held : goal.take_noted-requires-clause-held
take_noted-requires-clause-held c =
    let at = c.index-noted-k.result in
    subst (IsSentOperation (texts_of c.args.self.now)) (sym c.index-noted-k.is) (c.requires.held (c.args.k - 1) at (omega (arith, c.if-k-noted.true, c.if-k-eq0.false)))

pub returns-then-k-noted : goal.returns-then-k-noted
returns-then-k-noted c =
    let s = c.args.self.now in
    let noted = c.args.noted.now in
    let at = c.index-noted-k.result in
    let some : 0 < c.args.k = omega (arith, c.if-k-eq0.false) in
    let within : c.args.k - 1 < length noted = omega (arith, c.if-k-noted.true, c.if-k-eq0.false) in
    let there : slice_get noted (c.args.k - 1) ≡ Some at = slice_get_read noted (length noted) (c.args.k - 1) at refl within c.index-noted-k.is in
    c.take_noted.ensures (messages_at (texts_of s) noted) (sent c.args.k) (λ files. noted_sent s noted c.args.k at files some there)

pub returns-else-k-noted : goal.returns-else-k-noted
returns-else-k-noted c =
    let s = c.args.self.now in
    let noted = c.args.noted.now in
    let before = messages_at (texts_of s) noted in
    let number : length before + (c.args.k - 1 - length noted) + 1 ≡ c.args.k =
    omega (arith, length-map noted (sent_message (texts_of s)), c.if-k-noted.false, c.if-k-eq0.false) in
    subst (λ (k : ℕ). Replied (sent_after before s) (take c.args.desk c.args.text (sent k)) (take_reply c.take_held.result) (sent_after before c.take_held.new.self)) number
    (c.take_held.ensures before)
