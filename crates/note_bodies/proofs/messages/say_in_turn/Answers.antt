use Rattle.std.proofs.Common.{◌≡◌, ◌<◌, ◌∷◌, [], ◌++◌, length, slice_index_or, true, arith, ap, ◌∙◌}
use Rattle.operations.specs.Operation.{Operation}
use Rattle.note_laws.specs.Note.{Saying}
use Rattle.note_hashes.specs.Hashes.{said_by}
use Rattle.note_bodies.specs.Bodies.{is_of_head, on_here}
use Rattle.note_bodies.proofs.Turns.{one_said}
use Rattle.note_bodies.proofs.messages.say_in_turn.Goals as goal

pub loop-index-preserved : goal.loop-index-preserved
loop-index-preserved c =
    let key = c.args.key.now in
    let head = c.args.head.now in
    let ops = c.args.operations.now in
    let i = c.loop-index.index in
    let left = c.loop-index.left.now in
    let d = c.index-operations-index.result in
    let lt : i < length ops = omega arith in
    let is : is_of_head head i (slice_index_or ops i d) ≡ true = cc in
    let s = said_by key head.author c.loop-index.before (slice_index_or ops i d) (on_here left i) in
    let copied : c.in_ok-copy.field-0 ≡ slice_index_or ops i d = c.in_ok-copy.ensures.ok ∙ c.index-operations-index.is in
    let on = c.on_here.result.0 in
    let same : c.in_ok-saying.saying ≡ s =
    c.in_ok-saying.ensures.ok
    ∙ (ap (λ (op : Operation). said_by key head.author c.loop-index.before op on) copied
    ∙ ap (said_by key head.author c.loop-index.before (slice_index_or ops i d)) c.on_here.ensures.on) in
    let items : c.push.new.self.items ≡ c.loop-index.sayings.items ++ s ∷ [] =
    c.in_ok-push.ensures.items ∙ ap (λ (x : Saying). c.loop-index.sayings.items ++ x ∷ []) same in
    let hash : c.saying-in-loop-index.inside.hash ≡ s.hash = ap (λ (x : Saying). x.hash) (c.saying-in-loop-index.view_is ∙ same) in
    rw (items, c.on_here.ensures.after, hash) (one_said key head c.args.ons.now ops c.loop-index.sayings.items left i c.loop-index.before c.loop-index.invariant d lt is)
