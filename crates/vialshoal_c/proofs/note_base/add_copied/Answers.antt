use Rattle.std.proofs.Common.{◌≡◌, ◌∷◌, ◌++◌, [], ℕ, get_or, ap, ◌∙◌}
use Rattle.operations.specs.Operation.{Operation}
use Rattle.note_laws.specs.Note.{Saying}
use Rattle.note_hashes.specs.Hashes.{copied_by}
use Rattle.vialshoal_c.proofs.Bases.{one_added}
use Rattle.vialshoal_c.proofs.note_base.add_copied.Goals as goal

pub loop-op-preserved : goal.loop-op-preserved
loop-op-preserved c =
    let key = c.args.key.now in
    let ops = c.args.operations.now in
    let last = c.loop-op.last in
    let i = c.loop-op.op-index in
    let d = c.op-item.result in
    let s = copied_by key 0 last (get_or ops i d) in
    let copied : c.in_ok-copy.field-0 ≡ get_or ops i d = c.in_ok-copy.ensures.ok ∙ c.op-item.is in
    let same : c.in_ok-saying.saying ≡ s =
    c.in_ok-saying.ensures.ok ∙ ap (λ (n : ℕ). copied_by key n last c.in_ok-copy.field-0) c.new.ensures
    ∙ ap (λ (op : Operation). copied_by key 0 last op) copied in
    let items : c.push.new.self.items ≡ c.loop-op.base.items ++ s ∷ [] =
    c.in_ok-push.ensures.items ∙ ap (λ (x : Saying). c.loop-op.base.items ++ x ∷ []) same in
    let hash : c.saying.inside.hash ≡ s.hash = ap (λ (x : Saying). x.hash) (c.saying.view_is ∙ same) in
    rw (items, hash) (one_added key c.args.before ops c.args.base.now.items c.loop-op.base.items last i d c.loop-op-test.true
    c.loop-op.invariant)
