use Rattle.std.proofs.Common.{ℕ, ◌+◌, ◌++◌, ◌∷◌, [], List, ap, arith, append_assoc, ◌∙◌, sym}
use Rattle.list_changes.specs.declared.change.Change.{Change}
use Rattle.list_changes.specs.declared.change.ChangeKind.TheVariants.{Insert}
use Rattle.piece_list.specs.Typed.{insertions}
use Rattle.piece_list.proofs.Typed.{insertions_more}
use Rattle.piece_list.proofs.list.placing.note_each.Goals as goal

pub loop-n-preserved : goal.loop-n-preserved
loop-n-preserved c =
    let beg : ℕ = c.args.beg in
    let n : ℕ = c.loop-n.n in
    let one : Change = record { kind = Insert; beg = beg + n; end = beg + n + 1 } in
    record {
      items =
          c.push_reserved.ensures.items
          ∙ ap (λ (b : ℕ). c.loop-n.note.items ++ record { kind = Insert; beg = beg + b; end = beg + b + 1 } ∷ []) c.from.ensures
          ∙ ap (λ (l : List Change). l ++ one ∷ []) c.loop-n.invariant.items
          ∙ append_assoc c.args.note.now.items (insertions beg n) (one ∷ [])
          ∙ ap (λ (l : List Change). c.args.note.now.items ++ l) (sym (insertions_more beg n));
      room = omega (arith, c.loop-n.invariant.room, c.push_reserved.ensures.len, c.push_reserved.ensures.capacity);
    }
