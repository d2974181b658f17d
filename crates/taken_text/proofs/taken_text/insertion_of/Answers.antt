use Rattle.std.proofs.Common.{[], ◌∷◌, ◌++◌, List, ap, ◌∙◌, arith}
use Rattle.list_changes.specs.declared.change.Change.{Change}
use Rattle.list_changes.specs.declared.change.ChangeKind.TheVariants.{Insert}
use Rattle.taken_text.proofs.Noting.{is_insertion}
use Rattle.taken_text.proofs.taken_text.insertion_of.Goals as goal
use Rattle.taken_text.proofs.taken_text.insertion_of.Goals.{then-len-gt0+in_ok-push, else-len-gt0}

pub returns-clause-ok : goal.returns-clause-ok
returns-clause-ok c = elim c.if-len-gt0.branch [
  | then-len-gt0+in_ok-push w ↦
      let whole : Change = record { kind = Insert; beg = 0; end = c.args.len } in
      is_insertion c.args.len c.if-len-gt0.note.items
      (λ some. ap (λ v. v.items) w.note-is ∙ w.in_ok-push.ensures.items
      ∙ ap (λ (note : List Change). note ++ whole ∷ []) c.new-note.ensures.items)
      (λ none. absurd (omega (arith, none, w.if-len-gt0.true)))
  | else-len-gt0 w ↦
      is_insertion c.args.len c.if-len-gt0.note.items
      (λ some. absurd (omega (arith, some, w.if-len-gt0.false)))
      (λ none. ap (λ v. v.items) w.note-is ∙ c.new-note.ensures.items)
]
