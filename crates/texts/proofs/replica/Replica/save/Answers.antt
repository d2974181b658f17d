use Rattle.std.proofs.Common.{◌≡◌, ℕ, List, Result, Ok, Err, map, subst, ◌∙◌}
use Rattle.std.specs.Prelude.{IfOk, slice_range}
use Rattle.looks.specs.declared.refusal.Refusal.{Refusal}
use Rattle.char_files.specs.Stretch.{Item}
use Rattle.texts.specs.TextState.{TextState, asked_of, shown_items, shown_of, text_state_of}
use Rattle.texts.proofs.Kept.{items_between}
use Rattle.texts.proofs.replica.Replica.save.Goals as goal

are_items : (t : TextState) (beg end : ℕ) (result : Result (List Item) Refusal)
    → IfOk result (λ buffer. buffer ≡ map (λ c. (c.byte, c.looks)) (slice_range (shown_of t) beg end))
    → IfOk result (λ buffer. buffer ≡ slice_range (shown_items t) beg end)
are_items t beg end (Ok buffer) is = is ∙ items_between (shown_of t) beg end
are_items t beg end (Err why) is = is

pub returns-clause-ok : goal.returns-clause-ok
returns-clause-ok c =
    let r = c.self.inside in
    let t = text_state_of r.text r.site r.taken.operations r.taken.chars r.room r.stretch r.set (asked_of r.taken.asked r.reported) in
    subst (λ (t : TextState). IfOk c.stretch.result (λ buffer. buffer ≡ slice_range (shown_items t) c.args.beg c.args.end))
    c.self.view_is (are_items t c.args.beg c.args.end c.stretch.result c.stretch.ensures.ok)
