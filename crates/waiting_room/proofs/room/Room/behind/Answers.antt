use Rattle.std.proofs.Common.{rules, tests, ◌≡◌, ℕ, ◌↔◌, true, Contains, ◌∙◌, ap, subst}
use Rattle.std.specs.List.{list_any}
use Rattle.std.proofs.lemmas.Iterator.{cases_from_any}
use Rattle.std.proofs.lemmas.Iterator.Consumers.{YieldsList-from_rest}
use Rattle.std.proofs.lemmas.Iterator.Search.{any_from_yields_List}
use Rattle.operations.specs.Operation.{Operation}
use Rattle.waiting_room.specs.Room.{IsAhead, is_ahead}
use Rattle.waiting_room.proofs.Past.{by_files}
use Rattle.waiting_room.proofs.Some.{some_one}
use Rattle.waiting_room.proofs.room.Room.behind.Goals as goal

pub returns-clause-value : goal.returns-clause-value
returns-clause-value g c =
    let room = c.args.self.now in
    let site = c.args.site in
    let all = YieldsList-from_rest room (c.values.ensures.rest ∙ c.self.view_is) in
    any_from_yields_List (λ op. is_ahead op site c.file_len-end.result) _ _ c.any.result c.any.ensures.ran all
    (λ x b q k. search (rules, tests))
    ∙ ap (λ (end : ℕ). list_any (λ op. is_ahead op site end) room) c.file_len-end.ensures

pub returns-clause-means : goal.returns-clause-means
returns-clause-means g c =
    let ops = g.H.Held.ops c.args.held.now in
    let room = c.args.self.now in
    let site = c.args.site in
    let end = c.file_len-end.result in
    let P : Operation → Type 0 = λ op. IsAhead op site end in
    let all = YieldsList-from_rest room (c.values.ensures.rest ∙ c.self.view_is) in
    let told = subst
    (λ (end : ℕ). (c.any.result ≡ true) ↔ ((op : Operation) × Contains room op × IsAhead op site end))
    c.file_len-end.ensures
    (some_one P room c.any.result (cases_from_any _ _ _ P (λ op. ¬ P op) c.any.ensures.ran all
    (λ x q k. search (rules, tests)) (λ x q k. search (rules, tests)))) in
    let by = by_files ops room site in
    (λ e. by.0 (told.0 e), λ h. told.1 (by.1 h))
