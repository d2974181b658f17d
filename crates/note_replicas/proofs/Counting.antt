-- What counts in turn is ready in turn.
use Rattle.std.proofs.Common.{◌≡◌, ℕ, List, ◌∷◌, [], ◌++◌, ◌+◌, take, Option, Some, None, refl, sym, ap, subst, ◌∙◌}
use Rattle.std.specs.List.{slice_get}
use Rattle.std.specs.Option.{option_map}
use Rattle.std.proofs.lemmas.List.{take-map, take_more}
use Rattle.std.proofs.lemmas.Option.{get_or_from_slice_get, slice_get-map, slice_get_within}
use Rattle.operations.specs.Operation.{Operation}
use Rattle.set_laws.specs.Verdict.{IsNew, HasVerdict, ready}
use Rattle.note_laws.specs.Note.{Note, Entries, Saying}
use Rattle.note_laws.specs.Chains.{operations}
use Rattle.note_laws.specs.Admission.{CountInTurn}
use Rattle.note_laws.specs.Laws.{AreReadyInTurn}

-- the first of a list, and the next one
pub one_more : (ops : List Operation) (n : ℕ) (op : Operation) → slice_get ops n ≡ Some op
    → take (n + 1) ops ≡ take n ops ++ op ∷ []
one_more ops n op at =
    take_more ops n op (slice_get_within ops n op at)
    ∙ ap (λ (x : Operation). take n ops ++ x ∷ []) (get_or_from_slice_get ops n op op at)

-- whose operation it is
of_option : (found : Option Saying) (op : Operation) → option_map (λ (s : Saying). s.op) found ≡ Some op
    → (s : Saying) × (found ≡ Some s) × (s.op ≡ op)
of_option None op is = absurd cc
of_option (Some s) op is = (s, refl, cc)

pub ready_in_turn : (note : Note) (entries : Entries) (text : ℕ) (admitted : List Saying)
    → CountInTurn note entries text admitted → AreReadyInTurn text (operations admitted)
ready_in_turn note entries text admitted counts n op at =
    let found = of_option (slice_get admitted n) op (sym (slice_get-map (λ (s : Saying). s.op) admitted n) ∙ at) in
    let s = found.0 in
    let (next, fate) = counts n s found.1 in
    let before : operations (take n admitted) ≡ take n (operations admitted) = sym (take-map (λ (x : Saying). x.op) n admitted) in
    let judged : (s.op.text ≡ text) × IsNew (operations (take n admitted)) s.op × HasVerdict (operations (take n admitted)) s.op ready =
    (next.of_text, next.new, (next.follows, fate.0.fits, fate.2, fate.4)) in
    subst (λ (o : Operation). (o.text ≡ text) × IsNew (take n (operations admitted)) o × HasVerdict (take n (operations admitted)) o ready) found.2
    (subst (λ (ops : List Operation). (s.op.text ≡ text) × IsNew ops s.op × HasVerdict ops s.op ready) before judged)
