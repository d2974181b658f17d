-- A site's file, written part by part.
use Rattle.std.proofs.Common.{◌≡◌, ℕ, ◌+◌, ◌<◌, List, [], ◌∷◌, ◌++◌, length, take, get_or, Some, Result, Ok, Err}
use Rattle.std.proofs.Common.{sym, ap, subst, ◌∙◌, arith}
use Rattle.std.specs.Prelude.{All, if◌then◌else◌, slice_get}
use Rattle.std.specs.List.{flat_map}
use Rattle.std.specs.Result.{is_ok}
use Rattle.std.specs.declared.alloc.AllocError.{AllocError}
use Rattle.std.proofs.lemmas.List.{take_all, take_more, flat_map_more}
use Rattle.std.proofs.lemmas.List.Elements.{All-push}
use Rattle.std.proofs.lemmas.Option.{slice_get-get_or}
use Rattle.operations.specs.Operation.{Operation}
use Rattle.byte_fields.specs.Fields.{Appends}
use Rattle.operations.specs.Spelling.{HasSpelling}
use Rattle.texts.specs.SiteFiles.{entry_spelling}

-- one message more
first_parts : (ops : List Operation) (place : ℕ) (op : Operation) → place < length ops
    → slice_get ops place ≡ Some op → take (place + 1) ops ≡ take place ops ++ op ∷ []
first_parts ops place op lt is =
    let read : ◌≡◌ (Some (get_or ops place op)) (Some op) = sym (slice_get-get_or ops place op lt) ∙ is in
    let same : get_or ops place op ≡ op = cc in
    take_more ops place op lt ∙ ap (λ (o : Operation). take place ops ++ o ∷ []) same

pub entry_more : (ops : List Operation) (place : ℕ) (op : Operation) (old mid new : List ℕ) → place < length ops
    → slice_get ops place ≡ Some op → mid ≡ old ++ flat_map entry_spelling (take place ops)
    → new ≡ mid ++ entry_spelling op → new ≡ old ++ flat_map entry_spelling (take (place + 1) ops)
entry_more ops place op old mid new lt is so_far put =
    put ∙ ap (λ (l : List ℕ). l ++ entry_spelling op) so_far
    ∙ flat_map_more entry_spelling old (take place ops) op
    ∙ ap (λ (l : List Operation). old ++ flat_map entry_spelling l) (sym (first_parts ops place op lt is))

pub spelled_more : (ops : List Operation) (place : ℕ) (op : Operation) → place < length ops
    → slice_get ops place ≡ Some op → All HasSpelling (take place ops) → HasSpelling op
    → All HasSpelling (take (place + 1) ops)
spelled_more ops place op lt is all own =
    subst (λ (l : List Operation). All HasSpelling l) (sym (first_parts ops place op lt is))
    (All-push HasSpelling (take place ops) op all own)
