-- Packed operations that follow one another.
use Rattle.std.proofs.Common.{◌≡◌, ℕ, List, [], ◌∷◌, ◌++◌, refl, sym, ap, ◌∙◌, append_assoc}
use Rattle.std.specs.Prelude.{All}
use Rattle.std.proofs.lemmas.List.{append_cancel_left}
use Rattle.std.proofs.lemmas.List.Elements.{All-cons, All-nil}
use Rattle.operations.specs.Operation.{Operation}
use Rattle.operations.specs.Spelling.{HasSpelling}
use Rattle.packed.specs.Laws.{CanFollow, IsHistory}
use Rattle.packed.specs.Reading.{CanBeNext}
use Rattle.packed.specs.Spelling.{packed, packed_after, packed_next}
use Rattle.packed.specs.Told.{Told, nothing_told, told, told_after, told_on}
use Rattle.packed.proofs.PackedLists.{beginnings_are_histories}

-- operations more add bytes at the end
pub packed_more : (t : Told) (ops more : List Operation)
    → packed_after t (ops ++ more) ≡ packed_after t ops ++ packed_after (told_after t ops) more
packed_more t [] more = refl
packed_more t (op ∷ ops) more =
    ap (λ (l : List ℕ). packed_next t op ++ l) (packed_more (told_on t op) ops more)
    ∙ sym (append_assoc (packed_next t op) (packed_after (told_on t op) ops)
    (packed_after (told_after (told_on t op) ops) more))

-- and tell more
pub told_more : (t : Told) (ops more : List Operation) → told_after t (ops ++ more) ≡ told_after (told_after t ops) more
told_more t [] more = refl
told_more t (op ∷ ops) more = told_more (told_on t op) ops more

-- where those follow on, and these behind them, all do
pub follow_all : (t : Told) (text : ℕ) (ops more : List Operation) → CanFollow t text ops
    → CanFollow (told_after t ops) text more → CanFollow t text (ops ++ more)
follow_all t text [] more follow then = then
follow_all t text (op ∷ ops) more follow then = (follow.0, follow_all (told_on t op) text ops more follow.1 then)

-- one that can be next behind operations that follow on does so
pub follow_more : (t : Told) (text : ℕ) (ops : List Operation) (op : Operation) → CanFollow t text ops
    → CanBeNext (told_after t ops) text op → CanFollow t text (ops ++ op ∷ [])
follow_more t text [] op follow can = (can, tt)
follow_more t text (o ∷ ops) op follow can = (follow.0, follow_more (told_on t o) text ops op follow.1 can)

-- and one of those that follow on can be next behind those before it
pub next_at : (t : Told) (text : ℕ) (done : List Operation) (op : Operation) (todo : List Operation)
    → CanFollow t text (done ++ op ∷ todo) → CanBeNext (told_after t done) text op
next_at t text [] op todo follow = follow.0
next_at t text (o ∷ done) op todo follow = next_at (told_on t o) text done op todo follow.1

-- they have messages all of them
pub all_spelled : (t : Told) (text : ℕ) (ops : List Operation) → CanFollow t text ops → All HasSpelling ops
all_spelled t text [] follow = All-nil HasSpelling
all_spelled t text (op ∷ ops) follow =
    All-cons HasSpelling op ops follow.0.spelled (all_spelled (told_on t op) text ops follow.1)

-- operations whose bytes others begin with are the first of those, and what is left is what the others add
pub told_first : (text : ℕ) (done all : List Operation) (rest : List ℕ) → IsHistory text done → IsHistory text all
    → packed all ≡ packed done ++ rest
    → (todo : List Operation) × (all ≡ done ++ todo) × (rest ≡ packed_after (told done) todo)
told_first text done all rest of_done of_all e =
    let (todo, is) = beginnings_are_histories text done all rest of_done of_all e in
    let same : packed done ++ rest ≡ packed done ++ packed_after (told done) todo =
    sym e ∙ ap packed is ∙ packed_more nothing_told done todo in
    (todo, is, append_cancel_left (packed done) rest (packed_after (told done) todo) same)
