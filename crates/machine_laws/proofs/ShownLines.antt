-- What a query prints of a text is one thing, and what is shown tells it.
use Rattle.std.proofs.Common.{◌≡◌, ℕ, Bool, true, false, List, refl, sym, ap, subst, ◌∙◌, inl, inr}
use Rattle.std.specs.Prelude.{◌⊎◌, MatchBool}
use Rattle.looks.specs.declared.refusal.Refusal.TheVariants.{OutOfRange}
use Rattle.char_files.specs.Runs.{NoOtherRuns, maximal_runs}
use Rattle.char_files.specs.Stretch.{Item, Stretch}
use Rattle.char_files.specs.declared.character.Char.{Char}
use Rattle.operations.specs.NameSet.{names_of}
use Rattle.set_laws.specs.Fronts.{AreSites}
use Rattle.texts.specs.TextState.{TextState, shown_items, shown_of}
use Rattle.texts.proofs.Pasts.{same_pasts}
use Rattle.tree_order.specs.Laws.{AreSameSet}
use Rattle.machine_laws.specs.Laws.{AnswerTheSame, IsOfTheSet}
use Rattle.machine.specs.declared.asked.Query.{Query}
use Rattle.machine.specs.declared.asked.Query.TheVariants.{Front, Names, Pack, Past, WhereShown, Runs, Since, Text}
use Rattle.machine.specs.Events.{Reply, prints, refuses}
use Rattle.machine.specs.NamesShown.{names_lines}
use Rattle.machine.specs.Since.{pack_lines, since_lines}
use Rattle.machine.specs.OnTexts.{Prints, QueriesText, is_asked_in}
use Rattle.machine.specs.WhereShown.{where_lines}
use Rattle.machine.specs.Printing.{AreRunsOf, front_lines, run_lines, text_lines}
use Rattle.machine_laws.proofs.RisingSites.{one_sites}

-- the same characters have the same runs
pub one_runs : NoOtherRuns → (items items' : List Item) (runs runs' : List Stretch) → AreRunsOf items runs
    → AreRunsOf items' runs' → items ≡ items' → runs ≡ runs'
one_runs only items items' runs runs' are are' same =
    sym (only runs are.0) ∙ ap maximal_runs (are.1 ∙ same ∙ sym are'.1) ∙ only runs' are'.0

-- and one text's characters have one answer to `text`
text_lines-shown : (t u : TextState) → shown_of t ≡ shown_of u → text_lines t ≡ text_lines u
text_lines-shown t u same = rw same refl

items-shown : (t u : TextState) → shown_of t ≡ shown_of u → shown_items t ≡ shown_items u
items-shown t u same = rw same refl

-- two texts are one, or the query is of what the operations determine, and they have the same ones and show the same
abbrev PrintAlike : Query → TextState → TextState → Type 0
PrintAlike q t u = (t ≡ u) ⊎ (IsOfTheSet q × (shown_of t ≡ shown_of u) × AreSameSet t.operations u.operations)

alike-shown : (q : Query) (t u : TextState) → PrintAlike q t u → shown_of t ≡ shown_of u
alike-shown q t u (inl same) = ap shown_of same
alike-shown q t u (inr (is, shown, set)) = shown

alike-set : (q : Query) (t u : TextState) → PrintAlike q t u → AreSameSet t.operations u.operations
alike-set q t u (inl same) = subst (λ (x : TextState). AreSameSet t.operations x.operations) same (λ op. (λ held. held, λ held. held))
alike-set q t u (inr (is, shown, set)) = set

-- such texts print one thing: a case for each query
prints_one : NoOtherRuns → (q : Query) (t u : TextState) (a b : List ℕ) → PrintAlike q t u → Prints q t a
    → Prints q u b → a ≡ b
prints_one only Text t u a b alike prints_a prints_b =
    prints_a ∙ text_lines-shown t u (alike-shown Text t u alike) ∙ sym prints_b
prints_one only Front t u a b (inl same) (sites, are, prints_a) (sites', are', prints_b) =
    let here : AreSites t.operations sites' =
    subst (λ (x : TextState). AreSites x.operations sites') (sym same) are' in
    prints_a ∙ ap (front_lines t) (one_sites t.operations sites sites' are here)
    ∙ ap (λ (x : TextState). front_lines x sites') same ∙ sym prints_b
prints_one only Front t u a b (inr alike) prints_a prints_b = absurd alike.0
prints_one only Runs t u a b alike (runs, are, prints_a) (runs', are', prints_b) =
    let same = items-shown t u (alike-shown Runs t u alike) in
    prints_a ∙ ap run_lines (one_runs only (shown_items t) (shown_items u) runs runs' are are' same) ∙ sym prints_b
prints_one only (WhereShown names) t u a b alike prints_a prints_b =
    prints_a
    ∙ ap (λ (chars : List Char). where_lines chars (names_of names)) (alike-shown (WhereShown names) t u alike)
    ∙ sym prints_b
prints_one only (Names beg end) t u a b alike prints_a prints_b =
    prints_a ∙ ap (λ (chars : List Char). names_lines chars beg end) (alike-shown (Names beg end) t u alike) ∙ sym prints_b
prints_one only (Since fronts) t u a b (inl same) prints_a prints_b =
    prints_a ∙ ap (λ (x : TextState). since_lines fronts x.operations) same ∙ sym prints_b
prints_one only (Since fronts) t u a b (inr alike) prints_a prints_b = absurd alike.0
prints_one only (Past fronts) t u a b alike (past, is, prints_a) (past', is', prints_b) =
    prints_a
    ∙ text_lines-shown past past' (same_pasts t u past past' fronts (alike-set (Past fronts) t u alike) is is').shown
    ∙ sym prints_b
prints_one only (Pack fronts) t u a b (inl same) prints_a prints_b =
    prints_a ∙ ap (pack_lines fronts) same ∙ sym prints_b
prints_one only (Pack fronts) t u a b (inr alike) prints_a prints_b = absurd alike.0

-- and its positions lie in both, or in neither
asked_alike : (q : Query) (t u : TextState) → shown_of t ≡ shown_of u → is_asked_in t q ≡ is_asked_in u q
asked_alike Text t u same = refl
asked_alike Front t u same = refl
asked_alike Runs t u same = refl
asked_alike (WhereShown names) t u same = refl
asked_alike (Names beg end) t u same = rw same refl
asked_alike (Since fronts) t u same = refl
asked_alike (Past fronts) t u same = refl
asked_alike (Pack fronts) t u same = refl

-- so it is answered in one way
answers_one : NoOtherRuns → (q : Query) (t u : TextState) (r r' : Reply) (inside : Bool) → PrintAlike q t u
    → MatchBool inside ((a : List ℕ) × Prints q t a × (r ≡ prints a)) (r ≡ refuses OutOfRange)
    → MatchBool inside ((b : List ℕ) × Prints q u b × (r' ≡ prints b)) (r' ≡ refuses OutOfRange) → r ≡ r'
answers_one only q t u r r' true alike (a, prints_a, is) (b, prints_b, is') =
    is ∙ ap prints (prints_one only q t u a b alike prints_a prints_b) ∙ sym is'
answers_one only q t u r r' false alike is is' = is ∙ sym is'

-- a query is answered in one way of a text
pub one_answer : NoOtherRuns → (q : Query) (t : TextState) (r r' : Reply) → QueriesText q r t → QueriesText q r' t → r ≡ r'
one_answer only q t r r' = answers_one only q t t r r' (is_asked_in t q) (inl refl)

-- texts of the same operations, which show the same, answer the same of it
pub answers-alike : NoOtherRuns → (t u : TextState) → shown_of t ≡ shown_of u → AreSameSet t.operations u.operations
    → AnswerTheSame t u
answers-alike only t u same set q r r' is asks asks' =
    answers_one only q t u r r' (is_asked_in t q) (inr (is, same, set)) asks
    (subst (λ (inside : Bool). MatchBool inside ((b : List ℕ) × Prints q u b × (r' ≡ prints b)) (r' ≡ refuses OutOfRange))
    (sym (asked_alike q t u same)) asks')
