-- What is admitted, with one message more.
use Rattle.std.proofs.Common.{◌≡◌, ℕ, ◌<◌, ◌≤◌, ◌⊎◌, inl, inr, List, [], ◌∷◌, ◌++◌, length, take, Some, slice_get, refl, sym, ap, subst, ◌∙◌, arith}
use Rattle.std.proofs.lemmas.Bool.{cases_lt}
use Rattle.std.proofs.lemmas.List.{append-nil, append_assoc, get_or_append_left, get_or_at, length-append, length-map, length_push, take-append-le, take_at}
use Rattle.std.proofs.lemmas.Option.{get_or_from_slice_get, slice_get_read, slice_get_within}
use Rattle.operations.specs.Operation.{Operation}
use Rattle.set_laws.specs.Verdict.{HasVerdict, IsNew, ready}
use Rattle.set_laws.proofs.Freed.{good_if_ready}
use Rattle.set_laws.proofs.OneMore.{with_one_identified}
use Rattle.note_laws.specs.Note.{Note, Entries, Saying}
use Rattle.note_laws.specs.Chains.{operations, ComesNext}
use Rattle.note_laws.specs.Admission as defined
use Rattle.note_laws.specs.Admission.{CountInTurn, IsAdmissible, MeetsFate}
use Rattle.note_laws.specs.Laws.{AreReadyInTurn, AreToldApart, IsBaseIdentified}
use Rattle.note_laws.proofs.Existing.{one_more}
use Rattle.note_laws.proofs.Fates.{same_fate}
use Rattle.note_laws.proofs.Lists.{ops_push}
use Rattle.note_laws.proofs.Places.{one_next}
use Rattle.note_admission.specs.declared.fate.Fate.{Fate}
use Rattle.note_admission.specs.declared.fate.Fate.TheVariants.{Counts, Wrong, HeldBack, Lacks, OnOthers}
use Rattle.note_admission.specs.Fates.{fate_of}
use Rattle.note_admission.specs.Growing.{AreTaken, LogGoesOn, IsSoundLog, NoneCounts, TakesAllOfNumber, TakesNone, TakesOn, TextSeen}
use Rattle.note_admission.specs.Kept.{IsKeptOf}

-- an element of a list with one more
push_cases : (ops : List Operation) (op : Operation) (n : ℕ) (o : Operation) → slice_get (ops ++ op ∷ []) n ≡ Some o
    → (n < length ops × (slice_get ops n ≡ Some o)) ⊎ ((n ≡ length ops) × (op ≡ o))
push_cases ops op n o at =
    let within = slice_get_within (ops ++ op ∷ []) n o at in
    let many = length_push ops op in
    let is = get_or_from_slice_get (ops ++ op ∷ []) n o o at in
    elim (cases_lt n (length ops)) [
      | inl lt ↦ inl (lt, slice_get_read ops (length ops) n o refl lt (sym is ∙ get_or_append_left ops (op ∷ []) o n lt))
      | inr past ↦
          let last : n ≡ length ops = omega arith in
          inr (last, sym (get_or_at ops op [] o n (sym last)) ∙ is)
    ]

-- each is ready over those before it, with one more
ready_more : (text : ℕ) (ops : List Operation) (op : Operation) → AreReadyInTurn text ops → op.text ≡ text → IsNew ops op
    → HasVerdict ops op ready → AreReadyInTurn text (ops ++ op ∷ [])
ready_more text ops op are on new is n o at = elim (push_cases ops op n o at) [
  | inl (lt, was) ↦
      let same : take n (ops ++ op ∷ []) ≡ take n ops = take-append-le n ops (op ∷ []) (omega arith) in
      subst (λ (xs : List Operation). (o.text ≡ text) × IsNew xs o × HasVerdict xs o ready) (sym same) (are n o was)
  | inr (last, one) ↦
      let same : take n (ops ++ op ∷ []) ≡ ops = take_at ops (op ∷ []) n (sym last) in
      subst (λ (x : Operation). (x.text ≡ text) × IsNew (take n (ops ++ op ∷ [])) x × HasVerdict (take n (ops ++ op ∷ [])) x ready)
      one
      (subst (λ (xs : List Operation). (op.text ≡ text) × IsNew xs op × HasVerdict xs op ready) (sym same) (on, new, is))
]

pub sound_more : (text : ℕ) (ops : List Operation) (hashes : List ℕ) (op : Operation) (hash : ℕ)
    → IsSoundLog text ops hashes → op.text ≡ text → IsNew ops op → HasVerdict ops op ready
    → IsSoundLog text (ops ++ op ∷ []) (hashes ++ hash ∷ [])
sound_more text ops hashes op hash sound on new is = record {
  in_turn = ready_more text ops op sound.in_turn on new is;
  good = good_if_ready ops op sound.good sound.known new is;
  known = with_one_identified ops op sound.known new;
  whole =
      let whole = sound.whole in
      let a = length-append ops (op ∷ []) in
      let b = length-append hashes (hash ∷ []) in
      omega arith;
}

-- a log that goes on
pub goes_on_same : (a b : TextSeen) → b.ops ≡ a.ops → LogGoesOn a b
goes_on_same a b same = ([], same ∙ sym (append-nil a.ops))

pub goes_on_then : (a b e : TextSeen) → LogGoesOn a b → LogGoesOn b e → LogGoesOn a e
goes_on_then a b e (more, is) (most, then) = (
  more ++ most,
  then ∙ (ap (λ (xs : List Operation). xs ++ most) is ∙ append_assoc a.ops more most),
)

pub goes_on_longer : (a b : TextSeen) → LogGoesOn a b → length a.ops ≤ length b.ops
goes_on_longer a b (more, is) =
    let many : length b.ops ≡ length (a.ops ++ more) = ap length is in
    let sum = length-append a.ops more in
    omega arith

-- only what counts is said to
counts_told : (fate : Fate) → fate_of fate ≡ defined.counts → fate ≡ Counts
counts_told Counts is = refl
counts_told Wrong is = cc
counts_told HeldBack is = cc
counts_told Lacks is = cc
counts_told OnOthers is = cc

module _ (note : Note) (entries : Entries) (t u : TextSeen) (admitted : List Saying)
    (taken : AreTaken note entries t admitted) (text : u.text ≡ t.text) where
  pub taken_still : u.ops ≡ t.ops → (IsKeptOf note admitted t.kept → IsKeptOf note admitted u.kept)
      → AreTaken note entries u (admitted ++ [])
  taken_still ops kept =
      subst (AreTaken note entries u) (sym (append-nil admitted)) (record {
        in_turn = subst (λ (n : ℕ). CountInTurn note entries n admitted) (sym text) taken.in_turn;
        logged = taken.logged ∙ sym ops;
        tables = kept taken.tables;
      })

  pub taken_more : (s : Saying) → IsAdmissible note entries t.text admitted s → u.ops ≡ t.ops ++ s.op ∷ []
      → (IsKeptOf note admitted t.kept → IsKeptOf note (admitted ++ s ∷ []) u.kept)
      → AreTaken note entries u (admitted ++ s ∷ [])
  taken_more s counts ops kept = record {
    in_turn = subst (λ (n : ℕ). CountInTurn note entries n (admitted ++ s ∷ [])) (sym text)
        (one_more note entries t.text admitted s taken.in_turn counts);
    logged = ops_push admitted s ∙ (ap (λ (ops : List Operation). ops ++ s.op ∷ []) taken.logged ∙ sym ops);
    tables = kept taken.tables;
  }

  -- where the log got no longer, nothing more was admitted
  pub none_more : (more : List Saying) → AreTaken note entries u (admitted ++ more)
      → length u.ops ≡ length t.ops → more ≡ []
  none_more [] now same = refl
  none_more (s ∷ more) now same =
      let before : length (operations admitted) ≡ length t.ops = ap length taken.logged in
      let after : length (operations (admitted ++ s ∷ more)) ≡ length u.ops = ap length now.logged in
      let a = length-map {A = Saying} {B = Operation} admitted (λ x. x.op) in
      let b = length-map {A = Saying} {B = Operation} (admitted ++ s ∷ more) (λ x. x.op) in
      let d = length-append admitted (s ∷ more) in
      absurd (omega arith)

-- where the next message of a chain doesn't count, no message of it does
pub none_counts : (note : Note) (entries : Entries) (text : ℕ) (admitted : List Saying) (next : Saying) (fate : Fate)
    (site : ℕ) → CountInTurn note entries text admitted → IsBaseIdentified note → AreToldApart entries
    → ComesNext note entries text admitted next → next.op.site ≡ site → MeetsFate note admitted next (fate_of fate)
    → (fate ≡ Counts → ⊥) → NoneCounts note entries text admitted site
none_counts note entries text admitted next fate site in_turn base told comes on is other s on' counts =
    let one = one_next note entries text admitted in_turn base told next s comes counts.0 (on ∙ sym on') in
    let meets = subst (λ (x : Saying). MeetsFate note admitted x (fate_of fate)) one is in
    other (counts_told fate (same_fate note admitted s (fate_of fate) defined.counts meets counts.1))

module _ (digest : List ℕ → ℕ) (of : Note → Entries → Type 0) where
  pub takes_on_then : (a b e : TextSeen) → TakesOn digest of a b → TakesOn digest of b e
      → TakesOn digest of a e
  takes_on_then a b e first next note entries admitted given taken =
      let (more, taken') = first note entries admitted given taken in
      let (most, taken'') = next note entries (admitted ++ more) given taken' in
      (more ++ most, subst (AreTaken note entries e) (append_assoc admitted more most) taken'')

  pub takes_all_then : (a b e : TextSeen) (site : ℕ) → TakesOn digest of a b → TakesOn digest of b e
      → TakesNone digest of b site → length e.ops ≡ length b.ops → e.text ≡ b.text
      → TakesAllOfNumber digest of a e site
  takes_all_then a b e site first next none same text note entries admitted given taken =
      let (more, taken') = first note entries admitted given taken in
      let (most, taken'') = next note entries (admitted ++ more) given taken' in
      let nothing : most ≡ [] = none_more note entries b e (admitted ++ more) taken' text most taken'' same in
      let whole : (admitted ++ more) ++ most ≡ admitted ++ more =
      ap (λ (xs : List Saying). (admitted ++ more) ++ xs) nothing ∙ append-nil (admitted ++ more) in (
        more,
        subst (AreTaken note entries e) whole taken'',
        subst (λ (n : ℕ). NoneCounts note entries n (admitted ++ more) site) (sym text)
            (none note entries (admitted ++ more) given taken'),
      )

  -- where the log got no longer until then, none counted before
  pub none_before : (a b e : TextSeen) (site : ℕ) → TakesOn digest of a b → TakesAllOfNumber digest of b e site
      → length a.ops ≤ length b.ops → length b.ops ≤ length e.ops → length e.ops ≡ length a.ops → b.text ≡ a.text
      → e.text ≡ b.text → TakesNone digest of a site
  none_before a b e site first next le le' same text text' note entries admitted given taken =
      let (more, taken') = first note entries admitted given taken in
      let (most, taken'', none) = next note entries (admitted ++ more) given taken' in
      let nothing : more ≡ [] = none_more note entries a b admitted taken text more taken' (omega arith) in
      let nothing' : most ≡ [] = none_more note entries b e (admitted ++ more) taken' text' most taken'' (omega arith) in
      let whole : (admitted ++ more) ++ most ≡ admitted =
      ap (λ (xs : List Saying). (admitted ++ more) ++ xs) nothing'
      ∙ (append-nil (admitted ++ more) ∙ (ap (λ (xs : List Saying). admitted ++ xs) nothing ∙ append-nil admitted)) in
      subst (λ (n : ℕ). NoneCounts note entries n admitted site) (text' ∙ text)
      (subst (λ (xs : List Saying). NoneCounts note entries e.text xs site) whole none)

  -- and just where it was asked
  pub none_asked : (a e : TextSeen) (site : ℕ) → TakesAllOfNumber digest of a e site → length e.ops ≡ length a.ops
      → e.text ≡ a.text → TakesNone digest of a site
  none_asked a e site takes same text note entries admitted given taken =
      let (more, taken', none) = takes note entries admitted given taken in
      let nothing : more ≡ [] = none_more note entries a e admitted taken text more taken' same in
      let whole : admitted ++ more ≡ admitted =
      ap (λ (xs : List Saying). admitted ++ xs) nothing ∙ append-nil admitted in
      subst (λ (n : ℕ). NoneCounts note entries n admitted site) text
      (subst (λ (xs : List Saying). NoneCounts note entries e.text xs site) whole none)

  pub takes_nothing : (a : TextSeen) → TakesOn digest of a a
  takes_nothing a note entries admitted given taken =
      ([], subst (AreTaken note entries a) (sym (append-nil admitted)) taken)
