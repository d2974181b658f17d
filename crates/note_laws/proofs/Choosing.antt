-- Whether an author holds a number, and a message is the least branch.
use Rattle.std.proofs.Common.{◌≡◌, ℕ, ◌+◌, ◌≤◌, ◌⊎◌, ◌++◌, ◌↔◌, inl, inr, List, Contains}
use Rattle.std.proofs.lemmas.Bool.{cases_eq}
use Rattle.std.proofs.lemmas.List.Elements.{Contains-append_left, Contains-append_right, Contains-append_cases}
use Rattle.tree_order.specs.Good.{IsPredecessor}
use Rattle.operations.specs.Operation.{Operation}
use Rattle.set_laws.proofs.Picking.{chosen}
use Rattle.note_laws.specs.Note.{Note, Entries, Saying, Claim, IsOfBase, IsHolder}
use Rattle.note_laws.specs.Chains.{AreBranches, HoldsItsPlace, NamesTheOneBefore}
use Rattle.note_laws.proofs.Deciding.{IsDecided, both, only_if, is_at_most, one_is, all_are}

pub is_of_base : (note : Note) (site : ℕ) → IsDecided (IsOfBase note site)
is_of_base note site = one_is (λ s. s.op.site ≡ site) note.base (λ s held. cases_eq s.op.site site)

-- a claim of the number by the author, than which none has a lesser rank
abbrev IsItsClaim : List Claim → (site author : ℕ) → Claim → Type 0
IsItsClaim claims site author claim =
    ((other : Claim) → Contains claims other → claim.site ≡ other.site → claim.rank ≤ other.rank)
    × ((claim.site ≡ site) × (claim.author ≡ author))

is_its_claim : (claims : List Claim) (site author : ℕ) (claim : Claim)
    → IsDecided (IsItsClaim claims site author claim)
is_its_claim claims site author claim =
    both (all_are (λ other. claim.site ≡ other.site → claim.rank ≤ other.rank) claims
    (λ other held. only_if (cases_eq claim.site other.site) (is_at_most claim.rank other.rank)))
    (both (cases_eq claim.site site) (cases_eq claim.author author))

holds_claimed : (note : Note) (entries : Entries) (site author : ℕ) → ¬ IsOfBase note site
    → (site ≡ note.number → ⊥) → IsDecided (IsHolder note entries site author)
holds_claimed note entries site author free other =
    elim (one_is (IsItsClaim entries.claims site author) entries.claims
    (λ claim held. is_its_claim entries.claims site author claim)) [
      | inl found ↦
          let (claim, made, is) = found in
          inl (record {
            free = free;
            founder = λ same. absurd (other same);
            claimed = λ _. (claim, record { made = made; least = is.0 }, is.1.0, is.1.1);
          })
      | inr none ↦ inr (λ h.
          let (claim, least, on, by) = h.claimed other in
          none (claim, least.made, (least.least, (on, by))))
    ]

pub holds : (note : Note) (entries : Entries) (site author : ℕ) → IsDecided (IsHolder note entries site author)
holds note entries site author =
    elim (is_of_base note site) [
      | inl base ↦ inr (λ h. h.free base)
      | inr free ↦ elim (cases_eq site note.number) [
        | inr other ↦ holds_claimed note entries site author free other
        | inl same ↦ elim (cases_eq author note.founder) [
          | inr none ↦ inr (λ h. none (h.founder same))
          | inl is ↦ inl (record {
            free = free;
            founder = λ _. is;
            claimed = λ other. absurd (other same);
          })
        ]
      ]
    ]

pub are_branches : (a b : Saying) → IsDecided (AreBranches a b)
are_branches a b =
    elim (both (cases_eq a.author b.author) (both (cases_eq a.op.text b.op.text)
    (both (cases_eq a.op.site b.op.site) (both (cases_eq a.op.seq b.op.seq) (cases_eq a.before b.before))))) [
      | inl is ↦ inl (record {
        author = is.0;
        text = is.1.0;
        site = is.1.1.0;
        seq = is.1.1.1.0;
        before = is.1.1.1.1;
      })
      | inr none ↦ inr (λ h. none (h.author, (h.text, (h.site, (h.seq, h.before)))))
    ]

-- it is its number's holder's, and no branch beside it has a lesser hash
abbrev IsLeastOfHolder : Note → Entries → Saying → Type 0
IsLeastOfHolder note entries s = IsHolder note entries s.op.site s.author
    × ((other : Saying) → Contains entries.said other → AreBranches s other → s.hash ≤ other.hash)

is_least_of_holder : (note : Note) (entries : Entries) (s : Saying) → IsDecided (IsLeastOfHolder note entries s)
is_least_of_holder note entries s =
    both (holds note entries s.op.site s.author)
    (all_are (λ other. AreBranches s other → s.hash ≤ other.hash) entries.said
    (λ other held. only_if (are_branches s other) (is_at_most s.hash other.hash)))

-- the messages that hold their places
pub holding : (note : Note) (entries : Entries)
    → (all : List Saying) × ((s : Saying) → HoldsItsPlace note entries s ↔ Contains all s)
holding note entries =
    let (least, has, only) = chosen (IsLeastOfHolder note entries) (λ s. IsLeastOfHolder note entries s → ⊥)
    (is_least_of_holder note entries) entries.said in (
      note.base ++ least,
      λ s. (to least has s, from least only s),
    )
  where
    to : (least : List Saying)
        → ((s : Saying) → Contains entries.said s → Contains least s ⊎ (IsLeastOfHolder note entries s → ⊥))
        → (s : Saying) → HoldsItsPlace note entries s → Contains (note.base ++ least) s
    to least has s (inl base) = Contains-append_left note.base least s base
    to least has s (inr by) = elim (has s by.1.made) [
      | inl there ↦ Contains-append_right note.base least s there
      | inr none ↦ absurd (none (by.0, by.1.least))
    ]

    from : (least : List Saying)
        → ((s : Saying) → Contains least s → Contains entries.said s × IsLeastOfHolder note entries s)
        → (s : Saying) → Contains (note.base ++ least) s → HoldsItsPlace note entries s
    from least only s held = elim (Contains-append_cases note.base least s held) [
      | inl base ↦ inl base
      | inr there ↦ let found = only s there in
          inr (found.1.0, record { made = found.0; least = found.1.1 })
    ]

pub is_predecessor : (p op : Operation) → IsDecided (IsPredecessor p op)
is_predecessor p op = both (cases_eq p.site op.site) (cases_eq (p.seq + 1) op.seq)

pub names_the_one_before : (there : List Saying) (s : Saying) → IsDecided (NamesTheOneBefore there s)
names_the_one_before there s =
    elim (both (only_if (cases_eq s.op.seq 1) (cases_eq s.before 0))
    (all_are (λ p. IsPredecessor p.op s.op → s.before ≡ p.hash) there
    (λ p held. only_if (is_predecessor p.op s.op) (cases_eq s.before p.hash)))) [
      | inl is ↦ inl (record { first = is.0; later = is.1 })
      | inr none ↦ inr (λ h. none (h.first, h.later))
    ]
