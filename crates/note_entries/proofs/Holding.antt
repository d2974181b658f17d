-- One entry more, and who holds his place still.
use Rattle.std.proofs.Common.{◌≡◌, ◌<◌, ◌≤◌, inl, inr, List, [], ◌∷◌, ◌++◌, Contains, sym, ap, subst, ◌∙◌, arith}
use Rattle.std.specs.Prelude.{Result, Ok, Err, IfOk}
use Rattle.std.proofs.lemmas.Bool.{cases_eq}
use Rattle.std.proofs.lemmas.List.Elements.{Contains-append_left, Contains-push, Contains-push_cases}
use Rattle.note_laws.specs.Note.{Note, Entries, Saying, Claim, IsLeastClaim}
use Rattle.note_laws.specs.Chains.{AreBranches, HoldsItsPlace, IsLeastBranch}
use Rattle.note_laws.specs.Laws.{AreToldApart}
use Rattle.note_entries.specs.declared.branches.Said.{Said}
use Rattle.note_entries.specs.declared.branches.Said.TheVariants as said
use Rattle.note_entries.specs.declared.holders.Claimed.{Claimed}
use Rattle.note_entries.specs.declared.holders.Claimed.TheVariants as claimed
use Rattle.note_entries.specs.Branches.{Says, TakesPlaceOf}
use Rattle.note_entries.specs.Claims.{Claims, TakesNumberOf}
use Rattle.note_entries.specs.Kept.{AreKeptOf, with_claim, with_saying}
use Rattle.note_entries.proofs.Coming.{beside}

module _ (entries : Entries) (claim : Claim) (told : AreToldApart (with_claim entries claim)) (old : Entries)
    (are : AreKeptOf entries old) where
  abbrev All : List Claim
  All = entries.claims ++ claim ∷ []

  there : (c : Claim) → Contains entries.claims c → Contains All c
  there c held = Contains-append_left entries.claims (claim ∷ []) c held

  -- a least one stays so where the claim isn't less
  least_still : (c : Claim) → IsLeastClaim entries.claims c → (c.site ≡ claim.site → c.rank ≤ claim.rank)
      → IsLeastClaim All c
  least_still c least over = record {
    made = there c least.made;
    least = λ other held on. elim (Contains-push_cases entries.claims claim other held) [
      | inl was ↦ least.least other was on
      | inr same ↦
          let le = over (on ∙ ap (λ (d : Claim). d.site) (sym same)) in
          let equal = ap (λ (d : Claim). d.rank) same in
          omega arith
    ];
  }

  -- and the claim is least that is less than one
  least_now : (kept : Claim) → IsLeastClaim entries.claims kept → kept.site ≡ claim.site → claim.rank < kept.rank
      → IsLeastClaim All claim
  least_now kept least on less = record {
    made = Contains-push entries.claims claim;
    least = λ other held same. elim (Contains-push_cases entries.claims claim other held) [
      | inl was ↦ let le = least.least other was (on ∙ same) in omega arith
      | inr is ↦ let equal = ap (λ (d : Claim). d.rank) is in omega arith
    ];
  }

  -- the least claim of an author's number is his still
  claimed_still : (r : Claimed) (new : List Claim) → Claims old.claims claim r new → (s : Saying)
      → (TakesNumberOf claim r s → ⊥) → (c : Claim) → IsLeastClaim entries.claims c → c.site ≡ s.op.site
      → (d : Claim) × IsLeastClaim All d × (d.site ≡ s.op.site) × (d.author ≡ c.author)
  claimed_still r new claims s stays c least on = elim (cases_eq c.site claim.site) [
    | inr apart ↦ (c, least_still c least (λ same. absurd (apart same)), on, λ i. c.author)
    | inl same ↦ by r claims stays same
  ]
    where
      by : (r : Claimed) → Claims old.claims claim r new → (TakesNumberOf claim r s → ⊥) → c.site ≡ claim.site
          → (d : Claim) × IsLeastClaim All d × (d.site ≡ s.op.site) × (d.author ≡ c.author)
      by claimed.Same (inl ((kept, held, of, le), is)) stays same =
          let at_most = least.least kept ((are.claims kept).0 held).made (same ∙ sym of) in
          (c, least_still c least (λ _. omega arith), on, λ i. c.author)
      by claimed.Same (inr ((kept, held, of, (less, one)), put)) stays same =
          let its = (are.claims kept).0 held in
          let at_most = least.least kept its.made (same ∙ sym of) in
          let at_least = its.least c least.made (of ∙ sym same) in
          let author = told.ranks kept c (there kept its.made) (there c least.made) (omega arith) in
          (claim, least_now kept its of less, sym same ∙ on, sym one ∙ author)
      by claimed.First (none, put) stays same = absurd (none c ((are.claims c).1 least) same)
      by claimed.Other ((kept, held, of, (less, other)), put) stays same = absurd (stays (sym on ∙ same))

  pub holds_with_claim : (r : Claimed) (new : List Claim) → Claims old.claims claim r new → (note : Note) (s : Saying)
      → HoldsItsPlace note entries s → (TakesNumberOf claim r s → ⊥) → HoldsItsPlace note (with_claim entries claim) s
  holds_with_claim r new claims note s (inl base) stays = inl base
  holds_with_claim r new claims note s (inr (holder, least)) stays = inr (
    record {
      free = holder.free;
      founder = holder.founder;
      claimed = λ other.
          let (c, its, on, by) = holder.claimed other in
          let (d, now, at, one) = claimed_still r new claims s stays c its on in
          (d, now, at, one ∙ by);
    },
    least,
  )

module _ (entries : Entries) (s : Saying) (old : Entries) (are : AreKeptOf entries old) where
  -- a least branch isn't above the message
  not_above : (r : Said) (new : List Saying) → Says old.said s r new → (m : Saying) → IsLeastBranch entries.said m
      → (TakesPlaceOf s r m → ⊥) → AreBranches m s → m.hash ≤ s.hash
  not_above said.Repeat new ((kept, held, on, equal), is) m least stays same =
      let at_most = least.least kept ((are.said kept).0 held).made (beside.transitive m s kept same on) in
      omega arith
  not_above said.Greater new ((kept, held, on, less), is) m least stays same =
      let at_most = least.least kept ((are.said kept).0 held).made (beside.transitive m s kept same on) in
      omega arith
  not_above said.First new (none, put) m least stays same =
      absurd (none m ((are.said m).1 least) (beside.symmetric m s same))
  not_above said.Lesser new (stands, put) m least stays same = absurd (stays (beside.symmetric m s same))

  pub holds_with_saying : (r : Said) (new : List Saying) → Says old.said s r new → (note : Note) (m : Saying)
      → HoldsItsPlace note entries m → (TakesPlaceOf s r m → ⊥) → HoldsItsPlace note (with_saying entries s) m
  holds_with_saying r new says note m (inl base) stays = inl base
  holds_with_saying r new says note m (inr (holder, least)) stays = inr (
    record { free = holder.free; founder = holder.founder; claimed = holder.claimed },
    record {
      made = Contains-append_left entries.said (s ∷ []) m least.made;
      least = λ other held on. elim (Contains-push_cases entries.said s other held) [
        | inl was ↦ least.least other was on
        | inr same ↦
            let le = not_above r new says m least stays (subst (AreBranches m) (sym same) on) in
            let equal = ap (λ (x : Saying). x.hash) same in
            omega arith
      ];
    },
  )

pub all_with_claim : {E : Type 0} (r : Result Claimed E) (claim : Claim) (old : Entries) (new : List Claim)
    → IfOk r (λ c. Claims old.claims claim c new)
    → IfOk r (λ c. (note : Note) (entries : Entries) → AreToldApart (with_claim entries claim) → AreKeptOf entries old
    → (s : Saying) → HoldsItsPlace note entries s → ¬ TakesNumberOf claim c s
    → HoldsItsPlace note (with_claim entries claim) s)
all_with_claim (Ok c) claim old new claims = λ note entries told are s held stays.
    holds_with_claim entries claim told old are c new claims note s held stays
all_with_claim (Err e) claim old new claims = tt

pub all_with_saying : {E : Type 0} (r : Result Said E) (s : Saying) (old : Entries) (new : List Saying)
    → IfOk r (λ a. Says old.said s a new)
    → IfOk r (λ a. (note : Note) (entries : Entries) → AreKeptOf entries old → (other : Saying)
    → HoldsItsPlace note entries other → ¬ TakesPlaceOf s a other → HoldsItsPlace note (with_saying entries s) other)
all_with_saying (Ok a) s old new says = λ note entries are other held stays.
    holds_with_saying entries s old are a new says note other held stays
all_with_saying (Err e) s old new says = tt
