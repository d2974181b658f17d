-- Who stands in a note's chains, and one entry more.
use Rattle.std.proofs.Common.{◌≡◌, ◌≢◌, ℕ, ◌<◌, ◌↔◌, inl, inr, Bool, true, List, Option, Some, None, Contains, Bor, refl, sym, ap, subst, ◌∙◌, arith}
use Rattle.std.specs.Prelude.{IfNone, IfSome}
use Rattle.std.proofs.lemmas.Bool.{cases_eq}
use Rattle.note_laws.specs.Note.{Note, Entries, Saying, Claim, IsHolder, IsOfBase}
use Rattle.note_laws.specs.Chains.{AreBranches, HoldsItsPlace}
use Rattle.note_laws.specs.Laws.{AreSameSayings, AreToldApart, IsBaseIdentified}
use Rattle.note_entries.specs.Branches.{Place, TakesPlaceOf, place_in_chain}
use Rattle.note_entries.specs.Claims.{IsClaimant, IsUnclaimed, TakesNumberOf}
use Rattle.note_entries.specs.Kept.{no_entries, with_claim, with_saying}
use Rattle.note_entries.specs.declared.branches.Said.{Said}
use Rattle.note_entries.specs.declared.branches.Said.TheVariants as said
use Rattle.note_entries.specs.declared.holders.Claimed.{Claimed}
use Rattle.note_entries.specs.declared.holders.Claimed.TheVariants as claimed
use Rattle.note_entries.proofs.Least.{of_none}
use Rattle.note_admission.specs.Base.{AreOneOfEach, HasSite, Spot, message_spot}
use Rattle.note_admission.specs.Places.{StandsInChain}
use Rattle.note_admission.specs.Standing.{AreChainsOf, ChainsSeen, CanBeClaimed, founder_number}

-- of an identified base all is kept
pub same_base : (note : Note) (kept : List Saying) → IsBaseIdentified note → AreOneOfEach note.base kept
    → AreSameSayings note.base kept
same_base note kept identified are s = (
  λ held.
      let (k, there, same) = are.each s held in
      let is : k ≡ s = identified k s (are.among k there) held (ap (λ (p : Spot). p.text) same)
      (ap (λ (p : Spot). p.site) same) (ap (λ (p : Spot). p.seq) same) in
      subst (Contains kept) is there,
  λ there. are.among s there,
)

pub none_told : AreToldApart no_entries
none_told = record {
  hashes = λ a b held other same. absurd (of_none a held);
  ranks = λ a b held other same. absurd (of_none a held);
}

module _ (chains : ChainsSeen) (note : Note) (entries : Entries) (are : AreChainsOf chains note entries) where
  pub of_base : (site : ℕ) → HasSite chains.base site ↔ IsOfBase note site
  of_base site = (
    λ h. let (s, held, on) = h in (s, (are.base s).1 held, on),
    λ h. let (s, held, on) = h in (s, (are.base s).0 held, on),
  )

  pub founder_holds : (site : ℕ) → chains.opening.number ≡ Some site → ¬ IsOfBase note site → (author : ℕ)
      → IsHolder note entries site author ↔ (author ≡ chains.opening.founder)
  founder_holds site own free author =
      let number : note.number ≡ site = are.opens.number ∙ ap founder_number own in (
        λ h. h.founder (sym number) ∙ are.opens.founder,
        λ is. record {
          free = free;
          founder = λ _. is ∙ sym are.opens.founder;
          claimed = λ other. absurd (other (sym number));
        },
      )

  pub not_founders : (site : ℕ) → 0 < site → chains.opening.number ≢ Some site → site ≢ note.number
  not_founders site above other same = by chains.opening.number refl
    where
      by : (n : Option ℕ) → chains.opening.number ≡ n → ⊥
      by None is =
          let zero : note.number ≡ 0 = are.opens.number ∙ ap founder_number is in
          omega arith
      by (Some m) is =
          let number : note.number ≡ m = are.opens.number ∙ ap founder_number is in
          let one : m ≡ site = sym number ∙ sym same in
          other (is ∙ ap (λ (n : ℕ). Some n) one)

  pub claimant_holds : (site : ℕ) → site ≢ note.number → ¬ IsOfBase note site → (holder : ℕ)
      → IsClaimant chains.kept.claims site holder → (author : ℕ)
      → IsHolder note entries site author ↔ (author ≡ holder)
  claimant_holds site other free holder (claim, held, on, by) author =
      let least = (are.kept.claims claim).0 held in (
        λ h.
            let (c, its, at, of) = h.claimed other in
            let low = its.least claim least.made (at ∙ sym on) in
            let high = least.least c its.made (on ∙ sym at) in
            sym of ∙ (are.told.ranks c claim its.made least.made (omega arith) ∙ by),
        λ is. record {
          free = free;
          founder = λ same. absurd (other same);
          claimed = λ _. (claim, least, on, by ∙ sym is);
        },
      )

  pub nobody_holds : (site : ℕ) → site ≢ note.number → IsUnclaimed chains.kept.claims site → (author : ℕ)
      → ¬ IsHolder note entries site author
  nobody_holds site other none author h =
      let (c, its, at, of) = h.claimed other in
      none c ((are.kept.claims c).1 its) at

-- this author holds the number, if it isn't the base's
abbrev pub HoldsNumber : ChainsSeen → (site holder : ℕ) → Type 0
HoldsNumber chains site holder = (note : Note) (entries : Entries) → AreChainsOf chains note entries
    → ¬ IsOfBase note site → (author : ℕ) → IsHolder note entries site author ↔ (author ≡ holder)

abbrev pub NobodyHolds : ChainsSeen → ℕ → Type 0
NobodyHolds chains site = (note : Note) (entries : Entries) → AreChainsOf chains note entries → (author : ℕ)
    → ¬ IsHolder note entries site author

module _ (chains : ChainsSeen) (site : ℕ) (above : 0 < site) (other : chains.opening.number ≢ Some site) where
  pub some_claimant : (r : Option ℕ) → IfSome r (IsClaimant chains.kept.claims site)
      → IfSome r (HoldsNumber chains site)
  some_claimant None some = tt
  some_claimant (Some holder) some = λ note entries are free author.
      claimant_holds chains note entries are site (not_founders chains note entries are site above other) free holder
      some author

  pub no_claimant : (r : Option ℕ) → IfNone r (IsUnclaimed chains.kept.claims site)
      → IfNone r (NobodyHolds chains site)
  no_claimant None none = λ note entries are author.
      nobody_holds chains note entries are site (not_founders chains note entries are site above other) none author
  no_claimant (Some holder) none = tt

-- what stands there
abbrev pub Stands : ChainsSeen → (text site seq before : ℕ) → Saying → Type 0
Stands chains text site seq before s = (note : Note) (entries : Entries) → AreChainsOf chains note entries
    → StandsInChain note entries text site seq before s

abbrev pub NoneStands : ChainsSeen → (text site seq before : ℕ) → Type 0
NoneStands chains text site seq before = (note : Note) (entries : Entries) → AreChainsOf chains note entries
    → (s : Saying) → ¬ StandsInChain note entries text site seq before s

module _ (chains : ChainsSeen) (text site seq before : ℕ) where
  abbrev In : Spot
  In = record { text = text; site = site; seq = seq }

  pub base_stands : (r : Option (Bor Saying)) → IfSome r (λ s. Contains chains.base s.now × (message_spot s.now ≡ In))
      → IfSome r (λ s. Stands chains text site seq before s.now)
  base_stands None some = tt
  base_stands (Some s) (held, at) = λ note entries are. record {
    of_text = ap (λ (p : Spot). p.text) at;
    of_site = ap (λ (p : Spot). p.site) at;
    of_seq = ap (λ (p : Spot). p.seq) at;
    holds = inl ((are.base s.now).1 held);
    follows = inl ((are.base s.now).1 held);
  }

  pub no_base_stands : HasSite chains.base site → (r : Option (Bor Saying))
      → IfNone r ((s : Saying) → Contains chains.base s → ¬ (message_spot s ≡ In))
      → IfNone r (NoneStands chains text site seq before)
  no_base_stands has None none = λ note entries are s stands. elim stands.holds [
    | inl base ↦ none s ((are.base s).0 base) (λ i. record {
      text = stands.of_text i;
      site = stands.of_site i;
      seq = stands.of_seq i;
    })
    | inr h ↦ h.0.free (subst (IsOfBase note) (sym stands.of_site) ((of_base chains note entries are site).0 has))
  ]
  no_base_stands has (Some s) none = tt

  module _ (free : ¬ HasSite chains.base site) where
    not_of_base : (note : Note) (entries : Entries) → AreChainsOf chains note entries → ¬ IsOfBase note site
    not_of_base note entries are h = free ((of_base chains note entries are site).1 h)

    pub nobody_stands : NobodyHolds chains site → (r : Option (Bor Saying))
        → IfNone r (NoneStands chains text site seq before)
    nobody_stands nobody None = λ note entries are s stands. elim stands.holds [
      | inl base ↦ not_of_base note entries are (s, base, stands.of_site)
      | inr h ↦ nobody note entries are s.author
          (subst (λ (n : ℕ). IsHolder note entries n s.author) stands.of_site h.0)
    ]
    nobody_stands nobody (Some s) = tt

    module _ (holder : ℕ) (holds : HoldsNumber chains site holder) where
      abbrev After : Place
      After = record { author = holder; text = text; site = site; seq = seq; before = before }

      pub holder_stands : (r : Option (Bor Saying))
          → IfSome r (λ s. Contains chains.kept.said s.now × (place_in_chain s.now ≡ After))
          → IfSome r (λ s. Stands chains text site seq before s.now)
      holder_stands None some = tt
      holder_stands (Some s) (held, at) = λ note entries are.
          let on : s.now.op.site ≡ site = ap (λ (p : Place). p.site) at in
          let by = (holds note entries are (not_of_base note entries are) s.now.author).1
          (ap (λ (p : Place). p.author) at) in
          record {
            of_text = ap (λ (p : Place). p.text) at;
            of_site = on;
            of_seq = ap (λ (p : Place). p.seq) at;
            holds = inr (
              subst (λ (n : ℕ). IsHolder note entries n s.now.author) (sym on) by,
              (are.kept.said s.now).0 held,
            );
            follows = inr (ap (λ (p : Place). p.before) at);
          }

      pub no_holder_stands : (r : Option (Bor Saying))
          → IfNone r ((s : Saying) → Contains chains.kept.said s → ¬ (place_in_chain s ≡ After))
          → IfNone r (NoneStands chains text site seq before)
      no_holder_stands None none = λ note entries are s stands.
          let free = not_of_base note entries are in
          elim stands.holds [
            | inl base ↦ free (s, base, stands.of_site)
            | inr h ↦ elim stands.follows [
              | inl base ↦ free (s, base, stands.of_site)
              | inr follows ↦
                  let author = (holds note entries are free s.author).0
                  (subst (λ (n : ℕ). IsHolder note entries n s.author) stands.of_site h.0) in
                  none s ((are.kept.said s).1 h.1) (λ i. record {
                    author = author i;
                    text = stands.of_text i;
                    site = stands.of_site i;
                    seq = stands.of_seq i;
                    before = follows i;
                  })
            ]
          ]
      no_holder_stands (Some s) none = tt

-- what a claim doesn't take stays
module _ (chains : ChainsSeen) (note : Note) (entries : Entries) (are : AreChainsOf chains note entries) (claim : Claim)
    (lost : Bool) where
  still_holds : (s : Saying) → (CanBeClaimed chains claim.site → s.op.site ≢ claim.site) → s.op.site ≡ claim.site
      → HoldsItsPlace note entries s → HoldsItsPlace note (with_claim entries claim) s
  still_holds s stays on (inl base) = inl base
  still_holds s stays on (inr (holder, least)) = elim (cases_eq s.op.site note.number) [
    | inl own ↦ inr (
      record {
        free = holder.free;
        founder = holder.founder;
        claimed = λ other. absurd (other own);
      },
      least,
    )
    | inr other ↦ absurd (stays (
      λ has. holder.free (subst (IsOfBase note) (sym on) ((of_base chains note entries are claim.site).0 has)),
      λ own. other (on ∙ sym (are.opens.number ∙ ap founder_number own)),
    ) on)
  ]

  pub holds_still : (r : Claimed) → (r ≡ claimed.Other → CanBeClaimed chains claim.site → lost ≡ true)
      → ((s : Saying) → HoldsItsPlace note entries s → ¬ TakesNumberOf claim r s
      → HoldsItsPlace note (with_claim entries claim) s)
      → (s : Saying) → HoldsItsPlace note entries s → (lost ≡ true → s.op.site ≢ claim.site)
      → HoldsItsPlace note (with_claim entries claim) s
  holds_still claimed.Same told keeps s held stays = keeps s held (λ takes. takes)
  holds_still claimed.First told keeps s held stays = keeps s held (λ takes. takes)
  holds_still claimed.Other told keeps s held stays = elim (cases_eq s.op.site claim.site) [
    | inl on ↦ still_holds s (λ free. stays (told refl free)) on held
    | inr apart ↦ keeps s held apart
  ]

-- and what a message doesn't, where it can take a place of its author's number alone
pub stands_still : (note : Note) (entries : Entries) (m : Saying) (lost : Bool) (r : Said)
    → (r ≡ said.Lesser → IsHolder note entries m.op.site m.author → lost ≡ true)
    → ((s : Saying) → HoldsItsPlace note entries s → ¬ TakesPlaceOf m r s
    → HoldsItsPlace note (with_saying entries m) s)
    → (s : Saying) → HoldsItsPlace note entries s → (lost ≡ true → ¬ AreBranches m s)
    → HoldsItsPlace note (with_saying entries m) s
stands_still note entries m lost said.Repeat told keeps s held stays = keeps s held (λ takes. takes)
stands_still note entries m lost said.Greater told keeps s held stays = keeps s held (λ takes. takes)
stands_still note entries m lost said.First told keeps s held stays = keeps s held (λ takes. takes)
stands_still note entries m lost said.Lesser told keeps s (inl base) stays = inl base
stands_still note entries m lost said.Lesser told keeps s (inr (holder, least)) stays =
    keeps s (inr (holder, least)) (λ are. stays (told refl
    (subst (λ (n : ℕ). IsHolder note entries n m.author) (sym are.site)
    (subst (λ (a : ℕ). IsHolder note entries s.op.site a) (sym are.author) holder))) are)
