-- The messages of a note's base, put one after the other.
use Rattle.std.proofs.Common.{◌≡◌, ◌≢◌, ℕ, ◌⊎◌, ◌↔◌, inl, inr, true, List, [], ◌∷◌, ◌++◌, Option, Some, None, Contains, IsSome, Bor, nat_eq}
use Rattle.std.proofs.Common.{refl, sym, ap, subst, ◌∙◌}
use Rattle.std.specs.Cmp.{IsEquivalence, IsTotalOrder, eq_by_cmp_equiv, nat_cmp_total, on_total, then_total}
use Rattle.std.specs.List.{IsDistinct}
use Rattle.std.specs.Map.{keys_of, lookup, values_of}
use Rattle.std.specs.Option.{is_some, option_copied}
use Rattle.std.specs.Ordering.{nat_cmp}
use Rattle.std.proofs.lemmas.Bool.{cases_Bool, false≢true}
use Rattle.std.proofs.lemmas.List.Elements.{Contains-append_left, Contains-push, Contains-push_cases}
use Rattle.note_laws.specs.Note.{Saying}
use Rattle.note_admission.specs.Base.{AreFound, AreOneOfEach, HasSite, IsPutAt, Spot, is_same_spot, message_spot, spot_cmp}
use Rattle.note_admission.specs.Kept.{BaseSites}
use Rattle.note_entries.proofs.Least.{of_none}
use Rattle.note_entries.proofs.Orders.{equal_parts, one_number}

pub one_spot : (a b : Spot) → is_same_spot a b ≡ true → a ≡ b
one_spot a b e =
    let text = equal_parts (nat_cmp a.text b.text) _ e in
    let rest = equal_parts (nat_cmp a.site b.site) _ text.1 in
    λ i. record {
      text = one_number a.text b.text text.0 i;
      site = one_number a.site b.site rest.0 i;
      seq = one_number a.seq b.seq rest.1 i;
    }

spot_total : IsTotalOrder spot_cmp
spot_total = then_total (on_total (λ (p : Spot). p.text) nat_cmp_total)
    (then_total (on_total (λ (p : Spot). p.site) nat_cmp_total) (on_total (λ (p : Spot). p.seq) nat_cmp_total))

pub spots : IsEquivalence is_same_spot
spots = eq_by_cmp_equiv spot_total

spots_apart : (a b : Saying) → (message_spot a ≡ message_spot b) ⊎ (message_spot a ≢ message_spot b)
spots_apart a b = elim (cases_Bool (is_same_spot (message_spot a) (message_spot b))) [
  | inl is ↦ inl (one_spot (message_spot a) (message_spot b) is)
  | inr none ↦ inr (λ same. false≢true
      (sym none ∙ subst (λ (q : Spot). is_same_spot (message_spot a) q ≡ true) same (spots.refl (message_spot a))))
]

-- what a look-up copies is there where it is
pub seen_some : {X : Type 0} (r : Option (Bor X)) (l : Option X) → option_copied r ≡ l → is_some r ≡ is_some l
seen_some None l e = ap is_some e
seen_some (Some x) l e = ap is_some e

-- of no messages nothing is found
pub found_none : (said : List (Spot × Saying)) (known : BaseSites) (sites : List ℕ) → said ≡ [] → known ≡ [] → sites ≡ []
    → IsDistinct is_same_spot (keys_of said) → AreFound said known sites × AreOneOfEach [] (values_of said)
found_none said known sites no_said no_known no_sites distinct = (
  record {
    keyed = record {
      keyed = λ k x held. absurd (of_none (k, x) (subst (λ (es : List (Spot × Saying)). Contains es (k, x)) no_said held));
      distinct = distinct;
    };
    listed = λ site. (
      λ some. absurd (false≢true (subst (λ (m : BaseSites). IsSome (lookup (nat_eq site) m)) no_known some)),
      λ held. absurd (no_site site held),
    );
    theirs = λ site. (λ held. absurd (no_site site held), λ has. absurd (no_value has.0 has.1));
  },
  record {
    among = λ s held. absurd (no_value s held);
    each = λ s held. absurd (of_none s held);
  },
)
  where
    no_site : (site : ℕ) → Contains sites site → ⊥
    no_site site held = of_none site (subst (λ (xs : List ℕ). Contains xs site) no_sites held)

    no_value : (s : Saying) → Contains (values_of said) s → ⊥
    no_value s held = of_none s (subst (λ (es : List (Spot × Saying)). Contains (values_of es) s) no_said held)

module _ (old new : List Saying) (s : Saying) (put : IsPutAt old s new) where
  stands : Contains new s
  stands = (put s).1 (inr refl)

  -- whose spot is another stays
  stays : (x : Saying) → Contains old x → (k : Saying) × Contains new k × (message_spot k ≡ message_spot x)
  stays x held = elim (spots_apart s x) [
    | inl same ↦ (s, stands, same)
    | inr apart ↦ (x, (put x).1 (inl (held, apart)), refl)
  ]

  pub one_more : (all : List Saying) → AreOneOfEach all old → AreOneOfEach (all ++ s ∷ []) new
  one_more all are = record {
    among = λ x held. elim ((put x).0 held) [
      | inl was ↦ Contains-append_left all (s ∷ []) x (are.among x was.0)
      | inr is ↦ subst (Contains (all ++ s ∷ [])) (sym is) (Contains-push all s)
    ];
    each = λ x held. elim (Contains-push_cases all s x held) [
      | inl there ↦
          let (k, kept, same) = are.each x there in
          let (m, now, on) = stays k kept in
          (m, now, on ∙ same)
      | inr is ↦ (s, stands, ap message_spot is)
    ];
  }

  site_more : (site : ℕ) → HasSite new site ↔ HasSite old site ⊎ (s.op.site ≡ site)
  site_more site = (
    λ h.
        let (x, held, on) = h in
        elim ((put x).0 held) [
          | inl was ↦ inl (x, was.0, on)
          | inr is ↦ inr (ap (λ (m : Saying). m.op.site) (sym is) ∙ on)
        ],
    λ h. elim h [
      | inl was ↦
          let (x, held, on) = was in
          let (k, now, same) = stays x held in
          (k, now, ap (λ (p : Spot). p.site) same ∙ on)
      | inr on ↦ (s, stands, on)
    ],
  )

  pub theirs_more : (was now : List ℕ) → ((site : ℕ) → Contains was site ↔ HasSite old site)
      → ((site : ℕ) → Contains now site ↔ Contains was site ⊎ (s.op.site ≡ site))
      → (site : ℕ) → Contains now site ↔ HasSite new site
  theirs_more was now theirs listed site = (
    λ held. (site_more site).1 (elim ((listed site).0 held) [
      | inl before ↦ inl ((theirs site).0 before)
      | inr is ↦ inr is
    ]),
    λ has. (listed site).1 (elim ((site_more site).0 has) [
      | inl before ↦ inl ((theirs site).1 before)
      | inr is ↦ inr is
    ]),
  )
