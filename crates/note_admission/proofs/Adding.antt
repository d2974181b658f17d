-- Which messages get places by one entry more.
use Rattle.std.proofs.Common.{◌≡◌, ◌⊎◌, inl, inr, ◌∷◌, [], sym, ap, ◌∙◌}
use Rattle.std.proofs.lemmas.Bool.{cases_eq}
use Rattle.std.proofs.lemmas.List.Elements.{Contains-append_left, Contains-push_cases}
use Rattle.note_laws.specs.Note.{Note, Entries, Saying, Claim}
use Rattle.note_laws.specs.Chains.{HoldsItsPlace}
use Rattle.note_entries.specs.Kept.{with_claim, with_saying}

-- with a message more that one alone
pub message_adds : (note : Note) (entries : Entries) (m s : Saying) → HoldsItsPlace note (with_saying entries m) s
    → HoldsItsPlace note entries s ⊎ (s ≡ m)
message_adds note entries m s (inl base) = inl (inl base)
message_adds note entries m s (inr (holder, least)) = elim (Contains-push_cases entries.said m s least.made) [
  | inl was ↦ inl (inr (
    record { free = holder.free; founder = holder.founder; claimed = holder.claimed },
    record {
      made = was;
      least = λ other there beside. least.least other (Contains-append_left entries.said (m ∷ []) other there) beside;
    },
  ))
  | inr is ↦ inr (sym is)
]

-- with a claim more those of its number
pub claim_adds : (note : Note) (entries : Entries) (claim : Claim) (s : Saying)
    → HoldsItsPlace note (with_claim entries claim) s → HoldsItsPlace note entries s ⊎ (s.op.site ≡ claim.site)
claim_adds note entries claim s (inl base) = inl (inl base)
claim_adds note entries claim s (inr (holder, least)) = elim (cases_eq s.op.site claim.site) [
  | inl on ↦ inr on
  | inr apart ↦ inl (inr (
    record {
      free = holder.free;
      founder = holder.founder;
      claimed = λ other.
          let (c, its, on, by) = holder.claimed other in
          elim (Contains-push_cases entries.claims claim c its.made) [
            | inl was ↦ (
              c,
              record {
                made = was;
                least = λ d there same. its.least d (Contains-append_left entries.claims (claim ∷ []) d there) same;
              },
              on,
              by,
            )
            | inr is ↦ absurd (apart (sym on ∙ ap (λ (x : Claim). x.site) (sym is)))
          ];
    },
    least,
  ))
]
