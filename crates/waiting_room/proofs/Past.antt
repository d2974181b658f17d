-- Names at or past an end of a site's file.
use Rattle.std.specs.Prelude.{IsTrue, Bool, not}
use Rattle.std.proofs.Common.{rules, false, ◌≡◌, ℕ, ◌+◌, ◌<◌, ◌↔◌, inl, inr, true, ◌==◌, nat_le, ◌&&◌, List, Contains}
use Rattle.std.proofs.Common.{refl, sym, ◌∙◌, ap, arith, eq-eqb, eqb-true, leb-true, le-leb}
use Rattle.std.specs.List.{list_any, All}
use Rattle.std.proofs.lemmas.Bool.{and_from, and_parts, cases_lt}
use Rattle.std.proofs.lemmas.List.Elements.{All-contains}
use Rattle.std.proofs.lemmas.List.Folds.{Any-from_list_any, list_any-from_Any}
use Rattle.char_files.specs.CharName.{CharName}
use Rattle.operations.specs.Operation.{Operation}
use Rattle.operations.specs.NameSet.{Range, IsRange, IsAmong}
use Rattle.set_laws.specs.Fronts.{file_len}
use Rattle.waiting_room.specs.Room.{HasNamePast, IsAhead, IsBehind}

-- the test of the names asks whether one is past the end, where M are the names
pub any_past : (names : List CharName) (M : CharName → Type 0) (site end : ℕ)
    → ((name : CharName) → Contains names name ↔ M name)
    → (list_any (λ name. name.site == site && nat_le end name.off) names ≡ true) ↔ HasNamePast M site end
any_past names M site end has = (
  λ e.
      let (k, name, lt, at, t) = Any-from_list_any (λ name. name.site == site && nat_le end name.off) names e in
      let two = and_parts _ _ t in
      (name, (has name).0 (k, lt, at), eqb-true _ _ two.0, leb-true _ _ two.1),
  λ h.
      let (name, m, on, past) = h in
      let (k, lt, at) = (has name).1 m in
      list_any-from_Any (λ name. name.site == site && nat_le end name.off) names
      (k, name, lt, at, and_from _ _ (eq-eqb _ _ on) (le-leb _ _ past)),
)

-- a range of the site that ends past it
abbrev pub Reaches : ℕ → ℕ → Range → Type 0
Reaches site end range = (range.site ≡ site) × (end < range.at + range.len)

-- a set has such a name where it has such a range
pub by_ranges : (names : List Range) (site end : ℕ) → All IsRange names
    → ((range : Range) × Contains names range × Reaches site end range) ↔ HasNamePast (IsAmong names) site end
by_ranges names site end ranges = (
  λ h.
      let (range, (k, lt, at), (on, past)) = h in
      let is : IsRange range = All-contains IsRange names range ranges (k, lt, at) in
      let some = is.2 in
      elim (cases_lt end range.at) [
        | inl below ↦ (
          record { site = range.site; off = range.at },
          (k, range, lt, at, (refl, omega arith, omega arith)),
          on,
          omega arith,
        )
        | inr from ↦ (
          record { site = range.site; off = end },
          (k, range, lt, at, (refl, from, past)),
          on,
          omega arith,
        )
      ],
  λ h.
      let (name, (k, range, lt, at, (there, from, below)), on, past) = h in
      (range, (k, lt, at), (sym there ∙ on, omega arith)),
)

-- a site is behind where one that waits goes past its file
pub by_files : (ops room : List Operation) (site : ℕ)
    → ((op : Operation) × Contains room op × IsAhead op site (file_len ops site)) ↔ IsBehind ops room site
by_files ops room site = (
  λ h. let (op, held, past) = h in (
    op,
    held,
    elim past [
      | inl own ↦ inl own
      | inr named ↦
          let (name, m, on, le) = named in
          let end : file_len ops name.site ≡ file_len ops site = ap (file_len ops) on in
          inr (name, m, on, λ here. omega arith)
    ],
  ),
  λ h. let (op, held, after) = h in (
    op,
    held,
    elim after [
      | inl own ↦ inl own
      | inr named ↦
          let (name, m, on, gone) = named in
          let end : file_len ops name.site ≡ file_len ops site = ap (file_len ops) on in
          inr (
            name,
            m,
            on,
            elim (cases_lt name.off (file_len ops site)) [
              | inl lt ↦ absurd (gone (omega arith))
              | inr le ↦ le
            ],
          )
    ],
  ),
)

-- no name stands past the end where all do below it
pub none_past : (b : Bool) (M : CharName → Type 0) (site site' end : ℕ) → site ≡ site'
    → (IsTrue b ↔ HasNamePast M site end)
    → IsTrue (not b) ↔ ((name : CharName) → M name → name.site ≡ site' → name.off < end)
none_past true M site site' end same tells = (
  λ no. absurd (search (rules, no)),
  λ below. let (name, m, on, past) = tells.0 refl in absurd (omega (arith, below name m (on ∙ same), past)),
)
none_past false M site site' end same tells = (
  λ no name m on. elim (cases_lt name.off end) [
    | inl lt ↦ lt
    | inr past ↦ absurd (search (rules, tells.1 (name, m, on ∙ sym same, past)))
  ],
  λ below. refl,
)
