-- The numbers of the base, put one after the other.
use Rattle.std.proofs.Common.{◌≡◌, ℕ, suc, ◌+◌, ◌<◌, ◌↔◌, inl, inr, List, [], ◌∷◌, ◌++◌, take, length, get_or, Contains, IsSome}
use Rattle.std.proofs.Common.{refl, sym, ap, subst, ◌∙◌, arith, eq-eqb}
use Rattle.std.specs.Prelude.{nat_eq}
use Rattle.std.specs.Map.{lookup}
use Rattle.std.proofs.Math.Seq.{take-suc}
use Rattle.std.proofs.lemmas.Bool.{cases_eq, cond-true, cond-false, ne_eqb}
use Rattle.std.proofs.lemmas.List.Elements.{Contains-append_left, Contains-push, Contains-push_cases}
use Rattle.char_files.specs.SiteMap.{IsPut}
use Rattle.note_laws.specs.Note.{Note, IsOfBase}
use Rattle.note_admission.specs.Kept.{BaseSites, IsKeptOf, Kept, seen_of}
use Rattle.set_laws.proofs.Picking.{Contains-none}

-- one more
pub base_more : (old new : BaseSites) (sites : List ℕ) (i site : ℕ) (unit : Unit {0}) → i < length sites
    → get_or sites i site ≡ site → IsPut old site unit new
    → ((x : ℕ) → IsSome (lookup (nat_eq x) old) ↔ Contains (take i sites) x)
    → (x : ℕ) → IsSome (lookup (nat_eq x) new) ↔ Contains (take (i + 1) sites) x
base_more old new sites i site unit lt at put before x =
    let next : i + 1 ≡ suc i = omega arith in
    let with_next : take (i + 1) sites ≡ take i sites ++ site ∷ [] =
    ap (λ (n : ℕ). take n sites) next ∙ (take-suc sites i site lt ∙ ap (λ (y : ℕ). take i sites ++ y ∷ []) at) in
    subst (λ (xs : List ℕ). IsSome (lookup (nat_eq x) new) ↔ Contains xs x) (sym with_next)
    (elim (cases_eq site x) [
      | inl same ↦ (
        λ some. subst (Contains (take i sites ++ site ∷ [])) same (Contains-push (take i sites) site),
        λ held. subst IsSome (sym (put x ∙ cond-true _ _ _ (eq-eqb site x same))) refl,
      )
      | inr apart ↦
          let is : lookup (nat_eq x) new ≡ lookup (nat_eq x) old = put x ∙ cond-false _ _ _ (ne_eqb site x apart) in (
            λ some. Contains-append_left (take i sites) (site ∷ []) x ((before x).0 (subst IsSome is some)),
            λ held. elim (Contains-push_cases (take i sites) site x held) [
              | inl old ↦ subst IsSome (sym is) ((before x).1 old)
              | inr same ↦ absurd (apart same)
            ],
          )
    ])

-- of no messages nothing is kept
pub kept_none : (note : Note) (kept : Kept) (sites : List ℕ) → kept.hashes ≡ [] → kept.seen ≡ []
    → ((x : ℕ) → IsSome (lookup (nat_eq x) kept.base) ↔ Contains sites x)
    → ((x : ℕ) → Contains sites x ↔ IsOfBase note x) → IsKeptOf note [] kept
kept_none note kept sites hashes seen base of_base = record {
  hashes = hashes;
  seen = λ chain site off. (
    λ le p name held. absurd (Contains-none p held),
    λ all.
        let none : seen_of kept.seen chain site ≡ 0 = ap (λ s. seen_of s chain site) seen in
        omega arith,
  );
  base = λ site. (
    λ some. (of_base site).0 ((base site).0 some),
    λ is. (base site).1 ((of_base site).1 is),
  );
}
