-- Places in a chain, and when two are one.
use Rattle.std.proofs.Common.{◌≡◌, ◌≢◌, ◌⊎◌, ◌↔◌, inl, inr, List, Contains, true, ap}
use Rattle.std.specs.Cmp.{IsEquivalence, IsTotalOrder, eq_by_cmp_equiv, nat_cmp_total, on_total, then_total}
use Rattle.std.specs.Ordering.{nat_cmp}
use Rattle.note_laws.specs.Note.{Saying}
use Rattle.note_laws.specs.Chains.{AreBranches}
use Rattle.note_entries.specs.Branches.{IsPutSaying, Place, hash_cmp, is_same_place, place_cmp, place_in_chain}
use Rattle.note_entries.proofs.Orders.{equal_parts, hash_total, one_hash, one_number}

pub one_place : (a b : Place) → is_same_place a b ≡ true → a ≡ b
one_place a b e =
    let author = equal_parts (hash_cmp a.author b.author) _ e in
    let text = equal_parts (nat_cmp a.text b.text) _ author.1 in
    let site = equal_parts (nat_cmp a.site b.site) _ text.1 in
    let seq = equal_parts (nat_cmp a.seq b.seq) _ site.1 in
    λ i. record {
      author = one_hash a.author b.author author.0 i;
      text = one_number a.text b.text text.0 i;
      site = one_number a.site b.site site.0 i;
      seq = one_number a.seq b.seq seq.0 i;
      before = one_hash a.before b.before seq.1 i;
    }

places_total : IsTotalOrder place_cmp
places_total = then_total (on_total (λ (p : Place). p.author) hash_total) (then_total (on_total (λ (p : Place). p.text) nat_cmp_total)
    (then_total (on_total (λ (p : Place). p.site) nat_cmp_total) (then_total (on_total (λ (p : Place). p.seq) nat_cmp_total)
    (on_total (λ (p : Place). p.before) hash_total))))

pub places : IsEquivalence is_same_place
places = eq_by_cmp_equiv places_total

-- messages of one place are branches, and those of others aren't
pub of_one_place : (a b : Saying) → place_in_chain a ≡ place_in_chain b → AreBranches a b
of_one_place a b same = record {
  author = ap (λ (p : Place). p.author) same;
  text = ap (λ (p : Place). p.text) same;
  site = ap (λ (p : Place). p.site) same;
  seq = ap (λ (p : Place). p.seq) same;
  before = ap (λ (p : Place). p.before) same;
}

pub their_place : (a b : Saying) → AreBranches a b → place_in_chain a ≡ place_in_chain b
their_place a b are = λ i. record {
  author = are.author i;
  text = are.text i;
  site = are.site i;
  seq = are.seq i;
  before = are.before i;
}

-- who stands in another place is no branch of it
pub said_put : (old new : List Saying) (s : Saying)
    → ((x : Saying) → Contains new x ↔ (Contains old x × (place_in_chain s ≢ place_in_chain x)) ⊎ (x ≡ s))
    → IsPutSaying old s new
said_put old new s put x = (
  λ held. elim ((put x).0 held) [
    | inl was ↦ inl (was.0, λ are. was.1 (their_place s x are))
    | inr is ↦ inr is
  ],
  λ h. (put x).1 (elim h [
    | inl was ↦ inl (was.0, λ same. was.1 (of_one_place s x same))
    | inr is ↦ inr is
  ]),
)
