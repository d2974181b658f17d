-- What is kept, with one message more.
use Rattle.std.proofs.Common.{◌≡◌, ◌≢◌, ℕ, ◌+◌, ◌-◌, ◌<◌, ◌≤◌, ◌↔◌, inl, inr, List, [], ◌∷◌, ◌++◌, get_or, IsSome}
use Rattle.std.proofs.Common.{refl, sym, ap, subst, ◌∙◌, arith}
use Rattle.std.proofs.lemmas.Bool.{cases_eq}
use Rattle.std.proofs.lemmas.List.{map-append}
use Rattle.std.proofs.lemmas.List.Elements.{All-contains, Contains-append_left, Contains-get_or, Contains-push, Contains-push_cases}
use Rattle.char_files.specs.CharName.{CharName}
use Rattle.operations.specs.NameSet.{Range, IsAmong, IsRange, IsSet}
use Rattle.operations.specs.Operation.{Mentions}
use Rattle.std.specs.Prelude.{nat_eq, Result, Ok, Err, OnErr}
use Rattle.std.specs.Map.{lookup}
use Rattle.note_laws.specs.Note.{Note, Saying, IsOfBase}
use Rattle.note_admission.specs.Kept.{AreSeenBy, RangesEndBy, IsKeptOf, Kept, MentionBelow, Offsets, Seen, end_in, seen_of}
use Rattle.note_admission.specs.Ranges.{mentioned_ranges_by}
use Rattle.note_admission.proofs.LastNames.{mentions_ranges}

-- the ranges of a number end by an offset where all their names are below it
by_names : (ranges : List Range) → IsSet ranges → (site off : ℕ)
    → RangesEndBy ranges site off ↔ ((name : CharName) → IsAmong ranges name → name.site ≡ site → name.off < off)
by_names ranges set site off = (
  λ all name among on.
      let (k, r, lt, at, is) = among in
      let ends = All-contains (λ (x : Range). x.site ≡ site → x.at + x.len ≤ off) ranges r all (k, lt, at)
      (sym is.0 ∙ on) in
      let below = is.2 in
      omega arith,
  λ all k d lt on.
      let r = get_or ranges k d in
      let range : IsRange r = set.ranges k d lt in
      let some = range.2 in
      let last : CharName = record { site = r.site; off = r.at + (r.len - 1) } in
      let (n, less, at) = Contains-get_or ranges k d lt in
      let below : r.at + (r.len - 1) < off = all last (n, r, less, at, (refl, omega arith, omega arith)) on in
      omega arith,
)

module _ (admitted : List Saying) (s : Saying) (set : IsSet (mentioned_ranges_by s.op.kind)) where
  -- its names besides all that were mentioned before
  pub below_with_own : (site off : ℕ)
      → MentionBelow admitted s.op.site site off × RangesEndBy (mentioned_ranges_by s.op.kind) site off
      ↔ MentionBelow (admitted ++ s ∷ []) s.op.site site off
  below_with_own site off = (
    λ h p name held on m at. elim (Contains-push_cases admitted s p held) [
      | inl old ↦ h.0 p name old on m at
      | inr same ↦ (by_names (mentioned_ranges_by s.op.kind) set site off).0 h.1 name
          ((mentions_ranges s.op.kind name).0 (subst (λ (x : Saying). Mentions x.op name) (sym same) m)) at
    ],
    λ all. (
      λ p name held on m at. all p name (Contains-append_left admitted (s ∷ []) p held) on m at,
      (by_names (mentioned_ranges_by s.op.kind) set site off).1 (λ name among at.
          all s name (Contains-push admitted s) refl ((mentions_ranges s.op.kind name).1 among) at),
    ),
  )

  -- another chain mentions what it did
  below_of_others : (chain site off : ℕ) → chain ≢ s.op.site
      → MentionBelow admitted chain site off ↔ MentionBelow (admitted ++ s ∷ []) chain site off
  below_of_others chain site off other = (
    λ all p name held on m at. elim (Contains-push_cases admitted s p held) [
      | inl old ↦ all p name old on m at
      | inr same ↦ absurd (other (sym on ∙ ap (λ (x : Saying). x.op.site) (sym same)))
    ],
    λ all p name held on m at. all p name (Contains-append_left admitted (s ∷ []) p held) on m at,
  )

  pub kept_more : (note : Note) (old new : Kept) (mid : Seen) → IsKeptOf note admitted old
      → ((other site : ℕ) → seen_of mid other site ≡ seen_of old.seen other site)
      → new.hashes ≡ old.hashes ++ s.hash ∷ [] → AreSeenBy mid s.op.site (mentioned_ranges_by s.op.kind) new.seen
      → new.base ≡ old.base → IsKeptOf note (admitted ++ s ∷ []) new
  kept_more note old new mid is same hashes seen base = record {
    hashes = hashes ∙ (ap (λ (xs : List ℕ). xs ++ s.hash ∷ []) is.hashes
        ∙ sym (map-append (λ (x : Saying). x.hash) admitted (s ∷ [])));
    base = λ site. subst (λ b. IsSome (lookup (nat_eq site) b) ↔ IsOfBase note site) (sym base) (is.base site);
    seen = λ chain site off. elim (cases_eq chain s.op.site) [
      | inr other ↦
          let end : seen_of new.seen chain site ≡ seen_of old.seen chain site =
          ap (λ (o : Offsets). end_in o site) (seen.others chain other) ∙ same chain site in (
            λ le. (below_of_others chain site off other).0 ((is.seen chain site off).0 (omega arith)),
            λ all. let le = (is.seen chain site off).1 ((below_of_others chain site off other).1 all) in omega arith,
          )
      | inl own ↦
          subst (λ (n : ℕ). seen_of new.seen n site ≤ off ↔ MentionBelow (admitted ++ s ∷ []) n site off) (sym own) (
            λ le.
                let (was, ends) = (seen.own site off).0 le in
                let end = same s.op.site site in
                (below_with_own site off).0 ((is.seen s.op.site site off).0 (omega arith), ends),
            λ all.
                let (before, ends) = (below_with_own site off).1 all in
                let le = (is.seen s.op.site site off).1 before in
                let end = same s.op.site site in
                (seen.own site off).1 (omega arith, ends),
          )
    ];
  }

-- with no message more
pub kept_still : (note : Note) (admitted : List Saying) (old new : Kept) → IsKeptOf note admitted old
    → ((other site : ℕ) → seen_of new.seen other site ≡ seen_of old.seen other site)
    → new.hashes ≡ old.hashes → new.base ≡ old.base → IsKeptOf note admitted new
kept_still note admitted old new is same hashes base = record {
  hashes = hashes ∙ is.hashes;
  base = λ site. subst (λ b. IsSome (lookup (nat_eq site) b) ↔ IsOfBase note site) (sym base) (is.base site);
  seen = λ chain site off.
      let end = same chain site in (
        λ le. (is.seen chain site off).0 (omega arith),
        λ all. let le = (is.seen chain site off).1 all in omega arith,
      );
}

pub on_err_from : {X Y Q : Type 0} (r : Result X Y) → Q → OnErr r Q
on_err_from (Ok x) q = tt
on_err_from (Err y) q = q
