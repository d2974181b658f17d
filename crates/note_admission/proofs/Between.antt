-- What the next message of a chain builds on, where messages of the chain come between what is admitted and it.
use Rattle.std.proofs.Common.{◌≡◌, ℕ, ◌↔◌, inl, inr, Bool, true, false, ◌&&◌, List, [], ◌∷◌, ◌++◌, if◌then◌else◌}
use Rattle.std.proofs.Common.{Contains, refl, sym, ap, subst, ◌∙◌, leb-true, le-leb, filter, arith}
use Rattle.std.specs.List.{AllZip}
use Rattle.std.proofs.lemmas.Bool.{and_parts, and_from}
use Rattle.std.proofs.lemmas.List.Elements.{Contains-append_cases, Contains-append_left, Contains-append_right}
use Rattle.char_files.specs.CharName.{CharName}
use Rattle.operations.specs.NameSet.{IsSet, Range}
use Rattle.operations.specs.Operation.{Mentions}
use Rattle.set_laws.proofs.Picking.{Contains-none}
use Rattle.waiting_room.specs.Judged.{last_of}
use Rattle.note_laws.specs.Note.{Note, Saying}
use Rattle.note_laws.specs.Chains.{operations}
use Rattle.note_laws.specs.Admission.{BuildsOn, IsInsertedBy, IsLastBeyond, MentionsBeyond, said_of}
use Rattle.note_admission.specs.Continuing.{AreMentionedIn, is_past}
use Rattle.note_admission.specs.Kept.{AreSeenIn, IsHashOfInsert, IsKeptOf, Kept, Offsets, end_in, is_past_seen}
use Rattle.note_admission.specs.Ranges.{ends_site, lasts_of, mentioned_ranges_by}
use Rattle.note_admission.proofs.Keeping.{below_with_own}
use Rattle.note_admission.proofs.LastNames.{are_lasts, lasts_rise, mentions_ranges}
use Rattle.note_admission.proofs.Telling.{all_inserted, beyond, so_if}

-- with a message more that comes between
pub mentioned_more : (more : List Saying) (s : Saying) → IsSet (mentioned_ranges_by s.op.kind) → (chain : ℕ)
    → s.op.site ≡ chain → (old mid new : Offsets) → AreMentionedIn chain more old
    → ((other : ℕ) → end_in mid other ≡ end_in old other) → AreSeenIn mid (mentioned_ranges_by s.op.kind) new
    → AreMentionedIn chain (more ++ s ∷ []) new
mentioned_more more s set chain on old mid new are same seen =
    subst (λ (n : ℕ). AreMentionedIn n (more ++ s ∷ []) new) on (λ site off.
    let was = subst (λ (n : ℕ). AreMentionedIn n more old) (sym on) are site off in
    let end = same site in (
      λ le.
          let (before, ends) = (seen site off).0 le in
          (below_with_own more s set site off).0 (was.0 (omega arith), ends),
      λ all.
          let (before, ends) = (below_with_own more s set site off).1 all in
          let le = was.1 before in
          (seen site off).1 (omega arith, ends),
    ))

-- none comes between
pub none_between : (chain : ℕ) → AreMentionedIn chain [] []
none_between chain site off = (λ le p name held. absurd (Contains-none p held), λ all. omega arith)

-- of the last names those that are so, too, are the last ones that are both
one_filtered : (a b : Bool) (q : CharName → Bool) (x : CharName) (xs : List CharName)
    → filter q (if a && b then x ∷ xs else xs) ≡ (if a && (b && q x) then x ∷ filter q xs else filter q xs)
one_filtered true true q x xs = refl
one_filtered true false q x xs = refl
one_filtered false b q x xs = refl

pub filtered : (so q : CharName → Bool) (ranges : List Range)
    → filter q (lasts_of so ranges) ≡ lasts_of (λ n. so n && q n) ranges
filtered so q [] = refl
filtered so q (r ∷ rest) =
    one_filtered (ends_site r rest) (so (last_of r)) q (last_of r) (lasts_of so rest)
    ∙ ap (λ (xs : List CharName). if ends_site r rest && (so (last_of r) && q (last_of r)) then last_of r ∷ xs else xs)
    (filtered so q rest)

module _ (note : Note) (admitted more : List Saying) (kept : Kept) (is : IsKeptOf note admitted kept) (between : Offsets)
    (s : Saying) (are : AreMentionedIn s.op.site more between) where
  abbrev pub So : CharName → Bool
  So name = is_past_seen kept s.op.site name && is_past between name

  beyond_both : (name : CharName) → Mentions s.op name → So name ≡ true → MentionsBeyond note (admitted ++ more) s name
  beyond_both name m so =
      let (seen, past) = and_parts (is_past_seen kept s.op.site name) _ so in
      let b = beyond note admitted kept is s name m seen in
      record {
        mentioned = m;
        foreign = b.foreign;
        not_of_base = b.not_of_base;
        beyond = λ p other held on mentioned same. elim (Contains-append_cases admitted more p held) [
          | inl before ↦ b.beyond p other before on mentioned same
          | inr after ↦ (are name.site name.off).0 (leb-true _ _ past) p other after on mentioned same
        ];
      }

  so_both : (name : CharName) → MentionsBeyond note (admitted ++ more) s name → So name ≡ true
  so_both name b =
      let first : MentionsBeyond note admitted s name = record {
        mentioned = b.mentioned;
        foreign = b.foreign;
        not_of_base = b.not_of_base;
        beyond = λ p other held on mentioned same. b.beyond p other (Contains-append_left admitted more p held) on mentioned same;
      } in
      let past = (are name.site name.off).1 (λ p other held on mentioned same.
      b.beyond p other (Contains-append_right admitted more p held) on mentioned same) in
      and_from (is_past_seen kept s.op.site name) _ (so_if note admitted kept is s name first) (le-leb _ _ past)

  module _ (set : IsSet (mentioned_ranges_by s.op.kind)) where
    abbrev pub Lasts : List CharName
    Lasts = lasts_of So (mentioned_ranges_by s.op.kind)

    lasts_beyond_both : (name : CharName) → Contains Lasts name ↔ IsLastBeyond note (admitted ++ more) s name
    lasts_beyond_both name = (
      λ held.
          let last = (are_lasts So _ set name).0 held in
          record {
            beyond = beyond_both name ((mentions_ranges s.op.kind name).1 last.among) last.is;
            last = λ other m on. last.last other ((mentions_ranges s.op.kind other).0 m) on;
          },
      λ last. (are_lasts So _ set name).1 (record {
        among = (mentions_ranges s.op.kind name).0 last.beyond.mentioned;
        is = so_both name last.beyond;
        last = λ other h on. last.last other ((mentions_ranges s.op.kind other).1 h) on;
      }),
    )

    inserted_still : (names : List CharName) (hashes : List ℕ) → AllZip (IsInsertedBy admitted) names hashes
        → AllZip (IsInsertedBy (admitted ++ more)) names hashes
    inserted_still [] [] all = tt
    inserted_still [] (h ∷ hs) all = absurd all
    inserted_still (n ∷ ns) [] all = absurd all
    inserted_still (n ∷ ns) (h ∷ hs) all =
        let (i, held, ins, hash) = all.0 in
        ((i, Contains-append_left admitted more i held, ins, hash), inserted_still ns hs all.1)

    pub builds_on_both : (hashes : List ℕ) → AllZip (IsHashOfInsert (operations admitted) kept.hashes) Lasts hashes
        → s.on ≡ said_of note.digest hashes → BuildsOn note (admitted ++ more) s
    builds_on_both hashes all says = record {
      lasts = Lasts;
      all = lasts_beyond_both;
      rising = lasts_rise So _ set;
      hashes = hashes;
      inserted = inserted_still Lasts hashes (all_inserted note admitted kept is s set Lasts hashes all);
      says = says;
    }
