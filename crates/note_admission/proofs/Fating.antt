-- The fate of the next message of a chain, by what the log and what is kept tell.
use Rattle.std.proofs.Common.{◌≡◌, ◌≢◌, ℕ, ◌+◌, ◌≤◌, ◌↔◌, ◌==◌, inl, inr, List, AllPairs, Contains, sym, subst, ◌∙◌, ap, eq-eqb}
use Rattle.std.proofs.lemmas.Bool.{and_parts}
use Rattle.char_files.specs.CharName.{CharName}
use Rattle.std.specs.List.{AllZip}
use Rattle.operations.specs.NameSet.{IsSet, Range}
use Rattle.operations.specs.Operation.{Operation}
use Rattle.tree_order.specs.Good.{Good}
use Rattle.set_laws.specs.Fronts.{greatest_stamp, IsHere}
use Rattle.set_laws.specs.Sets.{AreIdentified}
use Rattle.set_laws.specs.Verdict.{HasForeignNames, HasVerdict, IsAboveCauses, Verdict}
use Rattle.note_laws.specs.Note.{Note, Saying}
use Rattle.note_laws.specs.Chains.{operations}
use Rattle.note_laws.specs.Admission.{MAX_LEAP, MeetsFate, BuildsOn, IsInReach, counts, wrong, held_back, lacks, on_others, said_of}
use Rattle.note_admission.specs.Kept.{IsHashOfInsert, IsKeptOf, IsMadeOver, Kept, is_past_seen}
use Rattle.note_admission.specs.Ranges.{lasts_of, mentioned_ranges_by}
use Rattle.note_admission.proofs.LastNames.{are_lasts, mentions_ranges}
use Rattle.note_admission.proofs.Telling.{builds_on, never_both, well_made}

module _ (note : Note) (admitted : List Saying) (kept : Kept) (is : IsKeptOf note admitted kept) (s : Saying)
    (set : IsSet (mentioned_ranges_by s.op.kind)) (ops : List Operation) (same : operations admitted ≡ ops) where
  abbrev IsMade : Type 0
  IsMade = IsMadeOver ops s (lasts_of (is_past_seen kept s.op.site) (mentioned_ranges_by s.op.kind))

  abbrev IsNear : Type 0
  IsNear = s.op.stamp ≤ greatest_stamp ops + MAX_LEAP

  over : (P : List Operation → Type 0) → P ops → P (operations admitted)
  over P p = subst P (sym same) p

  made_over : IsMade → IsMadeOver (operations admitted) s (lasts_of (is_past_seen kept s.op.site) (mentioned_ranges_by s.op.kind))
  made_over made =
      over (λ o. IsMadeOver o s (lasts_of (is_past_seen kept s.op.site) (mentioned_ranges_by s.op.kind))) made

  near_over : IsNear → IsInReach admitted s
  near_over near = over (λ o. s.op.stamp ≤ greatest_stamp o + MAX_LEAP) near

  pub if_not_made : (IsMade → ⊥) → MeetsFate note admitted s wrong
  if_not_made none =
      inl (λ made. none (subst (λ o. IsMadeOver o s (lasts_of (is_past_seen kept s.op.site) (mentioned_ranges_by s.op.kind))) same
      ((well_made note admitted kept is s set).1 made)))

  pub if_far : IsMade → (IsNear → ⊥) → MeetsFate note admitted s held_back
  if_far made far = (
    (well_made note admitted kept is s set).0 (made_over made),
    λ near. far (subst (λ o. s.op.stamp ≤ greatest_stamp o + MAX_LEAP) same near),
  )

  pub if_lacking : IsMade → IsNear → (HasForeignNames ops s.op → ⊥) → MeetsFate note admitted s lacks
  if_lacking made near none = (
    (well_made note admitted kept is s set).0 (made_over made),
    near_over near,
    λ foreign. none (subst (λ o. HasForeignNames o s.op) same foreign),
  )

  module _ (good : Good ops) (known : AreIdentified ops) (once : AllPairs (λ a b. a ≢ b) ops) (hashes : List ℕ)
      (inserted : AllZip (IsHashOfInsert ops kept.hashes) (lasts_of (is_past_seen kept s.op.site) (mentioned_ranges_by s.op.kind)) hashes)
      (digest : List ℕ → ℕ) (given : note.digest ≡ digest) where
    pub built : (s.on ≡ said_of digest hashes) ↔ BuildsOn note admitted s
    built =
        subst (λ d. (s.on ≡ said_of d hashes) ↔ BuildsOn note admitted s) given
        (builds_on note admitted kept is s set (over Good good) (over AreIdentified known)
        (over (λ o. AllPairs (λ (a b : Operation). a ≢ b) o) once) hashes
        (over (λ o. AllZip (IsHashOfInsert o kept.hashes) (lasts_of (is_past_seen kept s.op.site) (mentioned_ranges_by s.op.kind)) hashes) inserted))

    pub if_on_others : IsMade → IsNear → HasForeignNames ops s.op → (s.on ≡ said_of digest hashes → ⊥)
        → MeetsFate note admitted s on_others
    if_on_others made near foreign none = (
      (well_made note admitted kept is s set).0 (made_over made),
      near_over near,
      over (λ o. HasForeignNames o s.op) foreign,
      λ on. none (built.1 on),
    )

    pub if_low : IsMade → IsNear → HasForeignNames ops s.op → s.on ≡ said_of digest hashes
        → (IsAboveCauses ops s.op → ⊥) → MeetsFate note admitted s wrong
    if_low made near foreign says low = inr (
      (well_made note admitted kept is s set).0 (made_over made),
      near_over near,
      over (λ o. HasForeignNames o s.op) foreign,
      built.0 says,
      λ above. low (subst (λ o. IsAboveCauses o s.op) same above),
    )

    pub if_all : IsMade → IsNear → HasForeignNames ops s.op → s.on ≡ said_of digest hashes
        → IsAboveCauses ops s.op → MeetsFate note admitted s counts
    if_all made near foreign says above = (
      (well_made note admitted kept is s set).0 (made_over made),
      near_over near,
      over (λ o. HasForeignNames o s.op) foreign,
      built.0 says,
      over (λ o. IsAboveCauses o s.op) above,
    )

-- what was found of an operation is so of the one that it is
pub judged_told : (ops now : List Operation) (op same : Operation) (v : Verdict) → op ≡ same → now ≡ ops
    → HasVerdict now op v → HasVerdict ops same v
judged_told ops now op same v is of judged =
    subst (λ (o : Operation). HasVerdict ops o v) is (subst (λ (xs : List Operation). HasVerdict xs op v) of judged)

pub set_told : (op same : Operation) (items : List Range) → items ≡ mentioned_ranges_by op.kind → IsSet items → op ≡ same
    → IsSet (mentioned_ranges_by same.kind)
set_told op same items of set is = subst (λ (o : Operation). IsSet (mentioned_ranges_by o.kind)) is (subst IsSet of set)

pub lasts_told : (kept : Kept) (op same : Operation) (site : ℕ) (items now : List Range) (lasts found : List CharName)
    → op ≡ same → site ≡ op.site → now ≡ items → items ≡ mentioned_ranges_by op.kind
    → lasts ≡ lasts_of (is_past_seen kept site) now → found ≡ lasts
    → found ≡ lasts_of (is_past_seen kept same.site) (mentioned_ranges_by same.kind)
lasts_told kept op same site items now lasts found is on read of are got =
    got ∙ (are ∙ (ap (λ (n : ℕ). lasts_of (is_past_seen kept n) now) (on ∙ ap (λ (o : Operation). o.site) is)
    ∙ ap (lasts_of (is_past_seen kept same.site)) (read ∙ (of ∙ ap (λ (o : Operation). mentioned_ranges_by o.kind) is))))

-- the last names beyond are here where those of others are
pub lasts_here : (ops : List Operation) (kept : Kept) (op : Operation) → IsSet (mentioned_ranges_by op.kind)
    → HasForeignNames ops op → (name : CharName)
    → Contains (lasts_of (is_past_seen kept op.site) (mentioned_ranges_by op.kind)) name → IsHere ops name
lasts_here ops kept op set foreign name held =
    let last = (are_lasts (is_past_seen kept op.site) (mentioned_ranges_by op.kind) set name).0 held in
    let (both, past) = and_parts _ _ last.is in
    let (other, free) = and_parts _ _ both in
    foreign name ((mentions_ranges op.kind name).1 last.among)
    (λ same. never_both (name.site == op.site) other (eq-eqb name.site op.site same))
