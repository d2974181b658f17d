-- The table of the chunks' numbers.
use Rattle.std.proofs.Common.{◌≡◌, ◌≢◌, ℕ, zero, suc, ◌+◌, ◌<◌, List, [], ◌∷◌, ◌++◌, length, get_or, take, drop}
use Rattle.std.proofs.Common.{Option, Some, ◌⊎◌, inl, inr, refl, sym, ap, subst, ◌∙◌, arith, slice_get}
use Rattle.std.proofs.Math.ListN.{set}
use Rattle.std.proofs.lemmas.Bool.Decides.{eqb_tells}
use Rattle.std.proofs.lemmas.List.{take_more}
use Rattle.std.proofs.lemmas.List.Elements.{All-weaker, All-cons, All-nil, All-head, All-tail}
use Rattle.std.proofs.lemmas.Option.{slice_get_within, slice_get-get_or, get_or_from_slice_get}
use Rattle.piece_raw.specs.Ring.{HasTag, IsPushed}
use Rattle.rank_index.specs.Chunks.{ChunkSeen, members_of, AreEnteredUnder, AreHomes}
use Rattle.rank_index.proofs.Pieces.{all_parts, all_whole, all_at, get-left, get-seam, cut_read}
use Rattle.rank_index.proofs.Stretches.{chunk_with}
use Rattle.rank_index.proofs.Tagged.{Members, HasTag-append, HasTag-cons, HasTag-left, HasTag-right, HasTag-nil}
use Rattle.rank_index.proofs.Tagged.{HasTag-first}

module _ {X : Type 0} where
  pub get-set_same : (xs : List X) (k : ℕ) (x : X) → k < length xs → slice_get (set xs k x) k ≡ Some x
  get-set_same [] k x lt = absurd (omega arith)
  get-set_same (y ∷ xs) zero x lt = refl
  get-set_same (y ∷ xs) (suc k) x lt = get-set_same xs k x (omega arith)

  pub get-set_other : (xs : List X) (k j : ℕ) (x : X) → j ≢ k → slice_get (set xs k x) j ≡ slice_get xs j
  get-set_other [] k j x ne = refl
  get-set_other (y ∷ xs) zero zero x ne = absurd (ne refl)
  get-set_other (y ∷ xs) zero (suc j) x ne = refl
  get-set_other (y ∷ xs) (suc k) zero x ne = refl
  get-set_other (y ∷ xs) (suc k) (suc j) x ne = get-set_other xs k j x (λ (e : j ≡ k). ne (ap suc e))

pub home_at : (homes : List ℕ) (chunks : List ChunkSeen) (slot : ℕ) (c : ChunkSeen) (tag : ℕ) → AreHomes homes chunks
    → slice_get chunks slot ≡ Some c → HasTag c.members tag → slice_get homes tag ≡ Some c.home
home_at homes chunks slot c tag are at has =
    all_at (λ (d : ChunkSeen). AreEnteredUnder homes d.home d.members) chunks slot c are at tag has

pub tag_within : (homes : List ℕ) (chunks : List ChunkSeen) (tag : ℕ) → AreHomes homes chunks
    → HasTag (members_of chunks) tag → tag < length homes
tag_within homes chunks tag are h =
    let (slot, (c, at, has)) = chunk_with chunks tag h in
    slice_get_within homes tag c.home (home_at homes chunks slot c tag are at has)

-- one member more is entered
module _ (homes : List ℕ) (home : ℕ) (members : Members) (k : ℕ) (m : ℕ × ℕ) (lt : k < length members)
    (is : m ≡ get_or members k m)
  where
    more : take (k + 1) members ≡ take k members ++ m ∷ []
    more = take_more members k m lt ∙ ap (λ (n : ℕ × ℕ). take k members ++ n ∷ []) (sym is)

    pub entered_more : m.0 < length homes → AreEnteredUnder homes home (take k members)
        → AreEnteredUnder (set homes m.0 home) home (take (k + 1) members)
    entered_more within before tag has =
        let cases : HasTag (take k members) tag ⊎ HasTag (m ∷ []) tag =
        HasTag-append (take k members) (m ∷ []) tag (subst (λ (l : Members). HasTag l tag) more has) in
        let here : slice_get (set homes m.0 home) m.0 ≡ Some home = get-set_same homes m.0 home within in
        let old : tag ≢ m.0 → slice_get homes tag ≡ Some home = λ (ne : tag ≢ m.0). elim cases [
          | inl seen ↦ before tag seen
          | inr new ↦ elim (HasTag-cons m [] tag new) [
            | inl e ↦ absurd (ne (sym e))
            | inr none ↦ absurd (HasTag-nil tag none)
          ]
        ] in
        elim (eqb_tells tag m.0) [
          | inl same ↦ subst (λ (t : ℕ). slice_get (set homes m.0 home) t ≡ Some home) (sym same.1) here
          | inr other ↦ get-set_other homes m.0 tag home other.1 ∙ old other.1
        ]

    pub others_more : (first : List ℕ)
        → ((tag : ℕ) → (HasTag (take k members) tag → ⊥) → slice_get homes tag ≡ slice_get first tag)
        → (tag : ℕ) → (HasTag (take (k + 1) members) tag → ⊥)
        → slice_get (set homes m.0 home) tag ≡ slice_get first tag
    others_more first before tag absent =
        let not_here : tag ≢ m.0 = λ (e : tag ≡ m.0). absent (subst (λ (l : Members). HasTag l tag) (sym more)
        (HasTag-right (take k members) (m ∷ []) tag (HasTag-first m [] tag (sym e)))) in
        get-set_other homes m.0 tag home not_here
        ∙ before tag (λ (h : HasTag (take k members) tag). absent (subst (λ (l : Members). HasTag l tag) (sym more)
        (HasTag-left (take k members) (m ∷ []) tag h)))

-- the member that the code reads at a slot
pub read_same : (members : Members) (k : ℕ) (d : ℕ × ℕ) → k < length members
    → get_or members k d ≡ get_or members k (get_or members k d)
read_same members k d lt =
    let m : ℕ × ℕ = get_or members k d in
    sym (get_or_from_slice_get members k m m (slice_get-get_or members k d lt))

pub HasTag-read : (members : Members) (k : ℕ) (d : ℕ × ℕ) → k < length members
    → HasTag members (get_or members k d).0
HasTag-read members k d lt =
    let m : ℕ × ℕ = get_or members k d in
    (m.1, (take k members, drop (suc k) members, cut_read members k m lt (read_same members k d lt)))

-- a new member is entered after all others
pub homes_pushed : (homes : List ℕ) (earlier : List ChunkSeen) (c d : ChunkSeen) (later : List ChunkSeen)
    (after : Option ℕ) (tag w : ℕ) → AreHomes homes (earlier ++ c ∷ later) → d.home ≡ c.home → tag ≡ length homes
    → IsPushed c.members after tag w d.members → AreHomes (homes ++ d.home ∷ []) (earlier ++ d ∷ later)
homes_pushed homes earlier c d later after tag w are same next (xs, ys, was, last, is) =
    let P : ChunkSeen → Type 0 = λ (e : ChunkSeen). AreEnteredUnder homes e.home e.members in
    let Q : ChunkSeen → Type 0 = λ (e : ChunkSeen). AreEnteredUnder (homes ++ d.home ∷ []) e.home e.members in
    let (left, here, right) = all_parts P earlier c later are in
    let kept : (e : ChunkSeen) → P e → Q e =
    λ (e : ChunkSeen) (p : P e) (t : ℕ) (has : HasTag e.members t).
    get-left homes (d.home ∷ []) t e.home (p t has) in
    let old : (t : ℕ) → HasTag (xs ++ ys) t → slice_get (homes ++ d.home ∷ []) t ≡ Some d.home =
    λ (t : ℕ) (has : HasTag (xs ++ ys) t).
    get-left homes (d.home ∷ []) t d.home (here t (subst (λ (l : Members). HasTag l t) (sym was) has)
    ∙ ap Some (sym same)) in
    let all : Q d = λ (t : ℕ) (has : HasTag d.members t).
    elim (HasTag-append xs ((tag, w) ∷ ys) t (subst (λ (l : Members). HasTag l t) is has)) [
      | inl l ↦ old t (HasTag-left xs ys t l)
      | inr r ↦ elim (HasTag-cons (tag, w) ys t r) [
        | inl e ↦
            let at : t ≡ length homes = sym e ∙ next in
            subst (λ (n : ℕ). slice_get (homes ++ d.home ∷ []) n ≡ Some d.home) (sym at)
            (get-seam homes d.home [])
        | inr h ↦ old t (HasTag-right xs ys t h)
      ]
    ] in
    all_whole Q earlier d later (All-weaker P Q kept earlier left) all (All-weaker P Q kept later right)

-- what is entered elsewhere stays, for chunks of which no member is among these
pub homes_kept : (old new : List ℕ) (others : Members)
    → ((tag : ℕ) → (HasTag others tag → ⊥) → slice_get new tag ≡ slice_get old tag)
    → (chunks : List ChunkSeen) → ((tag : ℕ) → HasTag others tag → HasTag (members_of chunks) tag → ⊥)
    → AreHomes old chunks → AreHomes new chunks
homes_kept old new others same [] apart are = All-nil (λ (e : ChunkSeen). AreEnteredUnder new e.home e.members)
homes_kept old new others same (c ∷ chunks) apart are =
    let P : ChunkSeen → Type 0 = λ (e : ChunkSeen). AreEnteredUnder old e.home e.members in
    let Q : ChunkSeen → Type 0 = λ (e : ChunkSeen). AreEnteredUnder new e.home e.members in
    let here : Q c = λ (tag : ℕ) (has : HasTag c.members tag).
    same tag (λ (h : HasTag others tag). apart tag h (HasTag-left c.members (members_of chunks) tag has))
    ∙ All-head P c chunks are tag has in
    All-cons Q c chunks here (homes_kept old new others same chunks (λ (tag : ℕ) (h : HasTag others tag)
    (g : HasTag (members_of chunks) tag). apart tag h (HasTag-right c.members (members_of chunks) tag g))
    (All-tail P c chunks are))

-- a tag of the second part of a chunk's members has its slot in the table
pub part_within : (homes : List ℕ) (chunks : List ChunkSeen) (slot : ℕ) (c : ChunkSeen) (front rest : Members)
    → AreHomes homes chunks → slice_get chunks slot ≡ Some c → c.members ≡ front ++ rest
    → (tag : ℕ) → HasTag rest tag → tag < length homes
part_within homes chunks slot c front rest are at parts tag has =
    slice_get_within homes tag c.home (home_at homes chunks slot c tag are at
    (subst (λ (l : Members). HasTag l tag) (sym parts) (HasTag-right front rest tag has)))
