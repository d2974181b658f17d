-- The least keys of groups of chunks, and what is passed by them.
use Rattle.std.proofs.Common.{◌≡◌, ℕ, zero, suc, ◌+◌, ◌-◌, ◌*◌, ◌/◌, ◌^◌, ◌<◌, ◌≤◌, List, [], ◌∷◌, ◌++◌, length, get_or, min, take, drop, All}
use Rattle.std.proofs.Common.{inl, inr, refl, sym, ap, subst, ◌∙◌, arith, append-nil, drop-set-lt, eq-or-lt_of_le}
use Rattle.std.proofs.Math.ListN.{set}
use Rattle.std.proofs.lemmas.Bool.{cases_lt}
use Rattle.std.proofs.lemmas.List.{drop-drop, drop-set-add, get_or-drop, get_or_append_left, get_or_push, get_or-set_same, get_or-set_other}
use Rattle.std.proofs.lemmas.List.{length-append, length-drop, length-set, take-append-drop, take_min, take_more}
use Rattle.std.proofs.lemmas.List.Elements.{All-append, All-drop, All-head, All-nil, All-tail, All-take}
use Rattle.rank_index.specs.declared.chunk.TheConstants.{HALF}
use Rattle.rank_index.specs.declared.groups.TheConstants.{GROUP}
use Rattle.rank_index.specs.Chunks.{ChunkSeen, members_of, AreHalfFull}
use Rattle.rank_index.specs.Groups.{AreLows, AreLowsSoFar, least_among}
use Rattle.rank_index.specs.Keyed.{AreAbove, AreLeast, IsPassed, key_in, last_tag_from, least_of}
use Rattle.rank_index.proofs.Keyed.{above_least, last_both, least_most, passed_on}
use Rattle.rank_index.proofs.Stretches.{members_of-append}
use Rattle.rank_index.proofs.Tagged.{Members}

-- the least key of the first chunks

least_small : (chunks : List ChunkSeen) → least_among chunks ≤ 2 ^ 64 - 1
least_small [] = omega arith
least_small (c ∷ chunks) =
    let rest : least_among chunks ≤ 2 ^ 64 - 1 = least_small chunks in
    omega (arith, rest)

both_among : (xs ys : List ChunkSeen) → least_among (xs ++ ys) ≡ min (least_among xs) (least_among ys)
both_among [] ys =
    let rest : least_among ys ≤ 2 ^ 64 - 1 = least_small ys in
    omega (arith, rest)
both_among (c ∷ xs) ys =
    let rest : least_among (xs ++ ys) ≡ min (least_among xs) (least_among ys) = both_among xs ys in
    omega (arith, rest)

-- one chunk more
pub least_next : (chunks : List ChunkSeen) (n : ℕ) (c : ChunkSeen) → n < length chunks → c ≡ get_or chunks n c
    → least_among (take (n + 1) chunks) ≡ min (least_among (take n chunks)) c.least
least_next chunks n c lt is =
    let d : ChunkSeen = get_or chunks n c in
    let both : least_among (take n chunks ++ d ∷ []) ≡ min (least_among (take n chunks)) (least_among (d ∷ [])) =
    both_among (take n chunks) (d ∷ []) in
    let most : least_among (take n chunks) ≤ 2 ^ 64 - 1 = least_small (take n chunks) in
    omega (arith, ap least_among (take_more chunks n c lt), both, most, ap (λ (e : ChunkSeen). e.least) is)

-- a chunk whose least key is lowered
least_lowered : (n : ℕ) (chunks : List ChunkSeen) (j key : ℕ) (c d : ChunkSeen) → j < length chunks
    → c ≡ get_or chunks j c → d.least ≡ min c.least key → j < n
    → least_among (take n (set chunks j d)) ≡ min (least_among (take n chunks)) key
least_lowered n [] j key c d lt is low within = absurd (omega (arith, lt))
least_lowered zero (x ∷ chunks) j key c d lt is low within = absurd (omega (arith, within))
least_lowered (suc n) (x ∷ chunks) zero key c d lt is low within =
    let first : c.least ≡ x.least = ap (λ (e : ChunkSeen). e.least) is in
    omega (arith, low, first)
least_lowered (suc n) (x ∷ chunks) (suc j) key c d lt is low within =
    let rest : least_among (take n (set chunks j d)) ≡ min (least_among (take n chunks)) key =
    least_lowered n chunks j key c d (omega (arith, lt)) is low (omega (arith, within)) in
    omega (arith, rest)

-- one after those
least_stays : (n : ℕ) (chunks : List ChunkSeen) (j : ℕ) (d : ChunkSeen) → n ≤ j
    → least_among (take n (set chunks j d)) ≡ least_among (take n chunks)
least_stays zero chunks j d le = refl
least_stays (suc n) [] j d le = refl
least_stays (suc n) (x ∷ chunks) zero d le = absurd (omega (arith, le))
least_stays (suc n) (x ∷ chunks) (suc j) d le = ap (min x.least) (least_stays n chunks j d (omega (arith, le)))

-- one with the same least key
least_same : (n : ℕ) (chunks : List ChunkSeen) (j : ℕ) (c d : ChunkSeen) → j < length chunks → c ≡ get_or chunks j c
    → d.least ≡ c.least → least_among (take n (set chunks j d)) ≡ least_among (take n chunks)
least_same n [] j c d lt is same = absurd (omega (arith, lt))
least_same zero (x ∷ chunks) j c d lt is same = refl
least_same (suc n) (x ∷ chunks) zero c d lt is same =
    let first : c.least ≡ x.least = ap (λ (e : ChunkSeen). e.least) is in
    omega (arith, same, first)
least_same (suc n) (x ∷ chunks) (suc j) c d lt is same =
    ap (min x.least) (least_same n chunks j c d (omega (arith, lt)) is same)

-- a group more has its least key
pub low_more : (lows : List ℕ) (chunks : List ChunkSeen) (n s : ℕ) → AreLowsSoFar lows chunks
    → n ≡ min GROUP (length chunks - GROUP * length lows)
    → s ≡ least_among (take n (drop (GROUP * length lows) chunks))
    → AreLowsSoFar (lows ++ s ∷ []) chunks
low_more lows chunks n s told capped is k lt =
    let within : k ≤ length lows = omega (arith, lt, length-append lows (s ∷ [])) in
    let done : ℕ = GROUP * length lows in
    elim (eq-or-lt_of_le within) [
      | inl last ↦
          let rest : List ChunkSeen = drop done chunks in
          let count : n ≡ min GROUP (length rest) = capped ∙ ap (min GROUP) (sym (length-drop done chunks)) in
          get_or_push lows s 0 k (sym last) ∙ is
          ∙ ap least_among (ap (λ (m : ℕ). take m rest) count ∙ take_min GROUP rest)
          ∙ ap (λ (m : ℕ). least_among (take GROUP (drop (GROUP * m) chunks))) (sym last)
      | inr before ↦ get_or_append_left lows (s ∷ []) 0 k before ∙ told k before
    ]

-- a chunk that is changed
module _ (lows : List ℕ) (chunks : List ChunkSeen) (slot : ℕ) (c d : ChunkSeen) (lt : slot < length chunks)
    (is : c ≡ get_or chunks slot c) (are : AreLows lows chunks)
  where
    -- the group from this chunk on
    abbrev group : ℕ → List ChunkSeen → ℕ
    group n l = least_among (take GROUP (drop n l))

    after : (n : ℕ) → slot < n → group n (set chunks slot d) ≡ group n chunks
    after n past = ap (λ (l : List ChunkSeen). least_among (take GROUP l)) (drop-set-lt n chunks slot d past)

    from : (n : ℕ) → n ≤ slot → drop n (set chunks slot d) ≡ set (drop n chunks) (slot - n) d
    from n le =
        let at : slot ≡ n + (slot - n) = omega (arith, le) in
        ap (λ (m : ℕ). drop n (set chunks m d)) at ∙ drop-set-add n chunks (slot - n) d

    read : (n : ℕ) → n ≤ slot → c ≡ get_or (drop n chunks) (slot - n) c
    read n le =
        let at : slot ≡ n + (slot - n) = omega (arith, le) in
        is ∙ ap (λ (m : ℕ). get_or chunks m c) at ∙ sym (get_or-drop n chunks (slot - n) c)

    among : (n : ℕ) → n ≤ slot → slot - n < length (drop n chunks)
    among n le = omega (arith, le, lt, length-drop n chunks)

    pub lows_lowered : (key low : ℕ) → d.least ≡ min c.least key → low ≡ min (get_or lows (slot / GROUP) 0) key
        → AreLows (set lows (slot / GROUP) low) (set chunks slot d)
    lows_lowered key low lowered is_low =
        let g : ℕ = slot / GROUP in
        let within : g < length lows = omega (arith, lt, are.all) in
        record {
          told = λ (k : ℕ) (under : k < length (set lows g low)).
              let old : k < length lows = omega (arith, under, length-set lows g low) in
              elim (cases_lt k g) [
                | inl before ↦
                    let le : GROUP * k ≤ slot = omega (arith, before) in
                    get_or-set_other lows g k low 0 (λ (e : k ≡ g). absurd (omega (arith, e, before)))
                    ∙ are.told k old
                    ∙ sym (ap (λ (l : List ChunkSeen). least_among (take GROUP l)) (from (GROUP * k) le)
                    ∙ least_stays GROUP (drop (GROUP * k) chunks) (slot - GROUP * k) d (omega (arith, before)))
                | inr rest ↦ elim (eq-or-lt_of_le rest) [
                  | inl here ↦
                      let le : GROUP * k ≤ slot = omega (arith, here) in
                      let now : group (GROUP * k) (set chunks slot d) ≡ min (group (GROUP * k) chunks) key =
                      ap (λ (l : List ChunkSeen). least_among (take GROUP l)) (from (GROUP * k) le)
                      ∙ least_lowered GROUP (drop (GROUP * k) chunks) (slot - GROUP * k) key c d (among (GROUP * k) le)
                      (read (GROUP * k) le) lowered (omega (arith, here)) in
                      let was : get_or lows k 0 ≡ group (GROUP * k) chunks = are.told k old in
                      let set_is : get_or (set lows g low) k 0 ≡ low =
                      ap (λ (j : ℕ). get_or (set lows g low) j 0) (sym here) ∙ get_or-set_same lows g low 0 within in
                      set_is ∙ is_low ∙ ap (λ (j : ℕ). min (get_or lows j 0) key) here
                      ∙ ap (λ (m : ℕ). min m key) was ∙ sym now
                  | inr past ↦
                      get_or-set_other lows g k low 0 (λ (e : k ≡ g). absurd (omega (arith, e, past)))
                      ∙ are.told k old ∙ sym (after (GROUP * k) (omega (arith, past)))
                ]
              ];
          all = omega (arith, are.all, length-set lows g low, length-set chunks slot d);
        }

    pub lows_same : d.least ≡ c.least → AreLows lows (set chunks slot d)
    lows_same same = record {
      told = λ (k : ℕ) (under : k < length lows). elim (cases_lt slot (GROUP * k)) [
        | inl past ↦ are.told k under ∙ sym (after (GROUP * k) past)
        | inr le ↦
            are.told k under
            ∙ sym (ap (λ (l : List ChunkSeen). least_among (take GROUP l)) (from (GROUP * k) le)
            ∙ least_same GROUP (drop (GROUP * k) chunks) (slot - GROUP * k) c d (among (GROUP * k) le) (read (GROUP * k) le) same)
      ];
      all = omega (arith, are.all, length-set chunks slot d);
    }

-- a single chunk without members
pub lows_alone : (c : ChunkSeen) → c.least ≡ 2 ^ 64 - 1 → AreLows ((2 ^ 64 - 1) ∷ []) (c ∷ [])
lows_alone c none = record {
  told = λ (k : ℕ) (lt : k < 1).
      let first : k ≡ 0 = omega (arith, lt) in
      let here : least_among (take GROUP (c ∷ [])) ≡ 2 ^ 64 - 1 = omega (arith, none) in
      subst (λ (j : ℕ). get_or ((2 ^ 64 - 1) ∷ []) j 0 ≡ least_among (take GROUP (drop (GROUP * j) (c ∷ []))))
      (sym first) (sym here);
  all = omega arith;
}

-- what is passed by a group's least key

above_among : (keys : List ℕ) (key : ℕ) (chunks : List ChunkSeen) → AreLeast keys chunks → key < least_among chunks
    → AreAbove keys key (members_of chunks)
above_among keys key [] are lt = All-nil (λ (m : ℕ × ℕ). key < key_in keys m.0)
above_among keys key (c ∷ chunks) are lt =
    let L : ChunkSeen → Type 0 = λ (d : ChunkSeen). d.least ≡ least_of keys d.members in
    let here : c.least ≡ least_of keys c.members = All-head L c chunks are in
    All-append (λ (m : ℕ × ℕ). key < key_in keys m.0) c.members (members_of chunks)
    (above_least keys key c.members (omega (arith, here, lt)))
    (above_among keys key chunks (All-tail L c chunks are) (omega (arith, lt)))

last_any : (a b : ℕ) (xs : Members) → 0 < length xs → last_tag_from a xs ≡ last_tag_from b xs
last_any a b [] some = absurd (omega (arith, some))
last_any a b (m ∷ xs) some = refl

pub group_passed : (keys : List ℕ) (key : ℕ) (chunks : List ChunkSeen) (at end : ℕ) (c : ChunkSeen) → 0 < at
    → at < length chunks → end ≡ at + min GROUP (length chunks - at) → key < least_among (take GROUP (drop at chunks))
    → AreLeast keys chunks → AreHalfFull chunks → c ≡ get_or chunks (end - 1) c → (tag mid last : ℕ)
    → mid ≡ last_tag_from tag c.members → IsPassed keys key (members_of (drop end chunks)) mid last
    → IsPassed keys key (members_of (drop at chunks)) tag last
group_passed keys key chunks at end c past lt is under are half read tag mid last mid_is p =
    let H : ChunkSeen → Type 0 = λ (d : ChunkSeen). HALF ≤ length d.members in
    let full : All H chunks = elim half [
      | inl one ↦ absurd (omega (arith, one, past, lt))
      | inr all ↦ all
    ] in
    let rest : List ChunkSeen = drop at chunks in
    let n : ℕ = min GROUP (length chunks - at) in
    let front : List ChunkSeen = take n rest in
    let count : length rest ≡ length chunks - at = length-drop at chunks in
    let some : HALF ≤ length c.members =
    subst (λ (d : ChunkSeen). HALF ≤ length d.members) (sym read) (full (end - 1) c (omega (arith, is, lt))) in
    let first : take GROUP rest ≡ front =
    sym (take_min GROUP rest) ∙ ap (λ (m : ℕ). take (min GROUP m) rest) count in
    let above : AreAbove keys key (members_of front) =
    above_among keys key front
    (All-take (λ (d : ChunkSeen). d.least ≡ least_of keys d.members) n rest
    (All-drop (λ (d : ChunkSeen). d.least ≡ least_of keys d.members) at chunks are))
    (subst (λ (l : List ChunkSeen). key < least_among l) first under) in
    let whole : rest ≡ front ++ drop end chunks =
    sym (take-append-drop n rest)
    ∙ ap (λ (l : List ChunkSeen). front ++ l) (drop-drop n at chunks ∙ ap (λ (m : ℕ). drop m chunks) (sym is)) in
    let before : n - 1 + 1 ≡ n = omega (arith, lt) in
    let place : at + (n - 1) ≡ end - 1 = omega (arith, lt, is) in
    let one : front ≡ take (n - 1) rest ++ c ∷ [] =
    ap (λ (m : ℕ). take m rest) (sym before) ∙ take_more rest (n - 1) c (omega (arith, count, lt))
    ∙ ap (λ (d : ChunkSeen). take (n - 1) rest ++ d ∷ [])
    (get_or-drop at chunks (n - 1) c ∙ ap (λ (m : ℕ). get_or chunks m c) place ∙ sym read) in
    let ends : last_tag_from tag (members_of front) ≡ last_tag_from tag c.members =
    ap (λ (l : List ChunkSeen). last_tag_from tag (members_of l)) one
    ∙ ap (last_tag_from tag) (members_of-append (take (n - 1) rest) (c ∷ []) ∙ ap (λ (l : Members). members_of (take (n - 1) rest) ++ l) (append-nil c.members))
    ∙ last_both tag (members_of (take (n - 1) rest)) c.members
    ∙ last_any (last_tag_from tag (members_of (take (n - 1) rest))) tag c.members (omega (arith, some)) in
    subst (λ (l : List ChunkSeen). IsPassed keys key (members_of l) tag last) (sym whole)
    (subst (λ (l : Members). IsPassed keys key l tag last) (sym (members_of-append front (drop end chunks)))
    (passed_on keys key (members_of front) (members_of (drop end chunks)) tag mid last above (mid_is ∙ sym ends) p))

-- so are single chunks, each by its own least key

-- a chunk after the only one has members
pub has_some : (chunks : List ChunkSeen) (slot : ℕ) (c : ChunkSeen) → 0 < slot → slot < length chunks → AreHalfFull chunks
    → c ≡ get_or chunks slot c → 0 < length c.members
has_some chunks slot c past lt half read =
    let H : ChunkSeen → Type 0 = λ (d : ChunkSeen). HALF ≤ length d.members in
    let full : All H chunks = elim half [
      | inl one ↦ absurd (omega (arith, one, past, lt))
      | inr all ↦ all
    ] in
    let some : HALF ≤ length c.members =
    subst (λ (d : ChunkSeen). HALF ≤ length d.members) (sym read) (full slot c lt) in
    omega (arith, some)

-- one chunk more
pub above_next : (keys : List ℕ) (key : ℕ) (chunks : List ChunkSeen) (from slot : ℕ) (c : ChunkSeen) → from ≤ slot
    → slot < length chunks → c ≡ get_or chunks slot c → c.least ≡ least_of keys c.members → key < c.least
    → (from < slot → key < least_among (take (slot - from) (drop from chunks)))
    → key < least_among (take (slot + 1 - from) (drop from chunks))
above_next keys key chunks from slot c le lt read least above earlier =
    let rest : List ChunkSeen = drop from chunks in
    let n : ℕ = slot - from in
    let count : length rest ≡ length chunks - from = length-drop from chunks in
    let at : slot ≡ from + n = omega (arith, le) in
    let here : c ≡ get_or rest n c =
    read ∙ ap (λ (m : ℕ). get_or chunks m c) at ∙ sym (get_or-drop from chunks n c) in
    let most : least_of keys c.members ≤ 2 ^ 64 - 1 = least_most keys c.members in
    let so_far : key < least_among (take n rest) = elim (cases_lt from slot) [
      | inl past ↦ earlier past
      | inr none ↦
          let first : n ≡ 0 = omega (arith, none) in
          let is : least_among (take n rest) ≡ 2 ^ 64 - 1 = ap (λ (m : ℕ). least_among (take m rest)) first in
          omega (arith, is, above, least, most)
    ] in
    let next : slot + 1 - from ≡ n + 1 = omega (arith, le) in
    let both : least_among (take (n + 1) rest) ≡ min (least_among (take n rest)) c.least =
    least_next rest n c (omega (arith, count, le, lt)) here in
    omega (arith, ap (λ (m : ℕ). least_among (take m rest)) next, both, so_far, above)

-- the chunks of a group whose least key isn't greater aren't all passed
pub group_stops : (key : ℕ) (chunks : List ChunkSeen) (at end : ℕ) → end ≡ at + min GROUP (length chunks - at)
    → least_among (take GROUP (drop at chunks)) ≤ key → key < least_among (take (end - at) (drop at chunks)) → ⊥
group_stops key chunks at end is low above =
    let rest : List ChunkSeen = drop at chunks in
    let count : end - at ≡ min GROUP (length rest) = omega (arith, is, length-drop at chunks) in
    let same : take (end - at) rest ≡ take GROUP rest = ap (λ (m : ℕ). take m rest) count ∙ take_min GROUP rest in
    absurd (omega (arith, ap least_among same, low, above))

-- how many groups there are

half_counted : (chunks : List ChunkSeen) → All (λ (d : ChunkSeen). HALF ≤ length d.members) chunks
    → HALF * length chunks ≤ length (members_of chunks)
half_counted [] full = omega arith
half_counted (c ∷ chunks) full =
    let H : ChunkSeen → Type 0 = λ (d : ChunkSeen). HALF ≤ length d.members in
    let here : HALF ≤ length c.members = All-head H c chunks full in
    let rest : HALF * length chunks ≤ length (members_of chunks) = half_counted chunks (All-tail H c chunks full) in
    omega (arith, here, rest, length-append c.members (members_of chunks))

pub few_groups : (chunks : List ChunkSeen) → AreHalfFull chunks
    → length chunks / GROUP ≤ length (members_of chunks) / (GROUP * HALF)
few_groups chunks half = elim half [
  | inl one ↦ omega (arith, one)
  | inr full ↦ omega (arith, half_counted chunks full)
]
