-- The least keys of members, and the members that a walk passes.
use Rattle.std.proofs.Common.{◌≡◌, ℕ, ◌+◌, ◌-◌, ◌^◌, ◌<◌, ◌≤◌, List, [], ◌∷◌, ◌++◌, length, get_or, min, take, drop}
use Rattle.std.proofs.Common.{Option, suc, refl, sym, ap, subst, ◌∙◌, arith, append_assoc}
use Rattle.std.proofs.Math.ListN.{set}
use Rattle.std.specs.List.{insert}
use Rattle.std.proofs.lemmas.List.{take-append-drop, drop_at, drop_more, take_more, length-append, length-drop, get_or_append_left}
use Rattle.std.proofs.lemmas.List.Elements.{All-append, All-cons, All-head, All-nil, All-tail}
use Rattle.std.proofs.lemmas.Option.{slice_get_within, get_or_from_slice_get}
use Rattle.piece_raw.specs.Ring.{HasTag, IsPushed, with_value}
use Rattle.rank_index.specs.Chunks.{ChunkSeen, members_of, AreEnteredUnder, AreHomes}
use Rattle.rank_index.specs.Keyed.{key_in, least_of, AreLeast, AreAbove, BeginAtMost, last_tag_from, IsPassed, IsPassedIn}
use Rattle.rank_index.proofs.Pieces.{all_parts, all_whole, cut_read, get-seam, insert-after, seam_at}
use Rattle.rank_index.proofs.Tagged.{Members, HasTag-first, HasTag-right}
use Rattle.rank_index.proofs.Weights.{placed}

-- the least key of some members

pub least_most : (keys : List ℕ) (xs : Members) → least_of keys xs ≤ 2 ^ 64 - 1
least_most keys [] = omega arith
least_most keys (m ∷ xs) =
    let rest : least_of keys xs ≤ 2 ^ 64 - 1 = least_most keys xs in
    omega (arith, rest)

pub least_both : (keys : List ℕ) (xs ys : Members)
    → least_of keys (xs ++ ys) ≡ min (least_of keys xs) (least_of keys ys)
least_both keys [] ys =
    let rest : least_of keys ys ≤ 2 ^ 64 - 1 = least_most keys ys in
    omega (arith, rest)
least_both keys (m ∷ xs) ys =
    let rest : least_of keys (xs ++ ys) ≡ min (least_of keys xs) (least_of keys ys) = least_both keys xs ys in
    omega (arith, rest)

-- one member more
pub least_more : (keys : List ℕ) (xs : Members) (i : ℕ) (d : ℕ × ℕ) → i < length xs
    → least_of keys (take (i + 1) xs) ≡ min (least_of keys (take i xs)) (key_in keys (get_or xs i d).0)
least_more keys xs i d lt =
    let m : ℕ × ℕ = get_or xs i d in
    let both : least_of keys (take i xs ++ m ∷ []) ≡ min (least_of keys (take i xs)) (least_of keys (m ∷ [])) =
    least_both keys (take i xs) (m ∷ []) in
    let most : least_of keys (take i xs) ≤ 2 ^ 64 - 1 = least_most keys (take i xs) in
    omega (arith, ap (least_of keys) (take_more xs i d lt), both, most)

-- all keys are greater than one that is less than the least of them
pub above_least : (keys : List ℕ) (key : ℕ) (xs : Members) → key < least_of keys xs → AreAbove keys key xs
above_least keys key [] lt = All-nil (λ (m : ℕ × ℕ). key < key_in keys m.0)
above_least keys key (m ∷ xs) lt =
    All-cons (λ (n : ℕ × ℕ). key < key_in keys n.0) m xs (omega (arith, lt)) (above_least keys key xs (omega (arith, lt)))

-- and the other way around, where there are some and the keys are machine numbers

least_below : (keys : List ℕ) (key : ℕ) (xs : Members) → key < 2 ^ 64 - 1 → AreAbove keys key xs → key < least_of keys xs
least_below keys key [] lt above = lt
least_below keys key (m ∷ xs) lt above =
    let K : ℕ × ℕ → Type 0 = λ (n : ℕ × ℕ). key < key_in keys n.0 in
    let here : key < key_in keys m.0 = All-head K m xs above in
    let rest : key < least_of keys xs = least_below keys key xs lt (All-tail K m xs above) in
    omega (arith, here, rest)

pub least_above : (keys : List ℕ) (key : ℕ) (xs : Members) → ((i : ℕ) → get_or keys i 0 < 2 ^ 64) → 0 < length xs
    → AreAbove keys key xs → key < least_of keys xs
least_above keys key [] small some above = absurd (omega (arith, some))
least_above keys key (m ∷ xs) small some above =
    let here : key < key_in keys m.0 = All-head (λ (n : ℕ × ℕ). key < key_in keys n.0) m xs above in
    let bound : key_in keys m.0 < 2 ^ 64 = small m.0 in
    least_below keys key (m ∷ xs) (omega (arith, here, bound)) above

-- other weights
pub least_reweighed : (keys : List ℕ) (tag w : ℕ) (xs : Members) → least_of keys (with_value tag w xs) ≡ least_of keys xs
least_reweighed keys tag w [] = refl
least_reweighed keys tag w (m ∷ xs) = ap (min (key_in keys m.0)) (least_reweighed keys tag w xs)

-- a key more
least_kept : (keys : List ℕ) (key : ℕ) (xs : Members) → ((tag : ℕ) → HasTag xs tag → tag < length keys)
    → least_of (keys ++ key ∷ []) xs ≡ least_of keys xs
least_kept keys key [] below = refl
least_kept keys key (m ∷ xs) below =
    let here : key_in (keys ++ key ∷ []) m.0 ≡ key_in keys m.0 =
    get_or_append_left keys (key ∷ []) 0 m.0 (below m.0 (HasTag-first m xs m.0 refl)) in
    let rest : least_of (keys ++ key ∷ []) xs ≡ least_of keys xs =
    least_kept keys key xs (λ (tag : ℕ) (h : HasTag xs tag). below tag (HasTag-right (m ∷ []) xs tag h)) in
    (λ i. min (here i) (rest i))

module _ (homes keys : List ℕ) (key : ℕ) (same : length keys ≡ length homes) where
  chunk_kept : (c : ChunkSeen) → AreEnteredUnder homes c.home c.members
      → least_of (keys ++ key ∷ []) c.members ≡ least_of keys c.members
  chunk_kept c entered =
      least_kept keys key c.members (λ (tag : ℕ) (h : HasTag c.members tag).
      omega (arith, same, slice_get_within homes tag c.home (entered tag h)))

  least_all_kept : (chunks : List ChunkSeen) → AreHomes homes chunks → AreLeast keys chunks
      → AreLeast (keys ++ key ∷ []) chunks
  least_all_kept [] entered least = All-nil (λ (c : ChunkSeen). c.least ≡ least_of (keys ++ key ∷ []) c.members)
  least_all_kept (c ∷ chunks) entered least =
      let E : ChunkSeen → Type 0 = λ (d : ChunkSeen). AreEnteredUnder homes d.home d.members in
      let L : ChunkSeen → Type 0 = λ (d : ChunkSeen). d.least ≡ least_of keys d.members in
      All-cons (λ (d : ChunkSeen). d.least ≡ least_of (keys ++ key ∷ []) d.members) c chunks
      (All-head L c chunks least ∙ sym (chunk_kept c (All-head E c chunks entered)))
      (least_all_kept chunks (All-tail E c chunks entered) (All-tail L c chunks least))

-- a chunk with a member more
module _ (keys homes : List ℕ) (chunks : List ChunkSeen) (slot : ℕ) (c d : ChunkSeen) (lt : slot < length chunks)
    (is : c ≡ get_or chunks slot c) (are : AreLeast keys chunks)
  where
    pub least_pushed : (after : Option ℕ) (tag w key : ℕ) → length keys ≡ length homes → AreHomes homes chunks
        → tag ≡ length keys → IsPushed c.members after tag w d.members → d.least ≡ min c.least key
        → AreLeast (keys ++ key ∷ []) (set chunks slot d)
    least_pushed after tag w key same entered at (xs, ys, was, last, now) lowered =
        let more : List ℕ = keys ++ key ∷ [] in
        let L : ChunkSeen → Type 0 = λ (e : ChunkSeen). e.least ≡ least_of more e.members in
        let (earlier, later, cut, there, changed) = seam_at chunks slot c lt is in
        let (left, here, right) = all_parts L earlier c later
        (subst (AreLeast more) cut (least_all_kept homes keys key same chunks entered are)) in
        let read : key_in more tag ≡ key =
        ap (key_in more) at ∙ get_or_from_slice_get more (length keys) key 0 (get-seam keys key []) in
        let old : least_of more c.members ≡ min (least_of more xs) (least_of more ys) =
        ap (least_of more) was ∙ least_both more xs ys in
        let new : least_of more d.members ≡ min (least_of more xs) (min (key_in more tag) (least_of more ys)) =
        ap (least_of more) now ∙ least_both more xs ((tag, w) ∷ ys) in
        subst (AreLeast more) (sym (changed d))
        (all_whole L earlier d later left (omega (arith, lowered, here, old, new, read)) right)

    -- with other weights
    pub least_set : (tag w : ℕ) → d.members ≡ with_value tag w c.members → d.least ≡ c.least
        → AreLeast keys (set chunks slot d)
    least_set tag w now same =
        let L : ChunkSeen → Type 0 = λ (e : ChunkSeen). e.least ≡ least_of keys e.members in
        let (earlier, later, cut, there, changed) = seam_at chunks slot c lt is in
        let (left, here, right) = all_parts L earlier c later (subst (AreLeast keys) cut are) in
        subst (AreLeast keys) (sym (changed d)) (all_whole L earlier d later left
        (same ∙ here ∙ sym (least_reweighed keys tag w c.members) ∙ sym (ap (least_of keys) now)) right)

    -- and one that gives its second half away
    pub least_halved : (rest : ChunkSeen) → d.least ≡ least_of keys d.members → rest.least ≡ least_of keys rest.members
        → AreLeast keys (insert (set chunks slot d) (slot + 1) rest)
    least_halved rest first second =
        let L : ChunkSeen → Type 0 = λ (e : ChunkSeen). e.least ≡ least_of keys e.members in
        let (earlier, later, cut, there, changed) = seam_at chunks slot c lt is in
        let (left, here, right) = all_parts L earlier c later (subst (AreLeast keys) cut are) in
        let made : insert (set chunks slot d) (slot + 1) rest ≡ earlier ++ d ∷ rest ∷ later =
        (λ i. insert (changed d i) (there i + 1) rest) ∙ insert-after earlier d rest later in
        subst (AreLeast keys) (sym made)
        (all_whole L earlier d (rest ∷ later) left first (All-cons L rest later second right))

-- a single chunk without members
pub least_alone : (c : ChunkSeen) → c ≡ record { members = []; home = 0; least = 2 ^ 64 - 1 } → AreLeast [] (c ∷ [])
least_alone c e =
    let L : ChunkSeen → Type 0 = λ (d : ChunkSeen). d.least ≡ least_of [] d.members in
    All-cons L c [] (subst L (sym e) refl) (All-nil L)

-- what is passed

pub last_both : (tag : ℕ) (xs ys : Members) → last_tag_from tag (xs ++ ys) ≡ last_tag_from (last_tag_from tag xs) ys
last_both tag [] ys = refl
last_both tag (m ∷ xs) ys = last_both m.0 xs ys

-- the last of the first members
pub last_at : (tag : ℕ) (xs : Members) (i : ℕ) (d : ℕ × ℕ) → i < length xs
    → (get_or xs i d).0 ≡ last_tag_from tag (take (i + 1) xs)
last_at tag xs i d lt =
    sym (ap (last_tag_from tag) (take_more xs i d lt) ∙ last_both tag (take i xs) (get_or xs i d ∷ []))

begin_more : (keys : List ℕ) (key : ℕ) (xs more : Members) → 0 < length xs → BeginAtMost keys key xs
    → BeginAtMost keys key (xs ++ more)
begin_more keys key [] more some begin = absurd (omega (arith, some))
begin_more keys key (m ∷ xs) more some begin = begin

pub begin_at : (keys : List ℕ) (key : ℕ) (xs : Members) (i : ℕ) (d : ℕ × ℕ) → i < length xs
    → key_in keys (get_or xs i d).0 ≤ key → BeginAtMost keys key (drop i xs)
begin_at keys key xs i d lt le = subst (BeginAtMost keys key) (sym (drop_more xs i d lt)) le

pub begin_none : (keys : List ℕ) (key : ℕ) (xs : Members) (i : ℕ) → length xs ≤ i → BeginAtMost keys key (drop i xs)
begin_none keys key xs i le = go (drop i xs) (omega (arith, length-drop i xs, le))
  where
    go : (ys : Members) → length ys ≡ 0 → BeginAtMost keys key ys
    go [] e = tt
    go (m ∷ ys) e = absurd (omega (arith, e))

pub passed_none : (keys : List ℕ) (key tag : ℕ) → IsPassed keys key [] tag tag
passed_none keys key tag = record {
  passed = [];
  rest = [];
  whole = refl;
  above = All-nil (λ (m : ℕ × ℕ). key < key_in keys m.0);
  stops = tt;
  last_is = refl;
}

-- up to one of these
pub passed_here : (keys : List ℕ) (key : ℕ) (xs more : Members) (n tag last : ℕ) → n < length xs
    → AreAbove keys key (take n xs) → BeginAtMost keys key (drop n xs) → last ≡ last_tag_from tag (take n xs)
    → IsPassed keys key (xs ++ more) tag last
passed_here keys key xs more n tag last lt above stops is = record {
  passed = take n xs;
  rest = drop n xs ++ more;
  whole = ap (λ (l : Members). l ++ more) (sym (take-append-drop n xs)) ∙ append_assoc (take n xs) (drop n xs) more;
  above = above;
  stops = begin_more keys key (drop n xs) more (omega (arith, lt, length-drop n xs)) stops;
  last_is = is;
}

-- all of these, and on
pub passed_on : (keys : List ℕ) (key : ℕ) (xs ys : Members) (tag mid last : ℕ) → AreAbove keys key xs
    → mid ≡ last_tag_from tag xs → IsPassed keys key ys mid last → IsPassed keys key (xs ++ ys) tag last
passed_on keys key xs ys tag mid last above is p = record {
  passed = xs ++ p.passed;
  rest = p.rest;
  whole = ap (λ (l : Members). xs ++ l) p.whole ∙ sym (append_assoc xs p.passed p.rest);
  above = All-append (λ (m : ℕ × ℕ). key < key_in keys m.0) xs p.passed above p.above;
  stops = p.stops;
  last_is = p.last_is ∙ ap (λ (t : ℕ). last_tag_from t p.passed) is ∙ sym (last_both tag xs p.passed);
}

-- those after a slot
pub rest_after : (xs before follow : Members) (m : ℕ × ℕ) (slot : ℕ) → xs ≡ before ++ m ∷ follow → slot ≡ length before
    → drop (slot + 1) xs ≡ follow
rest_after xs before follow m slot cut at =
    let two : xs ≡ (before ++ m ∷ []) ++ follow = cut ∙ sym (append_assoc before (m ∷ []) follow) in
    let count : length (before ++ m ∷ []) ≡ slot + 1 = omega (arith, at, length-append before (m ∷ [])) in
    ap (drop (slot + 1)) two ∙ drop_at (before ++ m ∷ []) follow (slot + 1) count

-- the members of one of the chunks from a slot on
module _ (keys : List ℕ) (key : ℕ) (chunks : List ChunkSeen) (slot : ℕ) (c : ChunkSeen) (lt : slot < length chunks)
    (is : c ≡ get_or chunks slot c)
  where
    from_here : members_of (drop slot chunks) ≡ c.members ++ members_of (drop (slot + 1) chunks)
    from_here =
        ap members_of (drop_more chunks slot c lt)
        ∙ ap (λ (d : ChunkSeen). d.members ++ members_of (drop (slot + 1) chunks)) (sym is)

    pub chunk_passed : (tag mid last : ℕ) → AreAbove keys key c.members → mid ≡ last_tag_from tag c.members
        → IsPassed keys key (members_of (drop (slot + 1) chunks)) mid last
        → IsPassed keys key (members_of (drop slot chunks)) tag last
    chunk_passed tag mid last above at p =
        subst (λ (l : Members). IsPassed keys key l tag last) (sym from_here)
        (passed_on keys key c.members (members_of (drop (slot + 1) chunks)) tag mid last above at p)

    pub chunk_stops : (tag last : ℕ) → ((more : Members) → IsPassed keys key (c.members ++ more) tag last)
        → IsPassed keys key (members_of (drop slot chunks)) tag last
    chunk_stops tag last p =
        subst (λ (l : Members). IsPassed keys key l tag last) (sym from_here) (p (members_of (drop (slot + 1) chunks)))

    -- among all members
    module _ (before follow : Members) (tag weight : ℕ) (cut : c.members ≡ before ++ (tag, weight) ∷ follow) where
      in_all : members_of chunks
          ≡ (members_of (take slot chunks) ++ before) ++ (tag, weight) ∷ (follow ++ members_of (drop (slot + 1) chunks))
      in_all =
          let next : suc slot ≡ slot + 1 = omega arith in
          ap members_of (cut_read chunks slot c lt is)
          ∙ placed (take slot chunks) c (drop (suc slot) chunks) before follow (tag, weight) cut
          ∙ ap (λ (n : ℕ). (members_of (take slot chunks) ++ before) ++ (tag, weight) ∷ (follow ++ members_of (drop n chunks))) next

      pub stops_in_all : (last : ℕ) → ((more : Members) → IsPassed keys key (follow ++ more) tag last)
          → IsPassedIn keys key (members_of chunks) tag last
      stops_in_all last p = (
        members_of (take slot chunks) ++ before,
        weight,
        follow ++ members_of (drop (slot + 1) chunks),
        in_all,
        p (members_of (drop (slot + 1) chunks)),
      )

      pub passed_in_all : (mid last : ℕ) → AreAbove keys key follow → mid ≡ last_tag_from tag follow
          → IsPassed keys key (members_of (drop (slot + 1) chunks)) mid last
          → IsPassedIn keys key (members_of chunks) tag last
      passed_in_all mid last above at p = (
        members_of (take slot chunks) ++ before,
        weight,
        follow ++ members_of (drop (slot + 1) chunks),
        in_all,
        passed_on keys key follow (members_of (drop (slot + 1) chunks)) tag mid last above at p,
      )
