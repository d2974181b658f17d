-- A piece is inserted into its gap: the walk to it, the split before it, and the tables afterwards.
use Rattle.std.proofs.Common.{◌≡◌, ◌≢◌, ℕ, ◌+◌, ◌-◌, ◌<◌, ◌≤◌, ◌⊎◌, Bool, true, false, inl, inr, List, [], ◌∷◌}
use Rattle.std.proofs.Common.{◌++◌, Option, Some, length, All, Contains, refl, sym, ap, subst, ◌∙◌, arith}
use Rattle.std.proofs.Common.{append_assoc}
use Rattle.std.proofs.lemmas.Bool.{cases_eq}
use Rattle.std.proofs.lemmas.List.{append-nil, length-append, map-append}
use Rattle.std.proofs.lemmas.List.Elements.{All-append, All-cons, All-nil, Contains-append_left}
use Rattle.std.proofs.lemmas.List.Elements.{Contains-append_right}
use Rattle.looks.specs.Key.{is_below}
use Rattle.looks.specs.declared.key.Key.{Key}
use Rattle.char_files.specs.CharName.{CharName}
use Rattle.char_files.specs.declared.name.Anchor.{Anchor}
use Rattle.char_files.specs.declared.name.Anchor.TheVariants.{Root, At}
use Rattle.operations.specs.NameSet.{Range, IsIn, range_contains, names_of}
use Rattle.tree_order.specs.Registers.{Atom}
use Rattle.piece_raw.specs.Ring.{AreTags, HasTag, IsMember, IsPushed, last_tag}
use Rattle.piece_list.specs.Piece.{Piece}
use Rattle.piece_list.specs.declared.spot.Spot.{Spot}
use Rattle.piece_list.specs.Pieces.{range_of, chars_of, piece_front, rest_of, IsPiece}
use Rattle.piece_list.specs.Held.{AreEntered, IsSpotOf, IsSplit}
use Rattle.piece_list.specs.Laws.{Avoid, BeginNotAbove}
use Rattle.piece_list.specs.Placed.{IsPlaced}
use Rattle.piece_list.specs.Placing.{compared, IsAnchorSpot, IsParted, HasPart, IsPartedAt, IsSplitAt, IsSplitThere}
use Rattle.piece_list.specs.Placing.{AreOrAreJoined, IsCounted, IsCountedBetween, IsNextPiece, IsSkip, IsInsertedInGap, last_look}
use Rattle.piece_list.specs.Spelled.{spelled, names_of_atoms, HasName, ArePieces}
use Rattle.piece_list.specs.Tables.{Tables, table_of, tag_at}
use Rattle.tree_order.proofs.RunNames.{names_have}
use Rattle.piece_list.proofs.Changes.{contained, is_contained}
use Rattle.piece_list.proofs.Split.{split_spells_the_same}
use Rattle.piece_list.proofs.SplitList.{parts_spell}
use Rattle.piece_list.proofs.Entered.{Held, held, has_tag}
use Rattle.piece_list.proofs.Found.{one_value, some_is, name_has_spot, spot_has_name}
use Rattle.piece_list.proofs.Gap.{all_left, all_right, into_gap, name_only, names_of_chars}
use Rattle.piece_list.proofs.Parts.{one_part, last_tag-push, count_part, count_after}

abbrev Items : Type 0
Items = List (ℕ × Piece)

-- counts

counted_none : (from n : ℕ) → IsCountedBetween from 0 n from
counted_none from n = (omega arith, omega arith)

counted_more : (from n steps m more : ℕ) → IsCountedBetween from 0 n steps → IsCounted steps m more
    → IsCountedBetween from m (n + m) more
counted_more from n steps m more a b = (omega (arith, a.0, b.0), omega (arith, a.1, b.1))

counted_on : (from n k steps m : ℕ) → IsCountedBetween from k n steps → n ≤ m → IsCountedBetween from 0 m steps
counted_on from n k steps m a le = (omega (arith, a.0, le), omega (arith, a.1))

-- the walk

-- so far whole pieces of greater key are skipped, and no more keys are looked at
pub record IsWalked (key : Key) (before after : Items) (last : Option ℕ) (from steps : ℕ) : Type 0 where
  pub skipped : Items
  pub rest : Items
  pub whole : after ≡ skipped ++ rest
  pub greater : All (λ m. is_below key m.1.key ≡ true) skipped
  pub part : (items : Items) → items ≡ before ++ after → IsParted items last (before ++ skipped) rest
  pub counts : IsCountedBetween from 0 (length skipped) steps

abbrev pub Walked : Items → Key → Option ℕ → Option ℕ → ℕ → ℕ → Type 0
Walked items key first last from steps =
    (before after : Items) → IsParted items first before after → IsWalked key before after last from steps

pub walk_begins : (items : Items) (key : Key) (first : Option ℕ) (from : ℕ)
    → Walked items key first first from from
walk_begins items key first from before after (is, last) = record {
  skipped = [];
  rest = after;
  whole = refl;
  greater = All-nil (λ (m : ℕ × Piece). is_below key m.1.key ≡ true);
  part = λ all e. (
    e ∙ ap (λ (l : Items). l ++ after) (sym (append-nil before)),
    subst (λ (l : Items). last_tag l ≡ first) (sym (append-nil before)) last,
  );
  counts = counted_none from 0;
}

pub walk_part : (items : Items) (key : Key) (first last : Option ℕ) (from steps : ℕ) → HasPart items first
    → Walked items key first last from steps → HasPart items last
walk_part items key first last from steps (before, after, parted) walked =
    let w : IsWalked key before after last from steps = walked before after parted in
    (before ++ w.skipped, w.rest, w.part items parted.0)

pub walk_goes_on : (items : Items) (key : Key) (first last : Option ℕ) (next from steps more : ℕ)
    → Walked items key first last from steps → IsNextPiece items key last next
    → ((before after : Items) → IsParted items last before after → IsCounted steps (last_look after) more)
    → Walked items key first (Some next) from more
walk_goes_on items key first last next from steps more walked is_next looks before after parted =
    let P : ℕ × Piece → Type 0 = λ (m : ℕ × Piece). is_below key m.1.key ≡ true in
    let w : IsWalked key before after last from steps = walked before after parted in
    let (p, rest, is, above) = is_next (before ++ w.skipped) w.rest (w.part items parted.0) in
    let m : ℕ × Piece = (next, p) in
    let joined : w.skipped ++ m ∷ rest ≡ (w.skipped ++ m ∷ []) ++ rest =
    sym (append_assoc w.skipped (m ∷ []) rest) in
    let whole : after ≡ (w.skipped ++ m ∷ []) ++ rest =
    w.whole ∙ ap (λ (l : Items). w.skipped ++ l) is ∙ joined in
    let regroup : before ++ (w.skipped ++ m ∷ []) ≡ (before ++ w.skipped) ++ m ∷ [] =
    sym (append_assoc before w.skipped (m ∷ [])) in
    record {
      skipped = w.skipped ++ m ∷ [];
      rest = rest;
      whole = whole;
      greater = All-append P w.skipped (m ∷ []) w.greater (All-cons P m [] above (All-nil P));
      part = λ all e. (
        e ∙ ap (λ (l : Items). before ++ l) whole ∙ sym (append_assoc before (w.skipped ++ m ∷ []) rest),
        ap last_tag regroup ∙ last_tag-push (before ++ w.skipped) m,
      );
      counts = counted_on from (length w.skipped + 1) 1 more (length (w.skipped ++ m ∷ []))
          (counted_more from (length w.skipped) steps 1 more w.counts
          (subst (λ (n : ℕ). IsCounted steps n more) (ap last_look is)
          (looks (before ++ w.skipped) w.rest (w.part items parted.0))))
          (omega (arith, length-append w.skipped (m ∷ [])));
    }

-- after the piece of this number, pieces of greater key are passed, of which the last has the other number
pub record ArePassed (items : Items) (key : Key) (next last : ℕ) : Type 0 where
  pub front : Items
  pub passed : Items
  pub rest : Items
  pub part : IsParted items (Some next) front (passed ++ rest)
  pub greater : All (λ m. is_below key m.1.key ≡ true) passed
  pub last_is : last_tag (front ++ passed) ≡ Some last

pub walk_passes : (items : Items) (key : Key) (first : Option ℕ) (next last from steps : ℕ) → AreTags items
    → Walked items key first (Some next) from steps → ArePassed items key next last
    → Walked items key first (Some last) from steps
walk_passes items key first next last from steps are walked p before after parted =
    let P : ℕ × Piece → Type 0 = λ (m : ℕ × Piece). is_below key m.1.key ≡ true in
    let w : IsWalked key before after (Some next) from steps = walked before after parted in
    let (front, rest) = one_part items are (Some next) (before ++ w.skipped) w.rest p.front (p.passed ++ p.rest)
    (w.part items parted.0) p.part in
    let whole : after ≡ (w.skipped ++ p.passed) ++ p.rest =
    w.whole ∙ ap (λ (l : Items). w.skipped ++ l) rest ∙ sym (append_assoc w.skipped p.passed p.rest) in
    record {
      skipped = w.skipped ++ p.passed;
      rest = p.rest;
      whole = whole;
      greater = All-append P w.skipped p.passed w.greater p.greater;
      part = λ all e. (
        e ∙ ap (λ (l : Items). before ++ l) whole ∙ sym (append_assoc before (w.skipped ++ p.passed) p.rest),
        ap last_tag (sym (append_assoc before w.skipped p.passed))
            ∙ ap (λ (l : Items). last_tag (l ++ p.passed)) front ∙ p.last_is,
      );
      counts = counted_on from (length w.skipped) 0 steps (length (w.skipped ++ p.passed)) w.counts
          (omega (arith, length-append w.skipped p.passed));
    }

pub pass_shrinks : (items : Items) (key : Key) (next last : ℕ) → AreTags items → ArePassed items key next last
    → count_after (Some last) items ≤ count_after (Some next) items
pass_shrinks items key next last are p =
    let whole : items ≡ (p.front ++ p.passed) ++ p.rest = p.part.0 ∙ sym (append_assoc p.front p.passed p.rest) in
    omega (
      arith,
      count_part items are (Some next) p.front (p.passed ++ p.rest) p.part,
      count_part items are (Some last) (p.front ++ p.passed) p.rest (whole, p.last_is),
      length-append p.passed p.rest,
    )

-- the next piece is one of the list
pub next_has_tag : (items : Items) (key : Key) (last : Option ℕ) (next : ℕ) → HasPart items last → IsNextPiece items key last next
    → HasTag items next
next_has_tag items key last next (before, after, parted) is_next =
    let (p, rest, is, above) = is_next before after parted in
    (p, (before, rest, parted.0 ∙ ap (λ (l : Items). before ++ l) is))

pub walk_shrinks : (items : Items) (key : Key) (last : Option ℕ) (next : ℕ) → AreTags items
    → HasPart items last → IsNextPiece items key last next → count_after (Some next) items < count_after last items
walk_shrinks items key last next are (before, after, parted) is_next =
    let (p, rest, is, above) = is_next before after parted in
    let m : ℕ × Piece = (next, p) in
    let whole : items ≡ (before ++ m ∷ []) ++ rest =
    parted.0 ∙ ap (λ (l : Items). before ++ l) is ∙ sym (append_assoc before (m ∷ []) rest) in
    omega (
      arith,
      count_part items are last before after parted,
      count_part items are (Some next) (before ++ m ∷ []) rest (whole, last_tag-push before m),
      ap length is,
    )

pub walk_ends : (items : Items) (key : Key) (first last : Option ℕ) (from steps more : ℕ)
    → Walked items key first last from steps
    → ((before after : Items) → IsParted items last before after → BeginNotAbove key after)
    → ((before after : Items) → IsParted items last before after → IsCounted steps (last_look after) more)
    → (before after : Items) → IsParted items first before after → IsSkip key before after last from more
walk_ends items key first last from steps more walked stops looks before after parted =
    let w : IsWalked key before after last from steps = walked before after parted in record {
      skipped = w.skipped;
      rest = w.rest;
      whole = w.whole;
      greater = w.greater;
      stops = stops (before ++ w.skipped) w.rest (w.part items parted.0);
      last_is = (w.part items parted.0).1;
      counts = counted_more from (length w.skipped) steps (last_look w.rest) more w.counts
          (looks (before ++ w.skipped) w.rest (w.part items parted.0));
    }

-- the split after the cause

-- the pieces that end with this one are parted after its last character
parted_at : (old xs ys : Items) (tag : ℕ) (p : Piece) (c : CharName) → c.site ≡ p.site
    → c.off + 1 ≡ p.off + p.len → IsSplitThere old (xs ++ (tag, p) ∷ []) ys
    → IsPartedAt old (xs ++ (tag, p) ∷ ys) (Some tag) (At c)
parted_at old xs ys tag p c site off there = (
  xs ++ (tag, p) ∷ [],
  ys,
  (sym (append_assoc xs ((tag, p) ∷ []) ys), last_tag-push xs (tag, p)),
  (xs, tag, p, refl, site, off),
  there,
)

-- the cause is the last of its piece
pub parted_there : (items : Items) → AreTags items → (spot : Spot) (v : Piece)
    → IsMember items spot.piece v → v.len ≤ spot.within + 1 → (cause : Anchor)
    → IsAnchorSpot items cause (Some spot) → IsPartedAt items items (Some spot.piece) cause
parted_there items are spot v member le Root is = absurd cc
parted_there items are spot v member le (At c) (at, same, (q, (xs, ys, is), within, site, off)) =
    let here : at ≡ spot = sym (some_is spot at same) in
    let tag : at.piece ≡ spot.piece = ap (λ (s : Spot). s.piece) here in
    let index : at.within ≡ spot.within = ap (λ (s : Spot). s.within) here in
    let whole : items ≡ xs ++ (spot.piece, q) ∷ ys = is ∙ ap (λ (t : ℕ). xs ++ (t, q) ∷ ys) tag in
    let value : q ≡ v = one_value items are spot.piece q v (xs, ys, whole) member in
    let len : q.len ≡ v.len = ap (λ (p : Piece). p.len) value in
    let last : c.off + 1 ≡ q.off + q.len = omega (arith, off, within, le, len, index) in
    let joined : items ≡ (xs ++ (spot.piece, q) ∷ []) ++ ys =
    whole ∙ sym (append_assoc xs ((spot.piece, q) ∷ []) ys) in
    subst (λ (l : Items). IsPartedAt items l (Some spot.piece) (At c)) (sym whole)
    (parted_at items xs ys spot.piece q c site last (inl joined))

-- the piece is split after the cause
pub parted_split : (old new : Items) → AreTags old → (spot : Spot) (u : ℕ)
    → IsSplit spot.piece (spot.within + 1) u old new → (cause : Anchor)
    → IsAnchorSpot old cause (Some spot) → IsPartedAt old new (Some spot.piece) cause
parted_split old new are spot u split Root is = absurd cc
parted_split old new are spot u split (At c) (at, same, (q, member, within, site, off)) =
    let here : at ≡ spot = sym (some_is spot at same) in
    let tag : at.piece ≡ spot.piece = ap (λ (s : Spot). s.piece) here in
    let index : at.within ≡ spot.within = ap (λ (s : Spot). s.within) here in
    let p : Piece = split.piece in
    let n : ℕ = spot.within + 1 in
    let held' : IsMember old spot.piece q = subst (λ (t : ℕ). IsMember old t q) tag member in
    let value : q ≡ p = one_value old are spot.piece q p held' (split.before, split.after, split.whole) in
    let site' : c.site ≡ p.site = site ∙ ap (λ (r : Piece). r.site) value in
    let first : q.off ≡ p.off = ap (λ (r : Piece). r.off) value in
    let last : c.off + 1 ≡ p.off + n = omega (arith, off, first, index) in
    let there : IsSplitAt old (split.before ++ (spot.piece, piece_front n p) ∷ []) ((u, rest_of n p) ∷ split.after) =
    record {
      front = split.before;
      rest = split.after;
      tag = spot.piece;
      other = u;
      n = n;
      piece = p;
      within = split.within;
      whole = split.whole;
      ends = refl;
      begins = refl;
    } in
    subst (λ (l : Items). IsPartedAt old l (Some spot.piece) (At c)) (sym split.parts)
    (parted_at old split.before ((u, rest_of n p) ∷ split.after) spot.piece (piece_front n p) c site' last
    (inr there))

split_there_spells : (old before after : Items) → IsSplitThere old before after
    → spelled (before ++ after) ≡ spelled old
split_there_spells old before after (inl same) = ap spelled (sym same)
split_there_spells old before after (inr split) =
    let p : Piece = split.piece in
    let front : Items = (split.tag, piece_front split.n p) ∷ [] in
    let rest : Items = (split.other, rest_of split.n p) ∷ split.rest in
    let le : split.n ≤ p.len = omega (arith, split.within) in
    ap (λ (l : Items). spelled (l ++ after)) split.ends
    ∙ ap (λ (l : Items). spelled ((split.front ++ front) ++ l)) split.begins
    ∙ ap spelled (append_assoc split.front front rest)
    ∙ split_spells_the_same split.front split.rest split.tag split.other split.n p le ∙ sym (ap spelled split.whole)

pub parted_spells : (old items : Items) (last : Option ℕ) (cause : Anchor) → IsPartedAt old items last cause
    → spelled items ≡ spelled old
parted_spells old items last cause (before, after, parted, at, there) =
    ap spelled parted.0 ∙ split_there_spells old before after there

-- a spot in another piece, or before the split, stays
abbrev Among : Items → ℕ → Piece → Type 0
Among [] t p = ⊥
Among (m ∷ ms) t p = (m ≡ (t, p)) ⊎ Among ms t p

among_there : (xs ys : Items) (t : ℕ) (p : Piece) → Among (xs ++ (t, p) ∷ ys) t p
among_there [] ys t p = inl refl
among_there (m ∷ xs) ys t p = inr (among_there xs ys t p)

member : (items : Items) (t : ℕ) (p : Piece) → Among items t p → IsMember items t p
member [] t p h = absurd h
member (m ∷ ms) t p (inl e) = ([], ms, ap (λ (n : ℕ × Piece). n ∷ ms) e)
member (m ∷ ms) t p (inr h) =
    let (xs, ys, is) = member ms t p h in
    (m ∷ xs, ys, ap (λ (l : Items). m ∷ l) is)

among_stays : (xs ys : Items) (tag u t : ℕ) (v a b p : Piece) → t ≢ tag → Among (xs ++ (tag, v) ∷ ys) t p
    → Among (xs ++ (tag, a) ∷ (u, b) ∷ ys) t p
among_stays [] ys tag u t v a b p differs (inl e) =
    absurd (differs (sym (ap (λ (m : ℕ × Piece). m.0) e)))
among_stays [] ys tag u t v a b p differs (inr h) = inr (inr h)
among_stays (m ∷ xs) ys tag u t v a b p differs (inl e) = inl e
among_stays (m ∷ xs) ys tag u t v a b p differs (inr h) = inr (among_stays xs ys tag u t v a b p differs h)

pub split_others : (old new : Items) (tag n u : ℕ) → AreTags old → IsSplit tag n u old new → (other : Spot)
    (c : CharName) → IsSpotOf old other c → (other.piece ≢ tag) ⊎ (other.within < n) → IsSpotOf new other c
split_others old new tag n u are split other c (p, (xs, ys, is), within, site, off) before =
    let v : Piece = split.piece in
    let t : ℕ = other.piece in
    let here : IsMember old t p = (xs, ys, is) in
    let there : Among (split.before ++ (tag, v) ∷ split.after) t p =
    subst (λ (l : Items). Among l t p) (sym is ∙ split.whole) (among_there xs ys t p) in
    let moved : t ≢ tag → IsSpotOf new other c = λ (differs : t ≢ tag). (
      p,
      subst (λ (l : Items). IsMember l t p) (sym split.parts)
          (member (split.before ++ (tag, piece_front n v) ∷ (u, rest_of n v) ∷ split.after) t p
          (among_stays split.before split.after tag u t v (piece_front n v) (rest_of n v) p differs there)),
      within,
      site,
      off,
    ) in
    elim before [
      | inl differs ↦ moved differs
      | inr lt ↦ elim (cases_eq t tag) [
        | inr differs ↦ moved differs
        | inl same ↦
            let value : p ≡ v = one_value old are t p v here
            (split.before, split.after, split.whole ∙ ap (λ (k : ℕ). split.before ++ (k, v) ∷ split.after) (sym same)) in
            let site' : c.site ≡ v.site = site ∙ ap (λ (r : Piece). r.site) value in
            let first : p.off ≡ v.off = ap (λ (r : Piece). r.off) value in (
              piece_front n v,
              (
                split.before,
                (u, rest_of n v) ∷ split.after,
                split.parts ∙ ap (λ (k : ℕ). split.before ++ (k, piece_front n v) ∷ (u, rest_of n v) ∷ split.after) (sym same),
              ),
              lt,
              site',
              omega (arith, off, first),
            )
      ]
    ]

-- the tables

pub same_lengths : (old new : Tables) (own : ℕ) → length (table_of new own) ≡ length (table_of old own)
    → ((site : ℕ) → site ≢ own → table_of new site ≡ table_of old site)
    → (site : ℕ) → length (table_of new site) ≡ length (table_of old site)
same_lengths old new own len others site =
    elim (cases_eq site own) [
      | inl same ↦
          ap (λ (s : ℕ). length (table_of new s)) same ∙ len ∙ ap (λ (s : ℕ). length (table_of old s)) (sym same)
      | inr differs ↦ ap length (others site differs)
    ]

-- no piece has a name that isn't spelled
pub avoids : (r : Range) (items : Items) → ((c : CharName) → IsIn r c → HasName (spelled items) c → ⊥)
    → Avoid r items
avoids r [] new = All-nil (λ (m : ℕ × Piece). (c : CharName) → IsIn (range_of m.1) c → IsIn r c → ⊥)
avoids r (m ∷ ms) new =
    let P : ℕ × Piece → Type 0 = λ (n : ℕ × Piece). (c : CharName) → IsIn (range_of n.1) c → IsIn r c → ⊥ in
    let own : List CharName = names_of (range_of m.1) in
    let rest : List CharName = names_of_atoms (spelled ms) in
    let names : own ++ rest ≡ names_of_atoms (spelled (m ∷ ms)) =
    sym (map-append name_only (chars_of m.1) (spelled ms)
    ∙ ap (λ (cs : List CharName). cs ++ rest) (names_of_chars m.1 own)) in
    let here : P m = λ c has is. new c is (subst (λ (cs : List CharName). Contains cs c) names
    (Contains-append_left own rest c (names_have (range_of m.1) c has))) in
    let later : (c : CharName) → IsIn r c → HasName (spelled ms) c → ⊥ =
    λ c is has. new c is (subst (λ (cs : List CharName). Contains cs c) names
    (Contains-append_right own rest c has)) in
    All-cons P m ms here (avoids r ms later)

-- a spot stays where a piece is inserted
among_with : (xs ys : Items) (u t : ℕ) (v p : Piece) → Among (xs ++ ys) t p → Among (xs ++ (u, v) ∷ ys) t p
among_with [] ys u t v p h = inr h
among_with (m ∷ xs) ys u t v p (inl e) = inl e
among_with (m ∷ xs) ys u t v p (inr h) = inr (among_with xs ys u t v p h)

spot_stays : (xs ys : Items) (u : ℕ) (v : Piece) (spot : Spot) (c : CharName) → IsSpotOf (xs ++ ys) spot c
    → IsSpotOf (xs ++ (u, v) ∷ ys) spot c
spot_stays xs ys u v spot c (p, (front, back, is), within, site, off) =
    let t : ℕ = spot.piece in
    let there : Among (xs ++ ys) t p = subst (λ (l : Items). Among l t p) (sym is) (among_there front back t p) in
    (p, member (xs ++ (u, v) ∷ ys) t p (among_with xs ys u t v p there), within, site, off)

still_held : (xs ys : Items) (u s : ℕ) (v : Piece) → Held (xs ++ ys) s → Held (xs ++ (u, v) ∷ ys) s
still_held [] ys u s v h = inr h
still_held (m ∷ xs) ys u s v (inl e) = inl e
still_held (m ∷ xs) ys u s v (inr h) = inr (still_held xs ys u s v h)

held_there : (xs ys : Items) (u : ℕ) (v : Piece) → Held (xs ++ (u, v) ∷ ys) u
held_there [] ys u v = inl refl
held_there (m ∷ xs) ys u v = inr (held_there xs ys u v)

module _ (xs ys : Items) (u : ℕ) (v : Piece) (old new : Tables) (are : AreEntered (xs ++ ys) old)
    (is_piece : IsPiece v)
    (fresh : (c : CharName) → IsIn (range_of v) c → HasName (spelled (xs ++ ys)) c → ⊥)
    (inside : (c : CharName) → IsIn (range_of v) c → tag_at new c ≡ Some u)
    (outside : (c : CharName) → (IsIn (range_of v) c → ⊥) → tag_at new c ≡ tag_at old c) where
  abbrev Entered : Tables → ℕ × Piece → Type 0
  Entered tables m = (c : CharName) → IsIn (range_of m.1) c → tag_at tables c ≡ Some m.0

  stay : All (Entered new) (xs ++ ys)
  stay = λ i d lt c is.
      outside c (λ has. avoids (range_of v) (xs ++ ys) fresh i d lt c is has) ∙ are.entered i d lt c is

  held_after : (c : CharName) (s : ℕ) → tag_at new c ≡ Some s → HasTag (xs ++ (u, v) ∷ ys) s
  held_after c s e = go (range_contains (range_of v) c) refl
    where
      go : (b : Bool) → range_contains (range_of v) c ≡ b → HasTag (xs ++ (u, v) ∷ ys) s
      go true is =
          let at : tag_at new c ≡ Some u = inside c (is_contained (range_of v) c is) in
          let same : u ≡ s = cc in
          subst (HasTag (xs ++ (u, v) ∷ ys)) same
          (has_tag (xs ++ (u, v) ∷ ys) u (held_there xs ys u v))
      go false out =
          let at : tag_at new c ≡ tag_at old c = outside c (λ has.
          let yes : range_contains (range_of v) c ≡ true = contained (range_of v) c has in
          absurd cc) in
          has_tag (xs ++ (u, v) ∷ ys) s
          (still_held xs ys u s v (held (xs ++ ys) s (are.held c s (sym at ∙ e))))

  spelled_after : (c : CharName) (s : ℕ) → tag_at new c ≡ Some s → HasName (spelled (xs ++ (u, v) ∷ ys)) c
  spelled_after c s e = go (range_contains (range_of v) c) refl
    where
      go : (b : Bool) → range_contains (range_of v) c ≡ b → HasName (spelled (xs ++ (u, v) ∷ ys)) c
      go true is =
          let (site, from, to) = is_contained (range_of v) c is in
          spot_has_name (xs ++ (u, v) ∷ ys) (record { piece = u; within = c.off - v.off }) c
          (v, (xs, ys, refl), omega arith, site, omega arith)
      go false out =
          let at : tag_at new c ≡ tag_at old c = outside c (λ has.
          let yes : range_contains (range_of v) c ≡ true = contained (range_of v) c has in
          absurd cc) in
          let (spot, is) = name_has_spot (xs ++ ys) c (are.known c s (sym at ∙ e)) in
          spot_has_name (xs ++ (u, v) ∷ ys) spot c (spot_stays xs ys u v spot c is)

  pub entered_with : AreEntered (xs ++ (u, v) ∷ ys) new
  entered_with =
      let Is : ℕ × Piece → Type 0 = λ (m : ℕ × Piece). IsPiece m.1 in
      record {
        pieces = All-append Is xs ((u, v) ∷ ys) (all_left Is xs ys are.pieces)
            (All-cons Is (u, v) ys is_piece (all_right Is xs ys are.pieces));
        entered = All-append (Entered new) xs ((u, v) ∷ ys) (all_left (Entered new) xs ys stay)
            (All-cons (Entered new) (u, v) ys inside (all_right (Entered new) xs ys stay));
        held = held_after;
        known = spelled_after;
      }

pub pushed_entered : (old new : Items) (last : Option ℕ) (u : ℕ) (v : Piece) (before after : Tables)
    → IsPushed old last u v new → AreEntered old before → IsPiece v
    → ((c : CharName) → IsIn (range_of v) c → HasName (spelled old) c → ⊥)
    → ((c : CharName) → IsIn (range_of v) c → tag_at after c ≡ Some u)
    → ((c : CharName) → (IsIn (range_of v) c → ⊥) → tag_at after c ≡ tag_at before c)
    → AreEntered new after
pushed_entered old new last u v before after (xs, ys, is, at, new_is) are piece fresh inside outside =
    subst (λ (l : Items). AreEntered l after) (sym new_is)
    (entered_with xs ys u v before after (subst (λ (l : Items). AreEntered l before) is are) piece
    (subst (λ (l : Items). (c : CharName) → IsIn (range_of v) c → HasName (spelled l) c → ⊥) is fresh)
    inside outside)

-- the piece stands after the number, whichever way the pieces are parted there
pub pushed_there : (old new : Items) → AreTags old → (last : Option ℕ) (u : ℕ) (v : Piece)
    → IsPushed old last u v new → (before after : Items) → IsParted old last before after
    → new ≡ before ++ (u, v) ∷ after
pushed_there old new are last u v (xs, ys, is, at, new_is) before after parted =
    let (front, back) = one_part old are last xs ys before after (is, at) parted in
    new_is ∙ ap (λ (l : Items). l ++ (u, v) ∷ ys) front ∙ ap (λ (l : Items). before ++ (u, v) ∷ l) back

pub pushed_part : (old new : Items) → AreTags old → (last : Option ℕ) (u : ℕ) (v : Piece)
    → IsPushed old last u v new → (before after : Items) → IsParted old last before after
    → (tag : ℕ) × (new ≡ before ++ (tag, v) ∷ after)
pushed_part old new are last u v insert before after parted =
    (u, pushed_there old new are last u v insert before after parted)

-- the whole

pub skip_part : (old items : Items) (key : Key) (end last : Option ℕ) (from steps : ℕ) (cause : Anchor)
    → IsPartedAt old items end cause
    → ((before after : Items) → IsParted items end before after → IsSkip key before after last from steps)
    → HasPart items last
skip_part old items key end last from steps cause (before, after, parted, at, there) skips =
    let s : IsSkip key before after last from steps = skips before after parted in (
      before ++ s.skipped,
      s.rest,
      (
        parted.0 ∙ ap (λ (l : Items). before ++ l) s.whole ∙ sym (append_assoc before s.skipped s.rest),
        s.last_is,
      ),
    )

pub insert_in_gap : (old items new : Items) (cause : Anchor) (p : Piece) (end last : Option ℕ) (steps : ℕ)
    → IsPartedAt old items end cause
    → ((before after : Items) → IsParted items end before after
    → IsSkip p.key before after last (compared cause) steps)
    → ((before after : Items) → IsParted items last before after
    → (tag : ℕ) × AreOrAreJoined tag (before ++ (tag, p) ∷ after) new)
    → (g : IsInsertedInGap cause p old new steps) × (items ≡ g.before ++ g.skipped ++ g.after)
insert_in_gap old items new cause p end last steps (before, after, parted, at, there) skips insert =
    let s : IsSkip p.key before after last (compared cause) steps = skips before after parted in
    let whole : items ≡ (before ++ s.skipped) ++ s.rest =
    parted.0 ∙ ap (λ (l : Items). before ++ l) s.whole ∙ sym (append_assoc before s.skipped s.rest) in
    let (tag, is) = insert (before ++ s.skipped) s.rest (whole, s.last_is) in (
      record {
        before = before;
        skipped = s.skipped;
        after = s.rest;
        tag = tag;
        gap = record { at_cause = at; greater = s.greater; stops = s.stops };
        split = subst (IsSplitThere old before) s.whole there;
        spells = ap spelled (sym whole) ∙ ap spelled parted.0 ∙ split_there_spells old before after there;
        insert = is;
        counts = s.counts;
      },
      whole,
    )

pub placed_in_gap : (old items new : Items) (cause : Anchor) (p : Piece) (steps : ℕ) → ArePieces items
    → (g : IsInsertedInGap cause p old new steps) → items ≡ g.before ++ g.skipped ++ g.after
    → IsPlaced p.key cause (chars_of p) (spelled old) (spelled new)
placed_in_gap old items new cause p steps pieces g whole =
    let front : Items = g.before ++ g.skipped in
    let others : ArePieces (front ++ g.after) = subst ArePieces whole pieces in
    let law : IsPlaced p.key cause (chars_of p) (spelled (front ++ g.after))
    (spelled (front ++ (g.tag, p) ∷ g.after)) =
    into_gap g.before g.skipped g.after cause g.tag p others g.gap in
    subst (λ (ks : List Atom). IsPlaced p.key cause (chars_of p) (spelled old) ks)
    (sym (parts_spell g.tag (front ++ (g.tag, p) ∷ g.after) new g.insert))
    (subst (λ (ks : List Atom). IsPlaced p.key cause (chars_of p) ks
    (spelled (front ++ (g.tag, p) ∷ g.after))) g.spells law)
