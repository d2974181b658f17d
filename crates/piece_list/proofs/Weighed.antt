-- The index of a list: each piece's number, weighed by how many characters the piece shows.
use Rattle.std.proofs.Common.{◌≡◌, ℕ, ◌+◌, ◌-◌, ◌<◌, ◌≤◌, ◌^◌, ◌==◌, Bool, true, false, cond, List, [], ◌∷◌, ◌++◌}
use Rattle.std.proofs.Common.{Option, Some, None, map, refl, sym, ap, subst, ◌∙◌, arith}
use Rattle.std.proofs.lemmas.List.{map-append}
use Rattle.std.proofs.lemmas.List.Sums.{sum-map, sum_by-cons}
use Rattle.std.specs.Prelude.{IfSome}
use Rattle.piece_raw.specs.Ring.{AreTags, IsMember, HasTag, IsPushed, last_tag, with_value}
use Rattle.rank_index.specs.Ranked.{weight_of, IsRank, IsFound}
use Rattle.piece_list.specs.Piece.{Piece}
use Rattle.piece_list.specs.Held.{AreEntered, shown_weight, weighed}
use Rattle.piece_list.specs.Pieces.{piece_front, rest_of}
use Rattle.piece_list.specs.Placing.{HasPart}
use Rattle.piece_list.specs.Tables.{Tables}
use Rattle.piece_list.proofs.SplitList.{is_piece}
use Rattle.piece_list.proofs.Splitting.{written, written_tags}
use Rattle.piece_list.proofs.Parts.{part_has_tag}
use Rattle.piece_list.proofs.Placing.{pushed_there}
use Rattle.piece_list.proofs.Positions.{Items, shown_in, own, own_le, small_count}
use Rattle.piece_list.proofs.Shown.{count_both, count_cons}

abbrev pub Weights : Type 0
Weights = List (ℕ × ℕ)

abbrev pub weigh : ℕ × Piece → ℕ × ℕ
weigh m = (m.0, shown_weight m.1)

-- all weights together are what is shown
pub weight_is_shown : (items : Items) → weight_of (weighed items) ≡ shown_in items
weight_is_shown [] = refl
weight_is_shown (m ∷ items) =
    let weight : ℕ × ℕ → ℕ = λ (n : ℕ × ℕ). n.1 in
    sum-map weight (weighed (m ∷ items))
    ∙ sum_by-cons weight (weigh m) (weighed items)
    ∙ ap (λ (n : ℕ). shown_weight m.1 + n) (sym (sum-map weight (weighed items)) ∙ weight_is_shown items)
    ∙ sym (count_cons m items)

pub total_is_shown : (items : Items) (index : Weights) → index ≡ weighed items
    → weight_of index ≡ shown_in items
total_is_shown items index same = ap weight_of same ∙ weight_is_shown items

-- the numbers are the pieces'
pub has_weight : (items : Items) (index : Weights) (tag : ℕ) → index ≡ weighed items → HasTag items tag
    → HasTag index tag
has_weight items index tag same (p, (xs, ys, is)) = (
  shown_weight p,
  (map weigh xs, map weigh ys, same ∙ ap (map weigh) is ∙ map-append weigh xs ((tag, p) ∷ ys)),
)

pub part_has_weight : (items : Items) (index : Weights) (last : Option ℕ) → index ≡ weighed items
    → HasPart items last → IfSome last (HasTag index)
part_has_weight items index None same part = tt
part_has_weight items index (Some tag) same part = has_weight items index tag same (part_has_tag items tag part)

-- a list's parts are those of what it is mapped from
pub parted : {X Y : Type 0} (f : X → Y) (items : List X) (fronts bs : List Y) → map f items ≡ fronts ++ bs
    → (xs : List X) × (ys : List X) × (items ≡ xs ++ ys) × (map f xs ≡ fronts) × (map f ys ≡ bs)
parted f items [] bs e = ([], items, refl, refl, e)
parted f [] (a ∷ fronts) bs e = absurd cc
parted f (x ∷ items) (a ∷ fronts) bs e =
    let head : f x ≡ a = cc in
    let rest : map f items ≡ fronts ++ bs = cc in
    let (xs, ys, is, front, back) = parted f items fronts bs rest in (
      x ∷ xs,
      ys,
      ap (λ l. x ∷ l) is,
      ap (λ y. y ∷ map f xs) head ∙ ap (λ l. a ∷ l) front,
      back,
    )

first_of : (items : Items) (tag weight : ℕ) (later : Weights) → map weigh items ≡ (tag, weight) ∷ later
    → (p : Piece) × (ys : Items) × (items ≡ (tag, p) ∷ ys) × (weight ≡ own p p.len)
first_of [] tag weight later e = absurd cc
first_of (m ∷ ys) tag weight later e =
    let head : (m.0, shown_weight m.1) ≡ (tag, weight) = cc in
    let same : m.0 ≡ tag = ap (λ (n : ℕ × ℕ). n.0) head in
    (m.1, ys, ap (λ (t : ℕ). (t, m.1) ∷ ys) same, sym (ap (λ (n : ℕ × ℕ). n.1) head))

-- and the others
pub first_piece : (items : Items) (tag weight : ℕ) (later : Weights) → map weigh items ≡ (tag, weight) ∷ later
    → (p : Piece) × (ys : Items) × (items ≡ (tag, p) ∷ ys) × (map weigh ys ≡ later)
first_piece [] tag weight later e = absurd cc
first_piece (m ∷ ys) tag weight later e =
    let head : (m.0, shown_weight m.1) ≡ (tag, weight) = cc in
    let rest : map weigh ys ≡ later = cc in
    let same : m.0 ≡ tag = ap (λ (n : ℕ × ℕ). n.0) head in
    (m.1, ys, ap (λ (t : ℕ). (t, m.1) ∷ ys) same, rest)

-- a member of the index is a piece, with so much shown before it
pub record IsPieceAt (items : Items) (tag weight before : ℕ) : Type 0 where
  pub front : Items
  pub after : Items
  pub piece : Piece
  pub whole : items ≡ front ++ (tag, piece) ∷ after
  pub weight_is : weight ≡ own piece piece.len
  pub before_is : before ≡ shown_in front

is_piece_at : (items : Items) (index before later : Weights) (tag weight : ℕ) → index ≡ weighed items
    → index ≡ before ++ (tag, weight) ∷ later → IsPieceAt items tag weight (weight_of before)
is_piece_at items index before later tag weight same is =
    let (xs, zs, whole, front, back) = parted weigh items before ((tag, weight) ∷ later) (sym same ∙ is) in
    let (p, ys, first, own) = first_of zs tag weight later back in
    record {
      front = xs;
      after = ys;
      piece = p;
      whole = whole ∙ ap (λ (l : Items). xs ++ l) first;
      weight_is = own;
      before_is = ap weight_of (sym front) ∙ weight_is_shown xs;
    }

pub ranked_piece : (items : Items) (index : Weights) (tag n : ℕ) → index ≡ weighed items → IsRank index tag n
    → (weight : ℕ) × IsPieceAt items tag weight n
ranked_piece items index tag n same (before, later, weight, is, at) =
    (weight, subst (IsPieceAt items tag weight) (sym at) (is_piece_at items index before later tag weight same is))

pub found_piece : (items : Items) (index : Weights) (pos tag within : ℕ) → index ≡ weighed items
    → IsFound index pos tag within
    → (weight : ℕ) × (n : ℕ) × IsPieceAt items tag weight n × (pos ≡ n + within) × (within < weight)
found_piece items index pos tag within same (before, later, weight, is, at, lt) =
    (weight, weight_of before, is_piece_at items index before later tag weight same is, at, lt)

-- a piece that is inserted
last_weight : (xs : Items) → last_tag (weighed xs) ≡ last_tag xs
last_weight [] = refl
last_weight (m ∷ []) = refl
last_weight (m ∷ n ∷ xs) = last_weight (n ∷ xs)

pub pushed_weighed : (old new : Items) (index after : Weights) (last : Option ℕ) (tag weight : ℕ) (p : Piece)
    → AreTags old → index ≡ weighed old → weight ≡ own p p.len → IsPushed old last tag p new
    → IsPushed index last tag weight after → after ≡ weighed new
pushed_weighed old new index after last tag weight p are same by insert (fronts, bs, is, at, insert_in) =
    let (xs, ys, whole, front, back) = parted weigh old fronts bs (sym same ∙ is) in
    let last_is : last_tag xs ≡ last = sym (last_weight xs) ∙ ap last_tag front ∙ at in
    insert_in
    ∙ ap (λ (n : ℕ). fronts ++ (tag, n) ∷ bs) by
    ∙ ap (λ (l : Weights). l ++ weigh (tag, p) ∷ bs) (sym front)
    ∙ ap (λ (l : Weights). map weigh xs ++ weigh (tag, p) ∷ l) (sym back)
    ∙ sym (map-append weigh xs ((tag, p) ∷ ys))
    ∙ ap weighed (sym (pushed_there old new are last tag p insert xs ys (whole, last_is)))

pub insert_fits : (items : Items) (tables : Tables) (index : Weights) (weight : ℕ) (p : Piece) → AreTags items
    → AreEntered items tables → index ≡ weighed items → weight ≡ own p p.len → p.len ≤ 4096
    → weight_of index + weight < 2 ^ 64
insert_fits items tables index weight p are entered same by few =
    omega (
      arith,
      total_is_shown items index same,
      small_count items tables are entered,
      own_le p p.len 4096 few,
    )

-- a piece that is written
written_weighed : (tag : ℕ) (w : Piece) (items : Items)
    → with_value tag (shown_weight w) (weighed items) ≡ weighed (with_value tag w items)
written_weighed tag w [] = refl
written_weighed tag w (m ∷ items) =
    ap (λ (n : ℕ). (m.0, n) ∷ with_value tag (shown_weight w) (weighed items)) (go (m.0 == tag))
    ∙ ap (λ (l : Weights). weigh (m.0, cond (m.0 == tag) w m.1) ∷ l) (written_weighed tag w items)
  where
    go : (b : Bool) → cond b (shown_weight w) (shown_weight m.1) ≡ shown_weight (cond b w m.1)
    go true = refl
    go false = refl

-- of a piece that is written, instead of another one
module _ (items : Items) (index : Weights) (tag weight : ℕ) (p w : Piece) (same : index ≡ weighed items)
    (member : IsMember items tag p) (by : weight ≡ own w w.len) where
  pub set_weighed : with_value tag weight index ≡ weighed (with_value tag w items)
  set_weighed =
      ap (λ (n : ℕ). with_value tag n index) by ∙ ap (with_value tag (shown_weight w)) same
      ∙ written_weighed tag w items

  -- the sum stays small
  pub set_fits : (tables : Tables) → AreTags items → AreEntered items tables → w.len ≤ 4096
      → weight_of (with_value tag weight index) ≤ 2 ^ 40 + 4096
  set_fits tables are entered few =
      let (xs, ys, is) = member in
      let after : with_value tag w items ≡ xs ++ (tag, w) ∷ ys =
      ap (with_value tag w) is ∙ written xs ys tag p w (subst AreTags is are) in
      omega (
        arith,
        total_is_shown (with_value tag w items) (with_value tag weight index) set_weighed,
        ap shown_in after,
        ap shown_in is,
        count_both xs ((tag, w) ∷ ys),
        count_both xs ((tag, p) ∷ ys),
        count_cons (tag, w) ys,
        count_cons (tag, p) ys,
        own_le w w.len 4096 few,
        small_count items tables are entered,
      )

-- of a piece that is split: its front keeps its number, and the rest is inserted after it
module _ (items : Items) (tables : Tables) (index : Weights) (tag n before later : ℕ) (v front rest : Piece)
    (are : AreTags items) (entered : AreEntered items tables) (same : index ≡ weighed items)
    (member : IsMember items tag v) (lt : n < v.len) (is_front : front ≡ piece_front n v)
    (is_rest : rest ≡ rest_of n v) (by : before ≡ own front n) (rest_by : later ≡ own rest rest.len)
  where
    abbrev w : Piece
    w = piece_front n v

    weight_is : before ≡ own w w.len
    weight_is = by ∙ ap (λ (p : Piece). own p n) is_front

    rest_is : later ≡ own (rest_of n v) (rest_of n v).len
    rest_is = rest_by ∙ ap (λ (p : Piece). own p p.len) is_rest

    short : v.len ≤ 4096
    short = (is_piece items tag v entered.pieces member).1

    pub split_fits : weight_of (with_value tag before index) ≤ 2 ^ 40 + 4096
    split_fits =
        let few : n ≤ 4096 = omega (arith, short) in
        set_fits items index tag before v w same member weight_is tables are entered few

    pub split_rest_fits : weight_of (with_value tag before index) + later < 2 ^ 64
    split_rest_fits =
        let few : v.len - n ≤ 4096 = omega (arith, short) in
        omega (arith, split_fits, rest_is, own_le (rest_of n v) (v.len - n) 4096 few)

    pub split_weighed : (new : Items) (set after : Weights) (u : ℕ)
        → IsPushed (with_value tag w items) (Some tag) u (rest_of n v) new → set ≡ with_value tag before index
        → IsPushed set (Some tag) u later after → after ≡ weighed new
    split_weighed new set after u insert is insert_in =
        pushed_weighed (with_value tag w items) new set after (Some tag) u later (rest_of n v)
        (written_tags tag w items are) (is ∙ set_weighed items index tag before v w same member weight_is) rest_is
        insert insert_in
