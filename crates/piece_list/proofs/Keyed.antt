-- The keys' numbers that the index keeps, and the pieces that it passes by them.
use Rattle.std.proofs.Common.{◌≡◌, ℕ, ◌<◌, ◌==◌, Bool, true, cond, inl, inr, List, [], ◌∷◌, ◌++◌, Option, Some, All}
use Rattle.std.proofs.Common.{length, map, get_or, refl, sym, ap, subst, ◌∙◌, arith, append_assoc, ne_eqb, eq-eqb}
use Rattle.std.specs.Prelude.{slice_get}
use Rattle.std.proofs.lemmas.Bool.{cases_eq}
use Rattle.std.proofs.lemmas.Bool.Decides.{nat_tests}
use Rattle.std.proofs.lemmas.List.{append-nil}
use Rattle.std.proofs.lemmas.List.Elements.{All-cons, All-head, All-nil, All-tail, All-weaker}
use Rattle.std.proofs.lemmas.Option.{get_or_from_slice_get}
use Rattle.looks.specs.Key.{is_below}
use Rattle.looks.specs.declared.key.Key.{Key}
use Rattle.piece_raw.specs.Ring.{IsMember, IsPushed, last_tag, with_value}
use Rattle.rank_index.specs.Keyed.{AreAbove, IsPassedIn, last_tag_from}
use Rattle.rank_index.proofs.Pieces.{all_parts, all_whole, get-left, get-seam}
use Rattle.piece_list.specs.declared.setting.Setting.{Setting}
use Rattle.piece_list.specs.declared.setting.Setting.TheVariants.{Switch, Relook}
use Rattle.piece_list.specs.Changing.{changed_piece}
use Rattle.piece_list.specs.Held.{weighed}
use Rattle.piece_list.specs.Numbers.{AreKeyed, key_number}
use Rattle.piece_list.specs.Piece.{Piece}
use Rattle.piece_list.proofs.Gap.{all_left, all_right}
use Rattle.piece_list.proofs.Parts.{last_tag-push}
use Rattle.piece_list.proofs.Placing.{ArePassed}
use Rattle.piece_list.proofs.Positions.{Items}
use Rattle.piece_list.proofs.Weighed.{Weights, first_piece, parted, weigh}

abbrev Is : List ℕ → ℕ × Piece → Type 0
Is keys m = slice_get keys m.0 ≡ Some (key_number m.1.key)

-- a lesser number is that of a lesser key
pub lesser_key : (a b : Key) → key_number a < key_number b → is_below a b ≡ true
lesser_key a b lt = grind (arith, nat_tests, lt)

-- a piece with the same key

module _ (keys : List ℕ) (tag : ℕ) (w : Piece) (at : slice_get keys tag ≡ Some (key_number w.key)) where
  keyed_at : (m : ℕ × Piece) → Is keys m → Is keys (m.0, cond (m.0 == tag) w m.1)
  keyed_at m is = elim (cases_eq m.0 tag) [
    | inl same ↦
        subst (λ (b : Bool). Is keys (m.0, cond b w m.1)) (sym (eq-eqb m.0 tag same)) (ap (slice_get keys) same ∙ at)
    | inr other ↦ subst (λ (b : Bool). Is keys (m.0, cond b w m.1)) (sym (ne_eqb m.0 tag other)) is
  ]

  keyed_all : (items : Items) → AreKeyed items keys → AreKeyed (with_value tag w items) keys
  keyed_all [] are = All-nil (Is keys)
  keyed_all (m ∷ items) are =
      All-cons (Is keys) (m.0, cond (m.0 == tag) w m.1) (with_value tag w items)
      (keyed_at m (All-head (Is keys) m items are)) (keyed_all items (All-tail (Is keys) m items are))

pub keyed_with : (items : Items) (keys : List ℕ) (tag : ℕ) (p w : Piece) → AreKeyed items keys → IsMember items tag p
    → w.key ≡ p.key → AreKeyed (with_value tag w items) keys
keyed_with items keys tag p w are (xs, ys, is) same =
    let (left, here, right) = all_parts (Is keys) xs (tag, p) ys (subst (All (Is keys)) is are) in
    keyed_all keys tag w (here ∙ ap (λ (k : Key). Some (key_number k)) (sym same)) items are

-- a change of registers keeps the key
pub changed_key : (setting : Setting) (p : Piece) → (changed_piece setting p).key ≡ p.key
changed_key (Switch hidden key) p = refl
changed_key (Relook sel looks key) p = refl

-- a piece more
pub keyed_pushed : (old new : Items) (keys after : List ℕ) (last : Option ℕ) (tag key : ℕ) (v : Piece) → AreKeyed old keys
    → IsPushed old last tag v new → after ≡ keys ++ key ∷ [] → length keys ≡ tag → key ≡ key_number v.key
    → AreKeyed new after
keyed_pushed old new keys after last tag key v are (xs, ys, was, at, now) is count by =
    let more : List ℕ = keys ++ key ∷ [] in
    let kept : All (Is more) (xs ++ ys) =
    subst (All (Is more)) was (All-weaker (Is keys) (Is more) (λ (m : ℕ × Piece) (e : Is keys m).
    get-left keys (key ∷ []) m.0 (key_number m.1.key) e) old are) in
    let here : Is more (tag, v) =
    ap (slice_get more) (sym count) ∙ get-seam keys key [] ∙ ap Some by in
    subst (λ (l : List ℕ). AreKeyed new l) (sym is)
    (subst (All (Is more)) (sym now)
    (all_whole (Is more) xs (tag, v) ys (all_left (Is more) xs ys kept) here (all_right (Is more) xs ys kept)))

-- what the index passes

last_more : (front us : Items) (tag : ℕ) → last_tag front ≡ Some tag
    → last_tag (front ++ us) ≡ Some (last_tag_from tag (map weigh us))
last_more front [] tag e = ap last_tag (append-nil front) ∙ e
last_more front (m ∷ us) tag e =
    ap last_tag (sym (append_assoc front (m ∷ []) us))
    ∙ last_more (front ++ m ∷ []) us m.0 (last_tag-push front m)

greater_keys : (keys : List ℕ) (key : Key) (us : Items) → All (Is keys) us
    → AreAbove keys (key_number key) (map weigh us) → All (λ m. is_below key m.1.key ≡ true) us
greater_keys keys key [] are above = All-nil (λ (m : ℕ × Piece). is_below key m.1.key ≡ true)
greater_keys keys key (m ∷ us) are above =
    let Above : ℕ × ℕ → Type 0 = λ (n : ℕ × ℕ). key_number key < get_or keys n.0 0 in
    let first : key_number key < get_or keys m.0 0 = All-head Above (weigh m) (map weigh us) above in
    let read : get_or keys m.0 0 ≡ key_number m.1.key =
    get_or_from_slice_get keys m.0 (key_number m.1.key) 0 (All-head (Is keys) m us are) in
    All-cons (λ (n : ℕ × Piece). is_below key n.1.key ≡ true) m us
    (lesser_key key m.1.key (subst (λ (n : ℕ). key_number key < n) read first))
    (greater_keys keys key us (All-tail (Is keys) m us are) (All-tail Above (weigh m) (map weigh us) above))

pub passed_pieces : (items : Items) (index : Weights) (keys : List ℕ) (key : Key) (next last : ℕ) → index ≡ weighed items
    → AreKeyed items keys → IsPassedIn keys (key_number key) index next last → ArePassed items key next last
passed_pieces items index keys key next last same are (before, weight, follow, is, p) =
    let (xs, zs, whole, front, back) = parted weigh items before ((next, weight) ∷ follow) (sym same ∙ is) in
    let (v, ys, first, others) = first_piece zs next weight follow back in
    let (us, vs, cut, those, rest) = parted weigh ys p.passed p.rest (others ∙ p.whole) in
    let m : ℕ × Piece = (next, v) in
    let all : items ≡ (xs ++ m ∷ []) ++ (us ++ vs) =
    whole ∙ ap (λ (l : Items). xs ++ l) (first ∙ ap (λ (l : Items). m ∷ l) cut)
    ∙ sym (append_assoc xs (m ∷ []) (us ++ vs)) in
    let keyed : All (Is keys) us =
    all_left (Is keys) us vs (all_right (Is keys) (xs ++ m ∷ []) (us ++ vs) (subst (All (Is keys)) all are)) in
    record {
      front = xs ++ m ∷ [];
      passed = us;
      rest = vs;
      part = (all, last_tag-push xs m);
      greater = greater_keys keys key us keyed (subst (AreAbove keys (key_number key)) (sym those) p.above);
      last_is = last_more (xs ++ m ∷ []) us next (last_tag-push xs m)
          ∙ ap (λ (l : Weights). Some (last_tag_from next l)) those ∙ ap Some (sym p.last_is);
    }
