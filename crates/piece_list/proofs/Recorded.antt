-- Numbered records, and the pieces that they stand for.
use Rattle.std.proofs.Common.{◌≡◌, ℕ, suc, zero, append-nil, append_assoc, ◌+◌, ◌-◌, ◌≤◌, ◌==◌, cond, Bool, true, false, List, [], ◌∷◌, ◌++◌}
use Rattle.std.proofs.Common.{Option, Some, None, length, map, All, refl, sym, ap, subst, ◌∙◌, arith, if◌then◌else◌}
use Rattle.std.proofs.lemmas.List.{map-append, length-map, length-append, get_or_append_left}
use Rattle.std.proofs.lemmas.List.Elements.{All-append, All-head, All-tail, All-cons}
use Rattle.std.proofs.lemmas.Option.{get_or_from_slice_get, slice_get_within}
use Rattle.std.proofs.lemmas.Bool.Decides.{Decides-eqb, Decides-int_eq}
use Rattle.std.proofs.lemmas.Slice.Eq.{bytes_eq-Decides}
use Rattle.std.specs.Ordering.{int_eq}
use Rattle.std.specs.Prelude.{bytes_eq, slice_get, slice_index_or, IfSome, ℤ, ◌&&◌}
use Rattle.looks.specs.Looks.{plain_looks}
use Rattle.looks.specs.Sel.{Selection}
use Rattle.looks.specs.declared.key.Key.{Key}
use Rattle.looks.specs.declared.looks.Looks.{Looks}
use Rattle.looks.specs.declared.register.Register.{Register}
use Rattle.piece_raw.specs.Ring.{Ring, ring, IsAtCursor, IsMember, HasTag, IsPushed, last_tag, first_tag, with_value, with_value_at}
use Rattle.piece_list.proofs.Gap.{all_left, all_right}
use Rattle.piece_list.specs.declared.record.PieceRecord.{PieceRecord}
use Rattle.piece_list.specs.Piece.{Piece, PieceRegister}
use Rattle.piece_list.specs.Values.{Values, FollowsIn, ValuesGrow, IsWithin, font_of, colour_of, offset_of, register_by, inserted_with}
use Rattle.piece_list.specs.Values.{no_entry, piece_in, pieces_in, record_key, record_looks_by, record_of, rest_in, set_by}
use Rattle.piece_list.specs.Pieces.{gives_way, inserted, longer, offered_to_if, piece_of, relooked_piece, rest_of, risen}
use Rattle.piece_list.specs.declared.run.Run.{Run}
use Rattle.piece_list.proofs.Found.{some_is}

-- numbered things, and what is made of each under the same number
module _ {A B : Type 0} (f : A → B) where
  abbrev pub on : ℕ × A → ℕ × B
  on m = (m.0, f m.1)

  pub member_on : (xs : List (ℕ × A)) (t : ℕ) (v : A) → IsMember xs t v → IsMember (map on xs) t (f v)
  member_on xs t v (l, r, is) = (map on l, map on r, ap (map on) is ∙ map-append on l ((t, v) ∷ r))

  -- the parts of what is made are made of parts
  pub parts_off : (xs : List (ℕ × A)) (l r : List (ℕ × B)) → map on xs ≡ l ++ r
      → (left right : List (ℕ × A)) × (xs ≡ left ++ right) × (map on left ≡ l) × (map on right ≡ r)
  parts_off xs [] r is = ([], xs, refl, refl, is)
  parts_off [] (y ∷ l) r is = absurd cc
  parts_off (x ∷ xs) (y ∷ l) r is =
      let head : on x ≡ y = cc in
      let tail : map on xs ≡ l ++ r = cc in
      let (left, right, whole, is_l, is_r) = parts_off xs l r tail in (
        x ∷ left,
        right,
        ap (λ (zs : List (ℕ × A)). x ∷ zs) whole,
        ap (λ (z : ℕ × B). z ∷ map on left) head
            ∙ ap (λ (zs : List (ℕ × B)). y ∷ zs) is_l,
        is_r,
      )

  off_parts : (xs left right : List (ℕ × A)) (r : List (ℕ × B)) (t : ℕ) (p : B) → xs ≡ left ++ right
      → map on right ≡ (t, p) ∷ r → (v : A) × IsMember xs t v × (f v ≡ p)
  off_parts xs left [] r t p whole is = absurd cc
  off_parts xs left (m ∷ right) r t p whole is =
      let here : on m ≡ (t, p) = cc in
      let number : m.0 ≡ t = ap (λ (n : ℕ × B). n.0) here in
      let value : f m.1 ≡ p = ap (λ (n : ℕ × B). n.1) here in
      (m.1, (left, right, whole ∙ ap (λ (n : ℕ). left ++ (n, m.1) ∷ right) number), value)

  pub member_off : (xs : List (ℕ × A)) (t : ℕ) (p : B) → IsMember (map on xs) t p
      → (v : A) × IsMember xs t v × (f v ≡ p)
  member_off xs t p (l, r, is) =
      let (left, right, whole, is_l, is_r) = parts_off xs l ((t, p) ∷ r) is in
      off_parts xs left right r t p whole is_r

  pub tag_off : (xs : List (ℕ × A)) (t : ℕ) → HasTag (map on xs) t → HasTag xs t
  tag_off xs t (p, is) = let (v, member, e) = member_off xs t p is in (v, member)

  pub tag_on : (xs : List (ℕ × A)) (t : ℕ) → HasTag xs t → HasTag (map on xs) t
  tag_on xs t (v, is) = (f v, member_on xs t v is)

  pub tag_off_if : (xs : List (ℕ × A)) (at : Option ℕ) → IfSome at (HasTag (map on xs)) → IfSome at (HasTag xs)
  tag_off_if xs None some = some
  tag_off_if xs (Some t) some = tag_off xs t some

  pub last_on : (xs : List (ℕ × A)) → last_tag (map on xs) ≡ last_tag xs
  last_on [] = refl
  last_on (m ∷ []) = refl
  last_on (m ∷ n ∷ xs) = last_on (n ∷ xs)

  pub first_on : (xs : List (ℕ × A)) → first_tag (map on xs) ≡ first_tag xs
  first_on [] = refl
  first_on (m ∷ xs) = refl

  pub pushed_on : (xs new : List (ℕ × A)) (at : Option ℕ) (t : ℕ) (v : A) → IsPushed xs at t v new
      → IsPushed (map on xs) at t (f v) (map on new)
  pushed_on xs new at t v (l, r, is, last, new_is) = (
    map on l,
    map on r,
    ap (map on) is ∙ map-append on l r,
    last_on l ∙ last,
    ap (map on) new_is ∙ map-append on l ((t, v) ∷ r),
  )

  both_ways : (b : Bool) (w v : A) → f (cond b w v) ≡ cond b (f w) (f v)
  both_ways true w v = refl
  both_ways false w v = refl

  pub written_on : (t : ℕ) (w : A) (xs : List (ℕ × A)) → map on (with_value t w xs) ≡ with_value t (f w) (map on xs)
  written_on t w [] = refl
  written_on t w (m ∷ xs) =
      ap (λ (p : B). (m.0, p) ∷ map on (with_value t w xs)) (both_ways (m.0 == t) w m.1)
      ∙ ap (λ (zs : List (ℕ × B)). (m.0, cond (m.0 == t) (f w) (f m.1)) ∷ zs) (written_on t w xs)

-- entries that were added change no register
register_stays : {V : Type 0} (entries more : List (Register V)) (by : ℕ) (value : V) → by ≤ length entries
    → register_by (entries ++ more) by value ≡ register_by entries by value
register_stays entries more zero value le = refl
register_stays {V} entries more (suc n) value le =
    ap (λ (r : Register V). set_by r) (get_or_append_left entries more (no_entry value) n (omega (arith, le)))

module _ (v w : Values) (grows : ValuesGrow v w) (r : PieceRecord) (within : IsWithin v r) where
  inserted_stays : inserted_with w r ≡ inserted_with v r
  inserted_stays =
      let (more, is) = grows.looks in
      ap (λ (ls : List Looks). slice_index_or ls r.looks plain_looks) is
      ∙ get_or_append_left v.looks more plain_looks r.looks within.looks

  looks_stay : (by : ℕ) → by ≤ length v.relooks → record_looks_by w r by ≡ record_looks_by v r by
  looks_stay by le =
      let (more, is) = grows.relooks in
      ap (λ (looks : Looks). register_by w.relooks by looks) inserted_stays
      ∙ ap (λ (es : List (Register Looks)). register_by es by (inserted_with v r)) is
      ∙ register_stays v.relooks more by (inserted_with v r) le

  hidden_stays : register_by w.switches r.hidden_by false ≡ register_by v.switches r.hidden_by false
  hidden_stays =
      let (more, is) = grows.switches in
      ap (λ (es : List (Register Bool)). register_by es r.hidden_by false) is
      ∙ register_stays v.switches more r.hidden_by false within.hidden

  pub piece_stays : piece_in w r ≡ piece_in v r
  piece_stays =
      let font = looks_stay r.font_by within.font in
      let colour = looks_stay r.colour_by within.colour in
      let offset = looks_stay r.offset_by within.offset in
      let hidden = hidden_stays in
      ap (λ (l : PieceRegister Looks). record (piece_in w r) { font = font_of l }) font
      ∙ ap (λ (l : PieceRegister Looks). record (piece_in w r) { font = font_of (record_looks_by v r r.font_by); colour = colour_of l }) colour
      ∙ ap (λ (l : PieceRegister Looks). record (piece_in w r) {
        font = font_of (record_looks_by v r r.font_by);
        colour = colour_of (record_looks_by v r r.colour_by);
        offset = offset_of l;
      }) offset
      ∙ ap (λ (h : PieceRegister Bool). record (piece_in v r) { hidden = h }) hidden

  pub within_stays : IsWithin w r
  within_stays =
      let (looks, looks_is) = grows.looks in
      let (relooks, relooks_is) = grows.relooks in
      let (switches, switches_is) = grows.switches in
      let many_looks : length w.looks ≡ length v.looks + length looks = ap length looks_is ∙ length-append v.looks looks in
      let many_relooks : length w.relooks ≡ length v.relooks + length relooks =
      ap length relooks_is ∙ length-append v.relooks relooks in
      let many_switches : length w.switches ≡ length v.switches + length switches =
      ap length switches_is ∙ length-append v.switches switches in
      record {
        looks = omega (arith, many_looks, within.looks);
        font = omega (arith, many_relooks, within.font);
        colour = omega (arith, many_relooks, within.colour);
        offset = omega (arith, many_relooks, within.offset);
        hidden = omega (arith, many_switches, within.hidden);
      }

abbrev pub Records : Type 0
Records = List (ℕ × PieceRecord)

-- all records have numbers of entries that are there
abbrev pub AreWithin : Values → Records → Type 0
AreWithin v records = All (λ m. IsWithin v m.1) records

pub pieces_stay : (v w : Values) → ValuesGrow v w → (records : Records) → AreWithin v records
    → pieces_in w records ≡ pieces_in v records
pieces_stay v w grows [] within = refl
pieces_stay v w grows (m ∷ records) within =
    let Is : ℕ × PieceRecord → Type 0 = λ (n : ℕ × PieceRecord). IsWithin v n.1 in
    ap (λ (p : Piece). (m.0, p) ∷ pieces_in w records) (piece_stays v w grows m.1 (All-head Is m records within))
    ∙ ap (λ (ps : List (ℕ × Piece)). (m.0, piece_in v m.1) ∷ ps)
    (pieces_stay v w grows records (All-tail Is m records within))

pub all_within_stay : (v w : Values) → ValuesGrow v w → (records : Records) → AreWithin v records → AreWithin w records
all_within_stay v w grows records within = λ k d lt. within_stays v w grows _ (within k d lt)

-- a member is within
pub member_within : (v : Values) (records : Records) (t : ℕ) (r : PieceRecord) → AreWithin v records
    → IsMember records t r → IsWithin v r
member_within v records t r within (l, rest, is) =
    let Is : ℕ × PieceRecord → Type 0 = λ (n : ℕ × PieceRecord). IsWithin v n.1 in
    let here : All Is (l ++ (t, r) ∷ rest) = subst (All Is) is within in
    All-head Is (t, r) rest (all_right Is l ((t, r) ∷ rest) here)

either : (v : Values) (b : Bool) (w r : PieceRecord) → IsWithin v w → IsWithin v r → IsWithin v (cond b w r)
either v true w r is within = is
either v false w r is within = within

pub written_within : (v : Values) (records : Records) (t : ℕ) (w : PieceRecord) → AreWithin v records → IsWithin v w
    → AreWithin v (with_value t w records)
written_within v [] t w within is = within
written_within v (m ∷ records) t w within is =
    let Is : ℕ × PieceRecord → Type 0 = λ (n : ℕ × PieceRecord). IsWithin v n.1 in
    All-cons Is (m.0, cond (m.0 == t) w m.1) (with_value t w records)
    (either v (m.0 == t) w m.1 is (All-head Is m records within))
    (written_within v records t w (All-tail Is m records within) is)

pub pushed_within : (v : Values) (records new : Records) (at : Option ℕ) (t : ℕ) (r : PieceRecord) → AreWithin v records
    → IsWithin v r → IsPushed records at t r new → AreWithin v new
pushed_within v records new at t r within is (l, rest, whole, last, new_is) =
    let Is : ℕ × PieceRecord → Type 0 = λ (n : ℕ × PieceRecord). IsWithin v n.1 in
    let here : All Is (l ++ rest) = subst (All Is) whole within in
    subst (All Is) (sym new_is)
    (All-append Is l ((t, r) ∷ rest) (all_left Is l rest here) (All-cons Is (t, r) rest is (all_right Is l rest here)))

pub part_within : (v : Values) (records before left : Records) → AreWithin v records → records ≡ before ++ left
    → AreWithin v left
part_within v records before left within is =
    let Is : ℕ × PieceRecord → Type 0 = λ (n : ℕ × PieceRecord). IsWithin v n.1 in
    all_right Is before left (subst (All Is) is within)

-- those from a number on, and those after it
pub from_part : (records : Records) (at : Option ℕ) → IfSome at (HasTag records)
    → (before left : Records) × (records ≡ before ++ left) × (first_tag left ≡ at)
from_part records None some = (records, [], sym (append-nil records), refl)
from_part records (Some t) (r, (l, rest, is)) = (l, (t, r) ∷ rest, is, refl)

last_of : (l : Records) (t : ℕ) (r : PieceRecord) → last_tag (l ++ (t, r) ∷ []) ≡ Some t
last_of [] t r = refl
last_of (m ∷ []) t r = refl
last_of (m ∷ n ∷ l) t r = last_of (n ∷ l) t r

pub after_part : (records : Records) (at : Option ℕ) → IfSome at (HasTag records)
    → (before left : Records) × (records ≡ before ++ left) × (last_tag before ≡ at)
after_part records None some = ([], records, refl, refl)
after_part records (Some t) (r, (l, rest, is)) =
    (l ++ (t, r) ∷ [], rest, is ∙ sym (append_assoc l ((t, r) ∷ []) rest), last_of l t r)

-- what is left of the records stands for what is left of the pieces
pub from_on : (v : Values) (records left : Records) (at : Option ℕ)
    → ((l r : Records) → records ≡ l ++ r → first_tag r ≡ at → left ≡ r)
    → (before rest : List (ℕ × Piece)) → pieces_in v records ≡ before ++ rest → first_tag rest ≡ at
    → pieces_in v left ≡ rest
from_on v records left at is before rest whole first =
    let (l, r, parts, is_l, is_r) = parts_off (piece_in v) records before rest whole in
    let begins : first_tag r ≡ at = sym (first_on (piece_in v) r) ∙ ap first_tag is_r ∙ first in
    ap (pieces_in v) (is l r parts begins) ∙ is_r

pub after_on : (v : Values) (records left : Records) (at : Option ℕ)
    → ((l r : Records) → records ≡ l ++ r → last_tag l ≡ at → left ≡ r)
    → (before rest : List (ℕ × Piece)) → pieces_in v records ≡ before ++ rest → last_tag before ≡ at
    → pieces_in v left ≡ rest
after_on v records left at is before rest whole last =
    let (l, r, parts, is_l, is_r) = parts_off (piece_in v) records before rest whole in
    let ends : last_tag l ≡ at = sym (last_on (piece_in v) l) ∙ ap last_tag is_l ∙ last in
    ap (pieces_in v) (is l r parts ends) ∙ is_r

-- a part of looks alone
abbrev part_of : {V : Type 0} → (Looks → V) → PieceRegister Looks → PieceRegister V
part_of part r = record { by = r.by; value = part r.value }

either_part : {V : Type 0} (part : Looks → V) (b : Bool) (r : PieceRegister Looks) (key : Key) (looks : Looks)
    → part_of part (if b then record { by = Some key; value = looks } else r)
    ≡ (if b then record { by = Some key; value = part looks } else part_of part r)
either_part part true r key looks = refl
either_part part false r key looks = refl

-- looks that are offered are offered part by part
offered_part : {V : Type 0} (part : Looks → V) (selected : Bool) (r : PieceRegister Looks) (key : Key) (looks : Looks)
    → part_of part (offered_to_if selected r key looks) ≡ offered_to_if selected (part_of part r) key (part looks)
offered_part part true r key looks = either_part part (gives_way r.by key) r key looks
offered_part part false r key looks = refl

module _ (v : Values) (r w : PieceRecord) (sel : Selection) (key : Key) (looks : Looks) where
  -- the entry that sets a register after new looks are offered
  abbrev pub IsLater : Bool → (was by : ℕ) → Type 0
  IsLater selected was by =
      record_looks_by v r by ≡ offered_to_if selected (record_looks_by v r was) key looks

  pub relooked_in : w ≡ record r { font_by = w.font_by; colour_by = w.colour_by; offset_by = w.offset_by }
      → IsLater sel.font r.font_by w.font_by → IsLater sel.colour r.colour_by w.colour_by
      → IsLater sel.offset r.offset_by w.offset_by → piece_in v w ≡ relooked_piece sel looks key (piece_in v r)
  relooked_in is font colour offset =
      let p : Piece = piece_in v r in
      ap (piece_in v) is
      ∙ ap (λ (l : PieceRegister Looks). record p {
        font = font_of l;
        colour = colour_of (record_looks_by v r w.colour_by);
        offset = offset_of (record_looks_by v r w.offset_by);
      }) font
      ∙ ap (λ (f : PieceRegister (List ℕ)). record p {
        font = f;
        colour = colour_of (record_looks_by v r w.colour_by);
        offset = offset_of (record_looks_by v r w.offset_by);
      }) (offered_part (λ l. l.font) sel.font (record_looks_by v r r.font_by) key looks)
      ∙ ap (λ (l : PieceRegister Looks). record p {
        font = offered_to_if sel.font p.font key looks.font;
        colour = colour_of l;
        offset = offset_of (record_looks_by v r w.offset_by);
      }) colour
      ∙ ap (λ (c : PieceRegister ℕ). record p {
        font = offered_to_if sel.font p.font key looks.font;
        colour = c;
        offset = offset_of (record_looks_by v r w.offset_by);
      }) (offered_part (λ l. l.colour) sel.colour (record_looks_by v r r.colour_by) key looks)
      ∙ ap (λ (l : PieceRegister Looks). record p {
        font = offered_to_if sel.font p.font key looks.font;
        colour = offered_to_if sel.colour p.colour key looks.colour;
        offset = offset_of l;
      }) offset
      ∙ ap (λ (o : PieceRegister ℤ). record p {
        font = offered_to_if sel.font p.font key looks.font;
        colour = offered_to_if sel.colour p.colour key looks.colour;
        offset = o;
      }) (offered_part (λ l. l.offset) sel.offset (record_looks_by v r r.offset_by) key looks)

-- where a ring's cursor stands
module _ {T : Type 0} where
  pub pushed_many : (items new : List (ℕ × T)) (at : Option ℕ) (u : ℕ) (v : T) → IsPushed items at u v new
      → length new ≡ length items + 1
  pushed_many items new at u v (l, r, is, last, new_is) =
      let old : length items ≡ length l + length r = ap length is ∙ length-append l r in
      let made : length new ≡ length l + length ((u, v) ∷ r) = ap length new_is ∙ length-append l ((u, v) ∷ r) in
      omega arith

  pub written_many : (tag : ℕ) (w : T) (items : List (ℕ × T)) → length (with_value tag w items) ≡ length items
  written_many tag w items = length-map items (λ m. (m.0, cond (m.0 == tag) w m.1))

  pub at_cursor : (r : Ring T) (items : List (ℕ × T)) (tag room : ℕ) (v : T) → r ≡ ring items (Some tag) room
      → IsAtCursor r v → IsMember items tag v
  at_cursor r items tag room v e (t, at, is) =
      let cursor : Some t ≡ Some tag = sym at ∙ ap (λ (s : Ring T). s.cursor) e in
      subst (λ (s : ℕ). IsMember items s v) (some_is t tag cursor)
      (subst (λ (l : List (ℕ × T)). IsMember l t v) (ap (λ (s : Ring T). s.items) e) is)

  pub written_at : (r : Ring T) (items : List (ℕ × T)) (tag room : ℕ) (w : T) → r ≡ ring items (Some tag) room
      → with_value_at r.cursor w r.items ≡ with_value tag w items
  written_at r items tag room w e = ap (λ (s : Ring T). with_value_at s.cursor w s.items) e

  pub pushed_after : (r : Ring T) (items new : List (ℕ × T)) (tag room u : ℕ) (w v : T) → r ≡ ring items (Some tag) room
      → IsPushed (with_value_at r.cursor w r.items) r.cursor u v new → IsPushed (with_value tag w items) (Some tag) u v new
  pushed_after r items new tag room u w v e pushed =
      subst (λ (s : Ring T). IsPushed (with_value_at s.cursor w s.items) s.cursor u v new) e pushed

  pub pushed_at : (r : Ring T) (items new : List (ℕ × T)) (last : Option ℕ) (room u : ℕ) (v : T)
      → r ≡ ring items last room → IsPushed r.items r.cursor u v new → IsPushed items last u v new
  pushed_at r items new last room u v e pushed = subst (λ (s : Ring T). IsPushed s.items s.cursor u v new) e pushed

-- a run's record stands for its piece
pub run_in : (v : Values) (run : Run) (looks : ℕ) → slice_get v.looks looks ≡ Some run.looks
    → piece_in v (record_of run looks) ≡ piece_of run
run_in v run looks there =
    let at : slice_index_or v.looks looks plain_looks ≡ run.looks = get_or_from_slice_get v.looks looks run.looks plain_looks there in
    ap (λ (l : Looks). record (piece_of run) {
      font = inserted l.font;
      colour = inserted l.colour;
      offset = inserted l.offset;
    }) at

pub run_within : (v : Values) (run : Run) (looks : ℕ) → slice_get v.looks looks ≡ Some run.looks
    → IsWithin v (record_of run looks)
run_within v run looks there = record {
  looks = slice_get_within v.looks looks run.looks there;
  font = omega arith;
  colour = omega arith;
  offset = omega arith;
  hidden = omega arith;
}

-- other characters change nothing else of a record
pub cut_within : (v : Values) (r : PieceRecord) (stamp off len : ℕ) → IsWithin v r
    → IsWithin v (record r { stamp = stamp; off = off; len = len })
cut_within v r stamp off len is = record {
  looks = is.looks;
  font = is.font;
  colour = is.colour;
  offset = is.offset;
  hidden = is.hidden;
}

both_are : (a b : Bool) → (a && b) ≡ true → (a ≡ true) × (b ≡ true)
both_are true b is = (refl, is)
both_are false b is = absurd cc

-- what compares alike part by part is the same
pub same_looks : (a b : Looks) → (bytes_eq a.font b.font && (a.colour == b.colour && int_eq a.offset b.offset)) ≡ true
    → a ≡ b
same_looks a b is =
    let (font, rest) = both_are (bytes_eq a.font b.font) (a.colour == b.colour && int_eq a.offset b.offset) is in
    let (colour, offset) = both_are (a.colour == b.colour) (int_eq a.offset b.offset) rest in
    let made : List ℕ → ℕ → ℤ → Looks = λ f c o. record { font = f; colour = c; offset = o } in
    ap (λ (f : List ℕ). made f a.colour a.offset) ((bytes_eq-Decides a.font b.font).0 font)
    ∙ ap (λ (c : ℕ). made b.font c a.offset) ((Decides-eqb a.colour b.colour).0 colour)
    ∙ ap (λ (o : ℤ). made b.font b.colour o) ((Decides-int_eq a.offset b.offset).0 offset)

-- the record of the rest stands for the rest
stamp_on : (rising : Bool) (n : ℕ) (key : Key) → record { stamp = (risen rising n key).stamp; site = key.site } ≡ risen rising n key
stamp_on true n key = refl
stamp_on false n key = refl

pub rest_stands : (v : Values) (r : PieceRecord) (n : ℕ) → piece_in v (rest_in n r) ≡ rest_of n (piece_in v r)
rest_stands v r n =
    ap (λ (key : Key). record (rest_of n (piece_in v r)) { key = key }) (stamp_on r.rising n (record_key r))

-- a run that follows a record in the same looks goes on where its piece ends
pub follows_there : (v : Values) (r : PieceRecord) (run : Run) → FollowsIn r run → inserted_with v r ≡ run.looks
    → piece_of run ≡ rest_of r.len (longer run.len (piece_in v r))
follows_there v r run f same =
    let p : Piece = longer run.len (piece_in v r) in
    let made : ℕ → ℕ → ℕ → Key → Bool → Looks → Piece = λ site off len key rising looks. piece_of (record {
      site = site;
      off = off;
      len = len;
      key = key;
      rising = rising;
      looks = looks;
    }) in
    let key : (b : Bool) → b ≡ true → run.key ≡ risen b r.len (record_key r) = λ b rises.
    let of : ℕ → ℕ → Key = λ (stamp site : ℕ). record { stamp = stamp; site = site } in
    ap (λ (stamp : ℕ). of stamp run.key.site) f.stamp ∙ ap (of (r.stamp + r.len)) (sym f.key_site)
    ∙ ap (λ (b : Bool). risen b r.len (record_key r)) (sym rises) in
    let len : run.len ≡ r.len + run.len - r.len = omega arith in
    let font : piece_in v r ≡ made r.site r.off r.len (record_key r) r.rising (inserted_with v r) = untouched in
    ap (λ (site : ℕ). made site run.off run.len run.key run.rising run.looks) (sym f.site)
    ∙ ap (λ (off : ℕ). made r.site off run.len run.key run.rising run.looks) f.off
    ∙ ap (λ (n : ℕ). made r.site (r.off + r.len) n run.key run.rising run.looks) len
    ∙ ap (λ (k : Key). made r.site (r.off + r.len) (r.len + run.len - r.len) k run.rising run.looks) (key r.rising f.rises)
    ∙ ap (λ (b : Bool). made r.site (r.off + r.len) (r.len + run.len - r.len) (risen r.rising r.len (record_key r)) b run.looks)
    (f.rising ∙ sym f.rises)
    ∙ ap (made r.site (r.off + r.len) (r.len + run.len - r.len) (risen r.rising r.len (record_key r)) r.rising) (sym same)
    ∙ ap (λ (q : Piece). rest_of r.len (longer run.len q)) (sym font)
  where
    -- the piece of a record whose registers are as they were inserted
    untouched : piece_in v r ≡ piece_of (record {
      site = r.site;
      off = r.off;
      len = r.len;
      key = record_key r;
      rising = r.rising;
      looks = inserted_with v r;
    })
    untouched =
        let by : ℕ → ℕ → ℕ → ℕ → Piece =
        λ font colour offset hidden. piece_in v (record r {
          font_by = font;
          colour_by = colour;
          offset_by = offset;
          hidden_by = hidden;
        }) in
        ap (λ (n : ℕ). by n r.colour_by r.offset_by r.hidden_by) f.untouched.font
        ∙ ap (λ (n : ℕ). by 0 n r.offset_by r.hidden_by) f.untouched.colour
        ∙ ap (λ (n : ℕ). by 0 0 n r.hidden_by) f.untouched.offset
        ∙ ap (by 0 0 0) f.untouched.hidden

-- ---- and the other way round

-- a register that nothing set has no entry
none_set : {V : Type 0} (entries : List (Register V)) (by : ℕ) (value : V) → ◌≡◌ {A = Option Key} None (register_by entries by value).by → by ≡ 0
none_set entries zero value none = refl
none_set entries (suc n) value none = absurd cc

-- a run of letters that goes on where a record's piece ends follows it, in the same looks
pub follows_back : (v : Values) (r : PieceRecord) (run : Run) → run.rising ≡ true
    → piece_of run ≡ rest_of r.len (longer run.len (piece_in v r)) → FollowsIn r run × (inserted_with v r ≡ run.looks)
follows_back v r run rising on =
    let rises : r.rising ≡ true = sym (ap (λ (p : Piece). p.rising) on) ∙ rising in
    let font : r.font_by ≡ 0 = none_set v.relooks r.font_by (inserted_with v r) (ap (λ (p : Piece). p.font.by) on) in
    let colour : r.colour_by ≡ 0 = none_set v.relooks r.colour_by (inserted_with v r) (ap (λ (p : Piece). p.colour.by) on) in
    let offset : r.offset_by ≡ 0 = none_set v.relooks r.offset_by (inserted_with v r) (ap (λ (p : Piece). p.offset.by) on) in
    let hidden : r.hidden_by ≡ 0 = none_set v.switches r.hidden_by false (ap (λ (p : Piece). p.hidden.by) on) in
    let key : run.key ≡ risen true r.len (record_key r) =
    ap (λ (p : Piece). p.key) on ∙ ap (λ (b : Bool). risen b r.len (record_key r)) rises in
    let own_font : run.looks.font ≡ (inserted_with v r).font =
    ap (λ (p : Piece). p.font.value) on ∙ ap (λ (n : ℕ). (record_looks_by v r n).value.font) font in
    let own_colour : run.looks.colour ≡ (inserted_with v r).colour =
    ap (λ (p : Piece). p.colour.value) on ∙ ap (λ (n : ℕ). (record_looks_by v r n).value.colour) colour in
    let own_offset : run.looks.offset ≡ (inserted_with v r).offset =
    ap (λ (p : Piece). p.offset.value) on ∙ ap (λ (n : ℕ). (record_looks_by v r n).value.offset) offset in
    let made : List ℕ → ℕ → ℤ → Looks = λ f c o. record { font = f; colour = c; offset = o } in (
      record {
        rises = rises;
        rising = rising;
        untouched = record { font = font; colour = colour; offset = offset; hidden = hidden };
        site = sym (ap (λ (p : Piece). p.site) on);
        key_site = sym (ap (λ (k : Key). k.site) key);
        off = ap (λ (p : Piece). p.off) on;
        stamp = ap (λ (k : Key). k.stamp) key;
      },
      sym (ap (λ (f : List ℕ). made f run.looks.colour run.looks.offset) own_font
          ∙ ap (λ (c : ℕ). made (inserted_with v r).font c run.looks.offset) own_colour
          ∙ ap (λ (o : ℤ). made (inserted_with v r).font (inserted_with v r).colour o) own_offset),
    )

-- what is the same compares alike
pub looks_alike : (a b : Looks) → a ≡ b → (bytes_eq a.font b.font && (a.colour == b.colour && int_eq a.offset b.offset)) ≡ true
looks_alike a b same =
    let font : bytes_eq a.font b.font ≡ true = (bytes_eq-Decides a.font b.font).1 (ap (λ (l : Looks). l.font) same) in
    let colour : (a.colour == b.colour) ≡ true = (Decides-eqb a.colour b.colour).1 (ap (λ (l : Looks). l.colour) same) in
    let offset : int_eq a.offset b.offset ≡ true = (Decides-int_eq a.offset b.offset).1 (ap (λ (l : Looks). l.offset) same) in
    rw (font, colour, offset) refl
