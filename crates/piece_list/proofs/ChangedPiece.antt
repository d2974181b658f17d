-- A list of pieces before and after one of them was changed.
use Rattle.std.proofs.Common.{◌≡◌, ◌≢◌, ℕ, ◌+◌, ◌-◌, ◌<◌, ◌≤◌, ◌==◌, cond, Bool, true, false, inl, inr, ne_eqb, eq-eqb, List, [], ◌∷◌, ◌++◌}
use Rattle.std.proofs.Common.{Option, Some, None, if◌then◌else◌}
use Rattle.std.specs.Prelude.{ℤ}
use Rattle.looks.specs.Key.{is_below}
use Rattle.looks.specs.declared.key.Key.{Key}
use Rattle.looks.specs.declared.register.Register.{Register}
use Rattle.std.proofs.Common.{map, All, refl, sym, ap, subst, ◌∙◌, arith}
use Rattle.std.proofs.lemmas.Bool.{cases_eq}
use Rattle.std.proofs.lemmas.List.{map-append}
use Rattle.std.proofs.lemmas.List.Elements.{All-append, All-head, All-tail, All-cons}
use Rattle.char_files.specs.CharName.{CharName}
use Rattle.char_files.specs.declared.TheConstants.{MAX_FILE}
use Rattle.operations.specs.NameSet.{Range, IsIn}
use Rattle.piece_raw.specs.Ring.{AreTags, IsMember, HasTag, with_value}
use Rattle.tree_order.specs.Registers.{Atom, if_named, offered, offered_if}
use Rattle.piece_list.specs.declared.setting.Setting.{Setting}
use Rattle.piece_list.specs.declared.setting.Setting.TheVariants.{Switch, Relook}
use Rattle.piece_list.specs.Piece.{Piece, PieceRegister}
use Rattle.piece_list.specs.declared.spot.Spot.{Spot}
use Rattle.piece_list.specs.Changing.{IsEdge, changed_piece, changed_char, setting_key}
use Rattle.piece_list.specs.Held.{AreEntered, IsSpotOf}
use Rattle.piece_list.specs.Laws.{Avoid, ChangesEach, IsPieceBelow}
use Rattle.piece_list.specs.Pieces.{range_of, char_of, key_of_name, offered_to, offered_to_if, register_of, set_under, IsPiece}
use Rattle.piece_list.specs.Spelled.{spelled, HasName}
use Rattle.piece_list.specs.Tables.{Tables, tag_at}
use Rattle.piece_list.proofs.Changes.{of_its_names}
use Rattle.piece_list.proofs.Splitting.{before_others, after_others, written, written_tags}
use Rattle.piece_list.proofs.SplitList.{is_piece}
use Rattle.piece_list.proofs.Edges.{entered_holds, begins_there}
use Rattle.piece_list.proofs.Found.{some_is, one_value, name_has_spot, spot_has_name}
use Rattle.piece_list.proofs.Gap.{all_left, all_right}

abbrev Items : Type 0
Items = List (ℕ × Piece)

abbrev Entered : Tables → ℕ × Piece → Type 0
Entered tables m = (c : CharName) → IsIn (range_of m.1) c → tag_at tables c ≡ Some m.0

-- what is set in a piece's register is offered to that of each character of a lesser key
module _ {V : Type 0} (own key : Key) (value : V) (below : is_below own key ≡ true) where
  either : (set : Key) (old : V) (b : Bool)
      → register_of (if b then record { by = Some key; value = value } else record { by = Some set; value = old }) own
      ≡ (if b then record { key = key; value = value } else record { key = set; value = old })
  either set old true = refl
  either set old false = refl

  offer : (by : Option Key) (old : V) → register_of (offered_to (record { by = by; value = old }) key value) own
      ≡ offered (record { key = set_under by own; value = old }) key value
  offer None old =
      let made : Bool → Register V =
      λ (b : Bool). if b then record { key = key; value = value } else record { key = own; value = old } in
      sym (ap made below)
  offer (Some set) old = either set old (is_below set key)

  offer_if : (selected : Bool) (r : PieceRegister V) → register_of (offered_to_if selected r key value) own
      ≡ offered_if selected (register_of r own) key value
  offer_if true r = offer r.by r.value
  offer_if false r = refl

-- a change of a piece is one of its characters
pub changes_each : (setting : Setting) → ChangesEach (setting_key setting) (changed_piece setting) (changed_char setting)
changes_each (Switch hidden key) p = (
  refl,
  λ c below. ap (λ (h : Register Bool). record (char_of p c) { hidden = h })
      (offer (key_of_name p c) key hidden below p.hidden.by p.hidden.value),
)
changes_each (Relook sel looks key) p = (
  refl,
  λ c below.
      let own : Key = key_of_name p c in
      let k : Atom = char_of p c in
      let made : Register (List ℕ) → Register ℕ → Register ℤ → Atom =
      λ font colour offset. record k { font = font; colour = colour; offset = offset } in
      let colour : Register ℕ = register_of (offered_to_if sel.colour p.colour key looks.colour) own in
      let offset : Register ℤ = register_of (offered_to_if sel.offset p.offset key looks.offset) own in
      let new_font : Register (List ℕ) = offered_if sel.font k.font key looks.font in
      ap (λ (f : Register (List ℕ)). made f colour offset) (offer_if own key looks.font below sel.font p.font)
      ∙ ap (λ (r : Register ℕ). made new_font r offset) (offer_if own key looks.colour below sel.colour p.colour)
      ∙ ap (made new_font (offered_if sel.colour k.colour key looks.colour))
      (offer_if own key looks.offset below sel.offset p.offset),
)

-- and leaves a piece
keeps_piece : (setting : Setting) (p : Piece) → IsPiece p → IsPiece (changed_piece setting p)
keeps_piece (Switch hidden key) p is = is
keeps_piece (Relook sel looks key) p is = is

-- and keeps their names
pub keeps_name : (setting : Setting) (k : Atom) → (changed_char setting k).name ≡ k.name
keeps_name (Switch hidden key) k = refl
keeps_name (Relook sel looks key) k = refl

-- what the answer of the step says of the names
pub same_names : (p w : Piece) (name : CharName) → range_of w ≡ range_of p → IsIn (range_of p) name
    → p.off ≡ name.off
    → range_of p ≡ record { site = name.site; at = name.off; len = w.off + w.len - name.off }
same_names p w name same (site, from, to) off =
    let range : ℕ → ℕ → ℕ → Range = λ (s a l : ℕ). record { site = s; at = a; len = l } in
    let at : w.off ≡ p.off = ap (λ (r : Range). r.at) same in
    let len : w.len ≡ p.len = ap (λ (r : Range). r.len) same in
    let all : p.len ≡ w.off + w.len - name.off = omega arith in
    ap (λ (s : ℕ). range s p.off p.len) (sym site) ∙ ap (λ (a : ℕ). range name.site a p.len) off
    ∙ ap (range name.site name.off) all

-- pieces of other numbers have none of the names
avoids : (tables : Tables) (tag : ℕ) (p : Piece) (zs : Items) → Entered tables (tag, p)
    → All (Entered tables) zs → All (λ m. m.0 ≢ tag) zs → Avoid (range_of p) zs
avoids tables tag p zs own entered others = λ i d lt c is held.
    others i d lt (some_is _ _ (sym (entered i d lt c is) ∙ own c held))

-- a piece of the same names instead of another
module _ (tag : ℕ) (p w : Piece) (same : range_of w ≡ range_of p) where
  edges_stay : (xs ys : Items) (site off : ℕ) → IsEdge site off (xs ++ (tag, p) ∷ ys)
      → IsEdge site off (xs ++ (tag, w) ∷ ys)
  edges_stay xs ys site off edge =
      let R : Range → Type 0 = λ (r : Range). r.site ≡ site → r.at < off → r.at + r.len ≤ off in
      let E : ℕ × Piece → Type 0 = λ (m : ℕ × Piece). R (range_of m.1) in
      let here : All E ((tag, p) ∷ ys) = all_right E xs ((tag, p) ∷ ys) edge in
      let own : R (range_of p) = All-head E (tag, p) ys here in
      All-append E xs ((tag, w) ∷ ys) (all_left E xs ((tag, p) ∷ ys) edge)
      (All-cons E (tag, w) ys (subst R (sym same) own) (All-tail E (tag, p) ys here))

  pieces_stay : (IsPiece p → IsPiece w) → (xs ys : Items) → All (λ m. IsPiece m.1) (xs ++ (tag, p) ∷ ys)
      → All (λ m. IsPiece m.1) (xs ++ (tag, w) ∷ ys)
  pieces_stay keeps xs ys all =
      let Is : ℕ × Piece → Type 0 = λ (m : ℕ × Piece). IsPiece m.1 in
      let here : All Is ((tag, p) ∷ ys) = all_right Is xs ((tag, p) ∷ ys) all in
      let is : IsPiece w = keeps (All-head Is (tag, p) ys here) in
      All-append Is xs ((tag, w) ∷ ys) (all_left Is xs ((tag, p) ∷ ys) all)
      (All-cons Is (tag, w) ys is (All-tail Is (tag, p) ys here))

  entered_stay : (tables : Tables) (xs ys : Items) → All (Entered tables) (xs ++ (tag, p) ∷ ys)
      → All (Entered tables) (xs ++ (tag, w) ∷ ys)
  entered_stay tables xs ys all =
      let here : All (Entered tables) ((tag, p) ∷ ys) =
      all_right (Entered tables) xs ((tag, p) ∷ ys) all in
      let own : Entered tables (tag, p) = All-head (Entered tables) (tag, p) ys here in
      let is : Entered tables (tag, w) = λ c held. own c (subst (λ (r : Range). IsIn r c) same held) in
      All-append (Entered tables) xs ((tag, w) ∷ ys) (all_left (Entered tables) xs ((tag, p) ∷ ys) all)
      (All-cons (Entered tables) (tag, w) ys is (All-tail (Entered tables) (tag, p) ys here))

-- the numbers stay
pub has_tag : (items : Items) (tag s : ℕ) (w : Piece) → HasTag items s → HasTag (with_value tag w items) s
has_tag items tag s w (v, (xs, ys, is)) =
    let insert : ℕ × Piece → ℕ × Piece = λ (m : ℕ × Piece). (m.0, cond (m.0 == tag) w m.1) in
    (cond (s == tag) w v, (map insert xs, map insert ys, ap (map insert) is ∙ map-append insert xs ((s, v) ∷ ys)))

module _ (setting : Setting) (old : Items) (tables : Tables) (tag : ℕ) (p w : Piece) (tags : AreTags old)
    (are : AreEntered old tables) (member : IsMember old tag p) (is_w : w ≡ changed_piece setting p)
  where
    abbrev new : Items
    new = with_value tag w old

    same_range : range_of w ≡ range_of p
    same_range = ap range_of is_w ∙ (changes_each setting p).0

    -- the change of one piece
    parts : (xs ys : Items) → old ≡ xs ++ (tag, p) ∷ ys → new ≡ xs ++ (tag, w) ∷ ys
    parts xs ys is =
        ap (with_value tag w) is ∙ written xs ys tag p w (subst AreTags is tags)

    pub edges_after : (site off : ℕ) → IsEdge site off old → IsEdge site off new
    edges_after site off edge =
        let (xs, ys, is) = member in
        subst (IsEdge site off) (sym (parts xs ys is))
        (edges_stay tag p w same_range xs ys site off (subst (IsEdge site off) is edge))

    alike : (s : ℕ) (q : Piece) → IsMember old s q → range_of (cond (s == tag) w q) ≡ range_of q
    alike s q is = elim (cases_eq s tag) [
      | inl same ↦
          ap (λ (b : Bool). range_of (cond b w q)) (eq-eqb s tag same) ∙ same_range
          ∙ ap range_of (sym (one_value old tags tag q p (subst (λ (t : ℕ). IsMember old t q) same is) member))
      | inr differs ↦ ap (λ (b : Bool). range_of (cond b w q)) (ne_eqb s tag differs)
    ]

    -- each spot stays
    pub spot_stays : (spot : Spot) (c : CharName) → IsSpotOf old spot c → IsSpotOf new spot c
    spot_stays spot c (q, (xs, ys, is), within, site, off) =
        let s : ℕ = spot.piece in
        let v : Piece = cond (s == tag) w q in
        let insert : ℕ × Piece → ℕ × Piece = λ (m : ℕ × Piece). (m.0, cond (m.0 == tag) w m.1) in
        let range : range_of v ≡ range_of q = alike s q (xs, ys, is) in
        let len : v.len ≡ q.len = ap (λ (r : Range). r.len) range in
        let first : v.off ≡ q.off = ap (λ (r : Range). r.at) range in (
          v,
          (map insert xs, map insert ys, ap (map insert) is ∙ map-append insert xs ((s, q) ∷ ys)),
          omega arith,
          site ∙ sym (ap (λ (r : Range). r.site) range),
          omega arith,
        )

    pub entered_after : AreEntered new tables
    entered_after =
        let (xs, ys, is) = member in
        let whole : AreEntered (xs ++ (tag, p) ∷ ys) tables =
        subst (λ (l : Items). AreEntered l tables) is are in
        let back : xs ++ (tag, w) ∷ ys ≡ new = sym (parts xs ys is) in
        record {
          pieces = subst (All (λ m. IsPiece m.1)) back (pieces_stay tag p w same_range
              (λ piece. subst IsPiece (sym is_w) (keeps_piece setting p piece)) xs ys whole.pieces);
          entered = subst (All (Entered tables)) back
              (entered_stay tag p w same_range tables xs ys whole.entered);
          held = λ c s e. has_tag old tag s w (are.held c s e);
          known = λ c s e.
              let (spot, is) = name_has_spot old c (are.known c s e) in
              spot_has_name new spot c (spot_stays spot c is);
        }

    pub changed_there : IsPieceBelow (setting_key setting) p
        → spelled new ≡ map (if_named (range_of p ∷ []) (changed_char setting)) (spelled old)
    changed_there below =
        let (xs, ys, is) = member in
        let here : AreTags (xs ++ (tag, p) ∷ ys) = subst AreTags is tags in
        let all : All (Entered tables) (xs ++ (tag, p) ∷ ys) =
        subst (All (Entered tables)) is are.entered in
        let after : All (Entered tables) ((tag, p) ∷ ys) =
        all_right (Entered tables) xs ((tag, p) ∷ ys) all in
        let own : Entered tables (tag, p) = All-head (Entered tables) (tag, p) ys after in
        ap spelled (parts xs ys is)
        ∙ ap (λ (q : Piece). spelled (xs ++ (tag, q) ∷ ys)) is_w
        ∙ of_its_names (setting_key setting) (changed_piece setting) (changed_char setting) xs ys tag p (changes_each setting) below
        (avoids tables tag p xs own (all_left (Entered tables) xs ((tag, p) ∷ ys) all)
        (before_others xs ys tag p here))
        (avoids tables tag p ys own (All-tail (Entered tables) (tag, p) ys after)
        (after_others xs ys tag p here))
        ∙ sym (ap (λ (l : Items). map (if_named (range_of p ∷ []) (changed_char setting)) (spelled l)) is)

-- what stands under the number after the change
pub value_after : (items : Items) (tag : ℕ) (p w q : Piece) → AreTags items → IsMember items tag p
    → IsMember (with_value tag w items) tag q → q ≡ w
value_after items tag p w q tags (xs, ys, is) held =
    let whole : with_value tag w items ≡ xs ++ (tag, w) ∷ ys =
    ap (with_value tag w) is ∙ written xs ys tag p w (subst AreTags is tags) in
    one_value (with_value tag w items) (written_tags tag w items tags) tag q w held (xs, ys, whole)

-- the piece that a step changes, before it and after it
pub record IsTurn (items : Items) (tag : ℕ) (p w : Piece) (name : CharName) : Type 0 where
  pub member : IsMember items tag p
  pub held : IsIn (range_of p) name
  pub off : p.off ≡ name.off
  pub same : range_of w ≡ range_of p
  pub end : w.off + w.len ≡ p.off + p.len
  pub fits : p.off + p.len ≤ MAX_FILE

pub turn : (setting : Setting) (items : Items) (tables : Tables) (tag : ℕ) (p w : Piece) (name : CharName) → AreTags items
    → AreEntered items tables → HasName (spelled items) name → IsEdge name.site name.off items → IsMember items tag p
    → Some tag ≡ tag_at tables name → w ≡ changed_piece setting p → IsTurn items tag p w name
turn setting items tables tag p w name tags are here begins member entry is_w =
    let held : IsIn (range_of p) name =
    entered_holds items tables tags are name here tag p member (sym entry) in
    let same : range_of w ≡ range_of p = ap range_of is_w ∙ (changes_each setting p).0 in
    record {
      member = member;
      held = held;
      off = begins_there items name begins tag p member held;
      same = same;
      end = ap (λ (r : Range). r.at + r.len) same;
      fits = (is_piece items tag p are.pieces member).2;
    }
