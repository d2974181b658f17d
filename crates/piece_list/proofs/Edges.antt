-- Offsets of a site's file across which no piece reaches.
use Rattle.std.proofs.Common.{◌≡◌, ◌≢◌, ℕ, zero, suc, ◌+◌, ◌-◌, ◌<◌, ◌≤◌, inl, inr, List, [], ◌∷◌, ◌++◌}
use Rattle.std.proofs.Common.{Some, length, get_or, All, refl, sym, ap, subst, ◌∙◌, arith}
use Rattle.std.proofs.lemmas.Bool.{cases_lt}
use Rattle.std.proofs.lemmas.List.Elements.{All-append, All-head, All-tail, All-cons}
use Rattle.char_files.specs.CharName.{CharName}
use Rattle.operations.specs.NameSet.{IsIn}
use Rattle.piece_raw.specs.Ring.{AreTags, IsMember}
use Rattle.piece_list.specs.Piece.{Piece}
use Rattle.piece_list.specs.declared.spot.Spot.{Spot}
use Rattle.piece_list.specs.Changing.{AreSplitOnce, IsEdge}
use Rattle.piece_list.specs.Held.{AreEntered, IsSplit}
use Rattle.piece_list.specs.Pieces.{range_of, piece_front, rest_of}
use Rattle.piece_list.specs.Spelled.{spelled, HasName}
use Rattle.piece_list.specs.Tables.{Tables, tag_at}
use Rattle.piece_list.proofs.Splitting.{before_others, after_others}
use Rattle.piece_list.proofs.SplitList.{is_piece, split_spells, split_counts}
use Rattle.piece_list.proofs.Found.{member_at, one_value, entry_of, some_is, name_has_spot}
use Rattle.piece_list.proofs.Gap.{all_left, all_right}
use Rattle.piece_list.proofs.Placing.{split_others}
use Rattle.piece_list.proofs.Spent.{unlike_after_split}

abbrev Items : Type 0
Items = List (ℕ × Piece)

-- what stands at an index is a member
member_of : (items : Items) (k : ℕ) (d : ℕ × Piece) → k < length items
    → IsMember items (get_or items k d).0 (get_or items k d).1
member_of [] k d lt = absurd (omega arith)
member_of (m ∷ items) zero d lt = ([], items, refl)
member_of (m ∷ items) (suc k) d lt =
    let (xs, ys, is) = member_of items k d (omega arith) in
    (m ∷ xs, ys, ap (λ (l : Items). m ∷ l) is)

-- the piece that holds a name is the one that is entered for it
holder : (items : Items) (tables : Tables) → AreTags items → AreEntered items tables → (tag : ℕ) (p : Piece)
    (c : CharName) → IsMember items tag p → tag_at tables c ≡ Some tag → (k : ℕ) (d : ℕ × Piece)
    → k < length items → IsIn (range_of (get_or items k d).1) c → (get_or items k d).1 ≡ p
holder items tables tags are tag p c is entry k d lt held =
    let m : ℕ × Piece = get_or items k d in
    let here : tag_at tables c ≡ Some m.0 = are.entered k d lt c held in
    let same : m.0 ≡ tag = some_is m.0 tag (sym here ∙ entry) in
    one_value items tags tag m.1 p (subst (λ (t : ℕ). IsMember items t m.1) same (member_of items k d lt)) is

-- the piece that is entered for a name that is spelled holds it
pub entered_holds : (items : Items) (tables : Tables) → AreTags items → AreEntered items tables
    → (c : CharName) → HasName (spelled items) c → (tag : ℕ) (p : Piece) → IsMember items tag p
    → tag_at tables c ≡ Some tag → IsIn (range_of p) c
entered_holds items tables tags are c here tag p is entry =
    let (spot, there) = name_has_spot items c here in
    let at : tag_at tables c ≡ Some spot.piece = entry_of items tables are spot c there in
    let same : spot.piece ≡ tag = some_is spot.piece tag (sym at ∙ entry) in
    let (q, held, within, site, off) = there in
    let e : q ≡ p =
    one_value items tags tag q p (subst (λ (t : ℕ). IsMember items t q) same held) is in
    subst (λ (r : Piece). IsIn (range_of r) c) e (site, omega arith, omega arith)

-- a name that is spelled is entered
pub is_entered : (items : Items) (tables : Tables) → AreEntered items tables → (c : CharName)
    → HasName (spelled items) c → (tag : ℕ) × (tag_at tables c ≡ Some tag)
is_entered items tables are c here =
    let (spot, there) = name_has_spot items c here in
    (spot.piece, entry_of items tables are spot c there)

-- there is an edge where the piece that is entered doesn't begin earlier
pub edge_there : (items : Items) (tables : Tables) → AreTags items → AreEntered items tables → (tag : ℕ)
    (p : Piece) (c : CharName) → IsMember items tag p → tag_at tables c ≡ Some tag
    → (IsIn (range_of p) c → c.off ≤ p.off) → IsEdge c.site c.off items
edge_there items tables tags are tag p c is entry begins = λ k d lt site from.
    let m : ℕ × Piece = get_or items k d in
    elim (cases_lt c.off (m.1.off + m.1.len)) [
      | inl to ↦
          let held : IsIn (range_of m.1) c = (sym site, omega arith, to) in
          let e : m.1 ≡ p = holder items tables tags are tag p c is entry k d lt held in
          let off : m.1.off ≡ p.off = ap (λ (r : Piece). r.off) e in
          let le : c.off ≤ p.off = begins (subst (λ (r : Piece). IsIn (range_of r) c) e held) in
          absurd (omega arith)
      | inr past ↦ past
    ]

-- there is one after each piece
pub edge_after : (items : Items) (tables : Tables) → AreTags items → AreEntered items tables → (tag : ℕ)
    (p : Piece) → IsMember items tag p → IsEdge p.site (p.off + p.len) items
edge_after items tables tags are tag p is = λ k d lt site from.
    let m : ℕ × Piece = get_or items k d in
    let some : 0 < p.len = (is_piece items tag p are.pieces is).0 in
    let last : CharName = record { site = p.site; off = p.off + (p.len - 1) } in
    let spot : Spot = record { piece = tag; within = p.len - 1 } in
    let entry : tag_at tables last ≡ Some tag =
    entry_of items tables are spot last (p, is, omega arith, refl, refl) in
    elim (cases_lt (p.off + p.len) (m.1.off + m.1.len)) [
      | inl to ↦
          let held : IsIn (range_of m.1) last = (sym site, omega arith, omega arith) in
          let e : m.1 ≡ p = holder items tables tags are tag p last is entry k d lt held in
          let off : m.1.off ≡ p.off = ap (λ (r : Piece). r.off) e in
          let len : m.1.len ≡ p.len = ap (λ (r : Piece). r.len) e in
          absurd (omega arith)
      | inr past ↦ past
    ]

-- what an edge says of a member
pub edge_of : (items : Items) (site off : ℕ) → IsEdge site off items → (tag : ℕ) (p : Piece)
    → IsMember items tag p → p.site ≡ site → p.off < off → p.off + p.len ≤ off
edge_of items site off edge tag p is =
    let m : ℕ × Piece = (tag, p) in
    let (k, lt, at) = member_at items tag p is in
    subst (λ (n : ℕ × Piece). n.1.site ≡ site → n.1.off < off → n.1.off + n.1.len ≤ off) (at m) (edge k m lt)

-- a piece that holds a name at an edge begins with it
pub begins_there : (items : Items) (c : CharName) → IsEdge c.site c.off items → (tag : ℕ) (p : Piece)
    → IsMember items tag p → IsIn (range_of p) c → p.off ≡ c.off
begins_there items c edge tag p is (site, from, to) =
    elim (cases_lt p.off c.off) [
      | inl lt ↦
          let past : p.off + p.len ≤ c.off = edge_of items c.site c.off edge tag p is (sym site) lt in
          absurd (omega arith)
      | inr ge ↦ omega arith
    ]

-- a piece whose names are entered
abbrev Holds : Tables → ℕ × Piece → Type 0
Holds tables m = (c : CharName) → IsIn (range_of m.1) c → tag_at tables c ≡ Some m.0

-- pieces of other numbers than the one that is entered for a name don't reach across it
ends_there : (tables : Tables) (tag site off : ℕ) (zs : Items) → tag_at tables (record { site = site; off = off }) ≡ Some tag
    → All (Holds tables) zs → All (λ m. m.0 ≢ tag) zs → IsEdge site off zs
ends_there tables tag site off zs entry all others = λ k d lt own from.
    let m : ℕ × Piece = get_or zs k d in
    elim (cases_lt off (m.1.off + m.1.len)) [
      | inl to ↦
          let c : CharName = record { site = site; off = off } in
          absurd (others k d lt (some_is m.0 tag (sym (all k d lt c (sym own, omega arith, to)) ∙ entry)))
      | inr past ↦ past
    ]

-- a split leaves the edges
pub edges_after_split : (old new : Items) (tag n u : ℕ) → IsSplit tag n u old new → (site off : ℕ)
    → IsEdge site off old → IsEdge site off new
edges_after_split old new tag n u split site off edge =
    let E : ℕ × Piece → Type 0 =
    λ (m : ℕ × Piece). m.1.site ≡ site → m.1.off < off → m.1.off + m.1.len ≤ off in
    let p : Piece = split.piece in
    let front : ℕ × Piece = (tag, piece_front n p) in
    let rest : ℕ × Piece = (u, rest_of n p) in
    let within : n < p.len = split.within in
    let whole : All E (split.before ++ (tag, p) ∷ split.after) = subst (All E) split.whole edge in
    let here : All E ((tag, p) ∷ split.after) = all_right E split.before ((tag, p) ∷ split.after) whole in
    let own : E (tag, p) = All-head E (tag, p) split.after here in
    let is_front : E front = λ s from. let past : p.off + p.len ≤ off = own s from in omega arith in
    let is_rest : E rest = λ s from. let past : p.off + p.len ≤ off = own s (omega arith) in omega arith in
    subst (All E) (sym split.parts)
    (All-append E split.before (front ∷ rest ∷ split.after) (all_left E split.before ((tag, p) ∷ split.after) whole)
    (All-cons E front (rest ∷ split.after) is_front
    (All-cons E rest split.after is_rest (All-tail E (tag, p) split.after here))))

-- and makes one: of the other pieces none has the name that the rest begins with
pub edge_after_split : (old new : Items) (tables : Tables) → AreTags old → AreEntered old tables → (tag u : ℕ) (p : Piece)
    (name : CharName) (site off : ℕ) → name ≡ record { site = site; off = off } → IsMember old tag p
    → IsIn (range_of p) name → IsSplit tag (off - p.off) u old new → IsEdge site off new
edge_after_split old new tables tags are tag u p name site off is_name is held split =
    let E : ℕ × Piece → Type 0 =
    λ (m : ℕ × Piece). m.1.site ≡ site → m.1.off < off → m.1.off + m.1.len ≤ off in
    let q : Piece = split.piece in
    let front : ℕ × Piece = (tag, piece_front (off - p.off) q) in
    let rest : ℕ × Piece = (u, rest_of (off - p.off) q) in
    let one : q ≡ p = one_value old tags tag q p (split.before, split.after, split.whole) is in
    let first : q.off ≡ p.off = ap (λ (r : Piece). r.off) one in
    let c : CharName = record { site = site; off = off } in
    let (own, from, to) = subst (IsIn (range_of p)) is_name held in
    let here : AreTags (split.before ++ (tag, q) ∷ split.after) = subst AreTags split.whole tags in
    let all : All (Holds tables) (split.before ++ (tag, q) ∷ split.after) = subst (All (Holds tables)) split.whole are.entered in
    let after : All (Holds tables) ((tag, q) ∷ split.after) = all_right (Holds tables) split.before ((tag, q) ∷ split.after) all in
    let entry : tag_at tables c ≡ Some tag =
    All-head (Holds tables) (tag, q) split.after after c (subst (λ (r : Piece). IsIn (range_of r) c) (sym one) (own, from, to)) in
    let is_front : E front = λ s lt. omega (arith, first, from) in
    let is_rest : E rest = λ s lt. absurd (omega (arith, first, from, lt)) in
    subst (All E) (sym split.parts)
    (All-append E split.before (front ∷ rest ∷ split.after)
    (ends_there tables tag site off split.before entry (all_left (Holds tables) split.before ((tag, q) ∷ split.after) all)
    (before_others split.before split.after tag q here))
    (All-cons E front (rest ∷ split.after) is_front
    (All-cons E rest split.after is_rest
    (ends_there tables tag site off split.after entry (All-tail (Holds tables) (tag, q) split.after after)
    (after_others split.before split.after tag q here)))))

-- what a split makes of the pieces, and what none makes of them
pub split_once : (old new : Items) (tag n u : ℕ) → AreTags old → 0 < n → IsSplit tag n u old new → AreSplitOnce old new
split_once old new tag n u tags some split =
    let more : length new ≡ length old + 1 = split_counts old new tag n u split in
    record {
      spells = split_spells old new tag n u split;
      unlike_more = unlike_after_split old new tag n u split;
      few = omega (arith, more);
      edges = edges_after_split old new tag n u split;
      firsts = λ t d is. split_others old new tag n u tags split (record { piece = t; within = 0 }) d is (inr some);
    }

pub not_split : (items : Items) → AreSplitOnce items items
not_split items = record {
  spells = refl;
  unlike_more = λ hidden. omega arith;
  few = omega arith;
  edges = λ site off edge. edge;
  firsts = λ tag d is. is;
}
