-- Characters of lesser keys: after a change, and those of a piece.
use Rattle.std.proofs.Common.{◌≡◌, ℕ, ◌+◌, ◌<◌, ◌≤◌, true, false, Bool, cond, List, [], ◌∷◌, ◌++◌, length, get_or, map}
use Rattle.std.proofs.Common.{Contains, refl, sym, ap, subst, ◌∙◌, arith}
use Rattle.std.proofs.lemmas.List.{get_or-map, get_or_default, length-map}
use Rattle.std.proofs.lemmas.List.Elements.{Contains-append_left, Contains-append_right}
use Rattle.std.proofs.lemmas.Grind.{flat_map-append}
use Rattle.looks.specs.Key.{is_below}
use Rattle.looks.specs.declared.key.Key.{Key}
use Rattle.char_files.specs.CharName.{CharName}
use Rattle.operations.specs.NameSet.{Range, IsAmong, IsIn, names_of}
use Rattle.piece_raw.specs.Ring.{IsMember}
use Rattle.tree_order.specs.Registers.{Atom, if_named}
use Rattle.tree_order.proofs.RunNames.{names_have}
use Rattle.piece_list.specs.declared.setting.Setting.{Setting}
use Rattle.piece_list.specs.declared.setting.Setting.TheVariants.{Switch, Relook}
use Rattle.piece_list.specs.Changing.{AreBelow, IsEdge, changed_char}
use Rattle.piece_list.specs.Laws.{IsPieceBelow}
use Rattle.piece_list.specs.Piece.{Piece}
use Rattle.piece_list.specs.Pieces.{range_of, char_of, chars_of}
use Rattle.piece_list.specs.Spelled.{spelled}
use Rattle.piece_list.proofs.ChangedNames.{named, name_stays}
use Rattle.piece_list.proofs.ChangedPiece.{keeps_name}
use Rattle.piece_list.proofs.Edges.{begins_there, edge_of}
use Rattle.piece_list.proofs.Positions.{Items}

-- a change keeps the character's key
keeps_key : (setting : Setting) (k : Atom) → (changed_char setting k).key ≡ k.key
keeps_key (Switch hidden key) k = refl
keeps_key (Relook sel looks key) k = refl

key_stays : (setting : Setting) (set : List Range) (k : Atom) → (if_named set (changed_char setting) k).key ≡ k.key
key_stays setting set k = go (named set k.name)
  where
    go : (b : Bool) → (cond b (changed_char setting k) k).key ≡ k.key
    go true = keeps_key setting k
    go false = refl

-- keys are lesser after a change, too
pub below_stays : (key : Key) (setting : Setting) (set names : List Range) (old new : List Atom) → AreBelow key names old
    → new ≡ map (if_named set (changed_char setting)) old → AreBelow key names new
below_stays key setting set names old new below is k has held =
    let each : Atom → Atom = if_named set (changed_char setting) in
    let (i, lt, at) = subst (λ (ks : List Atom). Contains ks k) is has in
    let few : i < length old = omega (arith, length-map old each) in
    let was : Atom = get_or old i k in
    let same : each was ≡ k = sym (get_or-map each old i k k few) ∙ at in
    let name : k.name ≡ was.name =
    ap (λ (x : Atom). x.name) (sym same) ∙ name_stays (changed_char setting) (keeps_name setting) set was in
    let own : k.key ≡ was.key = ap (λ (x : Atom). x.key) (sym same) ∙ key_stays setting set was in
    ap (λ (x : Key). is_below x key) own
    ∙ below was (i, few, get_or_default old i was k few) (subst (λ (c : CharName). IsAmong names c) name held)

-- a piece's character is one of the list's
has_char : (items : Items) (tag : ℕ) (p : Piece) (c : CharName) → IsMember items tag p → IsIn (range_of p) c
    → Contains (spelled items) (char_of p c)
has_char items tag p c (xs, ys, is) held =
    let chars : ℕ × Piece → List Atom = λ (m : ℕ × Piece). chars_of m.1 in
    let names : List CharName = names_of (range_of p) in
    let (i, lt, at) = names_have (range_of p) c held in
    let own : Contains (chars_of p) (char_of p c) = (
      i,
      omega (arith, length-map names (char_of p)),
      get_or-map (char_of p) names i c (char_of p c) lt ∙ ap (char_of p) at,
    ) in
    subst (λ (ks : List Atom). Contains ks (char_of p c)) (sym (ap spelled is ∙ flat_map-append chars xs ((tag, p) ∷ ys)))
    (Contains-append_right (spelled xs) (chars_of p ++ spelled ys) (char_of p c)
    (Contains-append_left (chars_of p) (spelled ys) (char_of p c) own))

-- the characters of a piece that begins in a range and doesn't reach across its end
pub piece_below : (key : Key) (r : Range) (items : Items) (name : CharName) (end : ℕ) → AreBelow key (r ∷ []) (spelled items)
    → name.site ≡ r.site → r.at ≤ name.off → name.off < end → end ≡ r.at + r.len → IsEdge name.site name.off items
    → IsEdge r.site end items → (tag : ℕ) (p : Piece) → IsMember items tag p → IsIn (range_of p) name → IsPieceBelow key p
piece_below key r items name end below site from to is_end begins ends tag p member held c is =
    let first : p.off ≡ name.off = begins_there items name begins tag p member held in
    let past : p.off + p.len ≤ end = edge_of items r.site end ends tag p member (sym held.0 ∙ site) (omega (arith, first, to)) in
    let within : IsIn r c = (is.0 ∙ sym held.0 ∙ site, omega (arith, is.1, first, from), omega (arith, is.2, past, is_end)) in
    below (char_of p c) (has_char items tag p c member is) (0, r, omega arith, refl, within)
