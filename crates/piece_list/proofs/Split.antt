-- A piece split in two spells the same.
use Rattle.std.proofs.Common.{◌≡◌, ℕ, zero, suc, ◌+◌, ◌-◌, ◌≤◌, Bool, true, false, List, [], ◌∷◌, ◌++◌, map, refl, sym, ap, ◌∙◌}
use Rattle.std.proofs.Common.{arith, append_assoc, zero-add, add-zero}
use Rattle.std.specs.List.{range_with_len}
use Rattle.std.proofs.lemmas.List.{map-append}
use Rattle.std.proofs.lemmas.Grind.{flat_map-append}
use Rattle.looks.specs.declared.key.Key.{Key}
use Rattle.char_files.specs.CharName.{CharName}
use Rattle.tree_order.specs.Registers.{Atom}
use Rattle.piece_list.specs.Piece.{Piece}
use Rattle.piece_list.specs.Pieces.{char_of, chars_of, key_from, piece_front, register_of, rest_of, risen}
use Rattle.piece_list.specs.Spelled.{spelled}
use Rattle.piece_list.specs.Laws.{SplitSpellsTheSame}

-- n + m numbers are n of them and m of them
range_with_len-append : (a n m : ℕ)
    → range_with_len a (n + m) ≡ range_with_len a n ++ range_with_len (a + n) m
range_with_len-append a zero m =
    ap (range_with_len a) (zero-add m) ∙ ap (λ (b : ℕ). range_with_len b m) (sym (add-zero a))
range_with_len-append a (suc n) m =
    let more : suc n + m ≡ suc (n + m) = omega arith in
    let next : a + 1 + n ≡ a + suc n = omega arith in
    ap (range_with_len a) more
    ∙ ap (λ (ks : List ℕ). a ∷ ks) (range_with_len-append (a + 1) n m
    ∙ ap (λ (b : ℕ). range_with_len (a + 1) n ++ range_with_len b m) next)

-- keys go on from the rest's first one as from the piece's
pub key_on : (rising : Bool) (key : Key) (off n : ℕ) (c : CharName)
    → key_from rising (risen rising n key) (off + n) c ≡ key_from rising key off c
key_on false key off n c = refl
key_on true key off n c =
    let same : key.stamp + n + c.off - (off + n) ≡ key.stamp + c.off - off = omega arith in
    let made : ℕ → Key = λ (stamp : ℕ). record { stamp = stamp; site = key.site } in
    ap made same

char_on : (p : Piece) (n : ℕ) (c : CharName) → char_of (rest_of n p) c ≡ char_of p c
char_on p n c =
    let under : Key → Atom = λ (key : Key). record {
      name = c;
      key = key;
      font = register_of p.font key;
      colour = register_of p.colour key;
      offset = register_of p.offset key;
      hidden = register_of p.hidden key;
    } in
    ap under (key_on p.rising p.key p.off n c)

chars_on : (p : Piece) (n : ℕ) (cs : List CharName) → map (char_of (rest_of n p)) cs ≡ map (char_of p) cs
chars_on p n [] = refl
chars_on p n (c ∷ cs) =
    ap (λ (k : Atom). k ∷ map (char_of (rest_of n p)) cs) (char_on p n c)
    ∙ ap (λ (ks : List Atom). char_of p c ∷ ks) (chars_on p n cs)

-- a piece's characters are those of its front and those of the rest
pub chars_of-split : (p : Piece) (n : ℕ) → n ≤ p.len
    → chars_of p ≡ chars_of (piece_front n p) ++ chars_of (rest_of n p)
chars_of-split p n le =
    let name : ℕ → CharName = λ (off : ℕ). record { site = p.site; off = off } in
    let front : List ℕ = range_with_len p.off n in
    let rest : List ℕ = range_with_len (p.off + n) (p.len - n) in
    let whole : p.len ≡ n + (p.len - n) = omega arith in
    ap (λ (len : ℕ). map (char_of p) (map name (range_with_len p.off len))) whole
    ∙ ap (λ (ks : List ℕ). map (char_of p) (map name ks)) (range_with_len-append p.off n (p.len - n))
    ∙ ap (map (char_of p)) (map-append name front rest)
    ∙ map-append (char_of p) (map name front) (map name rest)
    ∙ ap (λ (ks : List Atom). chars_of (piece_front n p) ++ ks) (sym (chars_on p n (map name rest)))

pub split_spells_the_same : SplitSpellsTheSame
split_spells_the_same before after tag rest n p le =
    let chars : ℕ × Piece → List Atom = λ (m : ℕ × Piece). chars_of m.1 in
    let front : List Atom = chars_of (piece_front n p) in
    let others : List Atom = chars_of (rest_of n p) in
    flat_map-append chars before ((tag, piece_front n p) ∷ (rest, rest_of n p) ∷ after)
    ∙ ap (λ (ks : List Atom). spelled before ++ ks) (sym (append_assoc front others (spelled after))
    ∙ ap (λ (ks : List Atom). ks ++ spelled after) (sym (chars_of-split p n le)))
    ∙ sym (flat_map-append chars before ((tag, p) ∷ after))
