-- A good set shows one text: its order is one, and so are the byte and the looks of each character.
use Rattle.std.proofs.Common.{◌≡◌, ℕ, ℤ, suc, inl, inr, Bool, List, [], ◌∷◌, map, All, refl, sym, ap, subst}
use Rattle.std.proofs.Common.{◌∙◌, arith}
use Rattle.std.proofs.lemmas.Bool.{false≢true}
use Rattle.std.specs.List.{filter}
use Rattle.looks.specs.Sel.{Selection}
use Rattle.looks.specs.declared.looks.Looks.{Looks}
use Rattle.char_files.specs.CharName.{CharName}
use Rattle.char_files.specs.declared.character.Char.{Char}
use Rattle.char_files.specs.declared.name.Anchor.{Anchor}
use Rattle.operations.specs.Operation.{Operation}
use Rattle.tree_order.specs.Good.{Good}
use Rattle.tree_order.specs.OneEach.{HasOneEach}
use Rattle.tree_order.specs.Tree.{IsChar, HasByte, byte_by}
use Rattle.tree_order.specs.Order.{IsOrder}
use Rattle.tree_order.specs.Last.{IsLast}
use Rattle.tree_order.specs.Looks.{HasLooks, IsLastToSet, Sets, looks_by}
use Rattle.tree_order.specs.Shown.{IsShown, IsPlace, is_visible, place}
use Rattle.tree_order.specs.Laws.{ShowsOneText}
use Rattle.tree_order.proofs.Before.{has_order}
use Rattle.tree_order.proofs.SomeText.{has_chars, has_shown}
use Rattle.tree_order.proofs.Tree.{keys_order, one_insert, same_operation}

-- looks are their font, their colour and their offset
same_looks : (l m : Looks) → l.font ≡ m.font → l.colour ≡ m.colour → l.offset ≡ m.offset → l ≡ m
same_looks l m font colour offset =
    let made : List ℕ → ℕ → ℤ → Looks = λ f c o. record { font = f; colour = c; offset = o } in
    ap (λ (f : List ℕ). made f l.colour l.offset) font ∙ ap (λ (c : ℕ). made m.font c l.offset) colour
    ∙ ap (λ (o : ℤ). made m.font m.colour o) offset

-- a character is its name, its byte and its looks
same_char : (x y : Char) → x.name ≡ y.name → x.byte ≡ y.byte → x.looks ≡ y.looks → x ≡ y
same_char x y name byte looks =
    let made : CharName → ℕ → Looks → Char = λ n b l. record { name = n; byte = b; looks = l } in
    ap (λ (n : CharName). made n x.byte x.looks) name ∙ ap (λ (b : ℕ). made y.name b x.looks) byte
    ∙ ap (made y.name y.byte) looks

-- what holds of each element holds of those after the first
All-tail : {X : Type 0} (P : X → Type 0) (x : X) (xs : List X) → All P (x ∷ xs) → All P xs
All-tail P x xs all k d lt = all (suc k) d (omega arith)

-- a shown character with its byte, and with its looks

abbrev HasOwnByte : List Operation → Char → Type 0
HasOwnByte ops s = HasByte ops s.name s.byte

abbrev HasOwnLooks : List Operation → Char → Type 0
HasOwnLooks ops s = HasLooks ops s.name s.looks

module _ (ops : List Operation) (good : Good ops) where
  -- two orders are one list
  pub one_order : (order other : List CharName) → IsOrder ops order → IsOrder ops other → order ≡ other
  one_order order other is is' =
      (has_order ops good).only order is ∙ sym ((has_order ops good).only other is')

  -- a character has one byte
  one_byte : (c : CharName) (m n : ℕ) → HasByte ops c m → HasByte ops c n → m ≡ n
  one_byte c m n (i, p, e) (j, q, f) =
      e ∙ ap (λ (o : Operation). byte_by o.kind c) (one_insert ops good c i j p q) ∙ sym f

  -- one operation is the last to set something: of two each has the greatest key
  pub one_last : (Sets : Operation → Type 0) (a b : Operation) → IsLast Sets ops a → IsLast Sets ops b → a ≡ b
  one_last Sets a b p q =
      elim (keys_order a b) [
        | inl same ↦ same_operation ops good a b p.held q.held same.0 same.1
        | inr differ ↦ elim differ [
          | inl more ↦ absurd (false≢true (sym (q.greatest a p.held p.sets) ∙ more))
          | inr less ↦ absurd (false≢true (sym (p.greatest b q.held q.sets) ∙ less))
        ]
      ]

  -- so an attribute, which the operation gives, has one value
  one_value : {V : Type 0} (value : Looks → V) (selects : Selection → Bool) (c : CharName) (v w : V)
      → (op : Operation) × IsLastToSet ops selects c op × (v ≡ value (looks_by op.kind))
      → (op : Operation) × IsLastToSet ops selects c op × (w ≡ value (looks_by op.kind)) → v ≡ w
  one_value value selects c v w (a, p, e) (b, q, f) =
      e ∙ ap (λ (o : Operation). value (looks_by o.kind)) (one_last (λ o. Sets o selects c) a b p q) ∙ sym f

  -- a character has one looks
  pub one_looks : (c : CharName) (l m : Looks) → HasLooks ops c l → HasLooks ops c m → l ≡ m
  one_looks c l m p q =
      let font : l.font ≡ m.font =
      one_value (λ (k : Looks). k.font) (λ s. s.font) c l.font m.font p.font q.font in
      let colour : l.colour ≡ m.colour =
      one_value (λ (k : Looks). k.colour) (λ s. s.colour) c l.colour m.colour p.colour q.colour in
      let offset : l.offset ≡ m.offset =
      one_value (λ (k : Looks). k.offset) (λ s. s.offset) c l.offset m.offset p.offset q.offset in
      same_looks l m font colour offset

  -- two characters of one name are one
  one_char : (x y : Char) → x.name ≡ y.name → HasOwnByte ops x → HasOwnByte ops y → HasOwnLooks ops x
      → HasOwnLooks ops y → x ≡ y
  one_char x y name b b' l l' =
      let byte : x.byte ≡ y.byte =
      one_byte y.name x.byte y.byte (subst (λ (c : CharName). HasByte ops c x.byte) name b) b' in
      let looks : x.looks ≡ y.looks =
      one_looks y.name x.looks y.looks (subst (λ (c : CharName). HasLooks ops c x.looks) name l) l' in
      same_char x y name byte looks

  -- two lists of characters that have the same names are one
  one_list : (a b : List Char) → map (λ s. s.name) a ≡ map (λ s. s.name) b → All (HasOwnByte ops) a
      → All (HasOwnByte ops) b → All (HasOwnLooks ops) a → All (HasOwnLooks ops) b → a ≡ b
  one_list [] [] names p p' q q' = refl
  one_list [] (y ∷ ys) names p p' q q' = absurd cc
  one_list (x ∷ xs) [] names p p' q q' = absurd cc
  one_list (x ∷ xs) (y ∷ ys) names p p' q q' =
      let name : x.name ≡ y.name = cc in
      let rest : map (λ (s : Char). s.name) xs ≡ map (λ (s : Char). s.name) ys = cc in
      let head : x ≡ y =
      one_char x y name (p 0 x (omega arith)) (p' 0 y (omega arith)) (q 0 x (omega arith))
      (q' 0 y (omega arith)) in
      let tail : xs ≡ ys =
      one_list xs ys rest (All-tail (HasOwnByte ops) x xs p) (All-tail (HasOwnByte ops) y ys p')
      (All-tail (HasOwnLooks ops) x xs q) (All-tail (HasOwnLooks ops) y ys q') in
      cc

  -- so names tell the list
  pub one_each : (names : List CharName) → All (IsChar ops) names → HasOneEach ops names
  one_each names are = let some = has_chars ops names are in record {
    chars = some.chars;
    named = some.named;
    bytes = some.bytes;
    looks = some.looks;
    only = λ other named bytes looks. one_list other some.chars (named ∙ sym some.named) bytes some.bytes looks
        some.looks;
  }

  one_shown : (a b : List Char) → IsShown ops a → IsShown ops b → a ≡ b
  one_shown a b s t =
      let names = s.visible ∙ ap (filter (is_visible ops)) (one_order s.order t.order s.in_order t.in_order)
      ∙ sym t.visible in
      one_list a b names s.bytes t.bytes s.looks t.looks

  one_place : (anchor : Anchor) (m n : ℕ) → IsPlace ops anchor m → IsPlace ops anchor n → m ≡ n
  one_place anchor m n (order, is, e) (other, is', f) =
      e ∙ ap (λ (o : List CharName). place ops o anchor) (one_order order other is is') ∙ sym f

-- a good set shows one text, in which each anchor has one place
pub shows_one_text : (ops : List Operation) → Good ops → ShowsOneText ops
shows_one_text ops good =
    let text = has_shown ops good in
    let one = has_order ops good in
    record {
      shown = text.0;
      is = text.1;
      only = λ other is'. one_shown ops good other text.0 is' text.1;
      place = place ops one.order;
      is_place = λ anchor. (one.order, one.is, refl);
      only_place =
          λ anchor n is'. one_place ops good anchor n (place ops one.order anchor) is'
          (one.order, one.is, refl);
    }
