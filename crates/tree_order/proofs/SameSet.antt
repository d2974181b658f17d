-- Lists of the same operations say the same.
use Rattle.std.proofs.Common.{◌≡◌, ℕ, zero, suc, ◌<◌, ◌⊎◌, inl, inr, Bool, true, eqb, ◌&&◌, List, [], ◌∷◌}
use Rattle.std.proofs.Common.{Contains, refl, sym, ap, subst, ◌∙◌, arith}
use Rattle.std.specs.List.{list_any}
use Rattle.std.specs.Prelude.{not}
use Rattle.std.proofs.lemmas.Bool.{and_parts, cases_Bool, cond-false, eqb-true}
use Rattle.std.proofs.lemmas.Bool.Decides.{same_from_decides}
use Rattle.std.proofs.lemmas.List.Elements.{filter_agree}
use Rattle.std.proofs.lemmas.List.Folds.{Any-from_list_any, list_any_at}
use Rattle.looks.specs.Key.{is_below}
use Rattle.looks.specs.Sel.{Selection}
use Rattle.looks.specs.declared.looks.Looks.{Looks}
use Rattle.char_files.specs.CharName.{CharName}
use Rattle.char_files.specs.declared.character.Char.{Char}
use Rattle.char_files.specs.declared.name.Anchor.{Anchor}
use Rattle.char_files.specs.declared.name.Anchor.TheVariants.{At}
use Rattle.operations.specs.Operation.{Operation, appended_len, Begins, key_of}
use Rattle.tree_order.specs.Good.{Good, appended_len_at, file_before}
use Rattle.tree_order.specs.Tree.{IsChar, IsInsertOf, IsParent, IsProperPrefix, LeadsDown, HasByte}
use Rattle.tree_order.specs.Order.{Before, HasGreaterKey, TurnsBefore, IsOrder}
use Rattle.tree_order.specs.Looks.{IsLastToSet, HasLooks}
use Rattle.tree_order.specs.Shown.{IsShown, deletes_by, restores_by, hides, is_visible}
use Rattle.tree_order.specs.Laws.{AreSameSet, SaysTheSame}
use Rattle.tree_order.proofs.Files.{appended_by}
use Rattle.tree_order.proofs.ShownLemmas.{any_agree}
use Rattle.tree_order.proofs.Sorted.{Contains-head, Contains-tail}

-- each operation of one list is in the other
abbrev pub Within : List Operation → List Operation → Type 0
Within a b = (op : Operation) → Contains a op → Contains b op

-- what holds by operations that are held holds in a list that has more of them
pub insert_of : (a b : List Operation) → Within a b → (c : CharName) (i : Operation) → IsInsertOf a c i
    → IsInsertOf b c i
insert_of a b to c i is = record { held = to i is.held; inserts = is.inserts }

pub char : (a b : List Operation) → Within a b → (c : CharName) → IsChar a c → IsChar b c
char a b to c (i, is) = (i, insert_of a b to c i is)

pub parent : (a b : List Operation) → Within a b → (c : CharName) (x : Anchor) → IsParent a c x
    → IsParent b c x
parent a b to c x (i, is, e) = (i, insert_of a b to c i is, e)

pub leads : (a b : List Operation) → Within a b → (x y : Anchor) (path : List CharName) → LeadsDown a x path y
    → LeadsDown b x path y
leads a b to x y [] e = e
leads a b to x y (c ∷ path) (hung, rest) = (parent a b to c x hung, leads a b to (At c) y path rest)

pub greater_key : (a b : List Operation) → Within a b → (c d : CharName) → HasGreaterKey a c d
    → HasGreaterKey b c d
greater_key a b to c d (i, j, p, q, more) = (i, j, insert_of a b to c i p, insert_of a b to d j q, more)

earlier : (a b : List Operation) → Within a b → (p q : List CharName) → IsProperPrefix p q ⊎ TurnsBefore a p q
    → IsProperPrefix p q ⊎ TurnsBefore b p q
earlier a b to p q (inl prefix) = inl prefix
earlier a b to p q (inr (common, c, d, p', q', e, f, apart, more)) =
    inr (common, c, d, p', q', e, f, apart, greater_key a b to c d more)

pub before : (a b : List Operation) → Within a b → (c d : CharName) → Before a c d → Before b c d
before a b to c d (p, q, up, uq, turn) =
    (p, q, leads a b to _ (At c) p up, leads a b to _ (At d) q uq, earlier a b to p q turn)

byte : (a b : List Operation) → Within a b → (c : CharName) (n : ℕ) → HasByte a c n → HasByte b c n
byte a b to c n (i, is, e) = (i, insert_of a b to c i is, e)

-- the order of one list is that of the other
order : (a b : List Operation) → Within a b → Within b a → (names : List CharName) → IsOrder a names
    → IsOrder b names
order a b to back names is = record {
  each = λ c. (λ h. char a b to c ((is.each c).0 h), λ h. (is.each c).1 (char b a back c h));
  once = is.once;
  before = λ c d. (λ h. before a b to c d ((is.before c d).0 h), λ h. (is.before c d).1 (before b a back c d h));
}

-- and so are the looks
last : (a b : List Operation) → Within a b → Within b a
    → (selects : Selection → Bool) (c : CharName) (op : Operation) → IsLastToSet a selects c op
    → IsLastToSet b selects c op
last a b to back selects c op is = record {
  held = to op is.held;
  sets = is.sets;
  greatest =
      λ other held. is.greatest other (back other held);
}

looks : (a b : List Operation) → Within a b → Within b a → (c : CharName) (l : Looks) → HasLooks a c l
    → HasLooks b c l
looks a b to back c l has = record {
  font = (has.font.0, last a b to back _ c has.font.0 has.font.1, has.font.2);
  colour = (has.colour.0, last a b to back _ c has.colour.0 has.colour.1, has.colour.2);
  offset = (has.offset.0, last a b to back _ c has.offset.0 has.offset.1, has.offset.2);
}

-- a test that one operation passes is passed in both
passed : (a b : List Operation) → Within a b → (p : Operation → Bool) → list_any p a ≡ true
    → list_any p b ≡ true
passed a b to p e =
    let (k, op, lt, at, h) = Any-from_list_any p a e in
    let (j, below, is) = to op (k, lt, at) in
    list_any_at p b j op below (subst (λ (o : Operation). p o ≡ true) (sym is) h)

visible : (a b : List Operation) → Within a b → Within b a → (c : CharName) → is_visible a c ≡ is_visible b c
visible a b to back c =
    let same : (p : Operation → Bool) → list_any p a ≡ list_any p b = λ p.
    same_from_decides (list_any p a) (list_any p b) (passed a b to p, passed b a back p) (λ e. e, λ e. e) in
    ap not (same (hides a c) ∙ any_agree (hides a c) (hides b c) (λ op.
    ap (λ (x : Bool). deletes_by op.kind c && not x)
    (same (λ r. restores_by r.kind c && is_below (key_of op) (key_of r)))) b)

shown : (a b : List Operation) → Within a b → Within b a → (chars : List Char) → IsShown a chars
    → IsShown b chars
shown a b to back chars is = record {
  order = is.order;
  in_order = order a b to back is.order is.in_order;
  visible = is.visible ∙ filter_agree (is_visible a) (is_visible b) (visible a b to back) is.order;
  bytes = λ k d lt. byte a b to _ _ (is.bytes k d lt);
  looks = λ k d lt. looks a b to back _ _ (is.looks k d lt);
}

-- the operation of this identity
record IsOf (ops : List Operation) (site seq : ℕ) (op : Operation) : Type 0 where
  held : Contains ops op
  on : op.site ≡ site
  at : op.seq ≡ seq

-- an identity has an operation, or nothing is appended_len_at under it
cases_appended : (ops : List Operation) (site seq : ℕ) → ((op : Operation) × IsOf ops site seq op)
    ⊎ (appended_len_at ops site seq ≡ 0)
cases_appended [] site seq = inr refl
cases_appended (o ∷ ops) site seq =
    elim (cases_Bool (eqb o.site site && eqb o.seq seq)) [
      | inl e ↦ let same = and_parts (eqb o.site site) (eqb o.seq seq) e in
          inl (o, record { held = Contains-head o ops; on = eqb-true _ _ same.0; at = eqb-true _ _ same.1 })
      | inr e ↦ elim (cases_appended ops site seq) [
        | inl found ↦ let (op, is) = found in
            inl (op, record { held = Contains-tail o ops op is.held; on = is.on; at = is.at })
        | inr none ↦ inr (cond-false _ _ _ e ∙ none)
      ]
    ]

-- no two operations differ under one identity
abbrev AreIdentified : List Operation → Type 0
AreIdentified ops = (x y : Operation) → Contains ops x → Contains ops y → x.site ≡ y.site → x.seq ≡ y.seq
    → x ≡ y

-- the operation of an identity tells what is appended_len_at under it, if it is the only one
appended_of : (ops : List Operation) → AreIdentified ops → (site seq : ℕ) (op : Operation)
    → IsOf ops site seq op → appended_len_at ops site seq ≡ appended_len op.kind
appended_of ops only site seq op is =
    ap (λ (s : ℕ). appended_len_at ops s seq) (sym is.on) ∙ ap (appended_len_at ops op.site) (sym is.at)
    ∙ appended_by ops op (λ other held e f. only other op held is.held e f) is.held

identified : (a b : List Operation) → Within b a → AreIdentified a → AreIdentified b
identified a b back only x y held other = only x y (back x held) (back y other)

-- under an identity both lists append the same
same_appended : (a b : List Operation) → Within a b → Within b a → AreIdentified a → (site seq : ℕ)
    → appended_len_at a site seq ≡ appended_len_at b site seq
same_appended a b to back only site seq =
    let only_b = identified a b back only in
    elim (cases_appended a site seq) [
      | inl found ↦
          let (op, is) = found in
          appended_of a only site seq op is ∙ sym (appended_of b only_b site seq op (record {
            held =
                to op is.held;
            on = is.on;
            at = is.at;
          }))
      | inr none ↦ elim (cases_appended b site seq) [
        | inl found ↦
            let (op, is) = found in
            appended_of a only site seq op (record { held = back op is.held; on = is.on; at = is.at })
            ∙ sym (appended_of b only_b site seq op is)
        | inr neither ↦ none ∙ sym neither
      ]
    ]

-- so that their files are equally long
same_file : (a b : List Operation) → Within a b → Within b a → AreIdentified a → (site seq : ℕ)
    → file_before a site seq ≡ file_before b site seq
same_file a b to back only site zero = refl
same_file a b to back only site (suc seq) =
    let shorter : file_before a site seq ≡ file_before b site seq = same_file a b to back only site seq in
    let next = same_appended a b to back only site seq in
    omega (arith, shorter, next)

good : (a b : List Operation) → Within a b → Within b a → Good a → Good b
good a b to back was =
    let file = same_file a b to back was.identities in
    record {
      identities = identified a b back was.identities;
      predecessors = λ op held later. let (p, other, is) = was.predecessors op (back op held) later in
          (p, to p other, is);
      mentions = λ op name held m. let (i, other, is) = was.mentions op name (back op held) m in
          (i, to i other, is);
      begins = λ op held. subst (Begins op.kind) (file op.site op.seq) (was.begins op (back op held));
      own = λ op name held m on. subst (λ (n : ℕ). name.off < n) (file op.site op.seq)
          (was.own op name (back op held) m on);
      stamps = λ op p held other. was.stamps op p (back op held) (back p other);
    }

-- lists of the same operations say the same
pub says_the_same : (a b : List Operation) → AreSameSet a b → Good a → SaysTheSame a b
says_the_same a b same was =
    let to : Within a b = λ op. (same op).0 in
    let back : Within b a = λ op. (same op).1 in
    record {
      good = good a b to back was;
      order = order a b to back;
      shown = shown a b to back;
      bytes = byte a b to;
      looks = looks a b to back;
    }
