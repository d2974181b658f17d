-- An own Delete, Restore or ChangeLooks has the greatest key of all, and so decides for those that it names.
use Rattle.std.proofs.Common.{◌≡◌, ◌↔◌, ◌<◌, inl, inr, Bool, true, false, cond, not, ◌&&◌}
use Rattle.std.proofs.Common.{List, [], ◌∷◌, ◌++◌, map, refl, sym, ap, subst, ◌∙◌, Contains, arith}
use Rattle.std.specs.Prelude.{◌||◌, if◌then◌else◌}
use Rattle.std.specs.List.{list_any, filter}
use Rattle.std.proofs.lemmas.Bool.{false≢true}
use Rattle.std.proofs.lemmas.Bool.Decides.{nat_tests}
use Rattle.std.proofs.lemmas.List.Elements.{All-contains, All-map, All-weaker, Contains-push}
use Rattle.std.proofs.lemmas.List.Elements.{Contains-push_cases, filter_agree}
use Rattle.std.proofs.lemmas.List.Folds.{Any-from_list_any, list_any-from_Any}
use Rattle.looks.specs.Key.{is_below}
use Rattle.looks.specs.Sel.{Selection}
use Rattle.looks.specs.declared.key.Key.{Key}
use Rattle.looks.specs.declared.looks.Looks.{Looks}
use Rattle.char_files.specs.CharName.{CharName}
use Rattle.char_files.specs.declared.character.Char.{Char}
use Rattle.operations.specs.NameSet.{Range, IsAmong, range_contains}
use Rattle.operations.specs.Operation.{Operation, delete, restore, change_looks, key_of}
use Rattle.tree_order.specs.Last.{IsLast}
use Rattle.tree_order.specs.Looks.{HasLooks, IsLastToSet, Sets, looks_by}
use Rattle.tree_order.specs.Order.{IsOrder}
use Rattle.tree_order.specs.RegisterLaws.{InsertsNone}
use Rattle.tree_order.specs.Shown.{AreChars, SwitchesBy, deletes_by, hides, is_visible, restores_by}
use Rattle.tree_order.specs.Tree.{HasByte}
use Rattle.texts.specs.Edit.{own_op}
use Rattle.texts.specs.Laws.{IsOwnEdit}
use Rattle.texts.specs.Order.{dressed, is_named, with_looks}
use Rattle.texts.specs.Text.{AreCharNames, IsText}
use Rattle.texts.specs.TextState.{TextState, shown_of}
use Rattle.tree_order.proofs.RegisterLists.{keeps_the_order}
use Rattle.tree_order.proofs.Visibility.{last_switch_decides}
use Rattle.tree_order.proofs.ShownLemmas.{range_contains_is}
use Rattle.texts.proofs.OwnStep.{byte_stays, last_stays, looks_stay, own_step, IsOwnStep}

pub named_is : (names : List Range) (c : Char) → (is_named names c ≡ true) ↔ IsAmong names c.name
named_is names c = (
  λ e. let (k, r, lt, at, h) = Any-from_list_any (λ r. range_contains r c.name) names e in
      (k, r, lt, at, (range_contains_is r c.name).0 h),
  λ (k, r, lt, at, is).
      list_any-from_Any (λ r. range_contains r c.name) names (k, r, lt, at, (range_contains_is r c.name).1 is),
)

-- a greater stamp makes a greater key
not_above : (a b : Key) → b.stamp < a.stamp → is_below a b ≡ false
not_above a b less = grind (arith, nat_tests)

not_above_itself : (a : Key) → is_below a a ≡ false
not_above_itself a = grind (arith, nat_tests)

-- a test that the last one fails tells of the others
any_pushed : (p : Operation → Bool) (ops : List Operation) (op : Operation) → p op ≡ false
    → list_any p (ops ++ op ∷ []) ≡ list_any p ops
any_pushed p [] op fails = rw fails refl
any_pushed p (o ∷ ops) op fails = ap (λ (b : Bool). p o || b) (any_pushed p ops op fails)

any_agrees : (p q : Operation → Bool) → ((op : Operation) → p op ≡ q op) → (ops : List Operation)
    → list_any p ops ≡ list_any q ops
any_agrees p q same [] = refl
any_agrees p q same (op ∷ ops) = rw (same op, any_agrees p q same ops) refl

-- what doesn't switch a character leaves it as visible as it was
visible_stays : (ops : List Operation) (op : Operation) (c : CharName) → deletes_by op.kind c ≡ false
    → restores_by op.kind c ≡ false → is_visible (ops ++ op ∷ []) c ≡ is_visible ops c
visible_stays ops op c no_delete no_restore =
    let over : Operation → Operation → Bool = λ o r. restores_by r.kind c && is_below (key_of o) (key_of r) in
    let over_fails : (o : Operation) → over o op ≡ false =
    λ o. ap (λ (b : Bool). b && is_below (key_of o) (key_of op)) no_restore in
    let as_before : (o : Operation) → hides (ops ++ op ∷ []) c o ≡ hides ops c o =
    λ o. ap (λ (b : Bool). deletes_by o.kind c && not b) (any_pushed (over o) ops op (over_fails o)) in
    let fails : hides ops c op ≡ false =
    ap (λ (b : Bool). b && not (list_any (over op) ops)) no_delete in
    ap not (any_agrees (hides (ops ++ op ∷ []) c) (hides ops c) as_before (ops ++ op ∷ [])
    ∙ any_pushed (hides ops c) ops op fails)

-- one who passes both tests passes the one, and then the other
one_passes_both : (p : Char → Bool) (a b : Bool) (c : Char) (xs ys : List Char) → p c ≡ a → xs ≡ filter p ys
    → cond (a && b) (c ∷ xs) xs ≡ filter p (cond b (c ∷ ys) ys)
one_passes_both p true true c xs ys is e = rw is (ap (λ (zs : List Char). c ∷ zs) e)
one_passes_both p false true c xs ys is e = rw is e
one_passes_both p true false c xs ys is e = e
one_passes_both p false false c xs ys is e = e

pub filter_both : (p q : Char → Bool) (xs : List Char) → filter (λ c. p c && q c) xs ≡ filter p (filter q xs)
filter_both p q [] = refl
filter_both p q (c ∷ xs) =
    one_passes_both p (p c) (q c) c (filter (λ (x : Char). p x && q x) xs) (filter q xs) refl
    (filter_both p q xs)

-- to change what passes is to pass what was changed, where both pass alike
one_changed : (f : Char → Char) (b : Bool) (c : Char) (xs ys : List Char) → xs ≡ map f ys
    → cond b (f c ∷ xs) xs ≡ map f (cond b (c ∷ ys) ys)
one_changed f true c xs ys e = ap (λ (zs : List Char). f c ∷ zs) e
one_changed f false c xs ys e = e

filter_changed : (f : Char → Char) (p q : Char → Bool) → ((c : Char) → p (f c) ≡ q c) → (xs : List Char)
    → filter p (map f xs) ≡ map f (filter q xs)
filter_changed f p q same [] = refl
filter_changed f p q same (c ∷ xs) =
    ap (λ (b : Bool). cond b (f c ∷ filter p (map f xs)) (filter p (map f xs))) (same c)
    ∙ one_changed f (q c) c (filter p (map f xs)) (filter q xs) (filter_changed f p q same xs)

-- what the operation sets it decides, as the latest of all
module _ (t : TextState) (op : Operation) (step : IsOwnStep t op) where
  none_above : (other : Operation) → Contains (t.operations ++ op ∷ []) other
      → is_below (key_of op) (key_of other) ≡ false
  none_above other held = elim (Contains-push_cases t.operations op other held) [
    | inl old ↦
        not_above (key_of op) (key_of other)
        (All-contains (λ (o : Operation). o.stamp < op.stamp) t.operations other step.latest old)
    | inr e ↦
        subst (λ (o : Operation). is_below (key_of op) (key_of o) ≡ false) e (not_above_itself (key_of op))
  ]

  is_last : (SetsIt : Operation → Type 0) → SetsIt op → IsLast SetsIt (t.operations ++ op ∷ []) op
  is_last SetsIt sets = record {
    held = Contains-push t.operations op;
    sets = sets;
    greatest = λ other held set. none_above other held;
  }

-- one that hides or shows leaves all characters where they are, with their bytes and looks
switched_chars : (t : TextState) (op : Operation) → IsText t → IsOwnStep t op → InsertsNone op
    → ((c : CharName) (selects : Selection → Bool) → Sets op selects c → ⊥)
    → AreChars (t.operations ++ op ∷ []) t.order
switched_chars t op is step none sets_none = record {
  order = keeps_the_order t.operations op step.one.larger none (map (λ c. c.name) t.order) is.chars.order;
  bytes = All-weaker (λ c. HasByte t.operations c.name c.byte)
      (λ c. HasByte (t.operations ++ op ∷ []) c.name c.byte)
      (λ (c : Char) h. byte_stays t.operations op c.name c.byte h) t.order is.chars.bytes;
  looks = All-weaker (λ c. HasLooks t.operations c.name c.looks)
      (λ c. HasLooks (t.operations ++ op ∷ []) c.name c.looks)
      (λ (c : Char) h. looks_stay t.operations op c.name (sets_none c.name) c.looks h) t.order is.chars.looks;
}

-- a Delete
module _ (t : TextState) (names : List Range) (is : IsText t) (old : AreCharNames t.operations names) where
  deletes : IsOwnStep t (own_op t (delete names))
  deletes = own_step t (delete names) is tt old

  hidden : (c : Char) (b : Bool) → is_named names c ≡ b
      → is_visible (t.operations ++ own_op t (delete names) ∷ []) c.name
      ≡ (not b && is_visible t.operations c.name)
  hidden c true e =
      let op : Operation = own_op t (delete names) in
      (last_switch_decides (t.operations ++ op ∷ []) deletes.one.larger c.name).last op
      (is_last t op deletes (λ o. SwitchesBy o.kind c.name) ((named_is names c).0 e))
  hidden c false e = visible_stays t.operations (own_op t (delete names)) c.name e refl

  pub delete_hides : IsOwnEdit t (delete names) (filter (λ c. not (is_named names c)) (shown_of t))
  delete_hides =
      let op : Operation = own_op t (delete names) in
      record {
        new = deletes.new;
        ready = deletes.ready;
        text = deletes.text (switched_chars t op is deletes (λ c h. h) (λ c selects h. elim h [
          | inl inserts ↦ inserts
          | inr changes ↦ changes
        ]));
        shown =
            filter_agree (λ (c : Char). is_visible (t.operations ++ op ∷ []) c.name)
            (λ (c : Char). not (is_named names c) && is_visible t.operations c.name)
            (λ c. hidden c (is_named names c) refl) t.order
            ∙ filter_both (λ (c : Char). not (is_named names c))
            (λ (c : Char). is_visible t.operations c.name) t.order;
      }

-- a Restore
module _ (t : TextState) (names : List Range) (is : IsText t) (old : AreCharNames t.operations names) where
  restores : IsOwnStep t (own_op t (restore names))
  restores = own_step t (restore names) is tt old

  visible : (c : Char) (b : Bool) → is_named names c ≡ b
      → is_visible (t.operations ++ own_op t (restore names) ∷ []) c.name
      ≡ (b || is_visible t.operations c.name)
  visible c true e =
      let op : Operation = own_op t (restore names) in
      (last_switch_decides (t.operations ++ op ∷ []) restores.one.larger c.name).last op
      (is_last t op restores (λ o. SwitchesBy o.kind c.name) ((named_is names c).0 e))
  visible c false e = visible_stays t.operations (own_op t (restore names)) c.name refl e

  pub restore_shows : IsOwnEdit t (restore names)
      (filter (λ c. is_named names c || is_visible t.operations c.name) t.order)
  restore_shows =
      let op : Operation = own_op t (restore names) in
      record {
        new = restores.new;
        ready = restores.ready;
        text = restores.text (switched_chars t op is restores (λ c h. h) (λ c selects h. elim h [
          | inl inserts ↦ inserts
          | inr changes ↦ changes
        ]));
        shown = filter_agree (λ (c : Char). is_visible (t.operations ++ op ∷ []) c.name)
            (λ (c : Char). is_named names c || is_visible t.operations c.name)
            (λ c. visible c (is_named names c) refl) t.order;
      }

-- a ChangeLooks
module _ (t : TextState) (sel : Selection) (looks : Looks)
    (names : List Range) (is : IsText t) (old : AreCharNames t.operations names) where
  abbrev op : Operation
  op = own_op t (change_looks sel looks names)

  abbrev with_op : List Operation
  with_op = t.operations ++ op ∷ []

  abbrev relooked : Char → Char
  relooked = with_looks sel looks names

  abbrev relooked_if : Bool → Char → Char
  relooked_if b c = if b then dressed sel looks c else c

  changes : IsOwnStep t op
  changes = own_step t (change_looks sel looks names) is tt old

  -- names and bytes stay
  name_stays : (c : Char) (b : Bool) → (relooked_if b c).name ≡ c.name
  name_stays c true = refl
  name_stays c false = refl

  names_stay : (order : List Char) → map (λ c. c.name) (map relooked order) ≡ map (λ c. c.name) order
  names_stay [] = refl
  names_stay (c ∷ order) = rw (name_stays c (is_named names c), names_stay order) refl

  has_byte : (c : Char) (b : Bool) → HasByte t.operations c.name c.byte
      → HasByte with_op (relooked_if b c).name (relooked_if b c).byte
  has_byte c true h = byte_stays t.operations op c.name c.byte h
  has_byte c false h = byte_stays t.operations op c.name c.byte h

  -- an attribute that is selected is that of the operation, and another one stays
  attribute : {V : Type 0} (selects : Selection → Bool) (of : Looks → V) (c : Char) (b : Bool) → selects sel ≡ b
      → IsAmong names c.name
      → (o : Operation) × IsLastToSet t.operations selects c.name o × (of c.looks ≡ of (looks_by o.kind))
      → (o : Operation) × IsLastToSet with_op selects c.name o
      × ((if b then of looks else of c.looks) ≡ of (looks_by o.kind))
  attribute selects of c true e among was =
      (op, is_last t op changes (λ o. Sets o selects c.name) (inr (e, among)), refl)
  attribute selects of c false e among (o, last, value) = (
    o,
    last_stays t.operations op c.name selects (λ sets. elim sets [
      | inl inserts ↦ inserts
      | inr changes ↦ false≢true (sym e ∙ changes.0)
    ]) o last,
    value,
  )

  has_looks : (c : Char) (b : Bool) → is_named names c ≡ b → HasLooks t.operations c.name c.looks
      → HasLooks with_op (relooked_if b c).name (relooked_if b c).looks
  has_looks c true e has =
      let among = (named_is names c).0 e in
      record {
        font = attribute (λ s. s.font) (λ l. l.font) c sel.font refl among has.font;
        colour = attribute (λ s. s.colour) (λ l. l.colour) c sel.colour refl among has.colour;
        offset = attribute (λ s. s.offset) (λ l. l.offset) c sel.offset refl among has.offset;
      }
  has_looks c false e has =
      looks_stay t.operations op c.name (λ selects sets. elim sets [
        | inl inserts ↦ inserts
        | inr changes ↦ false≢true (sym e ∙ (named_is names c).1 changes.1)
      ]) c.looks has

  chars : AreChars with_op (map relooked t.order)
  chars = record {
    order = subst (IsOrder with_op) (sym (names_stay t.order))
        (keeps_the_order t.operations op changes.one.larger (λ c h. h) (map (λ c. c.name) t.order) is.chars.order);
    bytes = All-map (λ c. HasByte with_op c.name c.byte) relooked t.order
        (All-weaker (λ c. HasByte t.operations c.name c.byte)
        (λ c. HasByte with_op (relooked c).name (relooked c).byte)
        (λ c h. has_byte c (is_named names c) h) t.order is.chars.bytes);
    looks = All-map (λ c. HasLooks with_op c.name c.looks) relooked t.order
        (All-weaker (λ c. HasLooks t.operations c.name c.looks)
        (λ c. HasLooks with_op (relooked c).name (relooked c).looks)
        (λ c h. has_looks c (is_named names c) refl h) t.order is.chars.looks);
  }

  pub looks_are_given : IsOwnEdit t (change_looks sel looks names) (map relooked (shown_of t))
  looks_are_given = record {
    new = changes.new;
    ready = changes.ready;
    text = changes.text chars;
    shown = filter_changed relooked (λ (c : Char). is_visible with_op c.name)
        (λ (c : Char). is_visible t.operations c.name)
        (λ c. ap (is_visible with_op) (name_stays c (is_named names c))
        ∙ visible_stays t.operations op c.name refl refl) t.order;
  }
