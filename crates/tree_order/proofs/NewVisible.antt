-- What one Insert more does to what is visible and to looks: the old characters keep theirs, and the new ones
-- are visible, in the looks of the Insert.
use Rattle.std.proofs.Common.{◌≡◌, inl, inr, Bool, true, false, List, [], ◌∷◌, ◌++◌, refl, sym, ap, subst}
use Rattle.std.proofs.Common.{◌∙◌, ◌&&◌, ◌||◌, Contains}
use Rattle.std.specs.List.{list_any}
use Rattle.std.specs.Prelude.{not}
use Rattle.std.proofs.lemmas.List.Elements.{Contains-push_cases}
use Rattle.looks.specs.Key.{is_below}
use Rattle.looks.specs.Sel.{Selection}
use Rattle.looks.specs.declared.looks.Looks.{Looks}
use Rattle.char_files.specs.CharName.{CharName}
use Rattle.char_files.specs.declared.name.Anchor.{Anchor}
use Rattle.operations.specs.Operation.{Operation, OpKind, insert, delete, restore, change_looks, Inserts, key_of}
use Rattle.operations.specs.Operation.{Mentions, MentionsBy}
use Rattle.tree_order.specs.Tree.{IsChar}
use Rattle.tree_order.specs.Insertion.{IsOneMore, IsInsertAt, HasCauseBy}
use Rattle.tree_order.specs.Looks.{HasLooks, IsLastToSet, ChangesBy, Sets, looks_by}
use Rattle.tree_order.specs.Shown.{SwitchesBy, deletes_by, restores_by, hides, is_visible}
use Rattle.tree_order.proofs.LastLemmas.{irreflexive}
use Rattle.tree_order.proofs.OneMore.{held, within, not_both}
use Rattle.tree_order.proofs.ShownLemmas.{any_agree}
use Rattle.tree_order.proofs.Visibility.{untouched}

-- an Insert neither deletes nor restores, and changes no looks

insert_deletes_none : (kind : OpKind) (cause : Anchor) → HasCauseBy kind cause → (c : CharName)
    → deletes_by kind c ≡ false
insert_deletes_none (insert above at looks bytes) cause is c = refl
insert_deletes_none kind cause is c = absurd is

insert_restores_none : (kind : OpKind) (cause : Anchor) → HasCauseBy kind cause → (c : CharName)
    → restores_by kind c ≡ false
insert_restores_none (insert above at looks bytes) cause is c = refl
insert_restores_none kind cause is c = absurd is

insert_changes_none : (kind : OpKind) (cause : Anchor) → HasCauseBy kind cause → (selects : Selection → Bool)
    → (c : CharName) → ChangesBy kind selects c → ⊥
insert_changes_none (insert above at looks bytes) cause is selects c h = h
insert_changes_none kind cause is selects c h = is

-- what hides a character or shows it again, or changes its looks, mentions it

switches_mention : (kind : OpKind) (c : CharName) → SwitchesBy kind c → MentionsBy kind c
switches_mention (delete names) c h = h
switches_mention (restore names) c h = h
switches_mention kind c h = absurd h

changes_mention : (kind : OpKind) (selects : Selection → Bool) (c : CharName) → ChangesBy kind selects c
    → MentionsBy kind c
changes_mention (change_looks sel looks names) selects c h = h.1
changes_mention kind selects c h = absurd h

-- a test that the last one doesn't pass
any_but_last : (p : Operation → Bool) (ops : List Operation) (i : Operation) → p i ≡ false
    → list_any p (ops ++ i ∷ []) ≡ list_any p ops
any_but_last p [] i none = rw none
any_but_last p (op ∷ ops) i none = ap (λ (b : Bool). p op || b) (any_but_last p ops i none)

module _ (ops : List Operation) (i : Operation) (one : IsOneMore ops i) where
  -- no old operation mentions a new character
  not_mentioned : (op : Operation) (c : CharName) → Contains ops op → Mentions op c → Inserts i c → ⊥
  not_mentioned op c held_op mentions inserts =
      let (j, held_j, inserts_j) = one.good.mentions op c held_op mentions in
      not_both ops i one c (j, record { held = held_j; inserts = inserts_j }) inserts

  -- whatever hides a character does so still
  hides_as_before : (cause : Anchor) → IsInsertAt i cause → (c : CharName) (op : Operation)
      → hides (ops ++ i ∷ []) c op ≡ hides ops c op
  hides_as_before cause at c op =
      ap (λ (b : Bool). deletes_by op.kind c && not b)
      (any_but_last (λ r. restores_by r.kind c && is_below (key_of op) (key_of r)) ops i
      (ap (λ (b : Bool). b && is_below (key_of op) (key_of i)) (insert_restores_none i.kind cause at c)))

  -- so what is visible stays so
  pub visible_as_before : (cause : Anchor) → IsInsertAt i cause → (c : CharName)
      → is_visible (ops ++ i ∷ []) c ≡ is_visible ops c
  visible_as_before cause at c =
      let all : List Operation = ops ++ i ∷ [] in
      let last : hides ops c i ≡ false =
      ap (λ (b : Bool). b && not (list_any (λ r. restores_by r.kind c && is_below (key_of i) (key_of r)) ops))
      (insert_deletes_none i.kind cause at c) in
      ap not (any_agree (hides all c) (hides ops c) (hides_as_before cause at c) all
      ∙ any_but_last (hides ops c) ops i last)

  -- and the new characters are
  pub new_is_visible : (c : CharName) → Inserts i c → is_visible ops c ≡ true
  new_is_visible c inserts =
      untouched ops c (λ op held_op h. not_mentioned op c held_op (switches_mention op.kind c h) inserts)

  -- the Insert sets no attribute of an old character
  sets_none : (cause : Anchor) → IsInsertAt i cause → (selects : Selection → Bool) (c : CharName)
      → IsChar ops c → Sets i selects c → ⊥
  sets_none cause at selects c is (inl inserts) = not_both ops i one c is inserts
  sets_none cause at selects c is (inr changes) = insert_changes_none i.kind cause at selects c changes

  last_as_before : (cause : Anchor) → IsInsertAt i cause → (selects : Selection → Bool) (c : CharName)
      → IsChar ops c → (op : Operation) → IsLastToSet ops selects c op
      → IsLastToSet (ops ++ i ∷ []) selects c op
  last_as_before cause at selects c is op was = record {
    held = within ops i one op was.held;
    sets = was.sets;
    greatest = λ other h s. elim (Contains-push_cases ops i other h) [
      | inl old ↦ was.greatest other old s
      | inr e ↦
          absurd (sets_none cause at selects c is (subst (λ (o : Operation). Sets o selects c) (sym e) s))
    ];
  }

  pub looks_as_before : (cause : Anchor) → IsInsertAt i cause → (c : CharName) → IsChar ops c
      → (looks : Looks) → HasLooks ops c looks → HasLooks (ops ++ i ∷ []) c looks
  looks_as_before cause at c is looks has = record {
    font = (has.font.0, last_as_before cause at _ c is has.font.0 has.font.1, has.font.2);
    colour = (has.colour.0, last_as_before cause at _ c is has.colour.0 has.colour.1, has.colour.2);
    offset = (has.offset.0, last_as_before cause at _ c is has.offset.0 has.offset.1, has.offset.2);
  }

  -- nothing else sets one of a new character
  new_last : (selects : Selection → Bool) (c : CharName) → Inserts i c
      → IsLastToSet (ops ++ i ∷ []) selects c i
  new_last selects c inserts = record {
    held = held ops i one;
    sets = inl inserts;
    greatest = λ other h s. elim (Contains-push_cases ops i other h) [
      | inl old ↦ elim s [
        | inl also ↦ absurd (not_both ops i one c (other, record { held = old; inserts = also }) inserts)
        | inr changes ↦
            absurd (not_mentioned other c old (changes_mention other.kind selects c changes) inserts)
      ]
      | inr e ↦ subst (λ (o : Operation). is_below (key_of i) (key_of o) ≡ false) e (irreflexive (key_of i))
    ];
  }

  pub new_looks : (c : CharName) → Inserts i c → HasLooks (ops ++ i ∷ []) c (looks_by i.kind)
  new_looks c inserts = record {
    font = (i, new_last _ c inserts, refl);
    colour = (i, new_last _ c inserts, refl);
    offset = (i, new_last _ c inserts, refl);
  }
