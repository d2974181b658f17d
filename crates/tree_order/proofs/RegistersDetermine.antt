-- What registers tell: whether a character is visible, and its looks; and that a character has one of each.
use Rattle.std.proofs.Common.{◌≡◌, ℕ, ℤ, ◌<◌, ◌⊎◌, inl, inr, Bool, true, false, not, List, [], ◌∷◌, ◌++◌}
use Rattle.std.proofs.Common.{refl, sym, ap, subst, ◌∙◌, Contains, arith}
use Rattle.std.proofs.lemmas.Bool.{false≢true}
use Rattle.std.proofs.lemmas.Bool.Decides.{nat_tests}
use Rattle.std.proofs.lemmas.List.Elements.{Contains-push, Contains-push_cases}
use Rattle.looks.specs.Key.{is_below}
use Rattle.looks.specs.Sel.{Selection}
use Rattle.looks.specs.declared.key.Key.{Key}
use Rattle.looks.specs.declared.register.Register.{Register}
use Rattle.char_files.specs.CharName.{CharName}
use Rattle.operations.specs.NameSet.{IsAmong}
use Rattle.operations.specs.Operation.{Operation, OpKind, insert, delete, restore, change_looks, Inserts, key_of}
use Rattle.operations.specs.Operation.{InsertsBy, MentionsBy}
use Rattle.tree_order.specs.Good.{Good}
use Rattle.tree_order.specs.Last.{IsLast}
use Rattle.tree_order.specs.Tree.{IsChar, IsInsertOf}
use Rattle.tree_order.specs.Looks.{looks_by, ChangesBy, Sets, HasLooks}
use Rattle.tree_order.specs.Shown.{is_visible, SwitchesBy, is_delete}
use Rattle.tree_order.specs.Registers.{SetsHidden, IsRegister, Atom, HasRegisters}
use Rattle.tree_order.specs.RegisterLaws.{FollowRegisters, first_atom}
use Rattle.tree_order.proofs.LastLemmas.{irreflexive}
use Rattle.tree_order.proofs.OneText.{one_last}
use Rattle.tree_order.proofs.ShownLemmas.{among_is}
use Rattle.tree_order.proofs.SomeText.{inserts_or_not, so_or_not, has_last, last_of}
use Rattle.tree_order.proofs.Tree.{one_insert}
use Rattle.tree_order.proofs.Visibility.{untouched, decided}

-- what kinds tell

pub inserts_no_delete : (site : ℕ) (kind : OpKind) (c : CharName) → InsertsBy site kind c
    → is_delete kind ≡ false
inserts_no_delete site (insert cause at looks bytes) c h = refl
inserts_no_delete site (delete names) c h = absurd h
inserts_no_delete site (restore names) c h = absurd h
inserts_no_delete site (change_looks sel looks names) c h = absurd h

switch_mentions : (kind : OpKind) (c : CharName) → SwitchesBy kind c → MentionsBy kind c
switch_mentions (insert cause at looks bytes) c h = absurd h
switch_mentions (delete names) c h = h
switch_mentions (restore names) c h = h
switch_mentions (change_looks sel looks names) c h = absurd h

change_mentions : (kind : OpKind) (selects : Selection → Bool) (c : CharName) → ChangesBy kind selects c
    → MentionsBy kind c
change_mentions (insert cause at looks bytes) selects c h = absurd h
change_mentions (delete names) selects c h = absurd h
change_mentions (restore names) selects c h = absurd h
change_mentions (change_looks sel looks names) selects c h = h.1

switches_or_not : (kind : OpKind) (c : CharName) → SwitchesBy kind c ⊎ ¬ SwitchesBy kind c
switches_or_not (insert cause at looks bytes) c = inr (λ h. h)
switches_or_not (delete names) c = so_or_not _ (IsAmong names c) (among_is names c)
switches_or_not (restore names) c = so_or_not _ (IsAmong names c) (among_is names c)
switches_or_not (change_looks sel looks names) c = inr (λ h. h)

hidden_or_not : (op : Operation) (c : CharName) → SetsHidden op c ⊎ ¬ SetsHidden op c
hidden_or_not op c =
    elim (inserts_or_not op.site op.kind c) [
      | inl inserts ↦ inl (inl inserts)
      | inr out ↦ elim (switches_or_not op.kind c) [
        | inl switches ↦ inl (inr switches)
        | inr apart ↦ inr (λ h. elim h [ inl inserts ↦ out inserts | inr switches ↦ apart switches ])
      ]
    ]

below_from_stamp : (a b : Operation) → a.stamp < b.stamp → is_below (key_of a) (key_of b) ≡ true
below_from_stamp a b lt = grind (arith, nat_tests)

-- the registers of a good set tell what is shown
pub tell : (ops : List Operation) → Good ops → (k : Atom) → HasRegisters ops k → FollowRegisters ops k
tell ops good k has = record { visible = visible; looks = looks }
  where
    looks : HasLooks ops k.name (record {
      font = k.font.value;
      colour = k.colour.value;
      offset = k.offset.value;
    })
    looks = record {
      font = (has.font.last, has.font.is, has.font.value);
      colour = (has.colour.last, has.colour.is, has.colour.value);
      offset = (has.offset.last, has.offset.is, has.offset.value);
    }

    -- a Delete or a Restore of a character stands above its Insert
    none_above : Inserts has.hidden.last k.name → (op : Operation) → Contains ops op
        → ¬ SwitchesBy op.kind k.name
    none_above inserts op held switches =
        let mentions = switch_mentions op.kind k.name switches in
        let rises : has.hidden.last.stamp < op.stamp =
        good.stamps op has.hidden.last held has.hidden.is.held (inr (k.name, mentions, inserts)) in
        false≢true (sym (has.hidden.is.greatest op held (inr switches))
        ∙ below_from_stamp has.hidden.last op rises)

    visible : is_visible ops k.name ≡ not k.hidden.value
    visible = elim has.hidden.is.sets [
      | inl inserts ↦
          untouched ops k.name (none_above inserts)
          ∙ sym (ap not (has.hidden.value
          ∙ inserts_no_delete has.hidden.last.site has.hidden.last.kind k.name inserts))
      | inr switches ↦
          decided ops good k.name has.hidden.last (record {
            held = has.hidden.is.held;
            sets = switches;
            greatest = λ other held s. has.hidden.is.greatest other held (inr s);
          }) ∙ sym (ap not has.hidden.value)
    ]

-- the register of what was the last to set something
register_of : {V : Type 0} (Sets : Operation → Type 0) (gives : OpKind → V) (ops : List Operation)
    → (last : Operation) × IsLast Sets ops last → (r : Register V) × IsRegister Sets gives ops r
register_of Sets gives ops (last, is) = (
  record { key = key_of last; value = gives last.kind },
  record { last = last; is = is; key = refl; value = refl },
)

-- a character has registers
pub has_registers : (ops : List Operation) (c : CharName) → IsChar ops c
    → (k : Atom) × (k.name ≡ c) × HasRegisters ops k
has_registers ops c (i, is) =
    let (font, f) = register_of (λ o. Sets o (λ s. s.font) c) (λ kind. (looks_by kind).font) ops
    (has_last ops (λ s. s.font) c (i, is)) in
    let (colour, g) = register_of (λ o. Sets o (λ s. s.colour) c) (λ kind. (looks_by kind).colour) ops
    (has_last ops (λ s. s.colour) c (i, is)) in
    let (offset, h) = register_of (λ o. Sets o (λ s. s.offset) c) (λ kind. (looks_by kind).offset) ops
    (has_last ops (λ s. s.offset) c (i, is)) in
    let (hidden, v) = register_of (λ o. SetsHidden o c) is_delete ops
    (last_of (λ o. SetsHidden o c) (λ o. hidden_or_not o c) ops i is.held (inl is.inserts)) in (
      record { name = c; key = key_of i; font = font; colour = colour; offset = offset; hidden = hidden },
      refl,
      record { key = (i, is, refl); font = f; colour = g; offset = h; hidden = v },
    )

-- registers are their key and their value
same_register : {V : Type 0} (r s : Register V) → r.key ≡ s.key → r.value ≡ s.value → r ≡ s
same_register {V} r s key value =
    let made : Key → V → Register V = λ k v. record { key = k; value = v } in
    ap (λ (k : Key). made k r.value) key ∙ ap (λ (v : V). made s.key v) value

module _ (ops : List Operation) (good : Good ops) where
  one_register : {V : Type 0} (Sets : Operation → Type 0) (gives : OpKind → V) (r s : Register V)
      → IsRegister Sets gives ops r → IsRegister Sets gives ops s → r ≡ s
  one_register Sets gives r s p q =
      let one : p.last ≡ q.last = one_last ops good Sets p.last q.last p.is q.is in
      same_register r s (p.key ∙ ap key_of one ∙ sym q.key)
      (p.value ∙ ap (λ (o : Operation). gives o.kind) one ∙ sym q.value)

  -- two atoms of one name are one
  same_atom : (j k : Atom) → j.name ≡ k.name → j.key ≡ k.key → j.font ≡ k.font → j.colour ≡ k.colour
      → j.offset ≡ k.offset → j.hidden ≡ k.hidden → j ≡ k
  same_atom j k name key font colour offset hidden =
      let made : CharName → Key → Register (List ℕ) → Register ℕ → Register ℤ → Register Bool → Atom =
      λ n e f c o h. record { name = n; key = e; font = f; colour = c; offset = o; hidden = h } in
      ap (λ (n : CharName). made n j.key j.font j.colour j.offset j.hidden) name
      ∙ ap (λ (e : Key). made k.name e j.font j.colour j.offset j.hidden) key
      ∙ ap (λ (f : Register (List ℕ)). made k.name k.key f j.colour j.offset j.hidden) font
      ∙ ap (λ (c : Register ℕ). made k.name k.key k.font c j.offset j.hidden) colour
      ∙ ap (λ (o : Register ℤ). made k.name k.key k.font k.colour o j.hidden) offset
      ∙ ap (λ (h : Register Bool). made k.name k.key k.font k.colour k.offset h) hidden

  pub one_atoms : (j k : Atom) → j.name ≡ k.name → HasRegisters ops j → HasRegisters ops k → j ≡ k
  one_atoms j k name p q =
      let insert_is : p.key.0 ≡ q.key.0 =
      one_insert ops good k.name p.key.0 q.key.0 (subst (λ (c : CharName). IsInsertOf ops c p.key.0) name
      p.key.1) q.key.1 in
      same_atom j k name (p.key.2 ∙ ap key_of insert_is ∙ sym q.key.2)
      (one_register _ _ j.font k.font (subst (λ (c : CharName). IsRegister (λ o. Sets o (λ s. s.font) c)
      (λ kind. (looks_by kind).font) ops j.font) name p.font) q.font)
      (one_register _ _ j.colour k.colour (subst (λ (c : CharName). IsRegister (λ o. Sets o (λ s. s.colour) c)
      (λ kind. (looks_by kind).colour) ops j.colour) name p.colour) q.colour)
      (one_register _ _ j.offset k.offset (subst (λ (c : CharName). IsRegister (λ o. Sets o (λ s. s.offset) c)
      (λ kind. (looks_by kind).offset) ops j.offset) name p.offset) q.offset)
      (one_register _ _ j.hidden k.hidden (subst (λ (c : CharName). IsRegister (λ o. SetsHidden o c) is_delete
      ops j.hidden) name p.hidden) q.hidden)

  -- what sets anything of a name, but for its Insert, mentions it, so that it is a character
  none_sets : (c : CharName) → ¬ IsChar ops c → (other : Operation) → Contains ops other
      → (Inserts other c ⊎ MentionsBy other.kind c) → ⊥
  none_sets c out other held h = elim h [
    | inl inserts ↦ out (other, record { held = held; inserts = inserts })
    | inr mentions ↦
        let (i, at, inserts) = good.mentions other c held mentions in
        out (i, record { held = at; inserts = inserts })
  ]

  -- the registers of a character that the operation inserts
  pub first_registers : (op : Operation) (c : CharName) → Inserts op c → ¬ IsChar ops c
      → HasRegisters (ops ++ op ∷ []) (first_atom op c)
  first_registers op c inserts out = record {
    key = (op, record { held = Contains-push ops op; inserts = inserts }, refl);
    font = looks_register (λ s. s.font) (λ kind. (looks_by kind).font);
    colour = looks_register (λ s. s.colour) (λ kind. (looks_by kind).colour);
    offset = looks_register (λ s. s.offset) (λ kind. (looks_by kind).offset);
    hidden = record {
      last = op;
      is = first (λ o. SetsHidden o c) (inl inserts) (λ o h. elim h [
        | inl i ↦ inl i
        | inr switches ↦ inr (switch_mentions o.kind c switches)
      ]);
      key = refl;
      value = sym (inserts_no_delete op.site op.kind c inserts);
    };
  }
    where
      first : (S : Operation → Type 0) → S op
          → ((o : Operation) → S o → Inserts o c ⊎ MentionsBy o.kind c) → IsLast S (ops ++ op ∷ []) op
      first S sets names = record {
        held = Contains-push ops op;
        sets = sets;
        greatest = λ other h s. elim (Contains-push_cases ops op other h) [
          | inl old ↦ absurd (none_sets c out other old (names other s))
          | inr e ↦
              subst (λ (o : Operation). is_below (key_of op) (key_of o) ≡ false) e (irreflexive (key_of op))
        ];
      }

      looks_register : {V : Type 0} (selects : Selection → Bool) (gives : OpKind → V)
          → IsRegister (λ o. Sets o selects c) gives (ops ++ op ∷ [])
          (record { key = key_of op; value = gives op.kind })
      looks_register selects gives = record {
        last = op;
        is = first (λ o. Sets o selects c) (inl inserts) (λ o h. elim h [
          | inl i ↦ inl i
          | inr changes ↦ inr (change_mentions o.kind selects c changes)
        ]);
        key = refl;
        value = refl;
      }
