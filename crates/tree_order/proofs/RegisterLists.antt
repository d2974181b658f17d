-- Lists of all characters with their registers: what they show, and what one operation more makes of them.
use Rattle.std.proofs.Common.{◌≡◌, inl, inr, Bool, true, false, not, cond, List, []}
use Rattle.std.proofs.Common.{◌∷◌, ◌++◌, map, All, Contains, refl, sym, ap, subst, ◌∙◌}
use Rattle.std.specs.List.{list_any, filter}
use Rattle.std.proofs.lemmas.List.Elements.{All-head, All-tail, All-cons, All-nil, All-map, All-filter}
use Rattle.std.proofs.lemmas.List.Elements.{Contains-append_left, Contains-push}
use Rattle.std.proofs.lemmas.List.Elements.{Contains-push_cases, Contains-get_or}
use Rattle.looks.specs.declared.key.Key.{Key}
use Rattle.looks.specs.declared.looks.Looks.{Looks}
use Rattle.char_files.specs.CharName.{CharName}
use Rattle.char_files.specs.declared.character.Char.{Char}
use Rattle.operations.specs.NameSet.{Range, range_contains}
use Rattle.operations.specs.Operation.{Operation, OpKind, insert, delete, restore, change_looks, Inserts, key_of}
use Rattle.tree_order.specs.Good.{Good}
use Rattle.tree_order.specs.Tree.{IsChar, HasByte}
use Rattle.tree_order.specs.Order.{IsOrder}
use Rattle.tree_order.specs.Looks.{HasLooks}
use Rattle.tree_order.specs.Shown.{is_visible, IsShown}
use Rattle.tree_order.specs.Registers.{Atom, HasRegisters, AreAtoms, atom_looks, switched, relooked, if_named}
use Rattle.tree_order.specs.Registers.{atom_by, atom_after}
use Rattle.tree_order.specs.RegisterLaws.{FollowRegisters, Named, shown_of_atoms, without_bytes, ShowsAtoms}
use Rattle.tree_order.specs.RegisterLaws.{OffersItsValues}
use Rattle.tree_order.specs.RegisterLaws.{HasOneAtoms, InsertsNone, MovesNoChar, ShowsByOffers, AtomsAfter}
use Rattle.tree_order.proofs.Before.{has_order, IsOrder-from_sorted, sorted_from_IsOrder}
use Rattle.tree_order.proofs.Offers.{registers_after}
use Rattle.tree_order.proofs.OneText.{one_order, one_looks}
use Rattle.tree_order.proofs.RegistersDetermine.{tell, has_registers, one_atoms, first_registers}
use Rattle.tree_order.proofs.SameSet.{Within, char, before}
use Rattle.tree_order.proofs.Tree.{one_insert}

-- an operation leaves a character its name
if_named-name : (names : List Range) (change : Atom → Atom) (k : Atom) → (change k).name ≡ k.name
    → (if_named names change k).name ≡ k.name
if_named-name names change k same = go (list_any (λ r. range_contains r k.name) names)
  where
    go : (b : Bool) → (cond b (change k) k).name ≡ k.name
    go true = same
    go false = refl

atom_by-name : (kind : OpKind) (key : Key) (k : Atom) → (atom_by kind key k).name ≡ k.name
atom_by-name (insert cause at looks bytes) key k = refl
atom_by-name (delete names) key k = if_named-name names (switched true key) k refl
atom_by-name (restore names) key k = if_named-name names (switched false key) k refl
atom_by-name (change_looks sel looks names) key k = if_named-name names (relooked sel looks key) k refl

atom_after-names : (op : Operation) (atoms : List Atom)
    → map (λ k. k.name) atoms ≡ map (λ k. k.name) (map (atom_after op) atoms)
atom_after-names op [] = refl
atom_after-names op (k ∷ atoms) =
    ap (λ (c : CharName). c ∷ map (λ (j : Atom). j.name) atoms) (sym (atom_by-name op.kind (key_of op) k))
    ∙ ap (λ (cs : List CharName). (atom_after op k).name ∷ cs) (atom_after-names op atoms)

-- the atoms of a list of names
atoms_of : (ops : List Operation) (names : List CharName) → All (IsChar ops) names
    → (atoms : List Atom) × (map (λ k. k.name) atoms ≡ names) × All (HasRegisters ops) atoms
atoms_of ops [] all = ([], refl, All-nil (HasRegisters ops))
atoms_of ops (c ∷ names) all =
    let (k, name, has) = has_registers ops c (All-head (IsChar ops) c names all) in
    let (atoms, same, registers) = atoms_of ops names (All-tail (IsChar ops) c names all) in (
      k ∷ atoms,
      ap (λ (x : CharName). x ∷ map (λ (j : Atom). j.name) atoms) name
          ∙ ap (λ (xs : List CharName). c ∷ xs) same,
      All-cons (HasRegisters ops) k atoms has registers,
    )

module _ (ops : List Operation) (good : Good ops) where
  -- of the names those that the registers tell to be visible are visible
  visible_names : (atoms : List Atom) → All (FollowRegisters ops) atoms
      → filter (is_visible ops) (map (λ k. k.name) atoms) ≡ map (λ k. k.name) (filter (λ k. not k.hidden.value)
      atoms)
  visible_names [] all = refl
  visible_names (k ∷ atoms) all =
      let here = (All-head (FollowRegisters ops) k atoms all).visible in
      let rest = visible_names atoms (All-tail (FollowRegisters ops) k atoms all) in
      rw here (go (not k.hidden.value) rest)
    where
      go : (b : Bool) → filter (is_visible ops) (map (λ j. j.name) atoms)
          ≡ map (λ j. j.name) (filter (λ j. not j.hidden.value) atoms)
          → cond b (k.name ∷ filter (is_visible ops) (map (λ j. j.name) atoms))
          (filter (is_visible ops) (map (λ j. j.name) atoms))
          ≡ map (λ j. j.name) (cond b (k ∷ filter (λ j. not j.hidden.value) atoms)
          (filter (λ j. not j.hidden.value) atoms))
      go true rest = ap (λ (cs : List CharName). k.name ∷ cs) rest
      go false rest = rest

  -- characters of the same names have the same looks
  same_named : (shown : List Char) (atoms : List Atom) → map (λ s. s.name) shown ≡ map (λ k. k.name) atoms
      → All (λ s. HasLooks ops s.name s.looks) shown → All (FollowRegisters ops) atoms
      → without_bytes shown ≡ map (λ k. record { name = k.name; looks = atom_looks k }) atoms
  same_named [] [] names looks all = refl
  same_named [] (k ∷ atoms) names looks all = absurd cc
  same_named (s ∷ shown) [] names looks all = absurd cc
  same_named (s ∷ shown) (k ∷ atoms) names looks all =
      let name : s.name ≡ k.name = cc in
      let rest : map (λ (x : Char). x.name) shown ≡ map (λ (j : Atom). j.name) atoms = cc in
      let has : HasLooks ops k.name s.looks = subst (λ (c : CharName). HasLooks ops c s.looks) name
      (All-head (λ (x : Char). HasLooks ops x.name x.looks) s shown looks) in
      let same : s.looks ≡ atom_looks k =
      one_looks ops good k.name s.looks (atom_looks k) has (All-head (FollowRegisters ops) k atoms all).looks in
      let made : CharName → Looks → Named = λ c l. record { name = c; looks = l } in
      ap (λ (c : CharName). made c s.looks ∷ without_bytes shown) name
      ∙ ap (λ (l : Looks). made k.name l ∷ without_bytes shown) same
      ∙ ap (λ (ns : List Named). made k.name (atom_looks k) ∷ ns)
      (same_named shown atoms rest (All-tail (λ (x : Char). HasLooks ops x.name x.looks) s shown looks)
      (All-tail (FollowRegisters ops) k atoms all))

  -- and those that have the atoms' looks have looks
  has_atom_looks : (shown : List Char) (atoms : List Atom)
      → without_bytes shown ≡ map (λ k. record { name = k.name; looks = atom_looks k }) atoms
      → All (FollowRegisters ops) atoms → All (λ s. HasLooks ops s.name s.looks) shown
  has_atom_looks [] atoms same all = All-nil (λ (s : Char). HasLooks ops s.name s.looks)
  has_atom_looks (s ∷ shown) [] same all = absurd cc
  has_atom_looks (s ∷ shown) (k ∷ atoms) same all =
      let made : CharName → Looks → Named = λ c l. record { name = c; looks = l } in
      let first : made s.name s.looks ≡ made k.name (atom_looks k) = cc in
      let name : s.name ≡ k.name = ap (λ (n : Named). n.name) first in
      let looks : s.looks ≡ atom_looks k = ap (λ (n : Named). n.looks) first in
      let rest : without_bytes shown
      ≡ map (λ (j : Atom). record { name = j.name; looks = atom_looks j }) atoms =
      cc in
      let has : HasLooks ops s.name s.looks =
      subst (λ (c : CharName). HasLooks ops c s.looks) (sym name)
      (subst (λ (l : Looks). HasLooks ops k.name l) (sym looks)
      (All-head (FollowRegisters ops) k atoms all).looks) in
      All-cons (λ (x : Char). HasLooks ops x.name x.looks) s shown has
      (has_atom_looks shown atoms rest (All-tail (FollowRegisters ops) k atoms all))

  names_shown : (shown : List Char)
      → map (λ (n : Named). n.name) (without_bytes shown) ≡ map (λ s. s.name) shown
  names_shown [] = refl
  names_shown (s ∷ shown) = ap (λ (cs : List CharName). s.name ∷ cs) (names_shown shown)

  names_of_all : (atoms : List Atom)
      → map (λ (n : Named). n.name) (map (λ (k : Atom). record { name = k.name; looks = atom_looks k }) atoms)
      ≡ map (λ k. k.name) atoms
  names_of_all [] = refl
  names_of_all (k ∷ atoms) = ap (λ (cs : List CharName). k.name ∷ cs) (names_of_all atoms)

  all_tell : (atoms : List Atom) → All (HasRegisters ops) atoms → All (FollowRegisters ops) atoms
  all_tell atoms all = λ i d lt. tell ops good _ (all i d lt)

  pub shows_atoms : (atoms : List Atom) → AreAtoms ops atoms → ShowsAtoms ops atoms
  shows_atoms atoms are shown = (there, back)
    where
      all : All (FollowRegisters ops) (filter (λ k. not k.hidden.value) atoms)
      all = All-filter (λ (k : Atom). not k.hidden.value) (FollowRegisters ops) atoms
          (all_tell atoms are.registers)

      visible : filter (is_visible ops) (map (λ k. k.name) atoms)
          ≡ map (λ k. k.name) (filter (λ k. not k.hidden.value) atoms)
      visible = visible_names atoms (all_tell atoms are.registers)

      there : IsShown ops shown
          → (without_bytes shown ≡ shown_of_atoms atoms) × All (λ s. HasByte ops s.name s.byte) shown
      there is =
          let order = one_order ops good is.order (map (λ (k : Atom). k.name) atoms) is.in_order are.order in
          let names = is.visible ∙ ap (filter (is_visible ops)) order ∙ visible in
          (same_named shown (filter (λ k. not k.hidden.value) atoms) names is.looks all, is.bytes)

      back : (without_bytes shown ≡ shown_of_atoms atoms) × All (λ s. HasByte ops s.name s.byte) shown
          → IsShown ops shown
      back (same, bytes) = record {
        order = map (λ k. k.name) atoms;
        in_order = are.order;
        visible = sym (names_shown shown) ∙ ap (map (λ (n : Named). n.name)) same
            ∙ names_of_all (filter (λ k. not k.hidden.value) atoms) ∙ sym visible;
        bytes = bytes;
        looks = has_atom_looks shown (filter (λ k. not k.hidden.value) atoms) same all;
      }

  -- two lists of atoms of the same names are one
  one_list : (a b : List Atom) → map (λ k. k.name) a ≡ map (λ k. k.name) b → All (HasRegisters ops) a
      → All (HasRegisters ops) b → a ≡ b
  one_list [] [] names p q = refl
  one_list [] (k ∷ b) names p q = absurd cc
  one_list (j ∷ a) [] names p q = absurd cc
  one_list (j ∷ a) (k ∷ b) names p q =
      let name : j.name ≡ k.name = cc in
      let rest : map (λ (x : Atom). x.name) a ≡ map (λ (x : Atom). x.name) b = cc in
      ap (λ (x : Atom). x ∷ a) (one_atoms ops good j k name (All-head (HasRegisters ops) j a p)
      (All-head (HasRegisters ops) k b q))
      ∙ ap (λ (xs : List Atom). k ∷ xs) (one_list a b rest (All-tail (HasRegisters ops) j a p)
      (All-tail (HasRegisters ops) k b q))

  pub has_one_atoms : HasOneAtoms ops
  has_one_atoms =
      let one = has_order ops good in
      let (atoms, names, registers) = atoms_of ops one.order (λ k d lt.
      (one.is.each _).0 (Contains-get_or one.order k d lt)) in
      let is : AreAtoms ops atoms = record {
        order = subst (IsOrder ops) (sym names) one.is;
        registers = registers;
      } in
      record {
        atoms = atoms;
        is = is;
        only = λ other are. one_list other atoms (one_order ops good _ _ are.order is.order) are.registers
            registers;
      }

-- one operation more, which inserts nothing
module _ (ops : List Operation) (op : Operation) (good : Good (ops ++ op ∷ [])) (none : InsertsNone op) where
  within : Within ops (ops ++ op ∷ [])
  within o held = Contains-append_left ops (op ∷ []) o held

  old_char : (c : CharName) → IsChar (ops ++ op ∷ []) c → IsChar ops c
  old_char c (i, is) = elim (Contains-push_cases ops op i is.held) [
    | inl old ↦ (i, record { held = old; inserts = is.inserts })
    | inr e ↦ absurd (none c (subst (λ (o : Operation). Inserts o c) (sym e) is.inserts))
  ]

  pub keeps_the_order : MovesNoChar ops op
  keeps_the_order order is =
      IsOrder-from_sorted (ops ++ op ∷ []) good order
      (λ c. (
        λ h. char ops (ops ++ op ∷ []) within c ((is.each c).0 h),
        λ h. (is.each c).1 (old_char c h),
      ))
      (λ i j d less lt. before ops (ops ++ op ∷ []) within _ _
      (sorted_from_IsOrder ops order is i j d less lt))

  pub shows_by_offers : (k : Atom) → HasRegisters ops k → ShowsByOffers ops op k
  shows_by_offers k has =
      let told = tell (ops ++ op ∷ []) good (atom_after op k) (registers_after ops op k has (none k.name)) in
      let name = atom_by-name op.kind (key_of op) k in
      record {
        visible = ap (is_visible (ops ++ op ∷ [])) (sym name) ∙ told.visible;
        looks = subst (λ (c : CharName). HasLooks (ops ++ op ∷ []) c (atom_looks (atom_after op k))) name
            told.looks;
      }

  pub atom_list : AtomsAfter ops op
  atom_list atoms are = record {
    order = subst (IsOrder (ops ++ op ∷ [])) (atom_after-names op atoms)
        (keeps_the_order (map (λ (k : Atom). k.name) atoms) are.order);
    registers = All-map (HasRegisters (ops ++ op ∷ [])) (atom_after op) atoms
        (λ k d lt. registers_after ops op _ (are.registers k d lt) (none _));
  }

-- one new operation more, which may insert characters
module _ (ops : List Operation) (op : Operation) (before_it : Good ops) (good : Good (ops ++ op ∷ []))
    (new : Contains ops op → ⊥) where
  -- no old character is one of its own
  not_old : (c : CharName) → Inserts op c → IsChar ops c → ⊥
  not_old c inserts (i, is) =
      let held : Contains (ops ++ op ∷ []) i = Contains-append_left ops (op ∷ []) i is.held in
      let one : i ≡ op =
      one_insert (ops ++ op ∷ []) good c i op (record { held = held; inserts = is.inserts })
      (record { held = Contains-push ops op; inserts = inserts }) in
      new (subst (Contains ops) one is.held)

  pub offers_its_values : OffersItsValues ops op
  offers_its_values = record {
    old = λ k has. registers_after ops op k has
        (λ inserts. not_old k.name inserts (has.key.0, has.key.1));
    new = λ c inserts. first_registers ops before_it op c inserts (not_old c inserts);
  }
