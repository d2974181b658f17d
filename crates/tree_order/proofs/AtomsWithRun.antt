-- The law of one Insert more over all characters with their registers.
use Rattle.std.proofs.Common.{◌≡◌, ◌⊎◌, ℕ, ◌+◌, ◌<◌, inl, inr, List, [], ◌∷◌, ◌++◌, length}
use Rattle.std.proofs.Common.{get_or, take, drop, map, refl, sym, ap, subst, ◌∙◌, All}
use Rattle.std.proofs.Common.{arith}
use Rattle.std.proofs.lemmas.List.{map-append, take-map, drop_more}
use Rattle.std.proofs.lemmas.List.{take_more, get_or-take, get_or-drop, length-take, length-drop}
use Rattle.std.proofs.lemmas.List.{take-append-drop}
use Rattle.std.proofs.Math.Seq.{take-add}
use Rattle.std.proofs.lemmas.List.Elements.{All-append, All-take, All-drop, All-weaker, All-map}
use Rattle.std.proofs.lemmas.List.Elements.{Contains-get_or}
use Rattle.std.proofs.lemmas.Option.{get_or_from_slice_get, slice_get_within}
use Rattle.looks.specs.declared.key.Key.{Key}
use Rattle.char_files.specs.CharName.{CharName}
use Rattle.char_files.specs.declared.name.Anchor.{Anchor}
use Rattle.char_files.specs.declared.name.Anchor.TheVariants.{Root, At}
use Rattle.operations.specs.Operation.{Operation, OpKind, insert, Inserts, key_of}
use Rattle.tree_order.specs.Insertion.{IsOneMore, IsGap, IsInsertAt, HasCauseBy, EndsAt, IsAbove}
use Rattle.tree_order.specs.Insertion.{IsJustAfter, BeginsNotAbove, run_of}
use Rattle.tree_order.specs.AtomInsertion.{IsLongest, atom_run, RunGoesAfterGreaterKeys}
use Rattle.tree_order.specs.Order.{IsOrder}
use Rattle.tree_order.specs.Registers.{Atom, HasRegisters, atom_by}
use Rattle.tree_order.specs.RegisterLaws.{first_atom}
use Rattle.tree_order.proofs.Gap.{into_gap}
use Rattle.tree_order.proofs.Offers.{registers_after}
use Rattle.tree_order.proofs.OneMore.{not_both}
use Rattle.tree_order.proofs.RegistersDetermine.{first_registers}
use Rattle.tree_order.proofs.RunNames.{run_inserts}

-- the names alone
abbrev names_of_atoms : List Atom → List CharName
names_of_atoms atoms = map (λ (k : Atom). k.name) atoms

-- those of a run
names_of_atom_run : (op : Operation) (run : List CharName) → names_of_atoms (map (first_atom op) run) ≡ run
names_of_atom_run op [] = refl
names_of_atom_run op (c ∷ run) = ap (λ (xs : List CharName). c ∷ xs) (names_of_atom_run op run)

-- those of three lists after one another
names-append3 : (a b c : List Atom)
    → names_of_atoms a ++ names_of_atoms b ++ names_of_atoms c ≡ names_of_atoms (a ++ b ++ c)
names-append3 a b c =
    let name : Atom → CharName = λ (x : Atom). x.name in
    ap (λ (xs : List CharName). xs ++ names_of_atoms c) (sym (map-append name a b))
    ∙ sym (map-append name (a ++ b) c)

-- the front up to the anchor ends at it
ends_at : (atoms : List Atom) (cause : Anchor) (n : ℕ) → IsJustAfter (names_of_atoms atoms) cause n
    → EndsAt (names_of_atoms (take n atoms)) cause
ends_at atoms Root n none = ap (λ (k : ℕ). names_of_atoms (take k atoms)) none
ends_at atoms (At c) n (k, at, next) =
    let name : Atom → CharName = λ (x : Atom). x.name in
    let names : List CharName = names_of_atoms atoms in
    let lt : k < length names = slice_get_within names k c at in
    let is : get_or names k c ≡ c = get_or_from_slice_get names k c c at in (
      take k names,
      sym (take-map name n atoms) ∙ ap (λ (j : ℕ). take j names) next ∙ take_more names k c lt
          ∙ ap (λ (x : CharName). take k names ++ x ∷ []) is,
    )

-- each of the stretch has a greater key
each_greater : (ops : List Operation) (key : Key) (atoms : List Atom) (n m : ℕ)
    → All (HasRegisters ops) atoms → IsLongest key atoms n m
    → All (IsAbove ops key) (names_of_atoms (take m (drop n atoms)))
each_greater ops key atoms n m registers longest =
    All-map (IsAbove ops key) (λ (x : Atom). x.name) (take m (drop n atoms)) (λ k d lt.
    let few : k < m = omega (arith, length-take m (drop n atoms)) in
    let inside : n + k < length atoms = omega (arith, longest.within) in
    let at : get_or atoms (n + k) d ≡ get_or (take m (drop n atoms)) k d =
    sym (get_or-take m (drop n atoms) k d few ∙ get_or-drop n atoms k d) in
    subst (λ (x : Atom). IsAbove ops key x.name) at (
      (get_or atoms (n + k) d).key,
      (registers (n + k) d inside).key,
      longest.greater (n + k) d (omega arith) (omega arith),
    ))

-- a list is empty, or begins with an element
begins : (atoms : List Atom) → (atoms ≡ []) ⊎ ((k : Atom) × (0 < length atoms) × (get_or atoms 0 k ≡ k))
begins [] = inl refl
begins (k ∷ atoms) = inr (k, omega arith, refl)

-- the next one hasn't
next_not_above : (ops : List Operation) (key : Key) (atoms : List Atom) (n m : ℕ)
    → All (HasRegisters ops) atoms → IsLongest key atoms n m
    → BeginsNotAbove ops key (names_of_atoms (drop (n + m) atoms))
next_not_above ops key atoms n m registers longest =
    elim (begins (drop (n + m) atoms)) [
      | inl none ↦ subst (λ (xs : List Atom). BeginsNotAbove ops key (names_of_atoms xs)) (sym none) tt
      | inr (k, some, first) ↦
          let more : n + m < length atoms = omega (arith, length-drop (n + m) atoms) in
          let next : Atom = get_or atoms (n + m) k in
          subst (λ (xs : List Atom). BeginsNotAbove ops key (names_of_atoms xs))
          (sym (drop_more atoms (n + m) k more))
          (next.key, (registers (n + m) k more).key, longest.stops more k)
    ]

-- an Insert changes no registers that were there
atom_by_insert : (kind : OpKind) (cause : Anchor) → HasCauseBy kind cause → (key : Key) (k : Atom)
    → atom_by kind key k ≡ k
atom_by_insert (insert above at looks bytes) cause is key k = refl
atom_by_insert kind cause is key k = absurd is

old_registers : (ops : List Operation) (i : Operation) → IsOneMore ops i → (cause : Anchor)
    → IsInsertAt i cause → (k : Atom) → HasRegisters ops k → HasRegisters (ops ++ i ∷ []) k
old_registers ops i one cause at k has =
    let old : ¬ Inserts i k.name = not_both ops i one k.name (has.key.0, has.key.1) in
    subst (HasRegisters (ops ++ i ∷ [])) (atom_by_insert i.kind cause at (key_of i) k)
    (registers_after ops i k has old)

-- those of the run are its own
run_registers : (ops : List Operation) (i : Operation) → IsOneMore ops i
    → All (HasRegisters (ops ++ i ∷ [])) (atom_run i)
run_registers ops i one =
    All-map (HasRegisters (ops ++ i ∷ [])) (first_atom i) (run_of i) (λ k d lt.
    let new = (run_inserts i (get_or (run_of i) k d)).0 (Contains-get_or (run_of i) k d lt) in
    first_registers ops one.good i (get_or (run_of i) k d) new
    (λ is. not_both ops i one (get_or (run_of i) k d) is new))

pub after_greater_keys : RunGoesAfterGreaterKeys
after_greater_keys ops i cause atoms n m one at are before longest =
    let a : List Atom = take n atoms in
    let b : List Atom = take m (drop n atoms) in
    let d : List Atom = drop (n + m) atoms in
    let front : take (n + m) atoms ≡ a ++ b = take-add n m atoms in
    let whole : atoms ≡ a ++ b ++ d =
    sym (take-append-drop (n + m) atoms) ∙ ap (λ (xs : List Atom). xs ++ d) front in
    let names : names_of_atoms atoms ≡ names_of_atoms a ++ names_of_atoms b ++ names_of_atoms d =
    ap names_of_atoms whole ∙ sym (names-append3 a b d) in
    let gap : IsGap ops i (names_of_atoms a) (names_of_atoms b) (names_of_atoms d) = record {
      cause = cause;
      of_insert = at;
      at_cause = ends_at atoms cause n before;
      greater = each_greater ops (key_of i) atoms n m are.registers longest;
      stops = next_not_above ops (key_of i) atoms n m are.registers longest;
    } in
    let new : IsOrder (ops ++ i ∷ []) (names_of_atoms a ++ names_of_atoms b ++ run_of i ++ names_of_atoms d) =
    into_gap ops i (names_of_atoms a) (names_of_atoms b) (names_of_atoms d) one
    (subst (IsOrder ops) names are.order) gap in
    let made : names_of_atoms a ++ names_of_atoms b ++ run_of i ++ names_of_atoms d
    ≡ names_of_atoms (take (n + m) atoms ++ atom_run i ++ d) =
    ap (λ (xs : List CharName). xs ++ run_of i ++ names_of_atoms d)
    (sym (map-append (λ (x : Atom). x.name) a b) ∙ ap names_of_atoms (sym front))
    ∙ ap (λ (xs : List CharName). names_of_atoms (take (n + m) atoms) ++ xs ++ names_of_atoms d)
    (sym (names_of_atom_run i (run_of i)))
    ∙ names-append3 (take (n + m) atoms) (atom_run i) d in
    let P : Atom → Type 0 = HasRegisters (ops ++ i ∷ []) in
    let old : All (HasRegisters (ops ++ i ∷ [])) atoms =
    All-weaker (HasRegisters ops) (HasRegisters (ops ++ i ∷ [])) (old_registers ops i one cause at) atoms
    are.registers in
    record {
      order = subst (IsOrder (ops ++ i ∷ [])) made new;
      registers = All-append P (take (n + m) atoms ++ atom_run i) d
          (All-append P (take (n + m) atoms) (atom_run i) (All-take P (n + m) atoms old)
          (run_registers ops i one))
          (All-drop P (n + m) atoms old);
    }
