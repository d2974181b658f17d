-- The law of one Insert more over the lists that a program keeps: characters in order, each with its key and
-- its registers.
use Rattle.std.specs.Prelude.{◌≡◌, ℕ, ◌+◌, ◌<◌, ◌≤◌, true, false, List, [], ◌∷◌, ◌++◌, length, take, drop}
use Rattle.std.specs.Prelude.{map, HoldsAt}
use Rattle.std.specs.List.{AllWithin}
use Rattle.looks.specs.Key.{is_below}
use Rattle.looks.specs.declared.key.Key.{Key}
use Rattle.char_files.specs.declared.name.Anchor.{Anchor}
use Rattle.operations.specs.Operation.{Operation, key_of}
use Rattle.tree_order.specs.Insertion.{IsJustAfter, IsInsertAt, IsOneMore, run_of}
use Rattle.tree_order.specs.Registers.{Atom, AreAtoms}
use Rattle.tree_order.specs.RegisterLaws.{first_atom}

-- from the index n on there are m characters of greater key, and no more in one stretch
pub record IsLongest (key : Key) (atoms : List Atom) (n m : ℕ) : Type 0 where
  pub within : n + m ≤ length atoms
  pub greater : AllWithin (λ c. is_below key c.key ≡ true) atoms n (n + m)
  pub stops : n + m < length atoms → HoldsAt (λ c. is_below key c.key ≡ false) atoms (n + m)

-- the run of the operation, as atoms
abbrev pub atom_run : Operation → List Atom
atom_run op = map (first_atom op) (run_of op)

-- i's run is put in after the cause and the m characters of greater key that follow
abbrev pub RunGoesAfterGreaterKeys : Type 0
RunGoesAfterGreaterKeys =
    (ops : List Operation) (i : Operation) (cause : Anchor) (atoms : List Atom) (n m : ℕ)
    → IsOneMore ops i → IsInsertAt i cause → AreAtoms ops atoms
    → IsJustAfter (map (λ c. c.name) atoms) cause n → IsLongest (key_of i) atoms n m
    → AreAtoms (ops ++ i ∷ []) (take (n + m) atoms ++ atom_run i ++ drop (n + m) atoms)
