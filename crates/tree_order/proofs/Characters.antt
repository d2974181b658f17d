-- The characters of a list of operations, as one list.
use Rattle.std.proofs.Common.{◌≡◌, ℕ, zero, suc, inl, inr, List, [], ◌∷◌, ◌++◌, length, ap, subst, Contains}
use Rattle.std.proofs.Common.{arith}
use Rattle.std.proofs.lemmas.Bool.{cases_eq}
use Rattle.std.proofs.lemmas.List.Elements.{Contains-append_left, Contains-append_right}
use Rattle.std.proofs.lemmas.List.Elements.{Contains-append_cases}
use Rattle.char_files.specs.CharName.{CharName}
use Rattle.operations.specs.NameSet.{IsIn}
use Rattle.operations.specs.Operation.{Operation, OpKind, insert, delete, restore, change_looks, Inserts}
use Rattle.operations.specs.Operation.{InsertsBy}
use Rattle.tree_order.specs.Tree.{IsChar}
use Rattle.operations.proofs.WithName.{same_name}
use Rattle.tree_order.proofs.Sorted.{Contains-head, Contains-tail, Contains-cons_cases}

-- len names of a site from at on
abbrev stretch : ℕ → ℕ → ℕ → List CharName
stretch site at zero = []
stretch site at (suc len) = record { site = site; off = at } ∷ stretch site (suc at) len

-- they are the names of the range
stretch_in : (site at len : ℕ) (c : CharName) → Contains (stretch site at len) c
    → IsIn (record { site = site; at = at; len = len }) c
stretch_in site at zero c h = absurd (omega arith)
stretch_in site at (suc len) c h =
    elim (Contains-cons_cases (record { site = site; off = at }) (stretch site (suc at) len) c h) [
      | inl e ↦
          let on : c.site ≡ site = ap (λ (x : CharName). x.site) e in
          let here : c.off ≡ at = ap (λ (x : CharName). x.off) e in (on, omega arith, omega arith)
      | inr k ↦
          let rest : IsIn (record { site = site; at = suc at; len = len }) c =
          stretch_in site (suc at) len c k in (rest.0, omega arith, omega arith)
    ]

in_stretch : (site at len : ℕ) (c : CharName) → IsIn (record { site = site; at = at; len = len }) c
    → Contains (stretch site at len) c
in_stretch site at zero c h = absurd (omega arith)
in_stretch site at (suc len) c (on, from, to) =
    elim (cases_eq c.off at) [
      | inl here ↦ rw (same_name c (record { site = site; off = at }) on here)
          (Contains-head (record { site = site; off = at }) (stretch site (suc at) len))
      | inr other ↦ Contains-tail (record { site = site; off = at }) (stretch site (suc at) len) c
          (in_stretch site (suc at) len c (on, omega arith, omega arith))
    ]

-- what an operation of a site inserts
abbrev inserted_names : ℕ → OpKind → List CharName
inserted_names site (insert cause at looks bytes) = stretch site at (length bytes)
inserted_names site (delete names) = []
inserted_names site (restore names) = []
inserted_names site (change_looks sel looks names) = []

-- that is what it says of itself
inserted_by : (site : ℕ) (kind : OpKind) (c : CharName) → Contains (inserted_names site kind) c
    → InsertsBy site kind c
inserted_by site (insert cause at looks bytes) c h = stretch_in site at (length bytes) c h
inserted_by site (delete names) c h = omega arith
inserted_by site (restore names) c h = omega arith
inserted_by site (change_looks sel looks names) c h = omega arith

by_inserted : (site : ℕ) (kind : OpKind) (c : CharName) → InsertsBy site kind c
    → Contains (inserted_names site kind) c
by_inserted site (insert cause at looks bytes) c h = in_stretch site at (length bytes) c h
by_inserted site (delete names) c h = absurd h
by_inserted site (restore names) c h = absurd h
by_inserted site (change_looks sel looks names) c h = absurd h

-- what the operations insert
abbrev pub characters : List Operation → List CharName
characters [] = []
characters (op ∷ ops) = inserted_names op.site op.kind ++ characters ops

-- they are the characters
pub IsChar-from_characters : (ops : List Operation) (c : CharName) → Contains (characters ops) c
    → IsChar ops c
IsChar-from_characters [] c h = absurd (omega arith)
IsChar-from_characters (op ∷ ops) c h =
    elim (Contains-append_cases (inserted_names op.site op.kind) (characters ops) c h) [
      | inl k ↦ (op, record { held = Contains-head op ops; inserts = inserted_by op.site op.kind c k })
      | inr k ↦ let (i, is) = IsChar-from_characters ops c k in
          (i, record { held = Contains-tail op ops i is.held; inserts = is.inserts })
    ]

pub characters_from_IsChar : (ops : List Operation) (c : CharName) → IsChar ops c
    → Contains (characters ops) c
characters_from_IsChar [] c (i, is) = let held : Contains [] i = is.held in absurd (omega arith)
characters_from_IsChar (op ∷ ops) c (i, is) =
    elim (Contains-cons_cases op ops i is.held) [
      | inl e ↦ Contains-append_left (inserted_names op.site op.kind) (characters ops) c
          (by_inserted op.site op.kind c (subst (λ (o : Operation). Inserts o c) e is.inserts))
      | inr k ↦ Contains-append_right (inserted_names op.site op.kind) (characters ops) c
          (characters_from_IsChar ops c (i, record { held = k; inserts = is.inserts }))
    ]
