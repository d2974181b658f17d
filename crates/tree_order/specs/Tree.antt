-- The tree of the characters of a set of operations.
use Rattle.std.specs.Prelude.{◌≡◌, ℕ, ◌-◌, ◌==◌, List, [], ◌∷◌, ◌++◌, Contains, slice_index, if◌then◌else◌}
use Rattle.char_files.specs.CharName.{CharName}
use Rattle.char_files.specs.declared.name.Anchor.{Anchor}
use Rattle.char_files.specs.declared.name.Anchor.TheVariants.{Root, At}
use Rattle.operations.specs.Operation.{Operation, OpKind, insert, delete, restore, change_looks, Inserts}

-- i is the Insert of c, and is held
pub record IsInsertOf (ops : List Operation) (c : CharName) (i : Operation) : Type 0 where
  pub held : Contains ops i
  pub inserts : Inserts i c

-- c is a character
abbrev pub IsChar : List Operation → CharName → Type 0
IsChar ops c = (i : Operation) × IsInsertOf ops c i

-- what a character of an Insert hangs on: the first one on the cause, each other one on the one before
abbrev pub parent_by : OpKind → CharName → Anchor
parent_by (insert cause at looks bytes) c =
    if c.off == at then cause else At (record { site = c.site; off = c.off - 1 })
parent_by (delete names) c = Root
parent_by (restore names) c = Root
parent_by (change_looks sel looks names) c = Root

-- the byte of a character of an Insert
abbrev pub byte_by : OpKind → CharName → ℕ
byte_by (insert cause at looks bytes) c = slice_index bytes (c.off - at)
byte_by (delete names) c = 0
byte_by (restore names) c = 0
byte_by (change_looks sel looks names) c = 0

-- c is a character that hangs on the anchor
abbrev pub IsParent : List Operation → CharName → Anchor → Type 0
IsParent ops c a = (i : Operation) × IsInsertOf ops c i × (a ≡ parent_by i.kind c)

-- c is a character with this byte
abbrev pub HasByte : List Operation → CharName → ℕ → Type 0
HasByte ops c byte = (i : Operation) × IsInsertOf ops c i × (byte ≡ byte_by i.kind c)

-- from one anchor down to another, by characters that hang each on the one before
abbrev pub LeadsDown : List Operation → Anchor → List CharName → Anchor → Type 0
LeadsDown ops a [] b = a ≡ b
LeadsDown ops a (c ∷ path) b = IsParent ops c a × LeadsDown ops (At c) path b

-- the characters from a child of the root down to c
abbrev pub IsPath : List Operation → CharName → List CharName → Type 0
IsPath ops c path = LeadsDown ops Root path (At c)

-- p is a proper prefix of q
abbrev pub IsProperPrefix : List CharName → List CharName → Type 0
IsProperPrefix p q = (c : CharName) × (rest : List CharName) × (q ≡ p ++ c ∷ rest)

-- d hangs on c, or on what hangs on it, and so on
abbrev pub IsDescendant : List Operation → CharName → CharName → Type 0
IsDescendant ops c d = (p q : List CharName) × IsPath ops c p × IsPath ops d q × IsProperPrefix p q
