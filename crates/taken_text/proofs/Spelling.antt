-- What a replica keeps spells the characters that its operations define.
use Rattle.std.proofs.Common.{◌≡◌, ℕ, Bool, true, false, not, cond, List, [], ◌∷◌, length, map, All, refl, sym, ap, subst, ◌∙◌}
use Rattle.std.specs.Prelude.{slice_index}
use Rattle.std.specs.List.{filter}
use Rattle.std.proofs.lemmas.List.Elements.{All-filter, All-head, All-tail, All-cons, All-nil, All-map}
use Rattle.char_files.specs.CharFiles.{FilesBySite, SameBytes}
use Rattle.char_files.specs.CharName.{CharName}
use Rattle.char_files.specs.declared.character.Char.{Char}
use Rattle.operations.specs.Operation.{Operation}
use Rattle.tree_order.specs.Good.{Good}
use Rattle.tree_order.specs.Looks.{HasLooks}
use Rattle.tree_order.specs.Order.{IsOrder}
use Rattle.tree_order.specs.Registers.{Atom, HasRegisters, AreAtoms}
use Rattle.tree_order.specs.RegisterLaws.{FollowRegisters}
use Rattle.tree_order.specs.Shown.{AreChars, IsShown, is_visible}
use Rattle.tree_order.specs.Tree.{HasByte, byte_by}
use Rattle.tree_order.proofs.RegistersDetermine.{tell}
use Rattle.piece_list.specs.Spelled.{spelled, shown_chars}
use Rattle.piece_list.specs.Piece.{Piece}
use Rattle.taken_text.specs.Taken.{IsTaken, HoldBytes, IsDefined, char_in, chars_shown, seen_in}

names_of_chars : (files : FilesBySite) (atoms : List Atom) → map (λ (c : Char). c.name) (map (char_in files) atoms) ≡ map (λ (k : Atom). k.name) atoms
names_of_chars files [] = refl
names_of_chars files (k ∷ atoms) = ap (λ (cs : List CharName). k.name ∷ cs) (names_of_chars files atoms)

has_byte : (ops : List Operation) (files : FilesBySite) → HoldBytes ops files → (k : Atom) → HasRegisters ops k → HasByte ops k.name (char_in files k).byte
has_byte ops files hold k r =
    let (i, is, key) = r.key in
    let has : HasByte ops k.name (byte_by i.kind k.name) = (i, is, refl) in
    subst (HasByte ops k.name) (hold.bytes k.name (byte_by i.kind k.name) has) has

all_bytes : (ops : List Operation) (files : FilesBySite) → HoldBytes ops files → (atoms : List Atom) → All (HasRegisters ops) atoms → All (λ (k : Atom). HasByte ops (char_in files k).name (char_in files k).byte) atoms
all_bytes ops files hold [] all = All-nil _
all_bytes ops files hold (k ∷ atoms) all =
    All-cons (λ (j : Atom). HasByte ops (char_in files j).name (char_in files j).byte) k atoms (has_byte ops files hold k (All-head (HasRegisters ops) k atoms all)) (all_bytes ops files hold atoms (All-tail (HasRegisters ops) k atoms all))

-- the registers of all tell what is shown
pub all_tell : (ops : List Operation) → Good ops → (atoms : List Atom) → All (HasRegisters ops) atoms → All (FollowRegisters ops) atoms
all_tell ops good [] all = All-nil (FollowRegisters ops)
all_tell ops good (k ∷ atoms) all = All-cons (FollowRegisters ops) k atoms (tell ops good k (All-head (HasRegisters ops) k atoms all)) (all_tell ops good atoms (All-tail (HasRegisters ops) k atoms all))

all_looks : (ops : List Operation) (files : FilesBySite) (atoms : List Atom) → All (FollowRegisters ops) atoms → All (λ (k : Atom). HasLooks ops (char_in files k).name (char_in files k).looks) atoms
all_looks ops files [] all = All-nil _
all_looks ops files (k ∷ atoms) all =
    All-cons (λ (j : Atom). HasLooks ops (char_in files j).name (char_in files j).looks) k atoms (All-head (FollowRegisters ops) k atoms all).looks (all_looks ops files atoms (All-tail (FollowRegisters ops) k atoms all))

-- the atoms are the characters of the operations
pub chars_of_taken : (ops : List Operation) (items : List (ℕ × Piece)) (files : FilesBySite) → IsTaken ops items files
    → AreChars ops (map (char_in files) (spelled items))
chars_of_taken ops items files t = record {
  order = subst (IsOrder ops) (sym (names_of_chars files (spelled items))) t.atoms.order;
  bytes = All-map (λ (c : Char). HasByte ops c.name c.byte) (char_in files) (spelled items) (all_bytes ops files t.bytes (spelled items) t.atoms.registers);
  looks = All-map (λ (c : Char). HasLooks ops c.name c.looks) (char_in files) (spelled items) (all_looks ops files (spelled items) (all_tell ops t.good (spelled items) t.atoms.registers));
}

-- what is shown of the pieces is what is shown
pub shown_of_atoms : (ops : List Operation) (files : FilesBySite) (atoms : List Atom) → All (FollowRegisters ops) atoms
    → filter (λ (c : Char). is_visible ops c.name) (map (char_in files) atoms) ≡ map (char_in files) (shown_chars atoms)
shown_of_atoms ops files [] all = refl
shown_of_atoms ops files (k ∷ atoms) all =
    let here = (All-head (FollowRegisters ops) k atoms all).visible in
    let rest = shown_of_atoms ops files atoms (All-tail (FollowRegisters ops) k atoms all) in
    rw here (go (not k.hidden.value) rest)
  where
    go : (b : Bool) → filter (λ (c : Char). is_visible ops c.name) (map (char_in files) atoms) ≡ map (char_in files) (shown_chars atoms)
        → cond b (char_in files k ∷ filter (λ (c : Char). is_visible ops c.name) (map (char_in files) atoms)) (filter (λ (c : Char). is_visible ops c.name) (map (char_in files) atoms))
        ≡ map (char_in files) (cond b (k ∷ shown_chars atoms) (shown_chars atoms))
    go true rest = ap (λ (cs : List Char). char_in files k ∷ cs) rest
    go false rest = rest

-- the names of those that pass are the names that pass
one_passes : (b : Bool) (c : Char) (xs : List Char) (names : List CharName) → map (λ s. s.name) xs ≡ names
    → map (λ s. s.name) (cond b (c ∷ xs) xs) ≡ cond b (c.name ∷ names) names
one_passes true c xs names e = ap (λ (ns : List CharName). c.name ∷ ns) e
one_passes false c xs names e = e

names_of_passed : (p : CharName → Bool) (chars : List Char)
    → map (λ s. s.name) (filter (λ c. p c.name) chars) ≡ filter p (map (λ c. c.name) chars)
names_of_passed p [] = refl
names_of_passed p (c ∷ chars) =
    one_passes (p c.name) c (filter (λ (x : Char). p x.name) chars)
    (filter p (map (λ (x : Char). x.name) chars))
    (names_of_passed p chars)

-- the visible ones of all characters are what is shown
pub visible_are_shown : (ops : List Operation) (chars : List Char) → AreChars ops chars
    → IsShown ops (filter (λ c. is_visible ops c.name) chars)
visible_are_shown ops chars are = record {
  order = map (λ c. c.name) chars;
  in_order = are.order;
  visible = names_of_passed (is_visible ops) chars;
  bytes = All-filter (λ c. is_visible ops c.name) (λ c. HasByte ops c.name c.byte) chars are.bytes;
  looks = All-filter (λ c. is_visible ops c.name) (λ c. HasLooks ops c.name c.looks) chars are.looks;
}

-- so what the pieces show is what is defined
pub is_shown : (ops : List Operation) (items : List (ℕ × Piece)) (files : FilesBySite) → IsTaken ops items files
    → IsShown ops (chars_shown items files)
is_shown ops items files t =
    subst (IsShown ops) (shown_of_atoms ops files (spelled items) (all_tell ops t.good (spelled items) t.atoms.registers))
    (visible_are_shown ops (map (char_in files) (spelled items)) (chars_of_taken ops items files t))

-- so all is as it is defined
pub defined : (ops : List Operation) (items : List (ℕ × Piece)) (files : FilesBySite) (asked : ℕ) → IsTaken ops items files → IsDefined (seen_in ops items files asked)
defined ops items files asked t = record {
  good = t.good;
  in_order = t.in_order;
  identified = t.identified;
  chars = chars_of_taken ops items files t;
}

-- files of the same bytes hold the same
pub same_taken : (ops : List Operation) (items items' : List (ℕ × Piece)) (files files' : FilesBySite) → items' ≡ items → SameBytes files files' → IsTaken ops items files → IsTaken ops items' files'
same_taken ops items items' files files' same bytes t = record {
  good = t.good;
  in_order = t.in_order;
  identified = t.identified;
  atoms = subst (λ (ps : List (ℕ × Piece)). AreAtoms ops (spelled ps)) (sym same) t.atoms;
  bytes = record {
    lengths = λ site. ap (length {A = ℕ}) (bytes site) ∙ t.bytes.lengths site;
    bytes = λ c byte has. t.bytes.bytes c byte has ∙ ap (λ (bs : List ℕ). slice_index bs c.off) (sym (bytes c.site));
  };
}
