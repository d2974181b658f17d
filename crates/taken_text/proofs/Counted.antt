-- What a taken text shows: how many characters, and which one at a position.
use Rattle.std.proofs.Common.{◌≡◌, ℕ, ◌<◌, not, inl, inr, List, Option, Some, length, get_or, map, All, Contains}
use Rattle.std.proofs.Common.{sym, ap, subst, ◌∙◌, arith}
use Rattle.std.specs.Prelude.{IfSome, slice_get, slice_index}
use Rattle.std.specs.Option.{option_map}
use Rattle.std.proofs.lemmas.List.{length-map, get_or-map}
use Rattle.std.proofs.lemmas.List.Elements.{All-filter, Contains-get_or}
use Rattle.std.proofs.lemmas.Option.{slice_get_cases, slice_get_within, get_or_from_slice_get, slice_get-map}
use Rattle.looks.specs.declared.looks.Looks.{Looks}
use Rattle.char_files.specs.CharFiles.{FilesBySite, bytes_of}
use Rattle.char_files.specs.CharName.{CharName}
use Rattle.char_files.specs.declared.character.Char.{Char}
use Rattle.operations.specs.Operation.{Operation}
use Rattle.tree_order.specs.Registers.{Atom, atom_looks}
use Rattle.tree_order.specs.Tree.{IsChar}
use Rattle.set_laws.specs.Fronts.{IsHere}
use Rattle.set_laws.proofs.Files.{char_is_here}
use Rattle.piece_list.specs.Spelled.{spelled, shown_chars, names_of_atoms}
use Rattle.piece_list.specs.Piece.{Piece}
use Rattle.taken_text.specs.Taken.{TakenSeen, IsTaken, char_in, seen_in, shown_of_taken}
use Rattle.taken_text.proofs.Spelling.{all_tell, shown_of_atoms}

-- a name's byte is in its site's file
abbrev pub HasByteIn : FilesBySite → CharName → Type 0
HasByteIn files c = c.off < length (bytes_of files c.site)

-- what is shown are the atoms that aren't hidden
pub shown_now : (ops : List Operation) (items : List (ℕ × Piece)) (files : FilesBySite) (asked : ℕ) (now : TakenSeen)
    → seen_in ops items files asked ≡ now → IsTaken ops items files
    → shown_of_taken now ≡ map (char_in files) (shown_chars (spelled items))
shown_now ops items files asked now seen t =
    sym (ap shown_of_taken seen)
    ∙ shown_of_atoms ops files (spelled items) (all_tell ops t.good (spelled items) t.atoms.registers)

pub count_now : (ops : List Operation) (items : List (ℕ × Piece)) (files : FilesBySite) (asked : ℕ) (now : TakenSeen)
    → seen_in ops items files asked ≡ now → IsTaken ops items files
    → length (shown_of_taken now) ≡ length (shown_chars (spelled items))
count_now ops items files asked now seen t =
    ap (length {A = Char}) (shown_now ops items files asked now seen t) ∙ length-map (shown_chars (spelled items)) (char_in files)

-- an atom has a byte
name_of_atom : (atoms : List Atom) (k : Atom) → Contains atoms k → Contains (names_of_atoms atoms) k.name
name_of_atom atoms k (i, lt, is) =
    let name : Atom → CharName = λ (o : Atom). o.name in
    (i, omega (arith, length-map atoms name), get_or-map name atoms i k k.name lt ∙ ap name is)

pub have_bytes : (ops : List Operation) (items : List (ℕ × Piece)) (files : FilesBySite) → IsTaken ops items files
    → All (λ k. HasByteIn files k.name) (spelled items)
have_bytes ops items files t = λ i d lt.
    let k : Atom = get_or (spelled items) i d in
    let char : IsChar ops k.name = (t.atoms.order.each k.name).0 (name_of_atom (spelled items) k (Contains-get_or (spelled items) i d lt)) in
    let here : IsHere ops k.name = char_is_here ops t.good t.identified k.name char in
    omega (arith, here, t.bytes.lengths k.name.site)

-- the character that is shown at a position, of the name and looks that the pieces tell
module _ (ops : List Operation) (items : List (ℕ × Piece)) (files : FilesBySite) (asked : ℕ) (now : TakenSeen)
    (seen : seen_in ops items files asked ≡ now) (t : IsTaken ops items files) (pos : ℕ) (within : pos < length (shown_of_taken now)) where
  pub is_within : pos < length (shown_chars (spelled items))
  is_within = omega (arith, within, count_now ops items files asked now seen t)

  module _ (name : CharName) (looks : Looks) (told : IfSome (slice_get (shown_chars (spelled items)) pos) (λ k. (name ≡ k.name) × (looks ≡ atom_looks k))) where
    there : (k : Atom) × (slice_get (shown_chars (spelled items)) pos ≡ Some k) × (name ≡ k.name) × (looks ≡ atom_looks k)
    there =
        elim (slice_get_cases (shown_chars (spelled items)) pos).1 [
          | inl found ↦
              let (k, lt, is, same) = found in
              let both = subst (λ (o : Option Atom). IfSome o (λ (j : Atom). (name ≡ j.name) × (looks ≡ atom_looks j))) is told in
              (k, is, both.0, both.1)
          | inr past ↦ absurd (omega (arith, is_within, past.0))
        ]

    pub has_byte_in : HasByteIn files name
    has_byte_in =
        let k : Atom = there.0 in
        let shown : List Atom = shown_chars (spelled items) in
        let Has : Atom → Type 0 = λ (o : Atom). HasByteIn files o.name in
        let all : All Has shown = All-filter (λ (o : Atom). not o.hidden.value) Has (spelled items) (have_bytes ops items files t) in
        subst (HasByteIn files) (sym there.2)
        (subst Has (get_or_from_slice_get shown pos k k there.1) (all pos k (slice_get_within shown pos k there.1)))

    pub char_shown : (byte : ℕ) → byte ≡ slice_index (bytes_of files name.site) name.off
        → slice_get (shown_of_taken now) pos ≡ Some (record { name = name; byte = byte; looks = looks })
    char_shown byte is =
        let k : Atom = there.0 in
        let shown : List Atom = shown_chars (spelled items) in
        ap (λ (cs : List Char). slice_get cs pos) (shown_now ops items files asked now seen t)
        ∙ slice_get-map (char_in files) shown pos
        ∙ ap (option_map (char_in files)) there.1
        ∙ ap (λ (c : CharName). Some (record { name = c; byte = slice_index (bytes_of files c.site) c.off; looks = atom_looks k })) (sym there.2)
        ∙ ap (λ (l : Looks). Some (record { name = name; byte = slice_index (bytes_of files name.site) name.off; looks = l })) (sym there.3)
        ∙ ap (λ (b : ℕ). Some (record { name = name; byte = b; looks = looks })) (sym is)
