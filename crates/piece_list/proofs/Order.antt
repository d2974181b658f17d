-- A run that is inserted where it belongs makes all characters of the larger set in order, each with its
-- registers.
use Rattle.std.proofs.Common.{ℕ, false, List, [], ◌∷◌, ◌++◌, length, map, sym, ap, subst, ◌∙◌, ◌≡◌, Bool, true, refl}
use Rattle.looks.specs.declared.key.Key.{Key}
use Rattle.looks.specs.declared.looks.Looks.{Looks}
use Rattle.char_files.specs.CharName.{CharName}
use Rattle.operations.specs.Operation.{OpKind, key_of}
use Rattle.tree_order.specs.Insertion.{run_by}
use Rattle.tree_order.specs.Looks.{looks_by}
use Rattle.tree_order.specs.Registers.{Atom, AreAtoms}
use Rattle.tree_order.proofs.AtomsWithRun.{after_greater_keys}
use Rattle.piece_list.specs.Pieces.{chars_of, piece_of}
use Rattle.piece_list.specs.Laws.{PlacedAreAtoms, PieceIsFirstAtoms}
use Rattle.piece_list.proofs.Gap.{key_begins}

pub are_atoms : PlacedAreAtoms
are_atoms ops i cause old new one at atoms placed =
    subst (AreAtoms (ops ++ i ∷ [])) (sym placed.placed)
    (after_greater_keys ops i cause old placed.before placed.skipped one at atoms placed.after placed.longest)

-- the atoms that an Insert makes
abbrev atoms_of : ℕ → Key → OpKind → List Atom
atoms_of site key kind = map (λ (c : CharName). record {
  name = c;
  key = key;
  font = record { key = key; value = (looks_by kind).font };
  colour = record { key = key; value = (looks_by kind).colour };
  offset = record { key = key; value = (looks_by kind).offset };
  hidden = record { key = key; value = false };
}) (run_by site kind)

abbrev piece_chars : (rising : Bool) → ℕ → ℕ → ℕ → Key → Looks → List Atom
piece_chars rising site off len key looks =
    chars_of (piece_of (record { site = site; off = off; len = len; key = key; rising = rising; looks = looks }))

-- a key that rises is one key where there is one character alone
level_chars : (rising : Bool) (site off len : ℕ) (key : Key) (looks : Looks) → (rising ≡ true → len ≡ 1)
    → piece_chars rising site off len key looks ≡ piece_chars false site off len key looks
level_chars false site off len key looks alone = refl
level_chars true site off len key looks alone =
    let one : len ≡ 1 = alone refl in
    let char : Key → List Atom = λ (k : Key). record {
      name = record { site = site; off = off };
      key = k;
      font = record { key = k; value = looks.font };
      colour = record { key = k; value = looks.colour };
      offset = record { key = k; value = looks.offset };
      hidden = record { key = k; value = false };
    } ∷ [] in
    ap (λ (n : ℕ). piece_chars true site off n key looks) one
    ∙ ap char (key_begins true key site off)
    ∙ sym (ap (λ (n : ℕ). piece_chars false site off n key looks) one)

pub first_atoms_piece : PieceIsFirstAtoms
first_atoms_piece i r (cause, bytes, kind, site, len, key, alone) =
    level_chars r.rising r.site r.off r.len r.key r.looks alone
    ∙ ap (λ (s : ℕ). piece_chars false s r.off r.len r.key r.looks) site
    ∙ ap (λ (l : ℕ). piece_chars false i.site r.off l r.key r.looks) len
    ∙ ap (λ (k : Key). piece_chars false i.site r.off (length bytes) k r.looks) key
    ∙ sym (ap (atoms_of i.site (key_of i)) kind)
