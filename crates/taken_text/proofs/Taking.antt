-- What an operation that is new and ready makes of what was taken in.
use Rattle.std.proofs.Common.{◌≡◌, ℕ, ◌<◌, true, inr, List, [], ◌∷◌, ◌++◌, length, map, refl, sym, ap, subst, ◌∙◌, arith}
use Rattle.std.proofs.lemmas.Bool.Decides.{nat_tests}
use Rattle.std.proofs.lemmas.List.Elements.{All-contains}
use Rattle.looks.specs.Key.{is_below}
use Rattle.looks.specs.declared.key.Key.{Key}
use Rattle.std.specs.Prelude.{Result, Ok, Err, OnOk}
use Rattle.looks.specs.declared.looks.Looks.{Looks}
use Rattle.char_files.specs.CharFiles.{FilesBySite, bytes_of, OtherSitesStay}
use Rattle.char_files.specs.CharName.{CharName}
use Rattle.char_files.specs.declared.name.Anchor.{Anchor}
use Rattle.char_files.specs.declared.name.Anchor.TheVariants.{Root, At}
use Rattle.operations.specs.NameSet.{Range, IsIn, IsAmong}
use Rattle.operations.specs.Operation.{Operation, OpKind, insert, appended_len, InsertsBy, MentionsBy}
use Rattle.operations.specs.Operation.{Begins, Mentions, key_of}
use Rattle.tree_order.specs.Insertion.{HasCauseBy}
use Rattle.tree_order.specs.RegisterLaws.{InsertsNone}
use Rattle.tree_order.specs.Registers.{Atom, AreAtoms, HasRegisters, atom_by, atom_after}
use Rattle.set_laws.specs.Fronts.{file_len}
use Rattle.set_laws.specs.Growing.{AreDeterminedByCounts}
use Rattle.set_laws.specs.Sets.{KeepsCauses}
use Rattle.set_laws.specs.Verdict.{HasVerdict, IsNew, ready}
use Rattle.tree_order.proofs.RegisterLists.{atom_list}
use Rattle.set_laws.proofs.Preceding.{causes_kept_with_one}
use Rattle.set_laws.proofs.Counting.{determined_by_counts}
use Rattle.piece_list.proofs.Order.{are_atoms, first_atoms_piece}
use Rattle.piece_list.specs.Changing.{AreBelow}
use Rattle.piece_list.specs.Laws.{IsRunOf}
use Rattle.piece_list.specs.Pieces.{chars_of, piece_of}
use Rattle.piece_list.specs.Placed.{IsPlaced}
use Rattle.piece_list.specs.Placing.{HasAnchor}
use Rattle.piece_list.specs.Spelled.{HasName, spelled}
use Rattle.piece_list.specs.Piece.{Piece}
use Rattle.piece_list.specs.declared.run.Run.{Run}
use Rattle.taken_text.specs.Taken.{IsTaken}
use Rattle.taken_text.proofs.Bytes.{hold_more, hold_no_more}
use Rattle.taken_text.proofs.Ready.{begins, none_after, counted, larger_good, larger_identified, mentioned_atoms, one_more}

-- what follows where there is a value
pub on_ok : {X E : Type 0} (r : Result X E) (P Q : Type 0) → (P → Q) → OnOk r P → OnOk r Q
on_ok (Ok x) P Q f h = f h
on_ok (Err e) P Q f h = tt

pub both_ok : {X E : Type 0} (r : Result X E) (P Q R : Type 0) → (P → Q → R) → OnOk r P → OnOk r Q → OnOk r R
both_ok (Ok x) P Q R f h g = f h g
both_ok (Err e) P Q R f h g = tt

module _ (ops : List Operation) (op : Operation) (items : List (ℕ × Piece)) (files : FilesBySite) (taken : IsTaken ops items files) (new : IsNew ops op) (is : HasVerdict ops op ready) where
  told : AreDeterminedByCounts ops op
  told = determined_by_counts ops op taken.good taken.identified new

  -- causes come first
  larger_in_order : KeepsCauses (ops ++ op ∷ [])
  larger_in_order = causes_kept_with_one ops op taken.in_order (larger_good ops op taken.good taken.identified new is)

  -- an Insert
  module _ (cause : Anchor) (at : ℕ) (looks : Looks) (bytes : List ℕ) (kind : op.kind ≡ insert cause at looks bytes) where
    -- begins at its site's file's end
    at_end : at ≡ file_len ops op.site
    at_end = subst (λ (k : OpKind). Begins k (file_len ops op.site)) kind (begins ops op taken.good taken.identified new is)

    -- its cause is among the characters
    pub cause_here : HasAnchor (spelled items) cause
    cause_here = go cause kind
      where
        go : (a : Anchor) → op.kind ≡ insert a at looks bytes → HasAnchor (spelled items) a
        go Root e = tt
        go (At c) e = mentioned_atoms ops op taken.good taken.identified new is (spelled items) taken.atoms c (subst (λ (k : OpKind). MentionsBy k c) (sym e) refl)

    -- its own aren't
    pub names_new : (c : CharName) → IsIn (record { site = op.site; at = at; len = length bytes }) c → HasName (spelled items) c → ⊥
    names_new c h =
        let len : file_len ops c.site ≡ at = ap (file_len ops) h.0 ∙ sym at_end in
        none_after ops op taken.good taken.identified new is (spelled items) taken.atoms c (omega (arith, len, h.1))

    -- its run put in its place, and its bytes after its site's
    pub taken_with_run : (run : Run) → IsRunOf op run → (items' : List (ℕ × Piece)) (files' : FilesBySite)
        → IsPlaced run.key cause (chars_of (piece_of run)) (spelled items) (spelled items') → bytes_of files' op.site ≡ bytes_of files op.site ++ bytes → OtherSitesStay files op.site files'
        → IsTaken (ops ++ op ∷ []) items' files'
    taken_with_run run of items' files' put own others =
        let chars = first_atoms_piece op run of in
        let (cause', bytes', kind', site', len', key', alone) = of in
        let there : IsPlaced (key_of op) cause (chars_of (piece_of run)) (spelled items) (spelled items') = subst (λ key. IsPlaced key cause (chars_of (piece_of run)) (spelled items) (spelled items')) key' put in
        record {
          good = larger_good ops op taken.good taken.identified new is;
          in_order = larger_in_order;
          identified = larger_identified ops op taken.good taken.identified new is;
          atoms = are_atoms ops op cause (spelled items) (spelled items') (one_more ops op taken.good taken.identified new is) (subst (λ (k : OpKind). HasCauseBy k cause) (sym kind) refl) taken.atoms
              (subst (λ (cs : List Atom). IsPlaced (key_of op) cause cs (spelled items) (spelled items')) chars there);
          bytes = hold_more ops op files (λ c h. (told.here c).0 h) (λ c h. (told.here c).1 h) (counted ops op taken.good taken.identified new is) taken.bytes cause looks bytes files'
              (kind ∙ ap (λ (n : ℕ). insert cause n looks bytes) at_end) own others;
        }

  -- one that inserts nothing changes registers
  taken_with_change : InsertsNone op → appended_len op.kind ≡ 0 → (items' : List (ℕ × Piece)) → spelled items' ≡ map (atom_after op) (spelled items) → IsTaken (ops ++ op ∷ []) items' files
  taken_with_change none appended items' changed =
      let larger = larger_good ops op taken.good taken.identified new is in
      record {
        good = larger;
        in_order = larger_in_order;
        identified = larger_identified ops op taken.good taken.identified new is;
        atoms = subst (AreAtoms (ops ++ op ∷ [])) (sym changed) (atom_list ops op larger none (spelled items) taken.atoms);
        bytes = hold_no_more ops op files (λ c h. (told.here c).0 h) (λ c h. (told.here c).1 h) (counted ops op taken.good taken.identified new is) taken.bytes none appended;
      }

  module _ (names : List Range) (of : List Range → OpKind) (kind : op.kind ≡ of names) where
    -- the names that a Delete, a Restore or a ChangeLooks mentions are among the characters
    pub names_here : ((c : CharName) → IsAmong names c → MentionsBy (of names) c) → (c : CharName) → IsAmong names c → HasName (spelled items) c
    names_here mentions c h = mentioned_atoms ops op taken.good taken.identified new is (spelled items) taken.atoms c (subst (λ (k : OpKind). MentionsBy k c) (sym kind) (mentions c h))

    -- and each such kind changes the registers of these
    pub taken_with : ((c : CharName) → InsertsBy op.site (of names) c → ⊥) → appended_len (of names) ≡ 0
        → (items' : List (ℕ × Piece)) → spelled items' ≡ map (atom_by (of names) (key_of op)) (spelled items) → IsTaken (ops ++ op ∷ []) items' files
    taken_with none appended items' changed =
        taken_with_change (λ c h. none c (subst (λ (k : OpKind). InsertsBy op.site k c) kind h)) (ap appended_len kind ∙ appended) items'
        (changed ∙ ap (λ (k : OpKind). map (atom_by k (key_of op)) (spelled items)) (sym kind))

    -- and have lesser keys
    pub names_below : ((c : CharName) → IsAmong names c → MentionsBy (of names) c) → AreBelow (key_of op) names (spelled items)
    names_below mentions k has among =
        let at : HasRegisters ops k = All-contains (HasRegisters ops) (spelled items) k taken.atoms.registers has in
        let (i, inserts, key) = at.key in
        let mentioned : Mentions op k.name = subst (λ (o : OpKind). MentionsBy o k.name) (sym kind) (mentions k.name among) in
        let less : i.stamp < op.stamp = is.3 i inserts.held (inr (k.name, mentioned, inserts.inserts)) in
        let below : is_below (key_of i) (key_of op) ≡ true = grind (arith, nat_tests, less) in
        ap (λ (own : Key). is_below own (key_of op)) key ∙ below
