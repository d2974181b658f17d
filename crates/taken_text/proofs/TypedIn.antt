-- Letters that were put in one after the other are taken in, one after the other.
use Rattle.std.proofs.Common.{◌≡◌, ℕ, false, inl, inr, List, [], ◌∷◌, ◌++◌, length, map, Some, refl}
use Rattle.std.proofs.Common.{sym, ap, subst, ◌∙◌, append_assoc, append-nil, eq-eqb}
use Rattle.std.proofs.lemmas.Bool.Decides.{eqb_tells}
use Rattle.char_files.specs.CharFiles.{FilesBySite, bytes_of, OtherSitesStay, SameBytes}
use Rattle.list_changes.specs.Changes.{IsOfKind}
use Rattle.list_changes.specs.declared.change.Change.{Change}
use Rattle.list_changes.specs.declared.change.ChangeKind.TheVariants.{Insert}
use Rattle.operations.specs.Letters.{after_letter, letter, letters}
use Rattle.operations.specs.Operation.{Operation}
use Rattle.operations.specs.declared.typing.Typing.{Typing}
use Rattle.set_laws.proofs.NextLetter.{next_letter}
use Rattle.set_laws.specs.Verdict.{HasVerdict, IsNew, ready}
use Rattle.tree_order.specs.Registers.{Atom, AreAtoms}
use Rattle.piece_list.specs.Noted.{Notes}
use Rattle.piece_list.specs.Piece.{Piece}
use Rattle.piece_list.specs.Pieces.{chars_of, piece_of}
use Rattle.piece_list.specs.Placed.{IsPlaced}
use Rattle.piece_list.specs.Spelled.{shown_chars, spelled}
use Rattle.piece_list.specs.Typed.{AreTypedIn, first_letter, told_of}
use Rattle.taken_text.specs.Letters.{typed_run}
use Rattle.taken_text.specs.Noted.{AreChangesSince, IsNotedText}
use Rattle.taken_text.specs.Taken.{IsTaken, char_in, chars_shown}
use Rattle.taken_text.proofs.Noting.{gains_told, shown_same, shown_stay, since_more}
use Rattle.taken_text.proofs.Spelling.{same_taken}
use Rattle.taken_text.proofs.Taking.{taken_with_run}

abbrev Items : Type 0
Items = List (ℕ × Piece)

-- ---- pieces of one character each spell any atoms

piece_of_atom : Atom → Piece
piece_of_atom k = record {
  site = k.name.site;
  off = k.name.off;
  len = 1;
  key = k.key;
  rising = false;
  font = record { by = Some k.font.key; value = k.font.value };
  colour = record { by = Some k.colour.key; value = k.colour.value };
  offset = record { by = Some k.offset.key; value = k.offset.value };
  hidden = record { by = Some k.hidden.key; value = k.hidden.value };
}

items_of : List Atom → Items
items_of [] = []
items_of (k ∷ atoms) = (0, piece_of_atom k) ∷ items_of atoms

spells : (atoms : List Atom) → spelled (items_of atoms) ≡ atoms
unfolding items_of piece_of_atom
spells [] = refl
spells (k ∷ atoms) = ap (λ (l : List Atom). k ∷ l) (spells atoms)

-- ---- a file with bytes more

files_with : FilesBySite → ℕ → List ℕ → FilesBySite
files_with files site bytes = (site, record { bytes = bytes_of files site ++ bytes; room = 0 }) ∷ files

own_bytes : (files : FilesBySite) (site : ℕ) (bytes : List ℕ) → bytes_of (files_with files site bytes) site ≡ bytes_of files site ++ bytes
unfolding files_with
own_bytes files site bytes = rw (eq-eqb site site refl) refl

others_stay : (files : FilesBySite) (site : ℕ) (bytes : List ℕ) → OtherSitesStay files site (files_with files site bytes)
unfolding files_with
others_stay files site bytes other differs = elim (eqb_tells other site) [
  | inl same ↦ absurd (differs same.1)
  | inr apart ↦ rw apart.0 refl
]

-- ---- one letter more

module _ (ops : List Operation) (t : Typing) (b n : ℕ) (items : Items) (files : FilesBySite) (asked : ℕ) (note between : List Change) (mid : List Atom)
    (was : IsNotedText ops items files asked note) (new : IsNew ops (letter t b)) (is : HasVerdict ops (letter t b) ready)
    (placed : IsPlaced (typed_run t n).key t.cause (chars_of (piece_of (first_letter (typed_run t n)))) (spelled items) mid)
    (noted : Notes (IsOfKind Insert) note between (told_of (spelled items)) (told_of mid)) where
  abbrev larger : FilesBySite
  larger = files_with files t.site (b ∷ [])

  taken_in : IsTaken (ops ++ letter t b ∷ []) (items_of mid) larger
  taken_in =
      taken_with_run ops (letter t b) items files was.taken new is t.cause t.at t.looks (b ∷ []) refl (first_letter (typed_run t n))
      (t.cause, b ∷ [], refl, refl, refl, refl, λ rises. refl) (items_of mid) larger
      (subst (IsPlaced (typed_run t n).key t.cause (chars_of (piece_of (first_letter (typed_run t n)))) (spelled items)) (sym (spells mid)) placed)
      (own_bytes files t.site (b ∷ [])) (others_stay files t.site (b ∷ []))

  one_taken : IsNotedText (ops ++ letter t b ∷ []) (items_of mid) larger asked between
  one_taken = record {
    taken = taken_in;
    noted =
        since_more asked ops (letter t b) note between (chars_shown items files) (chars_shown (items_of mid) larger) was.noted
        (gains_told ops (letter t b) (IsOfKind Insert) note between items (items_of mid) files larger taken_in
        (shown_stay ops items files larger t.site (b ∷ []) was.taken (own_bytes files t.site (b ∷ [])) (others_stay files t.site (b ∷ [])))
        (λ changes all. all)
        (subst (λ (l : List Atom). Notes (IsOfKind Insert) note between (told_of (spelled items)) (told_of l)) (sym (spells mid)) noted));
  }

-- ---- all of them

-- pieces that spell the same, over the same bytes, are the same text
same_text : (ops : List Operation) (items items' : Items) (files files' : FilesBySite) (asked : ℕ) (note : List Change)
    → spelled items' ≡ spelled items → SameBytes files files' → IsNotedText ops items files asked note
    → IsNotedText ops items' files' asked note
same_text ops items items' files files' asked note same bytes was =
    let taken : IsTaken ops items files' = same_taken ops items items files files' refl bytes was.taken in
    let shown : chars_shown items' files' ≡ chars_shown items files =
    ap (λ (l : List Atom). map (char_in files') (shown_chars l)) same ∙ shown_same items items files files' refl bytes in
    record {
      taken = record {
        good = taken.good;
        in_order = taken.in_order;
        identified = taken.identified;
        atoms = subst (AreAtoms ops) (sym same) taken.atoms;
        bytes = taken.bytes;
      };
      noted = subst (AreChangesSince asked ops note) (sym shown) was.noted;
    }

-- bytes of none are the same bytes
no_bytes : (files files' : FilesBySite) (site : ℕ) → bytes_of files' site ≡ bytes_of files site ++ [] → OtherSitesStay files site files'
    → SameBytes files files'
no_bytes files files' site own others other = elim (eqb_tells other site) [
  | inl same ↦ subst (λ (s : ℕ). bytes_of files' s ≡ bytes_of files s) (sym same.1) (own ∙ append-nil (bytes_of files site))
  | inr apart ↦ others other apart.1
]

pub letters_taken : (bytes : List ℕ) (ops : List Operation) (t : Typing) (n : ℕ) (items items' : Items) (files files' : FilesBySite) (asked : ℕ)
    (note note' : List Change) → IsNotedText ops items files asked note → ((b : ℕ) → IsNew ops (letter t b))
    → ((b : ℕ) → HasVerdict ops (letter t b) ready)
    → AreTypedIn (length bytes) (typed_run t n) t.cause note note' (spelled items) (spelled items')
    → bytes_of files' t.site ≡ bytes_of files t.site ++ bytes → OtherSitesStay files t.site files'
    → IsNotedText (ops ++ letters t bytes) items' files' asked note'
letters_taken [] ops t n items items' files files' asked note note' was new is (same_note, same) own others =
    subst (λ (l : List Operation). IsNotedText l items' files' asked note') (sym (append-nil ops))
    (subst (IsNotedText ops items' files' asked) (sym same_note)
    (same_text ops items items' files files' asked note same (no_bytes files files' t.site own others) was))
letters_taken (b ∷ bytes) ops t n items items' files files' asked note note' was new is (mid, between, placed, noted, more) own others =
    let next_files : FilesBySite = files_with files t.site (b ∷ []) in
    let next : (c : ℕ) → IsNew (ops ++ letter t b ∷ []) (letter (after_letter t) c) × HasVerdict (ops ++ letter t b ∷ []) (letter (after_letter t) c) ready =
    λ c. next_letter ops t b c was.taken.good was.taken.identified (new b) (is b) in
    subst (λ (l : List Operation). IsNotedText l items' files' asked note')
    (append_assoc ops (letter t b ∷ []) (letters (after_letter t) bytes))
    (letters_taken bytes (ops ++ letter t b ∷ []) (after_letter t) n (items_of mid) items' next_files files' asked between note'
    (one_taken ops t b n items files asked note between mid was (new b) (is b) placed noted)
    (λ c. (next c).0) (λ c. (next c).1)
    (subst (λ (l : List Atom). AreTypedIn (length bytes) (typed_run (after_letter t) n) (after_letter t).cause between note' l (spelled items'))
    (sym (spells mid)) more)
    (own ∙ sym (append_assoc (bytes_of files t.site) (b ∷ []) bytes)
    ∙ ap (λ (l : List ℕ). l ++ bytes) (sym (own_bytes files t.site (b ∷ []))))
    (λ other differs. others other differs ∙ sym (others_stay files t.site (b ∷ []) other differs)))
