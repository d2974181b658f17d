-- Which names are characters, and where a new operation that follows on stands.
use Rattle.std.proofs.Common.{◌≡◌, ℕ, zero, suc, ◌+◌, ◌<◌, ◌≤◌, inl, inr, List, Contains}
use Rattle.std.proofs.Common.{refl, sym, ap, subst, ◌∙◌, arith}
use Rattle.std.proofs.lemmas.Bool.{cases_lt}
use Rattle.char_files.specs.CharName.{CharName}
use Rattle.operations.specs.Operation.{Operation}
use Rattle.tree_order.specs.Good.{Good, IsPredecessor, file_before}
use Rattle.tree_order.specs.Tree.{IsChar}
use Rattle.set_laws.specs.Fronts.{front_of, file_len, IsHeld, IsHere}
use Rattle.set_laws.specs.Sets.{IsPartOf, AreIdentified}
use Rattle.set_laws.specs.Verdict.{IsNew, FollowsOn}
use Rattle.tree_order.proofs.Files.{file_before_grows}
use Rattle.set_laws.proofs.Fronts.{up_to_front, held_to_front}
use Rattle.set_laws.proofs.Lengths.{same_file, appended_by, appended_none, find_stretch}
use Rattle.set_laws.proofs.Covered.{IsInSpan, in_span, from_span}

-- a name below its file's end is a character
pub here_is_char : (ops : List Operation) → Good ops → AreIdentified ops → (name : CharName)
    → IsHere ops name → IsChar ops name
here_is_char ops good known name here =
    let found = find_stretch ops name.site (suc (front_of ops name.site)) name.off here in
    by_seq found.0 found.1 found.2 found.3
  where
    by_held : (seq : ℕ) → file_before ops name.site seq ≤ name.off
        → name.off < file_before ops name.site (suc seq) → IsHeld ops name.site seq → IsChar ops name
    by_held seq from to (op, held, on, at) =
        let from' : file_before ops op.site op.seq ≤ name.off =
        subst (λ (s : ℕ). file_before ops s op.seq ≤ name.off) (sym on)
        (subst (λ (k : ℕ). file_before ops name.site k ≤ name.off) (sym at) from) in
        let to' : name.off < file_before ops op.site (suc op.seq) =
        subst (λ (s : ℕ). name.off < file_before ops s (suc op.seq)) (sym on)
        (subst (λ (k : ℕ). name.off < file_before ops name.site (suc k)) (sym at) to) in
        let len = appended_by ops known op held in
        let span : IsInSpan op.site (file_before ops op.site op.seq) op.kind name =
        record { on = sym on; from = from'; below = omega arith } in (
          op,
          record {
            held = held;
            inserts =
                from_span op.site (file_before ops op.site op.seq) op.kind name (good.begins op held) span;
          },
        )

    by_seq : (seq : ℕ) → seq < suc (front_of ops name.site) → file_before ops name.site seq ≤ name.off
        → name.off < file_before ops name.site (suc seq) → IsChar ops name
    by_seq zero below from to =
        let none = appended_none ops name.site 0
        (λ h. let (op, held, on, at) = h in let counted = known.counted op held in absurd (omega arith)) in
        absurd (omega arith)
    by_seq (suc seq) below from to =
        by_held (suc seq) from to
        (held_to_front ops good.predecessors name.site (suc seq) (omega arith) (omega arith))

-- and a character is below its file's end
pub char_is_here : (ops : List Operation) → Good ops → AreIdentified ops → (name : CharName)
    → IsChar ops name → IsHere ops name
char_is_here ops good known name (i, is) =
    let span = in_span i.site (file_before ops i.site i.seq) i.kind name (good.begins i is.held) is.inserts in
    let len = appended_by ops known i is.held in
    let front = up_to_front ops i is.held in
    let grows = file_before_grows ops i.site (suc i.seq) (suc (front_of ops i.site)) (omega arith) in
    let below : name.off < file_len ops i.site = let b = span.below in omega arith in
    subst (λ (s : ℕ). name.off < file_len ops s) (sym span.on) below

-- a new operation is past its site's front
pub past_front : (ops : List Operation) → Good ops → (op : Operation) → IsNew ops op
    → front_of ops op.site < op.seq
past_front ops good op new =
    elim (cases_lt (front_of ops op.site) op.seq) [
      | inl past ↦ past
      | inr le ↦ absurd (new.unheld (held_to_front ops good.predecessors op.site op.seq new.counted le))
    ]

-- it follows on where it is the next one
pub follows_by_front : (ops : List Operation) → Good ops → (op : Operation)
    → op.seq ≤ front_of ops op.site + 1 → FollowsOn ops op
follows_by_front ops good op le later =
    predecessor op.seq refl later le
  where
    predecessor : (seq : ℕ) → op.seq ≡ seq → 1 < seq → seq ≤ front_of ops op.site + 1
        → (p : Operation) × Contains ops p × IsPredecessor p op
    predecessor zero at more le = absurd (omega arith)
    predecessor (suc seq) at more le =
        let (p, held, on, p_at) =
        held_to_front ops good.predecessors op.site seq (omega arith) (omega arith) in
        (p, held, (on, omega arith))

pub front_by_follows : (ops : List Operation) → (op : Operation) → FollowsOn ops op
    → op.seq ≤ front_of ops op.site + 1
front_by_follows ops op follows =
    elim (cases_lt 1 op.seq) [
      | inl later ↦ let (p, held, is) = follows later in
          let next = is.1 in
          let bound : p.seq ≤ front_of ops op.site =
          subst (λ (s : ℕ). p.seq ≤ front_of ops s) is.0 (up_to_front ops p held) in
          omega arith
      | inr first ↦ omega arith
    ]

pub next_seq : (ops : List Operation) → Good ops → (op : Operation) → IsNew ops op → FollowsOn ops op
    → op.seq ≡ suc (front_of ops op.site)
next_seq ops good op new follows =
    let past = past_front ops good op new in let le = front_by_follows ops op follows in omega arith

-- all seqs below it are held
pub below_is_held : (ops : List Operation) → Good ops → (op : Operation) → IsNew ops op → FollowsOn ops op
    → (seq : ℕ) → 0 < seq → seq < op.seq → IsHeld ops op.site seq
below_is_held ops good op new follows seq some lt =
    let at = next_seq ops good op new follows in
    held_to_front ops good.predecessors op.site seq some (omega arith)

-- so in each greater set it stands at the end of the file
pub next_file : (ops more : List Operation) → Good ops → IsPartOf ops more → AreIdentified more
    → (op : Operation) → IsNew ops op → FollowsOn ops op
    → file_len ops op.site ≡ file_before more op.site op.seq
next_file ops more good within known op new follows =
    let at = next_seq ops good op new follows in
    ap (file_before ops op.site) (sym at)
    ∙ same_file ops more within known op.site op.seq (below_is_held ops good op new follows)
