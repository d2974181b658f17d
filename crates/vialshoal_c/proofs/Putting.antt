-- Bytes are put into a room from its beginning, some after the other.
use Rattle.std.proofs.Common.{◌≡◌, ℕ, ◌+◌, ◌≤◌, List, [], ◌++◌, length, take, drop, refl, sym, ap, ◌∙◌, arith}
use Rattle.std.proofs.lemmas.List.{append-nil, append_assoc, drop-drop, length-append, length-drop}
use Rattle.std.proofs.Math.Seq.{take-append_seam, drop-append_seam}

-- some bytes are put in, these are left, and the rest of the room is as it was
pub record IsPut (all left old new : List ℕ) (at : ℕ) : Type 0 where
  pub done : List ℕ
  pub whole : done ++ left ≡ all
  pub count : at ≡ length done
  pub fits : length all ≤ length old
  pub room : new ≡ done ++ drop at old

pub put_begins : (all old : List ℕ) → length all ≤ length old → IsPut all all old old 0
put_begins all old fits = record { done = []; whole = refl; count = refl; fits = fits; room = refl }

pub has_room : (all more left old new : List ℕ) (at : ℕ) → IsPut all (more ++ left) old new at → at + length more ≤ length new
has_room all more left old new at is =
    let counted : length is.done + length (more ++ left) ≡ length all = sym (length-append is.done (more ++ left)) ∙ ap length is.whole in
    let len : length new ≡ length is.done + length (drop at old) = ap length is.room ∙ length-append is.done (drop at old) in
    omega (arith, counted, len, length-append more left, length-drop at old, is.count, is.fits)

pub put_more : (all more left old new : List ℕ) (at : ℕ) → IsPut all (more ++ left) old new at
    → IsPut all left old (take at new ++ more ++ drop (at + length more) new) (at + length more)
put_more all more left old new at is =
    let k : ℕ = length more in
    let front : take at new ≡ is.done =
    ap (λ (n : ℕ). take n new) is.count ∙ ap (take (length is.done)) is.room ∙ take-append_seam is.done (drop at old) in
    let after : drop at new ≡ drop at old =
    ap (λ (n : ℕ). drop n new) is.count ∙ ap (drop (length is.done)) is.room ∙ drop-append_seam is.done (drop at old) in
    let back : drop (at + k) new ≡ drop (at + k) old = sym (drop-drop k at new) ∙ ap (drop k) after ∙ drop-drop k at old in
    record {
      done = is.done ++ more;
      whole = append_assoc is.done more left ∙ is.whole;
      count = ap (λ (n : ℕ). n + k) is.count ∙ sym (length-append is.done more);
      fits = is.fits;
      room =
          ap (λ (l : List ℕ). l ++ more ++ drop (at + k) new) front
          ∙ ap (λ (l : List ℕ). is.done ++ more ++ l) back;
    }

pub put_ends : (all old new : List ℕ) (at : ℕ) → IsPut all [] old new at → new ≡ all ++ drop (length all) old
put_ends all old new at is =
    let done : is.done ≡ all = sym (append-nil is.done) ∙ is.whole in
    is.room ∙ ap (λ (n : ℕ). is.done ++ drop n old) is.count
    ∙ ap (λ (l : List ℕ). l ++ drop (length l) old) done
