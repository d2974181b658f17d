-- How operations leave the room, one after the other.
use Rattle.std.proofs.Common.{◌≡◌, ◌≢◌, ℕ, zero, suc, ◌+◌, ◌<◌, List, [], ◌∷◌, ◌++◌, length, take, drop, Some, Ok, Err}
use Rattle.std.proofs.Common.{slice_get, Bool, true, false, Contains, All, inl, inr, refl, ap, sym, subst, ◌∙◌, arith}
use Rattle.std.proofs.lemmas.Bool.{false≢true}
use Rattle.std.proofs.lemmas.List.{length-append}
use Rattle.std.proofs.lemmas.List.Elements.{All-append, All-contains, All-drop, All-take}
use Rattle.std.proofs.lemmas.Option.{none-some, same_Some}
use Rattle.looks.specs.declared.refusal.Refusal.{Refusal}
use Rattle.operations.specs.Operation.{Operation}
use Rattle.set_laws.specs.Fronts.{IsHeld}
use Rattle.set_laws.specs.Verdict.{IsNew, HasVerdict}
use Rattle.waiting_room.specs.Judged.{verdict_of}
use Rattle.waiting_room.specs.Room.{IsFirstToLeave, StaysWaiting, without}
use Rattle.waiting_room.specs.declared.judging.Verdict.{Verdict}
use Rattle.waiting_room.specs.declared.judging.Verdict.TheVariants.{Wait, Misfit, LowStamp, Ready}
use Rattle.texts.specs.Draining.{AllStay, Drains, ends, stops, takes_in, throws_away}
use Rattle.texts.specs.Draining.{IsNextOut, IsThrownAway, LeavesRoom}
use Rattle.texts.specs.Text.{IsText}
use Rattle.texts.specs.TextState.{TextState}

module _ {X : Type 0} where
  -- what stands at a place is an element
  pub is_element : (xs : List X) (i : ℕ) (x : X) → slice_get xs i ≡ Some x → Contains xs x
  is_element [] i x is = absurd (none-some x is)
  is_element (y ∷ ys) zero x is = (0, omega arith, same_Some y x is)
  is_element (y ∷ ys) (suc i) x is = let (j, lt, at) = is_element ys i x is in (suc j, omega arith, at)

  -- a list is what stands before a place, what stands there, and what stands after it
  pub parted : (xs : List X) (i : ℕ) (x : X) → slice_get xs i ≡ Some x → xs ≡ take i xs ++ x ∷ drop (i + 1) xs
  parted [] i x is = absurd (none-some x is)
  parted (y ∷ ys) zero x is = ap (λ z. z ∷ ys) (same_Some y x is)
  parted (y ∷ ys) (suc i) x is =
      let next : suc (i + 1) ≡ suc i + 1 = omega arith in
      subst (λ n. y ∷ ys ≡ y ∷ take i ys ++ x ∷ drop n (y ∷ ys)) next (ap (λ zs. y ∷ zs) (parted ys i x is))

-- without what stands at a place there is one fewer
pub one_fewer : (room : List Operation) (i : ℕ) (op : Operation) → slice_get room i ≡ Some op
    → length (without room i) + 1 ≡ length room
one_fewer room i op there =
    let before = take i room in
    let after = drop (i + 1) room in
    let whole : length room ≡ length before + length (op ∷ after) =
    ap (length {A = Operation}) (parted room i op there) ∙ length-append before (op ∷ after) in
    let rest : length (without room i) ≡ length before + length after = length-append before after in
    omega (arith, whole, rest)

-- what holds of all holds without one of them
pub all_without : (P : Operation → Type 0) (room : List Operation) (i : ℕ) → All P room → All P (without room i)
all_without P room i all =
    All-append P (take i room) (drop (i + 1) room) (All-take P i room all) (All-drop P (i + 1) room all)

-- the first to leave the room is the next one out
pub next_out : (t : TextState) (i : ℕ) (op : Operation) → IsFirstToLeave t.operations t.waiting_room i
    → slice_get t.waiting_room i ≡ Some op → IsNextOut t (take i t.waiting_room) op (drop (i + 1) t.waiting_room)
next_out t i op first there = record { room = parted t.waiting_room i op there; stay = first.before }

-- it is of this text, and doesn't stay
pub is_leaving : (t : TextState) (i : ℕ) (op : Operation) → IsText t → IsFirstToLeave t.operations t.waiting_room i
    → slice_get t.waiting_room i ≡ Some op → (op.text ≡ t.text) × (¬ StaysWaiting t.operations op)
is_leaving t i op is first there =
    let same : first.op ≡ op = same_Some first.op op (sym first.there ∙ there) in (
      All-contains (λ (o : Operation). o.text ≡ t.text) t.waiting_room op is.waiting.of_text
          (is_element t.waiting_room i op there),
      subst (λ o. ¬ StaysWaiting t.operations o) same first.leaves,
    )

-- one that the log doesn't hold is new
pub is_new : (log ops : List Operation) (op : Operation) (site seq : ℕ) (held : Bool) → log ≡ ops → site ≡ op.site
    → seq ≡ op.seq → 0 < op.seq → (IsHeld log site seq → held ≡ true) → held ≡ false → IsNew ops op
is_new log ops op site seq held same of_site of_seq counted here not = record {
  counted = counted;
  unheld = λ h.
      let (p, in_ops, its_site, its_seq) = h in
      false≢true (sym not ∙ here (
        p,
        subst (λ l. Contains l p) (sym same) in_ops,
        its_site ∙ sym of_site,
        its_seq ∙ sym of_seq,
      ));
}

-- one that isn't ready and doesn't stay is thrown away
pub thrown_away : (t : TextState) (op : Operation) (v : Verdict) → v ≢ Ready → op.text ≡ t.text
    → (¬ StaysWaiting t.operations op) → IsNew t.operations op → HasVerdict t.operations op (verdict_of v)
    → IsThrownAway t op
thrown_away t op Wait other own leaves new has = absurd (leaves (new, has))
thrown_away t op Misfit other own leaves new has = inr (inl (own, new, has))
thrown_away t op LowStamp other own leaves new has = inr (inr (own, new, has))
thrown_away t op Ready other own leaves new has = absurd (other refl)

-- what drains the text of now drains the first one, of which so many were taken in and thrown away by now
abbrev pub LeadsTo : TextState → (drained dropped : ℕ) → TextState → Type 0
LeadsTo t drained dropped now =
    (n m : ℕ) (stopped : Bool) (new : TextState) → Drains now n m stopped new
    → Drains t (drained + n) (dropped + m) stopped new

-- the same numbers, said otherwise
recount : (t new : TextState) (stopped : Bool) (n n' m m' : ℕ) → n ≡ n' → m ≡ m' → Drains t n m stopped new
    → Drains t n' m' stopped new
recount t new stopped n n' m m' same same' drains =
    subst (λ k. Drains t k m' stopped new) same (subst (λ k. Drains t n k stopped new) same' drains)

-- nothing was taken in or thrown away yet
pub begins : (t : TextState) → LeadsTo t 0 0 t
begins t n m stopped new drains = recount t new stopped n (0 + n) m (0 + m) (omega arith) (omega arith) drains

module _ (t now : TextState) (drained dropped : ℕ) (leads : LeadsTo t drained dropped now) where
  -- none is left that leaves
  pub ended : AllStay now → Drains t drained dropped false now
  ended all =
      recount t now false (drained + 0) drained (dropped + 0) dropped (omega arith) (omega arith)
      (leads 0 0 false now (ends all))

  module _ (i : ℕ) (first : IsFirstToLeave now.operations now.waiting_room i) (new : TextState) where
    -- memory was refused
    pub stopped_here : (why : Refusal) → LeavesRoom now i (Err why) new → Drains t drained dropped true new
    stopped_here why (memory, (op, there, judged), same) =
        let before = take i now.waiting_room in
        let after = drop (i + 1) now.waiting_room in
        subst (λ u. Drains t drained dropped true u) (sym same)
        (recount t now true (drained + 0) drained (dropped + 0) dropped (omega arith) (omega arith)
        (leads 0 0 true now (stops before after op (next_out now i op first there) judged)))

    -- one more was taken in
    pub one_taken : LeavesRoom now i (Ok true) new → LeadsTo t (drained + 1) dropped new
    one_taken (op, there, judged, taken) n m stopped last drains =
        let before = take i now.waiting_room in
        let after = drop (i + 1) now.waiting_room in
        recount t last stopped (drained + (n + 1)) (drained + 1 + n) (dropped + m) (dropped + m) (omega arith) refl
        (leads (n + 1) m stopped last
        (takes_in before after op (next_out now i op first there) judged taken drains))

    -- one more was thrown away
    pub one_thrown : LeavesRoom now i (Ok false) new → LeadsTo t drained (dropped + 1) new
    one_thrown (op, there, thrown, same) n m stopped last drains =
        let before = take i now.waiting_room in
        let after = drop (i + 1) now.waiting_room in
        recount t last stopped (drained + n) (drained + n) (dropped + (m + 1)) (dropped + 1 + m) refl (omega arith)
        (leads n (m + 1) stopped last
        (throws_away before after op (next_out now i op first there) thrown
        (subst (λ u. Drains u n m stopped last) same drains)))

-- one fewer waits where one left the room
pub fewer_wait : (t : TextState) (i : ℕ) (taken : Bool) (new : TextState) → LeavesRoom t i (Ok taken) new
    → length new.waiting_room + 1 ≡ length t.waiting_room
fewer_wait t i true new (op, there, judged, taken) =
    ap (λ (u : TextState). length u.waiting_room + 1) taken.grown ∙ one_fewer t.waiting_room i op there
fewer_wait t i false new (op, there, thrown, same) =
    ap (λ (u : TextState). length u.waiting_room + 1) same ∙ one_fewer t.waiting_room i op there
