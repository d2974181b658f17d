-- What is held up to a front, and no further.
use Rattle.std.proofs.Common.{◌≡◌, ℕ, zero, suc, ◌+◌, ◌-◌, ◌<◌, ◌≤◌, inl, inr, List, [], ◌∷◌, ◌++◌}
use Rattle.std.proofs.Common.{eqb, Contains, refl, sym, ap, subst, ◌∙◌, eq-eqb, arith}
use Rattle.std.proofs.lemmas.Bool.{cases_lt, cases_Bool, cond-true, cond-false, eqb-true}
use Rattle.std.proofs.lemmas.List.Elements.{Contains-append_left, Contains-append_right}
use Rattle.operations.specs.Operation.{Operation}
use Rattle.tree_order.specs.Good.{Good, IsPredecessor}
use Rattle.set_laws.proofs.Picking.{Contains-head, Contains-tail}
use Rattle.set_laws.specs.Fronts.{greatest, of_site, front_of, IsHeld}
use Rattle.set_laws.specs.Sets.{AreIdentified, AreHeldToTheFront, HasToTheFront}

-- no operation gives more than the greatest
pub greatest_bound : (f : Operation → ℕ) (ops : List Operation) (op : Operation) → Contains ops op
    → f op ≤ greatest f ops
greatest_bound f [] op (k, lt, is) = absurd (omega arith)
greatest_bound f (o ∷ ops) op (zero, lt, is) = let same : f o ≡ f op = ap f is in omega arith
greatest_bound f (o ∷ ops) op (suc k, lt, is) =
    let rest : f op ≤ greatest f ops = greatest_bound f ops op (k, omega arith, is) in omega arith

-- one gives it, if it isn't 0
pub greatest_reached : (f : Operation → ℕ) (ops : List Operation) → 0 < greatest f ops
    → (op : Operation) × Contains ops op × (f op ≡ greatest f ops)
greatest_reached f [] some = absurd (omega arith)
greatest_reached f (o ∷ ops) some =
    elim (cases_lt (f o) (greatest f ops)) [
      | inl less ↦ let (op, held, is) = greatest_reached f ops (omega arith) in
          (op, Contains-tail o ops op held, omega arith)
      | inr most ↦ (o, Contains-head o ops, omega arith)
    ]

-- what a site's own operation gives
own : (site : ℕ) (f : Operation → ℕ) (op : Operation) → op.site ≡ site → of_site site f op ≡ f op
own site f op on = cond-true _ _ _ (eq-eqb op.site site on)

-- what an operation of the site gives is no more than the greatest, and that is reached, unless it is 0
pub site_bound : (f : Operation → ℕ) (ops : List Operation) (op : Operation) → Contains ops op
    → f op ≤ greatest (of_site op.site f) ops
site_bound f ops op held =
    let bound = greatest_bound (of_site op.site f) ops op held in
    let is : of_site op.site f op ≡ f op = own op.site f op refl in
    omega arith

pub site_reached : (f : Operation → ℕ) (ops : List Operation) (site : ℕ) → 0 < greatest (of_site site f) ops
    → (op : Operation) × Contains ops op × (op.site ≡ site) × (f op ≡ greatest (of_site site f) ops)
site_reached f ops site some =
    let (op, held, is) = greatest_reached (of_site site f) ops some in
    elim (cases_Bool (eqb op.site site)) [
      | inl e ↦ let on : op.site ≡ site = eqb-true _ _ e in (op, held, on, sym (own site f op on) ∙ is)
      | inr e ↦ let none : of_site site f op ≡ 0 = cond-false _ _ _ e in absurd (omega arith)
    ]

-- no operation is past its site's front
pub up_to_front : (ops : List Operation) (op : Operation) → Contains ops op → op.seq ≤ front_of ops op.site
up_to_front = site_bound (λ o. o.seq)

-- the front is held, unless it is 0
pub front_reached : (ops : List Operation) (site : ℕ) → 0 < front_of ops site
    → IsHeld ops site (front_of ops site)
front_reached = site_reached (λ o. o.seq)

-- predecessors are held
abbrev pub HasPredecessors : List Operation → Type 0
HasPredecessors ops = (op : Operation) → Contains ops op → 1 < op.seq
    → (p : Operation) × Contains ops p × IsPredecessor p op

-- so all seqs are held below one that is held
pub held_below : (ops : List Operation) → HasPredecessors ops → (distance seq : ℕ) (op : Operation)
    → Contains ops op → 0 < seq → seq + distance ≡ op.seq → IsHeld ops op.site seq
held_below ops before zero seq op held some far = (op, held, refl, omega arith)
held_below ops before (suc distance) seq op held some far =
    let (p, there, is) = before op held (omega arith) in
    let next = is.1 in
    subst (λ (s : ℕ). IsHeld ops s seq) is.0
    (held_below ops before distance seq p there some (omega arith))

pub held_up_to : (ops : List Operation) → HasPredecessors ops → (op : Operation) → Contains ops op
    → (seq : ℕ) → 0 < seq → seq ≤ op.seq → IsHeld ops op.site seq
held_up_to ops before op held seq some le =
    let back : seq + (op.seq - seq) ≡ op.seq = omega arith in
    held_below ops before (op.seq - seq) seq op held some back

pub held_to_front : (ops : List Operation) → HasPredecessors ops → (site seq : ℕ) → 0 < seq
    → seq ≤ front_of ops site → IsHeld ops site seq
held_to_front ops before site seq some le =
    let (op, held, on, at) = front_reached ops site (omega arith) in
    subst (λ (s : ℕ). IsHeld ops s seq) on (held_up_to ops before op held seq some (omega arith))

pub lemma_are_held_to_the_front : (ops : List Operation) → Good ops → AreIdentified ops → AreHeldToTheFront ops
lemma_are_held_to_the_front ops good known site seq = (
  λ h. let (op, held, on, at) = h in
      let counted = known.counted op held in
      let below : op.seq ≤ front_of ops site =
      subst (λ (s : ℕ). op.seq ≤ front_of ops s) on (up_to_front ops op held) in
      (omega arith, omega arith),
  λ h. held_to_front ops good.predecessors site seq h.0 h.1,
)

pub has_to_the_front : (a b : List Operation) → Good a → AreIdentified (a ++ b) → HasToTheFront a b
has_to_the_front a b good known op held = (
  λ here. up_to_front a op here,
  λ le. let some = known.counted op (Contains-append_right a b op held) in
      let (other, here, on, at) = held_to_front a good.predecessors op.site op.seq some le in
      subst (Contains a)
      (known.unique other op (Contains-append_left a b other here) (Contains-append_right a b op held) on at)
      here,
)

-- stamps of a site rise with its seqs
pub own_stamps_rise : (ops : List Operation) → Good ops → AreIdentified ops → (distance : ℕ)
    → (a b : Operation) → Contains ops a → Contains ops b → a.site ≡ b.site → a.seq + distance ≡ b.seq
    → a.stamp ≤ b.stamp
own_stamps_rise ops good known zero a b held other on far =
    let same : a ≡ b = known.unique a b held other on (omega arith) in
    let stamp = ap (λ (o : Operation). o.stamp) same in
    omega arith
own_stamps_rise ops good known (suc distance) a b held other on far =
    let some = known.counted a held in
    let (p, there, is) = good.predecessors b other (omega arith) in
    let next = is.1 in
    let below : a.stamp ≤ p.stamp =
    own_stamps_rise ops good known distance a p held there (on ∙ sym is.0) (omega arith) in
    let above : p.stamp < b.stamp = good.stamps b p other there (inl is) in
    omega arith
