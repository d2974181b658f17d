-- In a list that keeps causes, and has no operation twice, each operation is one that its site can make next.
use Rattle.std.proofs.Common.{◌≡◌, ◌≢◌, ℕ, suc, ◌+◌, ◌<◌, ◌≤◌, inl, inr, max, eqb, true, false, List, [], ◌∷◌, ◌++◌}
use Rattle.std.proofs.Common.{◌⊎◌, zero, length, take, get_or, Some, Contains, refl, sym, ap, subst, ◌∙◌, eq-eqb, arith}
use Rattle.std.specs.Prelude.{All, AllPairs, slice_get}
use Rattle.std.proofs.lemmas.Bool.{cases_Bool, cases_lt, cond-true, cond-false, eqb-true}
use Rattle.std.proofs.lemmas.List.{get_or-take, length-take, take_more}
use Rattle.std.proofs.lemmas.List.Elements.{All-contains}
use Rattle.std.proofs.lemmas.Option.{get_or_from_slice_get, slice_get-get_or, slice_get_within}
use Rattle.operations.specs.Operation.{Operation, appended_len, Begins}
use Rattle.operations.specs.Spelling.{HasSpelling}
use Rattle.tree_order.specs.Good.{Good, file_before}
use Rattle.set_laws.specs.Fronts.{front_of, file_len, greatest_stamp_of}
use Rattle.set_laws.specs.Growing.{AreCountedOn}
use Rattle.set_laws.specs.Sets.{AreIdentified, KeepsCauses}
use Rattle.set_laws.specs.Verdict.{HasVerdict, IsNew, ready}
use Rattle.set_laws.proofs.ByVerdict.{grows_by_verdict}
use Rattle.set_laws.proofs.Counting.{counted_on, determined_by_counts}
use Rattle.set_laws.proofs.Files.{next_seq}
use Rattle.set_laws.proofs.Fronts.{held_to_front, site_reached, up_to_front}
use Rattle.set_laws.proofs.Lengths.{same_file}
use Rattle.set_laws.proofs.Preceding.{first_part_within}
use Rattle.packed.specs.declared.expected.Expected.{Expected}
use Rattle.packed.specs.Laws.{CanFollow, IsHistory}
use Rattle.packed.specs.Reading.{CanBeNext}
use Rattle.packed.proofs.PackedLists.{adds_at_the_end}
use Rattle.packed.proofs.Told.{expected_on}
use Rattle.packed.specs.Told.{Told, IsNext, after_one_more, expected, nothing_told, told, told_after, told_on}

-- ---- what is told is what the definitions count

-- of this site
pub record IsCounted (ops : List Operation) (t : Told) (site : ℕ) : Type 0 where
  pub seq : (expected t site).seq ≡ front_of ops site
  pub len : (expected t site).len ≡ file_len ops site
  pub stamp : (expected t site).stamp ≡ greatest_stamp_of ops site

-- of each site
abbrev pub AreCounted : List Operation → Told → Type 0
AreCounted ops t = (site : ℕ) → IsCounted ops t site

module _ (ops : List Operation) (op : Operation) (t : Told) (counted : AreCounted ops t) (on : AreCountedOn ops op)
    (above : greatest_stamp_of ops op.site ≤ op.stamp) where
  own_counted : IsCounted (ops ++ op ∷ []) (told_on t op) op.site
  own_counted =
      let self : eqb op.site op.site ≡ true = eq-eqb op.site op.site refl in
      let is : expected (told_on t op) op.site ≡ after_one_more (expected t op.site) op =
      expected_on t op op.site ∙ cond-true _ _ _ self in
      let most : op.stamp ≡ max op.stamp (greatest_stamp_of ops op.site) = omega arith in
      record {
        seq = ap (λ (e : Expected). e.seq) is ∙ sym (on.front op.site ∙ cond-true _ _ _ self);
        len =
            ap (λ (e : Expected). e.len) is ∙ ap (λ (n : ℕ). n + appended_len op.kind) (counted op.site).len
            ∙ sym (on.file op.site ∙ cond-true _ _ _ self);
        stamp = ap (λ (e : Expected). e.stamp) is ∙ most ∙ sym (on.site_stamp op.site ∙ cond-true _ _ _ self);
      }

  other_counted : (site : ℕ) → eqb op.site site ≡ false → IsCounted (ops ++ op ∷ []) (told_on t op) site
  other_counted site other =
      let is : expected (told_on t op) site ≡ expected t site = expected_on t op site ∙ cond-false _ _ _ other in
      let was = counted site in
      record {
        seq = ap (λ (e : Expected). e.seq) is ∙ was.seq ∙ sym (on.front site ∙ cond-false _ _ _ other);
        len = ap (λ (e : Expected). e.len) is ∙ was.len ∙ sym (on.file site ∙ cond-false _ _ _ other);
        stamp = ap (λ (e : Expected). e.stamp) is ∙ was.stamp ∙ sym (on.site_stamp site ∙ cond-false _ _ _ other);
      }

  counted_more : AreCounted (ops ++ op ∷ []) (told_on t op)
  counted_more site = elim (cases_Bool (eqb op.site site)) [
    | inl same ↦ subst (IsCounted (ops ++ op ∷ []) (told_on t op)) (eqb-true op.site site same) own_counted
    | inr other ↦ other_counted site other
  ]

-- ---- of an operation that is ready

module _ (ops : List Operation) (op : Operation) (good : Good ops) (known : AreIdentified ops) (new : IsNew ops op)
    (is : HasVerdict ops op ready) where
  -- its site's stamps are below its own
  stamps_below : (greatest_stamp_of ops op.site ≡ 0) ⊎ (greatest_stamp_of ops op.site < op.stamp)
  stamps_below = elim (cases_lt 1 op.seq) [
    | inl later ↦
        let (p, held, before) = is.0 later in
        let same : p.stamp ≡ greatest_stamp_of ops op.site =
        (determined_by_counts ops op good known new).predecessor p held before in
        let less : p.stamp < op.stamp = is.3 p held (inl before) in
        inr (omega (arith, same, less))
    | inr first ↦ elim (cases_lt 0 (greatest_stamp_of ops op.site)) [
      | inr none ↦ inl (omega arith)
      | inl some ↦
          let (x, held, on, at) = site_reached (λ o. o.stamp) ops op.site some in
          let front : x.seq ≤ front_of ops op.site = subst (λ (s : ℕ). x.seq ≤ front_of ops s) on (up_to_front ops x held) in
          let next : op.seq ≡ suc (front_of ops op.site) = next_seq ops good op new is.0 in
          let counted : 0 < x.seq = known.counted x held in
          absurd (omega (arith, first, front, next, counted))
    ]
  ]

  -- and it is the next of its site
  next_of : (t : Told) → AreCounted ops t → 0 < op.stamp → IsNext t op
  next_of t counted some =
      let own = counted op.site in
      let next : op.seq ≡ suc (front_of ops op.site) = next_seq ops good op new is.0 in
      record {
        seq = next ∙ ap suc (sym own.seq);
        begins = subst (Begins op.kind) (sym own.len) is.1.begins;
        above = elim stamps_below [
          | inl none ↦ omega (arith, none, own.stamp, some)
          | inr less ↦ omega (arith, less, own.stamp)
        ];
      }

  counted_with : (t : Told) → AreCounted ops t → AreCounted (ops ++ op ∷ []) (told_on t op)
  counted_with t counted = counted_more ops op t counted (counted_on ops op good known new is.0) (elim stamps_below [
    | inl none ↦ omega (arith, none)
    | inr less ↦ omega (arith, less)
  ])

-- ---- one after the other

-- one operation more
pub first_parts : (ops : List Operation) (n : ℕ) (op : Operation) → slice_get ops n ≡ Some op
    → take (n + 1) ops ≡ take n ops ++ op ∷ []
first_parts ops n op is =
    take_more ops n op (slice_get_within ops n op is)
    ∙ ap (λ (o : Operation). take n ops ++ o ∷ []) (get_or_from_slice_get ops n op op is)

module _ (ops : List Operation) (in_order : KeepsCauses ops) (known : AreIdentified ops)
    (once : AllPairs (λ a b. a ≢ b) ops) where
  module _ (n : ℕ) (op : Operation) (lt : n < length ops) (is : slice_get ops n ≡ Some op) where
    at_place : get_or ops n op ≡ op
    at_place = get_or_from_slice_get ops n op op is

    one_more : take (n + 1) ops ≡ take n ops ++ op ∷ []
    one_more = first_parts ops n op is

    held : Contains ops op
    held = (n, lt, at_place)

    held_before : (o : Operation) → Contains (take n ops) o → Contains ops o
    held_before o (k, less, same) =
        let in_front : k < n = omega (arith, less, length-take n ops) in
        let within : k < length ops = omega (arith, less, length-take n ops) in
        (k, within, sym (get_or-take n ops k o in_front) ∙ same)

    known_before : AreIdentified (take n ops)
    known_before = record {
      counted = λ o here. known.counted o (held_before o here);
      unique = λ a b here there. known.unique a b (held_before a here) (held_before b there);
    }

    not_before : Contains (take n ops) op → ⊥
    not_before (k, less, same) =
        let in_front : k < n = omega (arith, less, length-take n ops) in
        once k n op in_front lt (sym (get_or-take n ops k op in_front) ∙ same ∙ sym at_place)

    new_here : IsNew (take n ops) op
    new_here = record {
      counted = known.counted op held;
      unheld = λ h. let (o, here, site, seq) = h in
          not_before (subst (Contains (take n ops)) (known.unique o op (held_before o here) held site seq) here);
    }

    ready_here : HasVerdict (take n ops) op ready
    ready_here = (grows_by_verdict (take n ops) op (in_order n) known_before new_here).ready.1
        (subst Good one_more (in_order (n + 1)))

    told_here : told (take (n + 1) ops) ≡ told_on (told (take n ops)) op
    told_here = ap told one_more ∙ (adds_at_the_end (take n ops) op).1

    counted_here : AreCounted (take n ops) (told (take n ops)) → AreCounted (take (n + 1) ops) (told (take (n + 1) ops))
    counted_here counted =
        subst (AreCounted (take (n + 1) ops)) (sym told_here) (subst (λ (l : List Operation).
        AreCounted l (told_on (told (take n ops)) op)) (sym one_more)
        (counted_with (take n ops) op (in_order n) known_before new_here ready_here (told (take n ops)) counted))

  at : (n : ℕ) (d : Operation) → n < length ops → (op : Operation) × (slice_get ops n ≡ Some op)
  at n d lt = (get_or ops n d, slice_get-get_or ops n d lt)

  -- what the first operations tell is what the definitions count
  counted_so_far : (d : Operation) (n : ℕ) → n ≤ length ops → AreCounted (take n ops) (told (take n ops))
  counted_so_far d zero le = λ site. record { seq = refl; len = refl; stamp = refl }
  counted_so_far d (suc n) le =
      let lt : n < length ops = omega (arith, le) in
      let (op, is) = at n d lt in
      let more : n + 1 ≡ suc n = omega arith in
      subst (λ (m : ℕ). AreCounted (take m ops) (told (take m ops))) more
      (counted_here n op lt is (counted_so_far d n (omega (arith, le))))

  -- so an operation is the next of its site, behind those before it
  pub is_next : (n : ℕ) (op : Operation) → slice_get ops n ≡ Some op → HasSpelling op → IsNext (told (take n ops)) op
  is_next n op is spelled =
      let lt : n < length ops = slice_get_within ops n op is in
      next_of (take n ops) op (in_order n) (known_before n op lt is) (new_here n op lt is) (ready_here n op lt is)
      (told (take n ops)) (counted_so_far op n (omega (arith, lt))) spelled.stamp.0

  -- and its site's file is as long before it as those before it tell
  pub len_before : (n : ℕ) (op : Operation) → slice_get ops n ≡ Some op → HasSpelling op
      → (expected (told (take n ops)) op.site).len ≡ file_before ops op.site op.seq
  len_before n op is spelled =
      let lt : n < length ops = slice_get_within ops n op is in
      let counted : IsCounted (take n ops) (told (take n ops)) op.site = counted_so_far op n (omega (arith, lt)) op.site in
      let next : op.seq ≡ suc (front_of (take n ops) op.site) = (is_next n op is spelled).seq ∙ ap suc counted.seq in
      counted.len ∙ ap (file_before (take n ops) op.site) (sym next)
      ∙ same_file (take n ops) ops (first_part_within ops n) known op.site op.seq (λ seq some less.
      held_to_front (take n ops) (in_order n).predecessors op.site seq some (omega (arith, next, less)))

-- operations each of which can be next at its place
next_from_places : (t : Told) (text : ℕ) (ops : List Operation)
    → ((n : ℕ) (op : Operation) → slice_get ops n ≡ Some op → CanBeNext (told_after t (take n ops)) text op)
    → CanFollow t text ops
next_from_places t text [] each = tt
next_from_places t text (op ∷ ops) each =
    (each 0 op refl, next_from_places (told_on t op) text ops (λ n o is. each (suc n) o is))

pub is_history : (text : ℕ) (ops : List Operation) → KeepsCauses ops → AreIdentified ops → AllPairs (λ a b. a ≢ b) ops
    → All HasSpelling ops → All (λ op. op.text ≡ text) ops → IsHistory text ops
is_history text ops in_order known once spelled of_text = next_from_places nothing_told text ops (λ n op is.
    let there : Contains ops op = (n, slice_get_within ops n op is, get_or_from_slice_get ops n op op is) in
    let own : HasSpelling op = All-contains HasSpelling ops op spelled there in
    record {
      next = is_next ops in_order known once n op is own;
      spelled = own;
      on_text = All-contains (λ (o : Operation). o.text ≡ text) ops op of_text there;
    })
