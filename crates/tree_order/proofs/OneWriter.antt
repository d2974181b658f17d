-- The operations of one writer that took nothing in: the first n are good, and each is stamped above those
-- before it.
use Rattle.std.proofs.Common.{◌≡◌, ℕ, zero, suc, ◌+◌, ◌<◌, ◌≤◌, inl, inr, cond, eqb, ◌&&◌, List, []}
use Rattle.std.proofs.Common.{◌∷◌, ◌++◌, length, get_or, take, drop, refl, sym, ap, subst, ◌∙◌}
use Rattle.std.proofs.Common.{Contains, arith}
use Rattle.std.proofs.Math.Seq.{take-suc}
use Rattle.std.proofs.lemmas.Bool.{and_parts, cases_Bool, cases_order, cond-false, eqb-true}
use Rattle.std.proofs.lemmas.List.{get_or-take, get_or-drop, get_or_default, length-drop, length-take-le}
use Rattle.std.proofs.lemmas.List.{take-append-drop}
use Rattle.std.proofs.lemmas.List.Elements.{Contains-get_or}
use Rattle.std.proofs.lemmas.Option.{slice_get_read}
use Rattle.char_files.specs.CharName.{CharName}
use Rattle.operations.specs.Operation.{Operation, OpKind, insert, delete, appended_len, InsertsBy, Begins}
use Rattle.tree_order.specs.Good.{Good, appended_len_at, file_before}
use Rattle.tree_order.specs.Order.{IsOrder}
use Rattle.tree_order.specs.Insertion.{IsOneMore, IsInsertAt, HasCauseBy, run_of}
use Rattle.tree_order.specs.Sequential.{AreOfOneWriter, IsLatest, OneWriterGoesAfterCauses}
use Rattle.tree_order.specs.Sequential.{up_to_anchor, with_run_by, with_runs}
use Rattle.tree_order.proofs.Before.{IsOrder-from_sorted}
use Rattle.tree_order.proofs.Latest.{after_cause}
use Rattle.tree_order.proofs.RegisterLists.{keeps_the_order}
use Rattle.tree_order.proofs.Sorted.{Contains-head, Contains-tail}
use Rattle.tree_order.proofs.Tree.{stamps_rise}
use Rattle.tree_order.proofs.UpTo.{AtCause, parts_at_cause}

-- operations of other seqs append nothing under this one
appended-front : (xs ys : List Operation) (site seq : ℕ)
    → ((op : Operation) → Contains ys op → op.seq ≡ seq → ⊥)
    → appended_len_at (xs ++ ys) site seq ≡ appended_len_at xs site seq
appended-front [] [] site seq none = refl
appended-front [] (o ∷ ys) site seq none =
    elim (cases_Bool (eqb o.site site && eqb o.seq seq)) [
      | inl e ↦
          let parts = and_parts (eqb o.site site) (eqb o.seq seq) e in
          absurd (none o (Contains-head o ys) (eqb-true _ _ parts.1))
      | inr e ↦ cond-false _ _ _ e ∙ appended-front [] ys site seq (λ op h. none op (Contains-tail o ys op h))
    ]
appended-front (o ∷ xs) ys site seq none =
    ap (cond (eqb o.site site && eqb o.seq seq) (appended_len o.kind)) (appended-front xs ys site seq none)

module _ (ops : List Operation) (site : ℕ) (good : Good ops) (own : AreOfOneWriter ops site) where
  -- the operation at an index has the seq after it
  at_index : (k : ℕ) (op : Operation) → k < length ops → get_or ops k op ≡ op
      → (op.site ≡ site) × (op.seq ≡ k + 1)
  at_index k op lt e = own k op (slice_get_read ops (length ops) k op refl lt (sym e))

  of_site : (op : Operation) → Contains ops op → op.site ≡ site
  of_site op (k, lt, e) = (at_index k op lt e).0

  one_site : (a b : Operation) → Contains ops a → Contains ops b → a.site ≡ b.site
  one_site a b ha hb = of_site a ha ∙ sym (of_site b hb)

  -- stamps rise with seqs, and so seqs with stamps
  later_above : (a b : Operation) → Contains ops a → Contains ops b → a.seq < b.seq → a.stamp < b.stamp
  later_above a b ha hb lt = stamps_rise ops good b.seq a b ha hb (one_site a b ha hb) lt (omega arith)

  above_later : (a b : Operation) → Contains ops a → Contains ops b → a.stamp < b.stamp → a.seq < b.seq
  above_later a b ha hb lt =
      elim (cases_order a.seq b.seq) [
        | inl same ↦
            let e : a ≡ b = good.identities a b ha hb (one_site a b ha hb) same in
            let stamp : a.stamp ≡ b.stamp = ap (λ (o : Operation). o.stamp) e in
            absurd (omega arith)
        | inr apart ↦ elim apart [
          | inl less ↦ less
          | inr more ↦ let back : b.stamp < a.stamp = later_above b a hb ha more in absurd (omega arith)
        ]
      ]

  module _ (n : ℕ) (few : n ≤ length ops) where
    -- the first n are those of a seq up to n
    in_front : (op : Operation) → Contains ops op → op.seq ≤ n → Contains (take n ops) op
    in_front op (k, lt, e) le =
        let seq : op.seq ≡ k + 1 = (at_index k op lt e).1 in
        let long : length (take n ops) ≡ n = length-take-le n ops few in
        (k, omega arith, get_or-take n ops k op (omega arith) ∙ e)

    from_front : (op : Operation) → Contains (take n ops) op → Contains ops op × (op.seq ≤ n)
    from_front op (k, lt, e) =
        let long : length (take n ops) ≡ n = length-take-le n ops few in
        let below : k < n = omega arith in
        let at : get_or ops k op ≡ op = sym (get_or-take n ops k op below) ∙ e in
        let lt' : k < length ops = omega arith in
        let seq : op.seq ≡ k + 1 = (at_index k op lt' at).1 in
        ((k, lt', at), omega arith)

    none_after : (op : Operation) → Contains (drop n ops) op → n < op.seq
    none_after op (k, lt, e) =
        let lt' : n + k < length ops = omega (arith, length-drop n ops) in
        let at : get_or ops (n + k) op ≡ op = sym (get_or-drop n ops k op) ∙ e in
        let seq : op.seq ≡ n + k + 1 = (at_index (n + k) op lt' at).1 in
        omega arith

    same_appended : (s q : ℕ) → q ≤ n → appended_len_at (take n ops) s q ≡ appended_len_at ops s q
    same_appended s q le =
        sym (appended-front (take n ops) (drop n ops) s q
        (λ op h e. let past : n < op.seq = none_after op h in absurd (omega arith)))
        ∙ ap (λ (xs : List Operation). appended_len_at xs s q) (take-append-drop n ops)

    same_file : (s q : ℕ) → q ≤ n + 1 → file_before (take n ops) s q ≡ file_before ops s q
    same_file s zero le = refl
    same_file s (suc q) le =
        let shorter : file_before (take n ops) s q ≡ file_before ops s q = same_file s q (omega arith) in
        let next : appended_len_at (take n ops) s q ≡ appended_len_at ops s q =
        same_appended s q (omega arith) in
        omega (arith, shorter, next)

    file_at : (op : Operation) → Contains (take n ops) op
        → file_before ops op.site op.seq ≡ file_before (take n ops) op.site op.seq
    file_at op h = let le : op.seq ≤ n = (from_front op h).1 in sym (same_file op.site op.seq (omega arith))

    -- the first n are good
    front_good : Good (take n ops)
    front_good = record {
      identities = λ a b ha hb. good.identities a b (from_front a ha).0 (from_front b hb).0;
      predecessors = λ op h later.
          let le : op.seq ≤ n = (from_front op h).1 in
          let (p, held, is) = good.predecessors op (from_front op h).0 later in
          let next : p.seq + 1 ≡ op.seq = is.1 in
          (p, in_front p held (omega arith), is);
      mentions = λ op name h m.
          let le : op.seq ≤ n = (from_front op h).1 in
          let held_op = (from_front op h).0 in
          let (p, held, inserts) = good.mentions op name held_op m in
          let less : p.seq < op.seq =
          above_later p op held held_op (good.stamps op p held_op held (inr (name, m, inserts))) in
          (p, in_front p held (omega arith), inserts);
      begins = λ op h. subst (Begins op.kind) (file_at op h) (good.begins op (from_front op h).0);
      own = λ op name h m on. subst (λ (end : ℕ). name.off < end) (file_at op h)
          (good.own op name (from_front op h).0 m on);
      stamps = λ op p h hp. good.stamps op p (from_front op h).0 (from_front p hp).0;
    }

-- one run after the other
with_runs-push : (order : List CharName) (ops : List Operation) (op : Operation)
    → with_runs order (ops ++ op ∷ []) ≡ with_run_by op.kind (run_of op) (with_runs order ops)
with_runs-push order [] op = refl
with_runs-push order (o ∷ ops) op = with_runs-push (with_run_by o.kind (run_of o) order) ops op

-- one operation more that is stamped above all others
with_latest_by : (ops : List Operation) (op : Operation) → IsOneMore ops op → IsLatest ops op
    → (order : List CharName) → IsOrder ops order → (kind : OpKind) → op.kind ≡ kind
    → IsOrder (ops ++ op ∷ []) (with_run_by kind (run_of op) order)
with_latest_by ops op one latest order is (insert cause at looks bytes) e =
    let at_cause : IsInsertAt op cause = subst (λ (kind : OpKind). HasCauseBy kind cause) (sym e) refl in
    let p : AtCause order cause = parts_at_cause ops op one cause at_cause order is in
    let made : IsOrder (ops ++ op ∷ []) (p.before ++ run_of op ++ p.after) =
    after_cause ops op cause p.before p.after one latest at_cause (subst (IsOrder ops) p.parts is) p.ends in
    subst (IsOrder (ops ++ op ∷ []))
    (ap (λ (xs : List CharName). xs ++ run_of op ++ p.after) p.is_front
    ∙ ap (λ (xs : List CharName). up_to_anchor order cause ++ run_of op ++ xs) p.is_after) made
with_latest_by ops op one latest order is kind e =
    keeps_the_order ops op one.larger
    (λ c h. subst (λ (k : OpKind). InsertsBy op.site k c) e h) order is

no_order : Good [] → IsOrder [] []
no_order good =
    IsOrder-from_sorted [] good [] (λ c. (
      λ h. absurd (omega arith),
      λ (i, is). let held : Contains [] i = is.held in
          absurd (omega arith),
    )) (λ i j d lt within. absurd (omega arith))

pub one_writer : OneWriterGoesAfterCauses
one_writer ops site zero good own few = no_order (front_good ops site good own zero few)
one_writer ops site (suc n) good own few =
    let none : Operation = record { text = 0; site = 0; seq = 0; stamp = 0; kind = delete [] } in
    let op : Operation = get_or ops n none in
    let more : take (suc n) ops ≡ take n ops ++ op ∷ [] = take-suc ops n none few in
    let before : n ≤ length ops = omega arith in
    let held : Contains ops op = Contains-get_or ops n none few in
    let larger : Good (take n ops ++ op ∷ []) = subst Good more (front_good ops site good own (suc n) few) in
    let at : get_or ops n op ≡ op = get_or_default ops n op none few in
    let seq : op.seq ≡ n + 1 = (at_index ops site good own n op few at).1 in
    let one : IsOneMore (take n ops) op = record {
      good = front_good ops site good own n before;
      larger = larger;
      new = λ h. let le : op.seq ≤ n = (from_front ops site good own n before op h).1 in omega arith;
    } in
    let latest : IsLatest (take n ops) op =
    λ k d lt.
    let (held_k, le) = from_front ops site good own n before (get_or (take n ops) k d)
    (Contains-get_or (take n ops) k d lt) in
    later_above ops site good own (get_or (take n ops) k d) op held_k held (omega arith) in
    let made : IsOrder (take n ops ++ op ∷ []) (with_run_by op.kind (run_of op) (with_runs [] (take n ops))) =
    with_latest_by (take n ops) op one latest (with_runs [] (take n ops))
    (one_writer ops site n good own before) op.kind refl in
    rw more (subst (IsOrder (take n ops ++ op ∷ [])) (sym (with_runs-push [] (take n ops) op)) made)
