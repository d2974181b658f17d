-- Merges of one desk's text into another's, for which the list of desks is parted, and into itself.
use Rattle.std.proofs.Common.{◌≡◌, ℕ, ◌-◌, ◌<◌, ◌≤◌, List, [], ◌∷◌, ◌++◌, length, filter, false, Ok, Some, refl, sym, ap, ◌∙◌, inl, inr, append-nil, arith}
use Rattle.std.specs.Prelude.{Contains, slice_get, slice_index_or, slice_set}
use Rattle.std.proofs.lemmas.List.{get_or_append_left, get_or-append_right, set-append_left, set-append_right, length-append}
use Rattle.std.proofs.lemmas.List.Elements.{Contains-append_cases, Contains-append_right}
use Rattle.std.proofs.lemmas.Option.{slice_get_read}
use Rattle.operations.specs.Operation.{Operation}
use Rattle.tree_order.specs.Good.{Good}
use Rattle.set_laws.specs.Fronts.{front_of}
use Rattle.set_laws.specs.Sets.{AreHeldToTheFront, AreIdentified}
use Rattle.texts.specs.Merge.{CanMerge, Merges, is_past_front, news}
use Rattle.texts.specs.Text.{IsText}
use Rattle.texts.specs.TextState.{TextState, noting}
use Rattle.machine.specs.SiteTexts.{SiteTexts, IsTextOf}
use Rattle.machine.specs.Events.{merge, merges, untouched}
use Rattle.machine.specs.Machine.{Replies}
use Rattle.machine.specs.State.{State}
use Rattle.machine_laws.proofs.Telling.{put_back, told_same}

module _ {X : Type 0} (xs front back : List X) (n : ℕ) (is : xs ≡ front ++ back) (len : length front ≡ n) where
  -- what stands in the front part
  pub in_front : (i : ℕ) (x : X) → i < n → x ≡ slice_index_or front i x → slice_get xs i ≡ Some x
  in_front i x lt read =
      let within : i < length front = omega (arith, lt, len) in
      let all : i < length (front ++ back) = rw (length-append front back) (omega (arith, within)) in
      rw is (slice_get_read (front ++ back) (length (front ++ back)) i x refl all (read ∙ sym (get_or_append_left front back x i within)))

  -- what stands first in the back part
  pub in_back : (x : X) → n < length xs → x ≡ slice_index_or back 0 x → slice_get xs n ≡ Some x
  in_back x lt read =
      let all : n < length (front ++ back) = rw is at lt in
      let at_start : slice_index_or back (n - n) x ≡ slice_index_or back 0 x = ap (λ (k : ℕ). slice_index_or back k x) (omega arith) in
      rw is (slice_get_read (front ++ back) (length (front ++ back)) n x refl all (read ∙ sym (get_or-append_right front back n n x len (omega arith) ∙ at_start)))

  -- another one is put there
  pub set_in_back : (y : X) → slice_set xs n y ≡ front ++ slice_set back 0 y
  set_in_back y =
      let at_start : slice_set back (n - n) y ≡ slice_set back 0 y = ap (λ (k : ℕ). slice_set back k y) (omega arith) in
      ap (λ (l : List X). slice_set l n y) is ∙ set-append_right front back n n y len (omega arith) ∙ ap (λ (l : List X). front ++ l) at_start

  -- or into the front part
  pub set_in_front : (i : ℕ) (y : X) → i < n → slice_set xs i y ≡ slice_set front i y ++ back
  set_in_front i y lt = ap (λ (l : List X). slice_set l i y) is ∙ set-append_left front back i y (omega (arith, lt, len))

-- a text has nothing that is new to it
no_news : (t : TextState) (ops : List Operation) → ((op : Operation) → Contains ops op → op.seq ≤ front_of t.operations op.site) → filter (is_past_front t) ops ≡ []
no_news t [] held = refl
no_news t (op ∷ ops) held =
    let here = held op (0, omega arith, refl) in
    let past : is_past_front t op ≡ false = grind (arith, here) in
    rw past (no_news t ops (λ other in_ops. held other (Contains-append_right (op ∷ []) ops other in_ops)))

-- what stands in a list twice over stands in it
once : (ops : List Operation) (op : Operation) → Contains (ops ++ ops) op → Contains ops op
once ops op in_both = elim (Contains-append_cases ops ops op in_both) [
  | inl held ↦ held
  | inr held ↦ held
]

-- a text merged into itself stays as it is
pub merged_itself : (s : State) (i text : ℕ) (d : SiteTexts) → slice_get s.desks i ≡ Some d → (t : TextState) → IsTextOf d text t → IsText t → t.asked ≡ noting (length t.operations) → ((ops : List Operation) → Good ops → AreIdentified ops → AreHeldToTheFront ops)
    → Replies s (merge i text i) untouched (merges 0) s
merged_itself s i text d at_i t is_t is told held =
    let none : news t t ≡ [] = no_news t t.operations (λ op in_ops. ((held t.operations is.good is.identified op.site op.seq).0 (op, in_ops, refl, refl)).1) in
    let twice : AreIdentified (t.operations ++ t.operations) = record {
      counted = λ op in_ops. is.identified.counted op (once t.operations op in_ops);
      unique = λ a b in_a in_b same_site same_seq. is.identified.unique a b (once t.operations a in_a) (once t.operations b in_b) same_site same_seq;
    } in
    let can : CanMerge t t = record { same_text = refl; identified = twice } in
    let same : t ≡ record t { operations = t.operations ++ news t t; order = t.order } = rw (none, append-nil t.operations) refl in
    let merged : Merges t t (Ok 0) t = (can, rw none refl, record { is = is; grown = same }) in
    let texts : d ≡ record d { texts = slice_set d.texts (text - 1) t } = rw (put_back d.texts (text - 1) t is_t) refl in
    let all : s ≡ record s { desks = slice_set s.desks i d; sent = s.sent ++ [] } = rw (put_back s.desks i d at_i, append-nil s.sent) refl in
    inl (refl, (t, (d, at_i, is_t), (d, d, at_i, (t, t, is_t, (t, (Ok 0, merged, refl), sym (told_same t told)), texts), all)))
