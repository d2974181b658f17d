-- Stretches of operations, as they grow.
use Rattle.std.proofs.Common.{◌≡◌, ℕ, zero, suc, ◌+◌, ◌-◌, ◌<◌, ◌≤◌, ◌==◌, true, inl, inr, List, [], ◌∷◌, ◌++◌, Some, Option}
use Rattle.std.proofs.Common.{length, take, All, get_or, slice_get, refl, sym, ap, subst, ◌∙◌, arith, append-nil, append_assoc}
use Rattle.std.specs.Prelude.{◌&&◌, bytes_eq}
use Rattle.std.specs.Ordering.{int_eq}
use Rattle.std.specs.Option.{option_map_or}
use Rattle.std.proofs.lemmas.Bool.{cases_lt}
use Rattle.std.proofs.lemmas.List.{length-append, get_or_append_left, get_or-append-add, get_or_default}
use Rattle.std.proofs.Math.Bool.{and_assoc}
use Rattle.std.proofs.lemmas.List.Elements.{All-append, All-head, All-tail, All-cons}
use Rattle.std.proofs.lemmas.Grind.{flat_map-append}
use Rattle.std.proofs.lemmas.Option.{get_or_from_slice_get}
use Rattle.looks.specs.Looks.{plain_looks}
use Rattle.looks.specs.declared.looks.Looks.{Looks}
use Rattle.char_files.proofs.MaximalRuns.{same_looks_decides}
use Rattle.operations.specs.Operation.{Operation, OpKind, insert}
use Rattle.op_log.proofs.Lists.{Contains-slice_get, slice_get-append_left, slice_get-push, slice_get-some}
use Rattle.op_log.specs.declared.one_delete.OneDelete.{OneDelete}
use Rattle.op_log.specs.declared.stretch.TypedRun.{TypedRun}
use Rattle.op_log.specs.declared.stretch.Stretch.{Stretch}
use Rattle.op_log.specs.declared.stretch.Stretch.TheVariants.{Typed, Deleted, Single}
use Rattle.operations.specs.Spelling.{HasSpelling}
use Rattle.std.proofs.Math.Seq.{get_or-append_seam, take-length}
use Rattle.op_log.specs.Stretches.{AreFirsts, AreStretches, EndsLast}
use Rattle.op_log.specs.Stretches.{Shared, shared, cause_of, letter_of_run, one_delete, looks_in, typed_op, typed_ops, ops_of, all_ops, IsStretchThere}

-- looks that compare alike with those of a run
pub looks_at : (own found : Looks) (looks : List Looks) (r : TypedRun) → r.looks < length looks
    → found ≡ get_or looks r.looks found → (bytes_eq own.font found.font && (own.colour == found.colour && int_eq own.offset found.offset)) ≡ true
    → own ≡ looks_in looks r
looks_at own found looks r lt is same =
    (same_looks_decides own found).0
    (and_assoc (bytes_eq own.font found.font) (own.colour == found.colour) (int_eq own.offset found.offset) ∙ same)
    ∙ is ∙ get_or_default looks r.looks found plain_looks lt

pub one_byte : (bytes : List ℕ) (byte : ℕ) → length bytes ≡ 1 → get_or bytes 0 byte ≡ byte → bytes ≡ byte ∷ []
one_byte [] byte len is = absurd cc
one_byte (b ∷ []) byte len is = ap (λ (x : ℕ). x ∷ []) is
one_byte (b ∷ d ∷ bytes) byte len is = absurd (omega (arith, len))

-- an operation that has all that a letter has
pub is_letter : (op : Operation) (looks : List Looks) (r : TypedRun) (k byte : ℕ) → op.text ≡ r.text → op.site ≡ r.site
    → op.seq ≡ r.seq + k → op.stamp ≡ r.stamp + k
    → op.kind ≡ insert (cause_of r k) (r.at + k) (looks_in looks r) (byte ∷ []) → op ≡ letter_of_run looks r k byte
is_letter op looks r k byte text site seq stamp kind =
    let made : ℕ → ℕ → ℕ → ℕ → OpKind → Operation = λ t s q p d.
    record { text = t; site = s; seq = q; stamp = p; kind = d } in
    ap (λ (t : ℕ). made t op.site op.seq op.stamp op.kind) text
    ∙ ap (λ (s : ℕ). made r.text s op.seq op.stamp op.kind) site
    ∙ ap (λ (q : ℕ). made r.text r.site q op.stamp op.kind) seq
    ∙ ap (λ (p : ℕ). made r.text r.site (r.seq + k) p op.kind) stamp
    ∙ ap (made r.text r.site (r.seq + k) (r.stamp + k)) kind

slice_get_left : {X : Type 0} (xs ys : List X) (i : ℕ) → i < length xs → slice_get (xs ++ ys) i ≡ slice_get xs i
slice_get_left xs ys i lt =
    let (x, is) = slice_get-some xs i lt in slice_get-append_left xs ys i x is ∙ sym is

-- ---- what stretches have stays, where what they share grows

pub record Extends (s t : Shared) : Type 0 where
  pub bytes : (more : List ℕ) × (t.bytes ≡ s.bytes ++ more)
  pub looks : (more : List Looks) × (t.looks ≡ s.looks ++ more)
  pub singles : (more : List Operation) × (t.singles ≡ s.singles ++ more)

-- so it does where nothing is added
pub stays : (s : Shared) → Extends s s
stays s = record {
  bytes = ([], sym (append-nil s.bytes));
  looks = ([], sym (append-nil s.looks));
  singles = ([], sym (append-nil s.singles));
}

module _ (s t : Shared) (grows : Extends s t) where
  letter_stays : (r : TypedRun) → IsStretchThere s (Typed r) → (k : ℕ) → k < r.len → typed_op t r k ≡ typed_op s r k
  letter_stays r (some, within, looks_there, cause) k lt =
      let (bytes, is) = grows.bytes in
      let (looks, looks_is) = grows.looks in
      let byte : get_or t.bytes (r.from + k) 0 ≡ get_or s.bytes (r.from + k) 0 =
      ap (λ (l : List ℕ). get_or l (r.from + k) 0) is ∙ get_or_append_left s.bytes bytes 0 (r.from + k) (omega (arith, within, lt)) in
      let own : looks_in t.looks r ≡ looks_in s.looks r =
      ap (λ (l : List Looks). looks_in l r) looks_is ∙ get_or_append_left s.looks looks plain_looks r.looks looks_there in
      let made : Looks → ℕ → Operation = λ l b. record {
        text = r.text;
        site = r.site;
        seq = r.seq + k;
        stamp = r.stamp + k;
        kind = insert (cause_of r k) (r.at + k) l (b ∷ []);
      } in
      ap (λ (b : ℕ). made (looks_in t.looks r) b) byte ∙ ap (λ (l : Looks). made l (get_or s.bytes (r.from + k) 0)) own

  letters_stay : (r : TypedRun) → IsStretchThere s (Typed r) → (n : ℕ) → n ≤ r.len → typed_ops t r n ≡ typed_ops s r n
  letters_stay r there zero le = refl
  letters_stay r there (suc n) le =
      ap (λ (ops : List Operation). ops ++ typed_op t r n ∷ []) (letters_stay r there n (omega (arith, le)))
      ∙ ap (λ (op : Operation). typed_ops s r n ++ op ∷ []) (letter_stays r there n (omega (arith, le)))

  pub stretch_stays : (st : Stretch) → IsStretchThere s st → ops_of t st ≡ ops_of s st
  stretch_stays (Typed r) there = letters_stay r there r.len (omega arith)
  stretch_stays (Deleted d) there = refl
  stretch_stays (Single i) there =
      let (singles, is) = grows.singles in
      ap (λ (l : List Operation). ops_of (shared t.bytes t.looks l) (Single i)) is
      ∙ ap (λ (o : Option Operation). option_map_or (λ (op : Operation). op ∷ []) o []) (slice_get_left s.singles singles i there)

  pub there_stays : (st : Stretch) → IsStretchThere s st → IsStretchThere t st
  there_stays (Typed r) (some, within, looks_there, cause) =
      let (bytes, is) = grows.bytes in
      let (looks, looks_is) = grows.looks in
      let many : length t.bytes ≡ length s.bytes + length bytes = ap length is ∙ length-append s.bytes bytes in
      let more : length t.looks ≡ length s.looks + length looks = ap length looks_is ∙ length-append s.looks looks in
      (some, omega (arith, many, within), omega (arith, more, looks_there), cause)
  there_stays (Deleted d) there = tt
  there_stays (Single i) there =
      let (singles, is) = grows.singles in
      let many : length t.singles ≡ length s.singles + length singles = ap length is ∙ length-append s.singles singles in
      omega (arith, many, there)

  pub all_stay : (sts : List Stretch) → All (IsStretchThere s) sts → all_ops t sts ≡ all_ops s sts
  all_stay [] there = refl
  all_stay (st ∷ sts) there =
      ap (λ (ops : List Operation). ops ++ all_ops t sts) (stretch_stays st (All-head (IsStretchThere s) st sts there))
      ∙ ap (λ (ops : List Operation). ops_of s st ++ ops) (all_stay sts (All-tail (IsStretchThere s) st sts there))

  pub all_there_stay : (sts : List Stretch) → All (IsStretchThere s) sts → All (IsStretchThere t) sts
  all_there_stay sts there = λ k d lt. there_stays (get_or sts k d) (there k d lt)

-- ---- what runs have

pub letters_many : (s : Shared) (r : TypedRun) (n : ℕ) → length (typed_ops s r n) ≡ n
letters_many s r zero = refl
letters_many s r (suc n) =
    let len = length-append (typed_ops s r n) (typed_op s r n ∷ []) in
    let before = letters_many s r n in
    omega (arith, len, before)

pub letter_at : (s : Shared) (r : TypedRun) (n k : ℕ) → k < n → slice_get (typed_ops s r n) k ≡ Some (typed_op s r k)
letter_at s r zero k lt = absurd (omega (arith, lt))
letter_at s r (suc n) k lt =
    let many = letters_many s r n in
    elim (cases_lt k n) [
      | inl before ↦
          slice_get-append_left (typed_ops s r n) (typed_op s r n ∷ []) k (typed_op s r k) (letter_at s r n k before)
      | inr past ↦
          let last : k ≡ n = omega (arith, lt, past) in
          ap (slice_get (typed_ops s r n ++ typed_op s r n ∷ [])) (last ∙ sym many)
          ∙ slice_get-push (typed_ops s r n) (typed_op s r n) ∙ ap (λ (m : ℕ). Some (typed_op s r m)) (sym last)
    ]

-- the letters don't tell how many there are
pub letters_alike : (s : Shared) (r : TypedRun) (len n : ℕ) → typed_ops s (record r { len = len }) n ≡ typed_ops s r n
letters_alike s r len zero = refl
letters_alike s r len (suc n) =
    ap (λ (ops : List Operation). ops ++ typed_op s (record r { len = len }) n ∷ []) (letters_alike s r len n)
    ∙ ap (λ (op : Operation). typed_ops s r n ++ op ∷ []) (alike n)
  where
    alike : (k : ℕ) → typed_op s (record r { len = len }) k ≡ typed_op s r k
    alike zero = refl
    alike (suc k) = refl

-- ---- a stretch more

pub all_more : (s : Shared) (sts : List Stretch) (st : Stretch) → all_ops s (sts ++ st ∷ []) ≡ all_ops s sts ++ ops_of s st
all_more s sts st =
    flat_map-append (ops_of s) sts (st ∷ []) ∙ ap (λ (ops : List Operation). all_ops s sts ++ ops) (append-nil (ops_of s st))

-- ---- an operation more

take_left : {X : Type 0} (xs ys : List X) (k : ℕ) → k ≤ length xs → take k (xs ++ ys) ≡ take k xs
take_left xs ys zero le = refl
take_left [] ys (suc k) le = absurd (omega (arith, le))
take_left (x ∷ xs) ys (suc k) le = ap (λ (zs : List _). x ∷ zs) (take_left xs ys k (omega (arith, le)))

taken_there : (s : Shared) (sts : List Stretch) (k : ℕ) → All (IsStretchThere s) sts → All (IsStretchThere s) (take k sts)
taken_there s sts zero there = λ i d lt. absurd (omega (arith, lt))
taken_there s [] (suc k) there = there
taken_there s (st ∷ sts) (suc k) there =
    All-cons (IsStretchThere s) st (take k sts) (All-head (IsStretchThere s) st sts there)
    (taken_there s sts k (All-tail (IsStretchThere s) st sts there))

-- the numbers before stretches, of which the last may be another
firsts_stay : (s t : Shared) (before : List Stretch) (was now : Stretch) (firsts : List ℕ) → Extends s t
    → All (IsStretchThere s) before → AreFirsts s (before ++ was ∷ []) firsts → AreFirsts t (before ++ now ∷ []) firsts
firsts_stay s t before was now firsts grows there are =
    let one : (st : Stretch) → length (before ++ st ∷ []) ≡ length before + 1 = λ st. length-append before (st ∷ []) in
    let many_was = one was in
    let many_now = one now in
    record {
      many = omega (arith, are.many, many_was, many_now);
      each = λ k d lt.
          let le : k ≤ length before = omega (arith, lt, many_now) in
          are.each k d (omega (arith, le, many_was))
          ∙ ap (λ (l : List Stretch). length (all_ops s l)) (take_left before (was ∷ []) k le)
          ∙ ap length (sym (all_stay s t grows (take k before) (taken_there s before k there)))
          ∙ ap (λ (l : List Stretch). length (all_ops t l)) (sym (take_left before (now ∷ []) k le));
    }

all_left : {X : Type 0} (P : X → Type 0) (xs ys : List X) → All P (xs ++ ys) → All P xs
all_left P xs ys all = λ i d lt. subst P (get_or_append_left xs ys d i lt) (all i d (omega (arith, length-append xs ys, lt)))

all_right : {X : Type 0} (P : X → Type 0) (xs ys : List X) → All P (xs ++ ys) → All P ys
all_right P xs ys all = λ i d lt.
    subst P (get_or-append-add xs ys i d) (all (length xs + i) d (omega (arith, length-append xs ys, lt)))

last_is : {X : Type 0} (xs ys : List X) (x y : X) → xs ++ x ∷ [] ≡ ys ++ y ∷ [] → (xs ≡ ys) × (x ≡ y)
last_is [] [] x y is = (refl, cc)
last_is [] (z ∷ []) x y is = absurd cc
last_is [] (z ∷ w ∷ ys) x y is = absurd cc
last_is (z ∷ []) [] x y is = absurd cc
last_is (z ∷ w ∷ xs) [] x y is = absurd cc
last_is (z ∷ xs) (w ∷ ys) x y is =
    let first : z ≡ w = cc in
    let rest : xs ++ x ∷ [] ≡ ys ++ y ∷ [] = cc in
    let (same, last) = last_is xs ys x y rest in
    (ap (λ (v : _). v ∷ xs) first ∙ ap (λ (l : List _). w ∷ l) same, last)

module _ (s t : Shared) (grows : Extends s t) (op : Operation) (spelled : HasSpelling op) where
  -- one stretch more
  module _ (sts : List Stretch) (firsts : List ℕ) (len : ℕ) (are : AreStretches s sts firsts len) (st : Stretch)
      (there : IsStretchThere t st) (ops : ops_of t st ≡ op ∷ []) (ends : EndsLast t st) where
    pub pushed_ops : all_ops t (sts ++ st ∷ []) ≡ all_ops s sts ++ op ∷ []
    pushed_ops =
        all_more t sts st ∙ ap (λ (l : List Operation). l ++ ops_of t st) (all_stay s t grows sts are.there)
        ∙ ap (λ (l : List Operation). all_ops s sts ++ l) ops

    pub pushed_are : length t.bytes ≤ length s.bytes + 1 → AreStretches t (sts ++ st ∷ []) (firsts ++ len ∷ []) (len + 1)
    pushed_are more =
        let many : length (sts ++ st ∷ []) ≡ length sts + 1 = length-append sts (st ∷ []) in
        let numbers : length (firsts ++ len ∷ []) ≡ length firsts + 1 = length-append firsts (len ∷ []) in
        let counted : length (all_ops s sts ++ op ∷ []) ≡ length (all_ops s sts) + 1 =
        length-append (all_ops s sts) (op ∷ []) in
        record {
          there = All-append (IsStretchThere t) sts (st ∷ []) (all_there_stay s t grows sts are.there)
              (All-cons (IsStretchThere t) st [] there (λ i d lt. absurd (omega (arith, lt))));
          before = record {
            many = omega (arith, many, numbers, are.before.many);
            each = λ k d lt. each k d (omega (arith, lt, many));
          };
          many = omega (arith, are.many, counted, ap length pushed_ops);
          letters = omega (arith, are.letters, more);
          spelled = subst (All HasSpelling) (sym pushed_ops)
              (All-append HasSpelling (all_ops s sts) (op ∷ []) are.spelled
              (All-cons HasSpelling op [] spelled (λ i d lt. absurd (omega (arith, lt)))));
          last = λ before last is. subst (EndsLast t) (last_is sts before st last is).1 ends;
        }
      where
        each : (k d : ℕ) → k ≤ length sts
            → get_or (firsts ++ len ∷ []) k d ≡ length (all_ops t (take k (sts ++ st ∷ [])))
        each k d le = elim (cases_lt k (length sts)) [
          | inl lt ↦
              get_or_append_left firsts (len ∷ []) d k (omega (arith, lt, are.before.many))
              ∙ are.before.each k d lt
              ∙ ap length (sym (all_stay s t grows (take k sts) (taken_there s sts k are.there)))
              ∙ ap (λ (l : List Stretch). length (all_ops t l)) (sym (take_left sts (st ∷ []) k le))
          | inr past ↦
              let last : k ≡ length firsts = omega (arith, le, past, are.before.many) in
              let all : k ≡ length sts = omega (arith, le, past) in
              ap (λ (n : ℕ). get_or (firsts ++ len ∷ []) n d) last
              ∙ get_or-append_seam firsts len [] d
              ∙ are.many
              ∙ ap length (sym (all_stay s t grows sts are.there))
              ∙ ap (λ (l : List Stretch). length (all_ops t l)) (sym (take-length sts))
              ∙ ap (λ (n : ℕ). length (all_ops t (take n sts))) (sym all)
              ∙ ap (λ (l : List Stretch). length (all_ops t l)) (sym (take_left sts (st ∷ []) k le))
        ]

-- the last run one letter longer
module _ (s : Shared) (byte : ℕ) (op : Operation) (spelled : HasSpelling op) (before : List Stretch) (r : TypedRun)
    (firsts : List ℕ) (len : ℕ) (are : AreStretches s (before ++ Typed r ∷ []) firsts len)
    (next : op ≡ letter_of_run s.looks r r.len byte) where
  abbrev longer : TypedRun
  longer = record r { len = r.len + 1 }

  abbrev after : Shared
  after = shared (s.bytes ++ byte ∷ []) s.looks s.singles

  grows : Extends s after
  grows = record {
    bytes = (byte ∷ [], refl);
    looks = ([], sym (append-nil s.looks));
    singles = ([], sym (append-nil s.singles));
  }

  was_there : All (IsStretchThere s) (before ++ Typed r ∷ [])
  was_there = are.there

  run_there : IsStretchThere s (Typed r)
  run_there = All-head (IsStretchThere s) (Typed r) [] (all_right (IsStretchThere s) before (Typed r ∷ []) was_there)

  before_there : All (IsStretchThere s) before
  before_there = all_left (IsStretchThere s) before (Typed r ∷ []) was_there

  ends : r.from + r.len ≡ length s.bytes
  ends = are.last before (Typed r) refl

  new_letter : typed_op after r r.len ≡ op
  new_letter =
      let made : ℕ → Operation = λ b. letter_of_run s.looks r r.len b in
      ap (λ (n : ℕ). made (get_or (s.bytes ++ byte ∷ []) n 0)) ends ∙ ap made (get_or-append_seam s.bytes byte [] 0) ∙ sym next

  longer_ops : ops_of after (Typed longer) ≡ ops_of s (Typed r) ++ op ∷ []
  longer_ops =
      let more : r.len + 1 ≡ suc r.len = omega arith in
      letters_alike after r (r.len + 1) (r.len + 1)
      ∙ ap (typed_ops after r) more
      ∙ ap (λ (ops : List Operation). ops ++ typed_op after r r.len ∷ []) (stretch_stays s after grows (Typed r) run_there)
      ∙ ap (λ (o : Operation). typed_ops s r r.len ++ o ∷ []) new_letter

  pub longer_all : all_ops after (before ++ Typed longer ∷ []) ≡ all_ops s (before ++ Typed r ∷ []) ++ op ∷ []
  longer_all =
      all_more after before (Typed longer)
      ∙ ap (λ (ops : List Operation). ops ++ ops_of after (Typed longer)) (all_stay s after grows before before_there)
      ∙ ap (λ (ops : List Operation). all_ops s before ++ ops) longer_ops
      ∙ sym (append_assoc (all_ops s before) (ops_of s (Typed r)) (op ∷ []))
      ∙ ap (λ (ops : List Operation). ops ++ op ∷ []) (sym (all_more s before (Typed r)))

  pub longer_are : AreStretches after (before ++ Typed longer ∷ []) firsts (len + 1)
  longer_are =
      let bytes : length (s.bytes ++ byte ∷ []) ≡ length s.bytes + 1 = length-append s.bytes (byte ∷ []) in
      let counted : length (all_ops s (before ++ Typed r ∷ []) ++ op ∷ []) ≡ length (all_ops s (before ++ Typed r ∷ [])) + 1 =
      length-append (all_ops s (before ++ Typed r ∷ [])) (op ∷ []) in
      let here : IsStretchThere after (Typed longer) = (omega arith, omega (arith, ends, bytes), run_there.2, run_there.3) in
      let end : longer.from + longer.len ≡ length after.bytes = omega (arith, ends, bytes) in
      record {
        there = All-append (IsStretchThere after) before (Typed longer ∷ []) (all_there_stay s after grows before before_there)
            (All-cons (IsStretchThere after) (Typed longer) [] here (λ i d lt. absurd (omega (arith, lt))));
        before = firsts_stay s after before (Typed r) (Typed longer) firsts grows before_there are.before;
        many = omega (arith, are.many, counted, ap length longer_all);
        letters = omega (arith, are.letters, bytes);
        spelled = subst (All HasSpelling) (sym longer_all)
            (All-append HasSpelling (all_ops s (before ++ Typed r ∷ [])) (op ∷ []) are.spelled
            (All-cons HasSpelling op [] spelled (λ i d lt. absurd (omega (arith, lt)))));
        last = λ xs last is. subst (EndsLast after) (last_is before xs (Typed longer) last is).1 end;
      }

-- ---- what stands at a place

split_at : (sts : List Stretch) (k : ℕ) (st : Stretch) → k < length sts → get_or sts k st ≡ st
    → (rest : List Stretch) × (sts ≡ take k sts ++ st ∷ rest)
split_at [] k st lt is = absurd (omega (arith, lt))
split_at (x ∷ sts) zero st lt is = (sts, ap (λ (y : Stretch). y ∷ sts) is)
split_at (x ∷ sts) (suc k) st lt is =
    let (rest, parts) = split_at sts k st (omega (arith, lt)) is in (rest, ap (λ (l : List Stretch). x ∷ l) parts)

take_more : (sts : List Stretch) (k : ℕ) (st : Stretch) → k < length sts → get_or sts k st ≡ st
    → take (suc k) sts ≡ take k sts ++ st ∷ []
take_more [] k st lt is = absurd (omega (arith, lt))
take_more (x ∷ sts) zero st lt is = ap (λ (y : Stretch). y ∷ []) is
take_more (x ∷ sts) (suc k) st lt is = ap (λ (l : List Stretch). x ∷ l) (take_more sts k st (omega (arith, lt)) is)

slice_get_after : {X : Type 0} (xs ys zs : List X) (k n : ℕ) → n ≡ length xs + k → k < length ys
    → slice_get (xs ++ (ys ++ zs)) n ≡ slice_get ys k
slice_get_after [] ys zs k n at lt =
    let here : n ≡ k = omega (arith, at) in ap (slice_get (ys ++ zs)) here ∙ slice_get_left ys zs k lt
slice_get_after (x ∷ xs) ys zs k zero at lt = absurd (omega (arith, at))
slice_get_after (x ∷ xs) ys zs k (suc n) at lt = slice_get_after xs ys zs k n (omega (arith, at)) lt

module _ (s : Shared) (sts : List Stretch) (firsts : List ℕ) (len : ℕ) (are : AreStretches s sts firsts len)
    (slot at : ℕ) (st : Stretch) (within : slot < length firsts) (is : get_or sts slot st ≡ st)
    (low : get_or firsts slot 0 ≤ at) (high : slot + 1 < length firsts → at < get_or firsts (slot + 1) 0) (lt : at < len) where
  abbrev first : ℕ
  first = get_or firsts slot 0

  has_slot : slot < length sts
  has_slot = omega (arith, within, are.before.many)

  first_is : first ≡ length (all_ops s (take slot sts))
  first_is = are.before.each slot 0 has_slot

  next_is : length (all_ops s (take (slot + 1) sts)) ≡ first + length (ops_of s st)
  next_is =
      let one : slot + 1 ≡ suc slot = omega arith in
      let long : length (all_ops s (take slot sts) ++ ops_of s st) ≡ length (all_ops s (take slot sts)) + length (ops_of s st) =
      length-append (all_ops s (take slot sts)) (ops_of s st) in
      ap (λ (n : ℕ). length (all_ops s (take n sts))) one
      ∙ ap (λ (l : List Stretch). length (all_ops s l)) (take_more sts slot st has_slot is)
      ∙ ap length (all_more s (take slot sts) st) ∙ omega (arith, long, first_is)

  pub is_within : at - first < length (ops_of s st)
  is_within = elim (cases_lt (slot + 1) (length firsts)) [
    | inl more ↦
        let next : at < get_or firsts (slot + 1) 0 = high more in
        let before : get_or firsts (slot + 1) 0 ≡ length (all_ops s (take (slot + 1) sts)) =
        are.before.each (slot + 1) 0 (omega (arith, more, are.before.many)) in
        omega (arith, next, before, next_is, low)
    | inr past ↦
        let all : slot + 1 ≡ length sts = omega (arith, past, within, are.before.many) in
        let whole : length (all_ops s (take (slot + 1) sts)) ≡ length (all_ops s sts) =
        ap (λ (n : ℕ). length (all_ops s (take n sts))) all ∙ ap (λ (l : List Stretch). length (all_ops s l)) (take-length sts) in
        omega (arith, lt, are.many, whole, next_is, low)
  ]

  pub found_at : slice_get (all_ops s sts) at ≡ slice_get (ops_of s st) (at - first)
  found_at =
      let (rest, parts) = split_at sts slot st has_slot is in
      let before : List Operation = all_ops s (take slot sts) in
      let place : at ≡ length before + (at - first) = omega (arith, low, first_is) in
      let whole : all_ops s sts ≡ before ++ (ops_of s st ++ all_ops s rest) =
      ap (all_ops s) parts ∙ flat_map-append (ops_of s) (take slot sts) (st ∷ rest) in
      ap (λ (ops : List Operation). slice_get ops at) whole
      ∙ slice_get_after before (ops_of s st) (all_ops s rest) (at - first) at place is_within

  pub stretch_there : IsStretchThere s st
  stretch_there = subst (IsStretchThere s) is (are.there slot st has_slot)

-- this stretch has the operation at a place, after so many others of it
pub record IsFound (s : Shared) (sts : List Stretch) (at : ℕ) (st : Stretch) (k : ℕ) : Type 0 where
  pub is : slice_get (all_ops s sts) at ≡ slice_get (ops_of s st) k
  pub within : k < length (ops_of s st)
  pub there : IsStretchThere s st

pub found_in : (s : Shared) (sts : List Stretch) (firsts : List ℕ) (len : ℕ) → AreStretches s sts firsts len
    → (slot at : ℕ) (st : Stretch) (first : ℕ) → slot < length firsts → get_or sts slot st ≡ st
    → first ≡ get_or firsts slot first → ((d : ℕ) → get_or firsts slot d ≤ at)
    → ((d : ℕ) → slot + 1 < length firsts → at < get_or firsts (slot + 1) d) → at < len
    → IsFound s sts at st (at - first)
found_in s sts firsts len are slot at st first within is first_is low high lt =
    let same : get_or firsts slot 0 ≡ first = get_or_default firsts slot 0 first within ∙ sym first_is in
    subst (λ (n : ℕ). IsFound s sts at st (at - n)) same (record {
      is = found_at s sts firsts len are slot at st within is (low 0) (high 0) lt;
      within = is_within s sts firsts len are slot at st within is (low 0) (high 0) lt;
      there = stretch_there s sts firsts len are slot at st within is (low 0) (high 0) lt;
    })

module _ (s : Shared) (sts : List Stretch) (at : ℕ) (r : TypedRun) (k : ℕ) (found : IsFound s sts at (Typed r) k) where
  few : k < r.len
  few = omega (arith, found.within, letters_many s r r.len)

  pub byte_there : r.from + k < length s.bytes
  byte_there = omega (arith, few, found.there.1)

  pub letter_found : (byte : ℕ) → byte ≡ get_or s.bytes (r.from + k) byte
      → slice_get (all_ops s sts) at ≡ Some (letter_of_run s.looks r k byte)
  letter_found byte is =
      found.is ∙ letter_at s r r.len k few
      ∙ ap (λ (b : ℕ). Some (letter_of_run s.looks r k b)) (sym (is ∙ get_or_default s.bytes (r.from + k) byte 0 byte_there))

pub deleted_found : (s : Shared) (sts : List Stretch) (at : ℕ) (d : OneDelete) (k : ℕ) → IsFound s sts at (Deleted d) k
    → slice_get (all_ops s sts) at ≡ Some (one_delete d)
deleted_found s sts at d k found =
    let first : k ≡ 0 = omega (arith, found.within) in found.is ∙ ap (slice_get (one_delete d ∷ [])) first

pub single_found : (s : Shared) (sts : List Stretch) (at i k : ℕ) → IsFound s sts at (Single i) k → (op : Operation)
    → op ≡ get_or s.singles i op → slice_get (all_ops s sts) at ≡ Some op
single_found s sts at i k found op is =
    let (x, there) = slice_get-some s.singles i found.there in
    let one : ops_of s (Single i) ≡ x ∷ [] = ap (λ (o : Option Operation). option_map_or (λ (y : Operation). y ∷ []) o []) there in
    let first : k ≡ 0 = omega (arith, found.within, ap length one) in
    let same : x ≡ op = sym (get_or_from_slice_get s.singles i x op there) ∙ sym is in
    found.is ∙ ap (λ (ops : List Operation). slice_get ops k) one ∙ ap (slice_get (x ∷ [])) first
    ∙ ap (λ (o : Operation). Some o) same

pub spelled_at : (ops : List Operation) → All HasSpelling ops → (k : ℕ) (op : Operation) → slice_get ops k ≡ Some op
    → HasSpelling op
spelled_at ops all k op there =
    let (j, lt, is) = Contains-slice_get ops k op there in subst HasSpelling is (all j op lt)

-- a run that begins with a letter
module _ (s t : Shared) (grows : Extends s t) (op : Operation) (r : TypedRun) (byte : ℕ) (one : r.len ≡ 1)
    (from : r.from ≡ length s.bytes) (bytes : t.bytes ≡ s.bytes ++ byte ∷ []) (looks : r.looks < length t.looks)
    (cause : r.cause_off < 16777216) (is : op ≡ letter_of_run t.looks r 0 byte) where
  many_bytes : length t.bytes ≡ length s.bytes + 1
  many_bytes = ap length bytes ∙ length-append s.bytes (byte ∷ [])

  pub begun_there : IsStretchThere t (Typed r)
  begun_there = (omega (arith, one), omega (arith, one, from, many_bytes), looks, cause)

  pub begun_ends : EndsLast t (Typed r)
  begun_ends = omega (arith, one, from, many_bytes)

  pub begun_ops : ops_of t (Typed r) ≡ op ∷ []
  begun_ops =
      let first : r.from + 0 ≡ length s.bytes = omega (arith, from) in
      let read : get_or t.bytes (r.from + 0) 0 ≡ byte =
      ap (λ (l : List ℕ). get_or l (r.from + 0) 0) bytes ∙ ap (λ (n : ℕ). get_or (s.bytes ++ byte ∷ []) n 0) first
      ∙ get_or-append_seam s.bytes byte [] 0 in
      ap (typed_ops t r) one ∙ ap (λ (b : ℕ). letter_of_run t.looks r 0 b ∷ []) read ∙ ap (λ (o : Operation). o ∷ []) (sym is)

-- an operation that stands alone
pub alone_ops : (s : Shared) (op : Operation)
    → ops_of (shared s.bytes s.looks (s.singles ++ op ∷ [])) (Single (length s.singles)) ≡ op ∷ []
alone_ops s op =
    ap (λ (o : Option Operation). option_map_or (λ (y : Operation). y ∷ []) o []) (slice_get-push s.singles op)
