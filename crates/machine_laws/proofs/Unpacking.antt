-- An unpacking does one thing to a text, and lets it grow.
use Rattle.std.proofs.Common.{◌≡◌, ℕ, ◌+◌, List, [], ◌∷◌, ◌++◌, All, Bool, true, false, Result, Ok, Err, refl, sym, ap, subst}
use Rattle.std.proofs.Common.{◌∙◌, inl, inr, append_assoc, arith}
use Rattle.std.specs.Prelude.{◌⊎◌, ◌≢◌, ◌||◌, ◌==◌, if◌then◌else◌, MatchResult}
use Rattle.std.proofs.lemmas.Bool.{ne_eqb}
use Rattle.std.proofs.lemmas.List.{append-nil}
use Rattle.std.proofs.lemmas.List.Elements.{All-cons, All-head, All-nil, All-tail}
use Rattle.looks.specs.declared.refusal.Refusal.{Refusal}
use Rattle.looks.specs.declared.refusal.Refusal.TheVariants.{OutOfMemory, WrongText}
use Rattle.operations.specs.Operation.{Operation}
use Rattle.operations.specs.Spelling.{HasSpelling, spelling}
use Rattle.packed.specs.Told.{Told, nothing_begun}
use Rattle.chunks.specs.Chunks.{CanAllCome, Placed, operations_of, told_by}
use Rattle.chunks.specs.Laws.{OneChunk}
use Rattle.convergence.specs.Outcomes.{TakesOneWay}
use Rattle.texts.specs.Take.{TakesShort}
use Rattle.texts.specs.Text.{IsText}
use Rattle.texts.specs.TextState.{TextState}
use Rattle.texts.specs.declared.took.Took.{Took}
use Rattle.text_chunks.proofs.Messages.{message_of_op}
use Rattle.text_chunks.specs.Unpacking.{HandsIn, HandsInAll, StaysWhole, TakesOpSo, Unpacks, UnpacksShort, counted_in, nothing_unpacked, refusal_after}
use Rattle.text_chunks.specs.declared.unpacked.UnpackRefusal.{UnpackRefusal}
use Rattle.text_chunks.specs.declared.unpacked.UnpackRefusal.TheVariants.{Whole, Partial}
use Rattle.text_chunks.specs.declared.unpacked.Unpacked.{Unpacked}
use Rattle.machine.specs.Events.{Reply, refuses, take_reply, unpack_reply}
use Rattle.machine.specs.OnTexts.{UnpacksText, UnpacksTextShort}
use Rattle.machine_laws.proofs.Growing.{takes_grow, takes_short_grow}
use Rattle.machine_laws.specs.Growing.{Grows}
use Rattle.machine_laws.specs.Laws.{HaveOneShape}

-- a chunk's operations have messages
pub each_spelled : (told : Told) (text : ℕ) (ps : List Placed) → CanAllCome told text ps → All HasSpelling (operations_of ps)
each_spelled told text [] can = All-nil HasSpelling
each_spelled told text (p ∷ ps) can =
    All-cons HasSpelling p.op (operations_of ps) can.0.next.spelled (each_spelled (told_by told p) text ps can.1)

-- an operation is answered as its message is, where memory was refused, too
op_taken_short : (t new : TextState) (op : Operation) (took : Result Took Refusal) → HasSpelling op
    → TakesOpSo true t op took new → TakesShort t (spelling op) took new
op_taken_short t new op took valid (inl (has, out)) = inl (λ none. none op valid refl, out.1)
op_taken_short t new op took valid (inr (has, inl takes)) =
    inr (op, record { valid = valid; spelled = refl }, has, takes)
op_taken_short t new op took valid (inr (has, inr stays)) = inl (λ none. none op valid refl, stays)

-- what each operation that is handed in keeps true of a text, an unpacking keeps
module _ (P : TextState → Type 0)
    (step : (one : Bool) (t mid : TextState) (op : Operation) (took : Result Took Refusal) → HasSpelling op
    → TakesOpSo one t op took mid → P t → P mid) where
  handing_keeps : (done : ℕ) (c : Unpacked) (was : Bool) (t : TextState) (ops : List Operation) (short : Bool)
      (result : Result Unpacked UnpackRefusal) (new : TextState) → All HasSpelling ops
      → HandsIn done c was t ops short result new → P t → P new
  handing_keeps done c was t [] short result new spelled (is_short, is, same) has = subst P (sym same) has
  handing_keeps done c was t (op ∷ ops) short result new spelled (one, Ok how, mid, takes, goes) has =
      handing_keeps (done + 1) (counted_in c t mid how) (was || one) mid ops short result new (All-tail HasSpelling op ops spelled)
      goes (step one t mid op (Ok how) (All-head HasSpelling op ops spelled) takes has)
  handing_keeps done c was t (op ∷ ops) short result new spelled (one, Err why, mid, takes, goes) has =
      subst P (sym goes.2) (step one t mid op (Err why) (All-head HasSpelling op ops spelled) takes has)

  all_handing_keeps : (t new : TextState) (text : ℕ) (ps : List Placed) (short : Bool) (result : Result Unpacked UnpackRefusal)
      → CanAllCome nothing_begun text ps → HandsInAll t (operations_of ps) short result new → P t → P new
  all_handing_keeps t new text ps short result can =
      handing_keeps 0 nothing_unpacked false t (operations_of ps) short result new (each_spelled nothing_begun text ps can)

  pub unpacking_keeps : (chunk : List ℕ) (r : Reply) (t new : TextState) → UnpacksText chunk r t new → P t → P new
  unpacking_keeps chunk r t new (result, inl (none, stays), replied) has = subst P (sym stays.1) has
  unpacking_keeps chunk r t new (result, inr (text, ps, of, inl (other, stays)), replied) has = subst P (sym stays.1) has
  unpacking_keeps chunk r t new (result, inr (text, ps, of, inr (own, hands)), replied) has =
      all_handing_keeps t new text ps false result of.come hands has

  pub unpacking_short_keeps : (chunk : List ℕ) (r : Reply) (t new : TextState) → UnpacksTextShort chunk r t new → P t
      → P new
  unpacking_short_keeps chunk r t new (result, inl (begins, stays), replied) has = subst P (sym stays.1) has
  unpacking_short_keeps chunk r t new (result, inr (ps, of, hands), replied) has =
      all_handing_keeps t new t.text ps true result of.come hands has

-- a text grows by it

op_grows : (one : Bool) (t new : TextState) (op : Operation) (took : Result Took Refusal) → HasSpelling op
    → TakesOpSo one t op took new → IsText t → Grows t new
op_grows false t new op took valid takes is =
    takes_grow (spelling op) (take_reply took) t new (took, message_of_op t new op took valid takes, refl) is
op_grows true t new op took valid takes is =
    takes_short_grow (spelling op) (take_reply took) t new (took, op_taken_short t new op took valid takes, refl) is

grows_on : (t mid new : TextState) → Grows t mid → Grows mid new → Grows t new
grows_on t mid new first later = record {
  was = first.was;
  is = later.is;
  more = first.more ++ later.more;
  taken =
      later.taken ∙ ap (λ (ops : List Operation). ops ++ later.more) first.taken
      ∙ append_assoc t.operations first.more later.more;
  asked = later.asked ∙ first.asked;
}

grows_by_one : (t : TextState) (one : Bool) (u mid : TextState) (op : Operation) (took : Result Took Refusal) → HasSpelling op
    → TakesOpSo one u op took mid → Grows t u → Grows t mid
grows_by_one t one u mid op took valid takes grows = grows_on t u mid grows (op_grows one u mid op took valid takes grows.is)

not_yet : (t : TextState) → IsText t → Grows t t
not_yet t is = record { was = is; is = is; more = []; taken = sym (append-nil t.operations); asked = refl }

pub unpacks_grow : (chunk : List ℕ) (r : Reply) (t new : TextState) → UnpacksText chunk r t new → IsText t → Grows t new
unpacks_grow chunk r t new does is = unpacking_keeps (Grows t) (grows_by_one t) chunk r t new does (not_yet t is)

pub unpacks_short_grow : (chunk : List ℕ) (r : Reply) (t new : TextState) → UnpacksTextShort chunk r t new → IsText t
    → Grows t new
unpacks_short_grow chunk r t new does is = unpacking_short_keeps (Grows t) (grows_by_one t) chunk r t new does (not_yet t is)

-- where memory is there it does one thing

-- once memory was refused to an operation, it was
stays_short : (done : ℕ) (c : Unpacked) (t : TextState) (ops : List Operation) (result : Result Unpacked UnpackRefusal)
    (new : TextState) → HandsIn done c true t ops false result new → ⊥
stays_short done c t [] result new (is_short, is, same) = absurd cc
stays_short done c t (op ∷ ops) result new (one, Ok how, mid, takes, goes) =
    stays_short (done + 1) (counted_in c t mid how) mid ops result new goes
stays_short done c t (op ∷ ops) result new (one, Err why, mid, takes, goes) =
    let is_short = goes.0 in absurd cc

-- what becomes of the operations after one that was answered so
abbrev GoesOn : (done : ℕ) → Unpacked → (t mid : TextState) → List Operation → Result Took Refusal
    → Result Unpacked UnpackRefusal → TextState → Type 0
GoesOn done c t mid ops took result new =
    MatchResult took (λ how. HandsIn (done + 1) (counted_in c t mid how) false mid ops false result new)
    (λ why. (false ≡ false) × (result ≡ Err (refusal_after done why)) × (new ≡ mid))

answered_so : (done : ℕ) (c : Unpacked) (t : TextState) (ops : List Operation) (mid mid' : TextState)
    (took' took : Result Took Refusal) (result : Result Unpacked UnpackRefusal) (new : TextState) → took' ≡ took → mid' ≡ mid
    → GoesOn done c t mid' ops took' result new → GoesOn done c t mid ops took result new
answered_so done c t ops mid mid' took' took result new same there goes =
    subst (λ (m : TextState). GoesOn done c t m ops took result new) there
    (subst (λ (k : Result Took Refusal). GoesOn done c t mid' ops k result new) same goes)

module _ (takes_so : TakesOneWay) where
  one_handing : (done : ℕ) (c : Unpacked) (t : TextState) (ops : List Operation) (result result' : Result Unpacked UnpackRefusal)
      (new new' : TextState) → IsText t → All HasSpelling ops → HandsIn done c false t ops false result new
      → HandsIn done c false t ops false result' new' → (result ≡ result') × (new ≡ new')
  one_handing done c t [] result result' new new' is spelled a b = (a.1 ∙ sym b.1, a.2 ∙ sym b.2)
  one_handing done c t (op ∷ ops) result result' new new' is spelled (true, Ok how, mid, takes, goes) b =
      absurd (stays_short (done + 1) (counted_in c t mid how) mid ops result new goes)
  one_handing done c t (op ∷ ops) result result' new new' is spelled (true, Err why, mid, takes, goes) b =
      let is_short = goes.0 in absurd cc
  one_handing done c t (op ∷ ops) result result' new new' is spelled a (true, Ok how, mid, takes, goes) =
      absurd (stays_short (done + 1) (counted_in c t mid how) mid ops result' new' goes)
  one_handing done c t (op ∷ ops) result result' new new' is spelled a (true, Err why, mid, takes, goes) =
      let is_short = goes.0 in absurd cc
  one_handing done c t (op ∷ ops) result result' new new' is spelled (false, Ok how, mid, takes, goes)
      (false, took', mid', takes', goes') =
      let valid = All-head HasSpelling op ops spelled in
      let same = takes_so.whole t mid' mid (spelling op) took' (Ok how) is (message_of_op t mid' op took' valid takes')
      (message_of_op t mid op (Ok how) valid takes) in
      one_handing (done + 1) (counted_in c t mid how) mid ops result result' new new'
      (op_grows false t mid op (Ok how) valid takes is).is (All-tail HasSpelling op ops spelled) goes
      (answered_so done c t ops mid mid' took' (Ok how) result' new' same.0 same.1 goes')
  one_handing done c t (op ∷ ops) result result' new new' is spelled (false, Err why, mid, takes, goes)
      (false, took', mid', takes', goes') =
      let valid = All-head HasSpelling op ops spelled in
      let same = takes_so.whole t mid' mid (spelling op) took' (Err why) is (message_of_op t mid' op took' valid takes')
      (message_of_op t mid op (Err why) valid takes) in
      let refused = answered_so done c t ops mid mid' took' (Err why) result' new' same.0 same.1 goes' in
      (goes.1 ∙ sym refused.1, goes.2 ∙ sym refused.2)

  -- an unpacking of a chunk, told twice
  one_unpacking : OneChunk → (t : TextState) (chunk : List ℕ) (result result' : Result Unpacked UnpackRefusal) (new new' : TextState)
      → IsText t → Unpacks t chunk result new → Unpacks t chunk result' new' → (result ≡ result') × (new ≡ new')
  one_unpacking one t chunk result result' new new' is (inl a) (inl b) = (a.1.0 ∙ sym b.1.0, a.1.1 ∙ sym b.1.1)
  one_unpacking one t chunk result result' new new' is (inl a) (inr (text, ps, of, b)) = absurd (a.0 text ps of)
  one_unpacking one t chunk result result' new new' is (inr (text, ps, of, a)) (inl b) = absurd (b.0 text ps of)
  one_unpacking one t chunk result result' new new' is (inr (text, ps, of, a)) (inr (text', ps', of', b)) =
      let same = one chunk text' text ps' ps of' of in
      by a b (λ (x : text ≢ t.text) (y : text' ≡ t.text). x (sym same.0 ∙ y))
      (λ (x : text ≡ t.text) (y : text' ≢ t.text). y (same.0 ∙ x)) same.1
    where
      by : ((text ≢ t.text) × StaysWhole t WrongText result new)
          ⊎ ((text ≡ t.text) × HandsInAll t (operations_of ps) false result new)
          → ((text' ≢ t.text) × StaysWhole t WrongText result' new')
          ⊎ ((text' ≡ t.text) × HandsInAll t (operations_of ps') false result' new')
          → ((text ≢ t.text) → (text' ≡ t.text) → ⊥) → ((text ≡ t.text) → (text' ≢ t.text) → ⊥) → ps' ≡ ps
          → (result ≡ result') × (new ≡ new')
      by (inl a) (inl b) apart apart' same = (a.1.0 ∙ sym b.1.0, a.1.1 ∙ sym b.1.1)
      by (inl a) (inr b) apart apart' same = absurd (apart a.0 b.0)
      by (inr a) (inl b) apart apart' same = absurd (apart' a.0 b.0)
      by (inr a) (inr b) apart apart' same =
          one_handing 0 nothing_unpacked t (operations_of ps) result result' new new' is
          (each_spelled nothing_begun text ps of.come) a.1
          (subst (λ (qs : List Placed). HandsInAll t (operations_of qs) false result' new') same b.1)

  pub unpacks_text : OneChunk → (chunk : List ℕ) (r r' : Reply) (t u v : TextState) → IsText t → UnpacksText chunk r t u
      → UnpacksText chunk r' t v → (r ≡ r') × (u ≡ v)
  unpacks_text one chunk r r' t u v is (result, does, replied) (result', does', replied') =
      let same = one_unpacking one t chunk result result' u v is does does' in
      (replied ∙ ap unpack_reply same.0 ∙ sym replied', same.1)

-- where memory was refused, and nothing was done, it was for this, and the text stays

later_is_partial : (done : ℕ) (c : Unpacked) (was : Bool) (t : TextState) (ops : List Operation) (short : Bool) (why : Refusal)
    (new : TextState) → HandsIn (done + 1) c was t ops short (Err (Whole why)) new → ⊥
later_is_partial done c was t [] short why new (is_short, is, same) = absurd cc
later_is_partial done c was t (op ∷ ops) short why new (one, Ok how, mid, takes, goes) =
    later_is_partial (done + 1) (counted_in c t mid how) (was || one) mid ops short why new goes
later_is_partial done c was t (op ∷ ops) short why new (one, Err why', mid, takes, goes) =
    let same = goes.1 in
    let later : ((done + 1) == 0) ≡ false = ne_eqb (done + 1) 0 (omega arith) in
    let part : refusal_after (done + 1) why' ≡ Partial (done + 1) why' =
    ap (λ (first : Bool). if first then Whole why' else Partial (done + 1) why') later in absurd cc

short_op : (t new : TextState) (op : Operation) (why : Refusal) → TakesOpSo true t op (Err why) new
    → (why ≡ OutOfMemory) × (new ≡ t)
short_op t new op why (inl (has, out)) = (let same = out.1.0 in cc, out.1.1)
short_op t new op why (inr (has, inl takes)) = let (with_op, n, m, has', drains, is) = takes in absurd cc
short_op t new op why (inr (has, inr stays)) = (let same = stays.0 in cc, stays.1)

first_refused : (t : TextState) (ops : List Operation) (why : Refusal) (new : TextState)
    → HandsInAll t ops true (Err (Whole why)) new → (why ≡ OutOfMemory) × (new ≡ t)
first_refused t [] why new (is_short, is, same) = absurd cc
first_refused t (op ∷ ops) why new (one, Ok how, mid, takes, goes) =
    absurd (later_is_partial 0 (counted_in nothing_unpacked t mid how) (false || one) mid ops true why new goes)
first_refused t (op ∷ ops) why new (true, Err why', mid, takes, goes) =
    let stayed = short_op t mid op why' takes in
    let same : why ≡ why' = let is = goes.1 in cc in
    (same ∙ stayed.0, goes.2 ∙ stayed.1)
first_refused t (op ∷ ops) why new (false, Err why', mid, takes, goes) = let is_short = goes.0 in absurd cc

whole_stays : (t : TextState) (chunk : List ℕ) (why : Refusal) (new : TextState) → UnpacksShort t chunk (Err (Whole why)) new
    → (why ≡ OutOfMemory) × (new ≡ t)
whole_stays t chunk why new (inl (begins, stays)) = (let same = stays.0 in cc, stays.1)
whole_stays t chunk why new (inr (ps, of, hands)) = first_refused t (operations_of ps) why new hands

-- so there is one text of the one answer of a shape
pub unpacks_text_short : (chunk : List ℕ) (r r' : Reply) (t u v : TextState) → HaveOneShape r r' → UnpacksTextShort chunk r t u
    → UnpacksTextShort chunk r' t v → (r ≡ r') × (u ≡ v)
unpacks_text_short chunk r r' t u v shape (result, does, replied) (result', does', replied') =
    by result result' does does' (subst (λ (x : Reply). HaveOneShape x (unpack_reply result')) replied
    (subst (λ (x : Reply). HaveOneShape r x) replied' shape)) replied replied'
  where
    by : (a b : Result Unpacked UnpackRefusal) → UnpacksShort t chunk a u → UnpacksShort t chunk b v
        → HaveOneShape (unpack_reply a) (unpack_reply b) → r ≡ unpack_reply a → r' ≡ unpack_reply b → (r ≡ r') × (u ≡ v)
    by (Err (Whole why)) (Err (Whole why')) does does' shape is is' =
        let left = whole_stays t chunk why u does in
        let left' = whole_stays t chunk why' v does' in
        (is ∙ ap refuses (left.0 ∙ sym left'.0) ∙ sym is', left.1 ∙ sym left'.1)
    by (Ok counts) b does does' shape is is' = absurd shape
    by (Err (Partial done why)) b does does' shape is is' = absurd shape
    by (Err (Whole why)) (Ok counts) does does' shape is is' = absurd shape
    by (Err (Whole why)) (Err (Partial done why')) does does' shape is is' = absurd shape
