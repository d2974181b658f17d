-- Letters that were taken in at once were handed in, one after the other.
use Rattle.std.proofs.Common.{◌≡◌, ◌≢◌, ℕ, ◌+◌, ◌<◌, Bool, true, false, ◌||◌, List, [], ◌∷◌, ◌++◌, length, take, get_or}
use Rattle.std.proofs.Common.{Result, Ok, Contains, ap, sym, subst, refl, ◌∙◌, append_assoc, append-nil, arith}
use Rattle.std.specs.Prelude.{All, AllPairs}
use Rattle.std.proofs.lemmas.List.{get_or_append_left, length-append, take_more}
use Rattle.std.proofs.lemmas.List.Elements.{All-contains, All-nil}
use Rattle.std.proofs.Math.Seq.{get_or-append_seam, take-append_seam}
use Rattle.operations.specs.Letters.{after_letter, letter, letters}
use Rattle.operations.specs.Operation.{Operation}
use Rattle.operations.specs.declared.typing.Typing.{Typing}
use Rattle.tree_order.specs.Good.{Good}
use Rattle.tree_order.specs.Shown.{AreChars}
use Rattle.char_files.specs.declared.character.Char.{Char}
use Rattle.set_laws.specs.Fronts.{IsHeld}
use Rattle.set_laws.specs.Sets.{AreIdentified}
use Rattle.set_laws.specs.Verdict.{HasVerdict, IsNew, ready}
use Rattle.set_laws.proofs.ByVerdict.{grows_by_verdict}
use Rattle.set_laws.proofs.OneMore.{with_one_identified}
use Rattle.texts.specs.Draining.{AllStay, ends}
use Rattle.texts.specs.Taking.{HasTakenAll}
use Rattle.texts.specs.Text.{IsText}
use Rattle.texts.specs.TextState.{TextState}
use Rattle.texts.specs.declared.took.Took.{Took}
use Rattle.texts.specs.declared.took.Took.TheVariants.{Taken}
use Rattle.texts.specs.declared.fate.Fate.TheVariants.{Ready}
use Rattle.texts.proofs.Chars.{one_chars, one_text_with}
use Rattle.waiting_room.specs.Room.{StaysWaiting}
use Rattle.text_chunks.specs.Unpacking.{HandsIn, counted_in}
use Rattle.text_chunks.specs.declared.unpacked.UnpackRefusal.{UnpackRefusal}
use Rattle.text_chunks.specs.declared.unpacked.Unpacked.{Unpacked}

-- so many more were taken in
abbrev pub with_taken : Unpacked → ℕ → Unpacked
with_taken c n = record c { taken = c.taken + n }

or_false : (b : Bool) → (b || false) ≡ b
or_false true = refl
or_false false = refl

-- ---- the first of what a text has grown by

module _ (t new : TextState) (op : Operation) (more : List Operation) (is : IsText t) (is' : IsText new)
    (once : AllPairs (λ a b. a ≢ b) new.operations) (grown : new.operations ≡ t.operations ++ op ∷ more) where
  at : get_or new.operations (length t.operations) op ≡ op
  at = ap (λ (l : List Operation). get_or l (length t.operations) op) grown ∙ get_or-append_seam t.operations op more op

  within : length t.operations < length new.operations
  within = omega (arith, ap length grown, length-append t.operations (op ∷ more))

  held : Contains new.operations op
  held = (length t.operations, within, at)

  before : take (length t.operations) new.operations ≡ t.operations
  before = ap (take (length t.operations)) grown ∙ take-append_seam t.operations (op ∷ more)

  good : Good (t.operations ++ op ∷ [])
  good =
      subst Good (take_more new.operations (length t.operations) op within
      ∙ ap (λ (l : List Operation). l ++ get_or new.operations (length t.operations) op ∷ []) before
      ∙ ap (λ (o : Operation). t.operations ++ o ∷ []) at) (is'.in_order (length t.operations + 1))

  is_new : IsNew t.operations op
  is_new = record {
    counted = is'.identified.counted op held;
    unheld = λ h.
        let (o, (k, less, found), on, of) = h in
        let there : get_or new.operations k o ≡ o =
        ap (λ (l : List Operation). get_or l k o) grown ∙ get_or_append_left t.operations (op ∷ more) o k less ∙ found in
        let same : o ≡ op = is'.identified.unique o op (k, omega (arith, less, within), there) held on of in
        once k (length t.operations) op less within
        (subst (λ (x : Operation). get_or new.operations k x ≡ x) same there ∙ sym at);
  }

  pub is_ready : IsNew t.operations op × HasVerdict t.operations op ready
  is_ready = (is_new, (grows_by_verdict t.operations op is.good is.identified is_new).ready.1 good)

  known : AreIdentified (t.operations ++ op ∷ [])
  known = with_one_identified t.operations op is.identified is_new

-- ---- all of it

stays_same : (t new : TextState) → IsText t → HasTakenAll t [] new → new ≡ t
stays_same t new is taken =
    let same : new.operations ≡ t.operations = ap (λ (u : TextState). u.operations) taken.grown ∙ append-nil t.operations in
    let order : new.order ≡ t.order =
    one_chars t.operations is.good new.order t.order
    (subst (λ (l : List Operation). AreChars l new.order) same taken.is.chars) is.chars in
    taken.grown ∙ ap (λ (l : List Operation). record t { operations = l; order = new.order }) (append-nil t.operations)
    ∙ ap (λ (l : List Char). record t { operations = t.operations; order = l }) order

none_held : (room : List Operation) (site seq : ℕ) → room ≡ [] → IsHeld room site seq → ⊥
none_held room site seq none (op, held, on, at) =
    let (k, less, is) = subst (λ (l : List Operation). Contains l op) none held in omega (arith, less)

pub row_handed : (bytes : List ℕ) (typing : Typing) (t new : TextState) (done : ℕ) (c : Unpacked) (was : Bool)
    (rest : List Operation) (short : Bool) (result : Result Unpacked UnpackRefusal) (last : TextState) → IsText t
    → t.waiting_room ≡ [] → HasTakenAll t (letters typing bytes) new → AllPairs (λ a b. a ≢ b) new.operations
    → HandsIn (done + length bytes) (with_taken c (length bytes)) was new rest short result last
    → HandsIn done c was t (letters typing bytes ++ rest) short result last
row_handed [] typing t new done c was rest short result last is none taken once hands =
    let many : done + 0 ≡ done = omega arith in
    let counts : with_taken c 0 ≡ c = ap (λ (n : ℕ). record c { taken = n }) (omega arith) in
    subst (λ (n : ℕ). HandsIn n c was t rest short result last) many
    (subst (λ (x : Unpacked). HandsIn (done + 0) x was t rest short result last) counts
    (subst (λ (u : TextState). HandsIn (done + 0) (with_taken c 0) was u rest short result last) (stays_same t new is taken)
    hands))
row_handed (b ∷ bytes) typing t new done c was rest short result last is none taken once hands =
    let op : Operation = letter typing b in
    let more : List Operation = letters (after_letter typing) bytes in
    let grown : new.operations ≡ t.operations ++ op ∷ more = ap (λ (u : TextState). u.operations) taken.grown in
    let own : op.text ≡ t.text =
    All-contains (λ (o : Operation). o.text ≡ new.text) new.operations op taken.is.of_text
    (held t new op more is taken.is once grown) ∙ ap (λ (u : TextState). u.text) taken.grown in
    let one = one_text_with t op is (good t new op more is taken.is once grown) (known t new op more is taken.is once grown) own in
    let mid : TextState = one.new in
    let room : mid.waiting_room ≡ [] = ap (λ (u : TextState). u.waiting_room) one.grown ∙ none in
    let so = is_ready t new op more is taken.is once grown in
    let rest_grown : new ≡ record mid { operations = mid.operations ++ more; order = new.order } =
    taken.grown
    ∙ ap (λ (l : List Operation). record t { operations = l; order = new.order }) (sym (append_assoc t.operations (op ∷ []) more))
    ∙ sym (ap (λ (u : TextState). record u { operations = u.operations ++ more; order = new.order }) one.grown) in
    let how : Took = Taken 0 0 false in
    let stay : AllStay mid =
    subst (λ (l : List Operation). All (StaysWaiting mid.operations) l) (sym room) (All-nil (StaysWaiting mid.operations)) in
    let one_more : with_taken c 1 ≡ counted_in c t mid how =
    ap (λ (x : Bool). record c { taken = c.taken + 1; stopped = x }) (sym (or_false c.stopped)) in
    let many : done + length (b ∷ bytes) ≡ done + 1 + length bytes = omega arith in
    let counts : with_taken c (length (b ∷ bytes)) ≡ with_taken (with_taken c 1) (length bytes) =
    ap (λ (n : ℕ). record c { taken = n }) (omega arith) in
    let on : HandsIn (done + 1) (with_taken c 1) was mid (more ++ rest) short result last =
    row_handed bytes (after_letter typing) mid new (done + 1) (with_taken c 1) was rest short result last one.is room
    (record { is = taken.is; grown = rest_grown }) once
    (subst (λ (n : ℕ). HandsIn n (with_taken (with_taken c 1) (length bytes)) was new rest short result last) many
    (subst (λ (x : Unpacked). HandsIn (done + length (b ∷ bytes)) x was new rest short result last) counts hands)) in (
      false,
      Ok how,
      mid,
      (
        Ready,
        (none_held t.waiting_room op.site op.seq none, (own, so.0, so.1)),
        (mid, 0, 0, record { is = one.is; grown = one.grown }, ends stay, refl),
      ),
      subst (λ (x : Unpacked). HandsIn (done + 1) x (was || false) mid (more ++ rest) short result last) one_more
          (subst (λ (x : Bool). HandsIn (done + 1) (with_taken c 1) x mid (more ++ rest) short result last)
          (sym (or_false was)) on),
    )
