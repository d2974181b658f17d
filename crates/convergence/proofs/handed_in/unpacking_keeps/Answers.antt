use Rattle.std.proofs.Common.{◌≡◌, ℕ, suc, ◌+◌, ◌⊎◌, inl, inr, List, [], ◌∷◌, ◌++◌, take, Bool, true, false, cond, MatchBool}
use Rattle.std.proofs.Common.{Result, Ok, Err, ◌||◌, refl, sym, ap, subst, ◌∙◌, arith}
use Rattle.std.proofs.lemmas.List.{append-nil, append_assoc}
use Rattle.std.proofs.lemmas.List.Elements.{Contains-append_left}
use Rattle.looks.specs.declared.refusal.Refusal.{Refusal}
use Rattle.looks.specs.declared.refusal.Refusal.TheVariants.{Malformed, OutOfMemory, WrongText}
use Rattle.operations.specs.Operation.{Operation}
use Rattle.chunks.specs.Chunks.{IsChunkOf, Placed, operations_of}
use Rattle.set_laws.specs.Sets.{AreIdentified}
use Rattle.texts.specs.Take.{TakesOp, TakesOpShort}
use Rattle.texts.specs.Text.{IsText}
use Rattle.texts.specs.TextState.{TextState}
use Rattle.texts.specs.declared.took.Took.{Took}
use Rattle.text_chunks.specs.Unpacking.{HandsIn, HandsInAll, StaysWhole, TakesOpSo, Unpacks, UnpacksShort, counted_in}
use Rattle.text_chunks.specs.Unpacking.{nothing_unpacked, refusal_after}
use Rattle.text_chunks.specs.declared.unpacked.UnpackRefusal.{UnpackRefusal}
use Rattle.text_chunks.specs.declared.unpacked.Unpacked.{Unpacked}
use Rattle.convergence.specs.HandedIn.{AccountsFor, AreHandedInOf, KeptByTakingOps, count_refused, is_handed_in}
use Rattle.set_laws.proofs.Lengths.{part_identified}
use Rattle.convergence.proofs.Kept.{both_parts, same_kept}
use Rattle.convergence.proofs.Messages.{text_after_op}
use Rattle.convergence.proofs.handed_in.unpacking_keeps.Goals as goal

-- the operations of a chunk that were handed in, from one on
abbrev handed_in : (done : ℕ) (c : Unpacked) (was : Bool) (t : TextState) (ops : List Operation) (short : Bool)
    (result : Result Unpacked UnpackRefusal) (new : TextState) → HandsIn done c was t ops short result new → List Operation
handed_in done c was t [] short result new hands = []
handed_in done c was t (op ∷ ops) short result new (one, Err why, mid, takes, rest) =
    cond (is_handed_in (Err why)) (op ∷ []) []
handed_in done c was t (op ∷ ops) short result new (one, Ok how, mid, takes, rest) =
    op ∷ handed_in (done + 1) (counted_in c t mid how) (was || one) mid ops short result new rest

-- after the first ones, these of the others were handed in
abbrev AreOfTheRest : ℕ → List Operation → Result Unpacked UnpackRefusal → List Operation → Type 0
AreOfTheRest done ops (Ok counts) handed = handed ≡ ops
AreOfTheRest done ops (Err refusal) handed =
    (more : ℕ) × (why : Refusal) × (refusal ≡ refusal_after (done + more) why)
    × (handed ≡ take (more + count_refused why) ops)

-- with the one before them
one_more : (done : ℕ) (op : Operation) (ops : List Operation) (result : Result Unpacked UnpackRefusal)
    (handed : List Operation) → AreOfTheRest (done + 1) ops result handed → AreOfTheRest done (op ∷ ops) result (op ∷ handed)
one_more done op ops (Ok counts) handed are = ap (λ (xs : List Operation). op ∷ xs) are
one_more done op ops (Err refusal) handed (more, why, is, are) = (
  suc more,
  why,
  is ∙ ap (λ (n : ℕ). refusal_after n why) (omega arith),
  ap (λ (xs : List Operation). op ∷ xs) are
      ∙ ap (λ (n : ℕ). take n (op ∷ ops))
      (let same : suc (more + count_refused why) ≡ suc more + count_refused why = omega arith in same),
)

-- one that is refused is the last that was handed in, if it counts
last_one : (op : Operation) (ops : List Operation) (counts : Bool)
    → cond counts (op ∷ []) [] ≡ take (0 + cond counts 1 0) (op ∷ ops)
last_one op ops true = refl
last_one op ops false = refl

are_the_rest : (done : ℕ) (c : Unpacked) (was : Bool) (t : TextState) (ops : List Operation) (short : Bool)
    (result : Result Unpacked UnpackRefusal) (new : TextState) (hands : HandsIn done c was t ops short result new)
    → AreOfTheRest done ops result (handed_in done c was t ops short result new hands)
are_the_rest done c was t [] short result new (is, answer, same) = rw answer refl
are_the_rest done c was t (op ∷ ops) short result new (one, Err why, mid, takes, (is, answer, same)) =
    subst (λ (r : Result Unpacked UnpackRefusal). AreOfTheRest done (op ∷ ops) r (cond (is_handed_in (Err why)) (op ∷ []) []))
    (sym answer) (
      0,
      why,
      ap (λ (n : ℕ). refusal_after n why) (let same : done ≡ done + 0 = omega arith in same),
      last_one op ops (is_handed_in (Err why)),
    )
are_the_rest done c was t (op ∷ ops) short result new (one, Ok how, mid, takes, rest) =
    one_more done op ops result (handed_in (done + 1) (counted_in c t mid how) (was || one) mid ops short result new rest)
    (are_the_rest (done + 1) (counted_in c t mid how) (was || one) mid ops short result new rest)

-- the answer was given so, whether memory was there or not
either : (one : Bool) (t : TextState) (op : Operation) (took : Result Took Refusal) (mid : TextState)
    → TakesOpSo one t op took mid → TakesOp t op took mid ⊎ TakesOpShort t op took mid
either false t op took mid takes = inl takes
either true t op took mid takes = inr takes

-- one that is refused is kept if it counts
last_kept : (all : List Operation) (op : Operation) (new : TextState) (counts : Bool)
    → MatchBool counts (AreIdentified (all ++ op ∷ []) → AccountsFor new (all ++ op ∷ [])) (AccountsFor new all)
    → AreIdentified (all ++ cond counts (op ∷ []) []) → AccountsFor new (all ++ cond counts (op ∷ []) [])
last_kept all op new true kept known = kept known
last_kept all op new false kept known = subst (AccountsFor new) (sym (append-nil all)) kept

module _ (taking : KeptByTakingOps) where
  -- those are kept
  kept_handed : (done : ℕ) (c : Unpacked) (was : Bool) (t : TextState) (ops : List Operation) (short : Bool)
      (result : Result Unpacked UnpackRefusal) (new : TextState) (all : List Operation)
      (hands : HandsIn done c was t ops short result new) → IsText t → AccountsFor t all
      → AreIdentified (all ++ handed_in done c was t ops short result new hands)
      → AccountsFor new (all ++ handed_in done c was t ops short result new hands)
  kept_handed done c was t [] short result new all (is, answer, same) text keeps known = same_kept t new all keeps same
  kept_handed done c was t (op ∷ ops) short result new all (one, Err why, mid, takes, (is, answer, same)) text keeps known =
      subst (λ (u : TextState). AccountsFor u (all ++ cond (is_handed_in (Err why)) (op ∷ []) [])) (sym same)
      (last_kept all op mid (is_handed_in (Err why))
      (taking t mid op (Err why) all text keeps (either one t op (Err why) mid takes)) known)
  kept_handed done c was t (op ∷ ops) short result new all (one, Ok how, mid, takes, rest) text keeps known =
      let later : List Operation = handed_in (done + 1) (counted_in c t mid how) (was || one) mid ops short result new rest in
      let joined : (all ++ op ∷ []) ++ later ≡ all ++ op ∷ later = append_assoc all (op ∷ []) later in
      let known' : AreIdentified ((all ++ op ∷ []) ++ later) = subst AreIdentified (sym joined) known in
      let first : AreIdentified (all ++ op ∷ []) =
      part_identified (all ++ op ∷ []) ((all ++ op ∷ []) ++ later) (Contains-append_left (all ++ op ∷ []) later) known' in
      let answered = either one t op (Ok how) mid takes in
      let room : AreIdentified (t.waiting_room ++ op ∷ []) =
      part_identified (t.waiting_room ++ op ∷ []) (all ++ op ∷ [])
      (both_parts t.waiting_room all (op ∷ []) (op ∷ []) keeps.kept.kept_waiting (λ x held. held)) first in
      subst (AccountsFor new) joined
      (kept_handed (done + 1) (counted_in c t mid how) (was || one) mid ops short result new (all ++ op ∷ []) rest
      (text_after_op t mid op (Ok how) text room answered)
      (taking t mid op (Ok how) all text keeps answered first) known')

  module _ (t new : TextState) (bytes : List ℕ) (result : Result Unpacked UnpackRefusal) (all : List Operation)
      (text : IsText t) (keeps : AccountsFor t all) where
    abbrev IsKept : Type 0
    IsKept = (handed : List Operation) × AreHandedInOf bytes result handed
        × (AreIdentified (all ++ handed) → AccountsFor new (all ++ handed))

    -- where nothing was handed in
    kept_whole : (why : Refusal) → is_handed_in (Err why) ≡ false → StaysWhole t why result new → IsKept
    kept_whole why none (answer, same) = (
      [],
      subst (λ (r : Result Unpacked UnpackRefusal). AreHandedInOf bytes r []) (sym answer) (inl (why, refl, none, refl)),
      λ known. same_kept t new all keeps same,
    )

    -- what is told of a chunk's operations is told of the bytes
    told : (number : ℕ) (ps : List Placed) → IsChunkOf number ps bytes → (answer : Result Unpacked UnpackRefusal)
        (handed : List Operation) → AreOfTheRest 0 (operations_of ps) answer handed → AreHandedInOf bytes answer handed
    told number ps chunk (Ok counts) handed are = (number, ps, chunk, are)
    told number ps chunk (Err refusal) handed (more, why, is, are) =
        inr (
          number,
          ps,
          chunk,
          more,
          why,
          is ∙ ap (λ (n : ℕ). refusal_after n why) (let same : 0 + more ≡ more = omega arith in same),
          are,
        )

    -- where operations were
    kept_all : (number : ℕ) (ps : List Placed) (short : Bool) → IsChunkOf number ps bytes
        → HandsInAll t (operations_of ps) short result new → IsKept
    kept_all number ps short chunk hands =
        let handed : List Operation = handed_in 0 nothing_unpacked false t (operations_of ps) short result new hands in (
          handed,
          told number ps chunk result handed
              (are_the_rest 0 nothing_unpacked false t (operations_of ps) short result new hands),
          kept_handed 0 nothing_unpacked false t (operations_of ps) short result new all hands text keeps,
        )

    kept_unpacked : Unpacks t bytes result new ⊎ UnpacksShort t bytes result new → IsKept
    kept_unpacked (inl (inl (none, whole))) = kept_whole Malformed refl whole
    kept_unpacked (inl (inr (number, ps, chunk, inl (apart, whole)))) = kept_whole WrongText refl whole
    kept_unpacked (inl (inr (number, ps, chunk, inr (own, hands)))) = kept_all number ps false chunk hands
    kept_unpacked (inr (inl (begins, whole))) = kept_whole OutOfMemory refl whole
    kept_unpacked (inr (inr (ps, chunk, hands))) = kept_all t.text ps true chunk hands

pub returns : goal.returns
returns c = λ t new bytes result all text keeps unpacks.
    kept_unpacked c.lemma_taking_operations_keeps.ensures t new bytes result all text keeps unpacks
