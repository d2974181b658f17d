-- Operations of a file, taken in one after the other: the next one is ready.
use Rattle.std.proofs.Common.{◌≡◌, ◌≢◌, ◌+◌, List, [], ◌∷◌, ◌++◌, length, take, get_or, refl, sym, ap, subst, ◌∙◌}
use Rattle.std.proofs.Common.{append_assoc, length-append, arith}
use Rattle.std.specs.Prelude.{All, AllPairs, Contains}
use Rattle.std.proofs.lemmas.List.{append-nil, get_or_append_left, take_all, take_at}
use Rattle.std.proofs.lemmas.List.Elements.{All-contains, Contains-append_left, Contains-append_right}
use Rattle.std.proofs.Math.Seq.{get_or-append_seam}
use Rattle.operations.specs.Operation.{Operation}
use Rattle.operations.specs.Spelling.{HasSpelling}
use Rattle.tree_order.specs.Good.{Good}
use Rattle.set_laws.specs.Sets.{KeepsCauses}
use Rattle.set_laws.specs.Verdict.{IsNew, ready}
use Rattle.set_laws.proofs.ByVerdict.{grows_by_verdict}
use Rattle.texts.specs.Taking.{HasTakenAll, IsJudged}
use Rattle.texts.specs.Text.{IsText}
use Rattle.texts.specs.TextState.{TextState, empty_text}

-- none was taken in yet
pub none_taken : (start : TextState) → IsText start → HasTakenAll start [] start
none_taken start is = record {
  is = is;
  grown = ap (λ (ops : List Operation). record start { operations = ops }) (sym (append-nil start.operations));
}

-- some were, and then others
pub all_taken : (start now new : TextState) (done ops : List Operation) → HasTakenAll start done now
    → HasTakenAll now ops new → HasTakenAll start (done ++ ops) new
all_taken start now new done ops first others = record {
  is = others.is;
  grown =
      others.grown
      ∙ ap (λ (t : TextState). record t { operations = t.operations ++ ops; order = new.order }) first.grown
      ∙ ap (λ (l : List Operation). record start { operations = l; order = new.order })
      (append_assoc start.operations done ops);
}

-- the one after those that are done is among all
pub is_among : (ops done : List Operation) (op : Operation) (todo : List Operation) → ops ≡ done ++ op ∷ todo
    → Contains ops op
is_among ops done op todo e =
    subst (λ (l : List Operation). Contains l op) (sym e)
    (Contains-append_right done (op ∷ todo) op (0, omega arith, refl))

module _ (start now : TextState) (ops done : List Operation) (taken : HasTakenAll start done now)
    (empty : start ≡ empty_text start.text start.site) (once : AllPairs (λ a b. a ≢ b) ops)
    (in_order : KeepsCauses ops) (of_text : All (λ op. op.text ≡ start.text) ops) (op : Operation)
    (todo : List Operation) (e : ops ≡ done ++ op ∷ todo) where
  ops_now : now.operations ≡ done
  ops_now =
      ap (λ (t : TextState). t.operations) taken.grown
      ∙ ap (λ (t : TextState). t.operations ++ done) empty

  whole_good : Good ops
  whole_good = subst Good (take_all (length ops) ops (omega arith)) (in_order (length ops))

  not_done : Contains done op → ⊥
  not_done (k, lt, is) =
      let len : length ops ≡ length done + length (op ∷ todo) = ap length e ∙ length-append done (op ∷ todo) in
      let first : get_or ops k op ≡ op =
      ap (λ (l : List Operation). get_or l k op) e ∙ get_or_append_left done (op ∷ todo) op k lt ∙ is in
      let second : get_or ops (length done) op ≡ op =
      ap (λ (l : List Operation). get_or l (length done) op) e ∙ get_or-append_seam done op todo op in
      once k (length done) op lt (omega arith) (first ∙ sym second)

  is_new : HasSpelling op → IsNew now.operations op
  is_new spelled = record {
    counted = spelled.seq.0;
    unheld = λ h. let (o, held, site, seq) = h in
        let before : Contains done o = subst (λ (l : List Operation). Contains l o) ops_now held in
        let there : Contains ops o =
        subst (λ (l : List Operation). Contains l o) (sym e) (Contains-append_left done (op ∷ todo) o before) in
        let same : o ≡ op = whole_good.identities o op there (is_among ops done op todo e) site seq in
        not_done (subst (Contains done) same before);
  }

  next_good : Good (now.operations ++ op ∷ [])
  next_good =
      let first : List Operation = done ++ op ∷ [] in
      let cut : take (length done + 1) ops ≡ first =
      ap (take (length done + 1)) (e ∙ sym (append_assoc done (op ∷ []) todo))
      ∙ take_at first todo (length done + 1) (length-append done (op ∷ [])) in
      subst Good (cut ∙ ap (λ (l : List Operation). l ++ op ∷ []) (sym ops_now)) (in_order (length done + 1))

  pub next_judged : HasSpelling op → IsJudged now op ready
  next_judged spelled =
      let new : IsNew now.operations op = is_new spelled in (
        All-contains (λ (o : Operation). o.text ≡ start.text) ops op of_text (is_among ops done op todo e)
            ∙ sym (ap (λ (t : TextState). t.text) taken.grown),
        new,
        (grows_by_verdict now.operations op taken.is.good taken.is.identified new).ready.1 next_good,
      )
