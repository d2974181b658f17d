-- What an event does to a text leaves it what its operations define, and so is each text of a new run.
use Rattle.std.proofs.Common.{◌≡◌, ℕ, zero, suc, ◌≤◌, ◌-◌, length, take, true, false, Bool, List, [], ◌∷◌, map, Option}
use Rattle.std.proofs.Common.{Some, None, Result, Ok, Err, refl, sym, ap, subst, ◌∙◌, inl, inr, arith}
use Rattle.std.specs.Prelude.{◌⊎◌, IsTrue, nat_lt, option_map, slice_get, slice_set}
use Rattle.std.specs.List.{range_with_len}
use Rattle.std.specs.Option.{option_map_or}
use Rattle.std.proofs.lemmas.List.Elements.{All-nil}
use Rattle.std.proofs.lemmas.Option.{none-some, same_Some, slice_get-map}
use Rattle.looks.specs.declared.refusal.Refusal.{Refusal}
use Rattle.looks.specs.declared.refusal.Refusal.TheVariants.{Conflict, WrongText}
use Rattle.char_files.specs.declared.TheConstants.{MAX_FILE}
use Rattle.char_files.specs.CharName.{CharName}
use Rattle.operations.specs.NameSet.{IsAmong}
use Rattle.operations.specs.Operation.{Operation}
use Rattle.shelf.specs.Files.{Files}
use Rattle.tree_order.specs.Good.{Good}
use Rattle.tree_order.specs.Sequential.{OneWriterGoesAfterCauses}
use Rattle.set_laws.specs.Sets.{AreIdentified}
use Rattle.texts.specs.Edit.{Edit, is_in_text, plan}
use Rattle.texts.specs.Laws.{OwnEditsArePlain}
use Rattle.texts.specs.Outcome.{Edits, EditsShort, Stand, count_standing}
use Rattle.texts.specs.Merge.{Merges, MergesShort}
use Rattle.texts.specs.Take.{Becomes, HasFate, Stays, TakesIn}
use Rattle.texts.specs.Text.{IsText}
use Rattle.texts.specs.TextState.{TextState, empty_text}
use Rattle.texts.specs.declared.edit_refusal.EditRefusal.{EditRefusal}
use Rattle.texts.specs.declared.edit_refusal.EditRefusal.TheVariants.{Whole, Partial}
use Rattle.texts.specs.declared.fate.Fate.{Fate}
use Rattle.texts.specs.declared.fate.Fate.TheVariants.{OtherText, Known, Conflicting, AlreadyWaits, Wait, Misfit}
use Rattle.texts.specs.declared.fate.Fate.TheVariants.{LowStamp, Ready}
use Rattle.texts.specs.declared.merge_refusal.MergeRefusal.{MergeRefusal}
use Rattle.texts.specs.declared.merge_refusal.MergeRefusal.TheVariants.{Whole as MergesNothing, Stopped}
use Rattle.texts.specs.declared.took.Took.{Took}
use Rattle.machine.specs.SiteTexts.{SiteTexts, fresh_texts}
use Rattle.machine.specs.Events.{Reply}
use Rattle.machine.specs.OnTexts.{CopiesText, CopiesTextShort, EditsText, EditsTextShort, SettlesText, TakesText}
use Rattle.machine.specs.OnTexts.{TakesTextShort, copied, is_copy_in}
use Rattle.machine.specs.State.{IsTextAt, new_state}
use Rattle.machine.specs.declared.TheConstants.{MAX_TEXT}
use Rattle.convergence.proofs.OwnOperations.{standing_within}
use Rattle.machine_laws.proofs.Rooms.{by_test, drained_is_text, entered}
use Rattle.machine_laws.specs.Laws.{AreTexts}

-- what stands in a list in which one was set stood there before, or was set there
pub set_old : {X : Type 0} (xs : List X) (i j : ℕ) (y z : X) → slice_get (slice_set xs i y) j ≡ Some z
    → (x : X) × (slice_get xs j ≡ Some x) × ((z ≡ x) ⊎ ((z ≡ y) × (j ≡ i)))
set_old [] i j y z at = absurd (none-some z at)
set_old (x ∷ xs) zero zero y z at = (x, refl, inr (sym (same_Some y z at), refl))
set_old (x ∷ xs) zero (suc j) y z at = (z, at, inl refl)
set_old (x ∷ xs) (suc i) zero y z at = (x, refl, inl (sym (same_Some x z at)))
set_old (x ∷ xs) (suc i) (suc j) y z at =
    let (v, there, is) = set_old xs i j y z at in (
      v,
      there,
      elim is [
        | inl same ↦ inl same
        | inr set ↦ inr (set.0, ap suc set.1)
      ],
    )

-- so it is that one, or was there before
pub set_cases : {A : Type 0} (xs : List A) (i j : ℕ) (y z : A) → slice_get (slice_set xs i y) j ≡ Some z
    → (z ≡ y) ⊎ (slice_get xs j ≡ Some z)
set_cases xs i j y z at =
    let (x, there, is) = set_old xs i j y z at in
    elim is [
      | inl same ↦ inr (there ∙ ap Some (sym same))
      | inr set ↦ inl set.0
    ]

pub no_name : (c : CharName) → IsAmong [] c → ⊥
no_name c (k, r, within, read, holds) = omega (arith, within)

-- the first of none are none
first_of_none : Good [] → (n : ℕ) → Good (take n [])
first_of_none good zero = good
first_of_none good (suc n) = good

-- a text where nothing was taken in
empty_is_text : (good : Good []) (identified : AreIdentified []) (order : OneWriterGoesAfterCauses) (text site : ℕ)
    → IsText (empty_text text site)
empty_is_text good identified order text site = record {
  good = good;
  identified = identified;
  of_text = All-nil _;
  chars = record {
    order = order [] site 0 good (λ k op e. absurd cc) (omega arith);
    bytes = All-nil _;
    looks = All-nil _;
  };
  deleted = λ c named. absurd (no_name c named);
  in_order = λ n. first_of_none good n;
  waiting = record { of_text = All-nil _; identified = identified; few = omega arith };
}

of_option : {A B : Type 0} (f : A → B) (o : Option A) (b : B) → option_map f o ≡ Some b → (a : A) × (f a ≡ b)
of_option f None b e = absurd cc
of_option f (Some a) b e = (a, same_Some (f a) b e)

-- an element of a mapped list is made of one
mapped : {A B : Type 0} (f : A → B) (xs : List A) (i : ℕ) (b : B) → slice_get (map f xs) i ≡ Some b
    → (a : A) × (f a ≡ b)
mapped f xs i b at = of_option f (slice_get xs i) b (sym (slice_get-map f xs i) ∙ at)

-- the texts of a new run are empty
pub new_texts : (first count width height : ℕ) (files : Files) (i text : ℕ) (t : TextState) → IsTextAt (new_state first count width height files) i text t
    → (number site : ℕ) × (empty_text number site ≡ t)
new_texts first count width height files i text t (d, at, there) =
    let (site, is) = mapped fresh_texts (range_with_len first count) i d at in
    let here : slice_get (fresh_texts site).texts (text - 1) ≡ Some t =
    ap (λ (x : SiteTexts). slice_get x.texts (text - 1)) is ∙ there in
    let (number, same) = mapped (λ (n : ℕ). empty_text n site) (range_with_len 1 16) (text - 1) t here in
    (number, site, same)

-- so each is what its operations define
pub new_are_texts : Good [] → AreIdentified [] → OneWriterGoesAfterCauses → (first count width height : ℕ) (files : Files)
    → AreTexts (new_state first count width height files)
new_are_texts good identified order first count width height files i text t there =
    let (number, site, is) = new_texts first count width height files i text t there in
    subst IsText is (empty_is_text good identified order number site)

-- and each desk has a text of each number
pub new_desks : (first count width height : ℕ) (files : Files) (i : ℕ) (d : SiteTexts)
    → slice_get (new_state first count width height files).desks i ≡ Some d
    → length d.texts ≡ MAX_TEXT
new_desks first count width height files i d at =
    let (site, is) = mapped fresh_texts (range_with_len first count) i d at in
    subst (λ (x : SiteTexts). length x.texts ≡ MAX_TEXT) is refl

stayed : (t new : TextState) (answer result : Result Took Refusal) → Stays t answer result new → IsText t
    → IsText new
stayed t new answer result (answered, same) is = subst IsText (sym same) is

-- what is taken in, and the draining after it, leave the text defined
taken_in_text : (t : TextState) (op : Operation) (stopped : Bool) (result : Result Took Refusal) (new : TextState)
    → TakesIn t op stopped result new → IsText new
taken_in_text t op stopped result new (with_op, drained, dropped, taken, drains, answered) =
    drained_is_text drains taken.is

-- what becomes of an operation leaves the text defined
after_fate : (t : TextState) (op : Operation) (fate : Fate) (result : Result Took Refusal) (new : TextState)
    → Becomes t op fate result new → HasFate t op fate → IsText t → IsText new
after_fate t op OtherText result new does fate is = stayed t new _ result does is
after_fate t op Known result new does fate is = stayed t new _ result does is
after_fate t op Conflicting result new does fate is = stayed t new _ result does is
after_fate t op AlreadyWaits result new does fate is = stayed t new _ result does is
after_fate t op Wait result new does fate is = entered t op result new does fate is
after_fate t op Misfit result new does fate is = stayed t new _ result does is
after_fate t op LowStamp result new does fate is = stayed t new _ result does is
after_fate t op Ready result new does fate is = taken_in_text t op false result new does

-- a message leaves the text defined
pub takes_text : (message : List ℕ) (r : Reply) (t new : TextState) → TakesText message r t new → IsText t → IsText new
takes_text message r t new (result, inl (spells_none, stays), replied) is = stayed t new _ result stays is
takes_text message r t new (result, inr (op, fate, tells, has, becomes), replied) is =
    after_fate t op fate result new becomes has is

pub takes_text_short : (message : List ℕ) (r : Reply) (t new : TextState) → TakesTextShort message r t new → IsText t
    → IsText new
takes_text_short message r t new (result, inl (spells, stays), replied) is = stayed t new _ result stays is
takes_text_short message r t new (result, inr (op, tells, has, takes_in), replied) is =
    taken_in_text t op true result new takes_in

-- so does a settling
pub settles_text : (stopped : Bool) (r : Reply) (t new : TextState) → SettlesText stopped r t new → IsText t → IsText new
settles_text stopped r t new (drained, dropped, drains, replied) is = drained_is_text drains is

-- a merge that changes nothing
pub left_by_merge : (t u : TextState) (why : Refusal) (new : TextState) → Merges t u (Err (MergesNothing why)) new
    → new ≡ t
left_by_merge t u WrongText new merges = merges.1
left_by_merge t u Conflict new merges = merges.2
left_by_merge t u why new merges = absurd merges

-- and so does a merge
pub merged : (t u : TextState) (result : Result ℕ MergeRefusal) (new : TextState) → Merges t u result new → IsText t
    → IsText new
merged t u (Ok count) new merges is = merges.2.is
merged t u (Err (MergesNothing why)) new merges is = subst IsText (sym (left_by_merge t u why new merges)) is
merged t u (Err (Stopped done)) new merges is = absurd merges

pub merged_short : (t u : TextState) (result : Result ℕ MergeRefusal) (new : TextState) → MergesShort t u result new
    → IsText new
merged_short t u (Ok count) new merges = absurd merges
merged_short t u (Err (MergesNothing why)) new merges = absurd merges
merged_short t u (Err (Stopped done)) new merges = merges.2.is

module _ (plain : OwnEditsArePlain) where
  -- the first of an edit's operations leave the text defined
  standing : (t : TextState) (e : Edit) (n : ℕ) (new : TextState) (messages : List (List ℕ)) → IsTrue (is_in_text t e)
      → n ≤ length (plan t e) → Stand t (plan t e) n new messages → IsText t → IsText new
  standing t e n new messages within few stand is = subst IsText (sym stand.text) (plain t e n is within few).text

  edited : (t : TextState) (e : Edit) (result : Result ℕ EditRefusal) (new : TextState) (messages : List (List ℕ))
      → IsTrue (is_in_text t e) → Edits t (plan t e) result new messages → IsText t → IsText new
  edited t e (Ok n) new messages within (none, all, stand) is =
      standing t e n new messages within (omega arith) stand is
  edited t e (Err (Whole why)) new messages within (refused, stand) is =
      standing t e 0 new messages within (omega arith) stand is
  edited t e (Err (Partial n why)) new messages within (some, refused, stand) is =
      let count : count_standing t (plan t e) ≡ n =
      ap (λ (stop : Option (ℕ × Refusal)). option_map_or (λ stop. stop.0) stop (length (plan t e))) refused in
      let few : n ≤ length (plan t e) = omega (arith, standing_within t (plan t e)) in
      standing t e n new messages within few stand is

  edited_short : (t : TextState) (e : Edit) (result : Result ℕ EditRefusal) (new : TextState)
      (messages : List (List ℕ)) → IsTrue (is_in_text t e) → EditsShort t (plan t e) result new messages → IsText t
      → IsText new
  edited_short t e (Ok n) new messages within short is = absurd short
  edited_short t e (Err (Whole why)) new messages within (memory, takes_it, stand) is =
      standing t e 0 new messages within (omega arith) stand is
  edited_short t e (Err (Partial n why)) new messages within (memory, some, more, stand) is =
      let few : n ≤ length (plan t e) = omega (arith, standing_within t (plan t e)) in
      standing t e n new messages within few stand is

  pub edits_text : (e : Edit) (r : Reply) (t new : TextState) → EditsText e r t new → IsText t → IsText new
  edits_text e r t new does is =
      elim (by_test (is_in_text t e) _ _ does) [
        | inl done ↦ let (result, messages, edits, shows, replied) = done.1 in
            edited t e result new messages done.0 edits is
        | inr left ↦ subst IsText (sym left.1.1) is
      ]

  pub edits_text_short : (e : Edit) (r : Reply) (t new : TextState) → EditsTextShort e r t new → IsText t → IsText new
  edits_text_short e r t new (within, (result, messages, edits, shows, replied)) is =
      edited_short t e result new messages within edits is

  pub copies_text : (t : TextState) (beg end pos : ℕ) (r : Reply) (u new : TextState) → CopiesText t beg end pos r u new
      → IsText u → IsText new
  copies_text t beg end pos r u new does is =
      elim (by_test (is_copy_in t u beg end pos) _ _ does) [
        | inl positions ↦ elim (by_test (nat_lt MAX_FILE (end - beg)) _ _ positions.1) [
          | inl long ↦ subst IsText (sym long.1.1) is
          | inr short ↦ edits_text (copied t beg end pos) r u new short.1 is
        ]
        | inr left ↦ subst IsText (sym left.1.1) is
      ]

  pub copies_text_short : (t : TextState) (beg end pos : ℕ) (r : Reply) (u new : TextState)
      → CopiesTextShort t beg end pos r u new → IsText u → IsText new
  copies_text_short t beg end pos r u new (positions, few, inl short) is =
      edits_text_short (copied t beg end pos) r u new short is
  copies_text_short t beg end pos r u new (positions, few, inr (some, replied, same)) is = subst IsText (sym same) is
