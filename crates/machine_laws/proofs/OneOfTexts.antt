-- An event of texts has one reply: each part of a step is one thing, from the text up to the run.
use Rattle.std.proofs.Common.{◌≡◌, ℕ, ◌-◌, true, false, Bool, List, [], ◌++◌, map, Option, Some, None, Result, Ok, Err}
use Rattle.std.proofs.Common.{refl, sym, ap, subst, ◌∙◌, inl, inr}
use Rattle.std.specs.Prelude.{◌⊎◌, MatchBool, MatchOption, nat_lt, slice_get, slice_set, take}
use Rattle.std.proofs.lemmas.Option.{same_Some}
use Rattle.looks.specs.declared.refusal.Refusal.{Refusal}
use Rattle.looks.specs.declared.refusal.Refusal.TheVariants.{BadEvent, FileSpent, OutOfMemory, OutOfRange}
use Rattle.char_files.specs.Runs.{NoOtherRuns}
use Rattle.char_files.specs.declared.TheConstants.{MAX_FILE}
use Rattle.chunks.specs.Laws.{OneChunk}
use Rattle.convergence.specs.Outcomes.{DrainsOneWay, EditsOneWay, MergesOneWay, TakesOneWay}
use Rattle.operations.specs.NameSet.{Range}
use Rattle.operations.specs.Operation.{Operation}
use Rattle.operations.specs.Spelling.{spelling}
use Rattle.texts.specs.Edit.{Edit, after, is_in_text, plan}
use Rattle.texts.specs.Draining.{Drains}
use Rattle.texts.specs.Merge.{MergesShort}
use Rattle.texts.specs.Outcome.{EditsShort}
use Rattle.texts.specs.Take.{TakesShort}
use Rattle.texts.specs.Text.{IsText}
use Rattle.texts.specs.TextState.{TextState, all_told}
use Rattle.texts.specs.declared.by_names.ByNames.{ByNames}
use Rattle.texts.specs.declared.edit_refusal.EditRefusal.{EditRefusal}
use Rattle.texts.specs.declared.edit_refusal.EditRefusal.TheVariants.{Whole, Partial}
use Rattle.texts.specs.declared.merge_refusal.MergeRefusal.{MergeRefusal}
use Rattle.texts.specs.declared.merge_refusal.MergeRefusal.TheVariants.{Whole as MergesNothing, Stopped}
use Rattle.texts.specs.declared.took.Took.{Took}
use Rattle.texts.specs.declared.took.Took.TheVariants.{Taken}
use Rattle.machine.specs.SiteTexts.{SiteTexts, InText, IsTextOf}
use Rattle.machine.specs.Events.{Delivery, Part, Reply, copy, edit_reply, merge, merge_reply, messages_of}
use Rattle.machine.specs.Events.{query, refuses, settle, settles, stops, take as taking, take_reply, takes, unpack}
use Rattle.machine.specs.Machine.{Does, Short, message_in}
use Rattle.machine.specs.OnTexts.{CopiesText, CopiesTextShort, EditsNames, EditsNamesShort, EditsText, EditsTextShort, MergesText, MergesTextShort}
use Rattle.machine.specs.OnTexts.{QueriesText, SettlesText, TakesText, TakesTextShort, UnpacksText, UnpacksTextShort, copied, is_copy_in}
use Rattle.machine.specs.State.{AtText, IsTextAt, Refuses, State, Tells}
use Rattle.machine.specs.Tasks.{EditsAt, EditsShortAt}
use Rattle.machine.specs.declared.asked.Query.{Query}
use Rattle.machine_laws.specs.Laws.{AreTexts, HaveOneShape}
use Rattle.machine_laws.proofs.NamedEdits.{one_named, one_named_short}
use Rattle.machine_laws.proofs.ShownLines.{one_answer}
use Rattle.machine_laws.proofs.Unpacking.{unpacks_text, unpacks_text_short}

-- an index has one element
pub one_element : {A : Type 0} (o : Option A) (x y : A) → o ≡ Some x → o ≡ Some y → x ≡ y
one_element o x y at_x at_y = same_Some x y (sym at_x ∙ at_y)

-- a place has one text
pub lemma_one_text : (s : State) (i text : ℕ) (t u : TextState) → IsTextAt s i text t → IsTextAt s i text u → t ≡ u
lemma_one_text s i text t u (d, at, there) (d', at', there') =
    let same : d ≡ d' = one_element (slice_get s.desks i) d d' at at' in
    one_element (slice_get d'.texts (text - 1)) t u (subst (λ (x : SiteTexts). IsTextOf x text t) same there) there'

-- where a text does one thing, so does its desk
pub in_text : (F G : TextState → TextState → Type 0) (P : Type 0) (d d' d'' : SiteTexts) (text : ℕ)
    → ((t u v : TextState) → IsTextOf d text t → F t u → G t v → P × (u ≡ v))
    → InText F d text d' → InText G d text d'' → P × (d' ≡ d'')
in_text F G P d d' d'' text one (t, u, at, does, is) (t', v, at', does', is') =
    let same : t' ≡ t = one_element (slice_get d.texts (text - 1)) t' t at' at in
    let both = one t u v at does (subst (λ (x : TextState). G x v) same does') in
    (both.0, is ∙ ap (λ (x : TextState). record d { texts = slice_set d.texts (text - 1) x }) both.1 ∙ sym is')

-- a text that does one thing tells its changes in one way
tells_one : (F G : TextState → TextState → Type 0) (P : Type 0) (t u v : TextState)
    → ((t' t'' : TextState) → IsText t → F t t' → G t t'' → P × (t' ≡ t'')) → IsText t → Tells F t u → Tells G t v → P × (u ≡ v)
tells_one F G P t u v one is (t', does, is_u) (t'', does', is_v) =
    let both = one t' t'' is does does' in
    (both.0, is_u ∙ ap all_told both.1 ∙ sym is_v)

-- and so does the run, with the messages that its reply tells
at_text : (F G : TextState → TextState → Type 0) (P : Type 0) (s new new' : State) (i text : ℕ) (m m' : List (List ℕ))
    → AreTexts s → (P → m ≡ m')
    → ((t u v : TextState) → IsText t → F t u → G t v → P × (u ≡ v))
    → AtText F s i text m new → AtText G s i text m' new' → P × (new ≡ new')
at_text F G P s new new' i text m m' are told one (d, x, at, does, is) (d', y, at', does', is') =
    let same : d' ≡ d = one_element (slice_get s.desks i) d' d at' at in
    let both = in_text (Tells F) (Tells G) P d x y text
    (λ t u v there. tells_one F G P t u v (one t) (are i text t (d, at, there))) does
    (subst (λ (k : SiteTexts). InText (Tells G) k text y) same does') in
    (both.0, is ∙ (λ k. record s { desks = slice_set s.desks i (both.1 k); sent = s.sent ++ told both.0 k }) ∙ sym is')

pub by_case : (b : Bool) (P P' Q Q' R : Type 0) → (P → P' → R) → (Q → Q' → R) → MatchBool b P Q → MatchBool b P' Q' → R
by_case true P P' Q Q' R one other h h' = one h h'
by_case false P P' Q Q' R one other h h' = other h h'

-- both are this reply, and nothing changed
stays : (t u v : TextState) (q r r' : Reply) → (r ≡ q) × (u ≡ t) → (r' ≡ q) × (v ≡ t) → (r ≡ r') × (u ≡ v)
stays t u v q r r' left left' = (left.0 ∙ sym left'.0, left.1 ∙ sym left'.1)

-- where memory is there

edits_text : EditsOneWay → (e : Edit) (r r' : Reply) (t u v : TextState) → EditsText e r t u → EditsText e r' t v
    → (r ≡ r') × (u ≡ v)
edits_text one e r r' t u v = by_case (is_in_text t e) _ _ _ _ _
    (λ (result, messages, edits, shows, replied) (result', messages', edits', shows', replied').
    let same = one t u v (plan t e) result result' messages messages' edits edits' in
    (replied ∙ (λ i. edit_reply (same.0 i) (same.2 i)) ∙ sym replied', same.1))
    (stays t u v (refuses OutOfRange) r r')

copies_text : EditsOneWay → (t : TextState) (beg end pos : ℕ) (r r' : Reply) (u v w : TextState)
    → CopiesText t beg end pos r u v → CopiesText t beg end pos r' u w → (r ≡ r') × (v ≡ w)
copies_text one t beg end pos r r' u v w = by_case (is_copy_in t u beg end pos) _ _ _ _ _
    (by_case (nat_lt MAX_FILE (end - beg)) _ _ _ _ _ (stays u v w (refuses FileSpent) r r')
    (edits_text one (copied t beg end pos) r r' u v w))
    (stays u v w (refuses OutOfRange) r r')

takes_text : TakesOneWay → (message : List ℕ) (r r' : Reply) (t u v : TextState) → IsText t → TakesText message r t u
    → TakesText message r' t v → (r ≡ r') × (u ≡ v)
takes_text one message r r' t u v is (result, does, replied) (result', does', replied') =
    let same = one.whole t u v message result result' is does does' in
    (replied ∙ ap take_reply same.0 ∙ sym replied', same.1)

settles_text : DrainsOneWay → (r r' : Reply) (t u v : TextState) → IsText t → SettlesText false r t u
    → SettlesText false r' t v → (r ≡ r') × (u ≡ v)
settles_text one r r' t u v is (n, m, does, replied) (n', m', does', replied') =
    let same = one.whole t u v n n' m m' is does does' in
    (replied ∙ (λ i. settles (same.0 i) (same.1 i) false) ∙ sym replied', same.2)

merges_text : MergesOneWay → (other : TextState) (r r' : Reply) (t u v : TextState) → IsText t
    → MergesText other r t u → MergesText other r' t v → (r ≡ r') × (u ≡ v)
merges_text one other r r' t u v is (result, does, replied) (result', does', replied') =
    let same = one.whole t other u v result result' is does does' in
    (replied ∙ ap merge_reply same.0 ∙ sym replied', same.1)

taken : TakesOneWay → (s : State) (i text : ℕ) (told : Option (List ℕ)) (r r' : Reply) (new new' : State) → AreTexts s
    → MatchOption told (Refuses s BadEvent r new) (λ message. AtText (TakesText message r) s i text [] new)
    → MatchOption told (Refuses s BadEvent r' new') (λ message. AtText (TakesText message r') s i text [] new')
    → (r ≡ r') × (new ≡ new')
taken one s i text None r r' new new' are left left' = (left.0 ∙ sym left'.0, left.1 ∙ sym left'.1)
taken one s i text (Some message) r r' new new' are does does' =
    at_text (TakesText message r) (TakesText message r') (r ≡ r') s new new' i text [] [] are (λ same. refl)
    (takes_text one message r r') does does'

-- an edit of a text
pub one_edit : EditsOneWay → (s : State) (i text : ℕ) (e : Edit) → AreTexts s → (r r' : Reply) (new new' : State)
    → EditsAt s i text e r new → EditsAt s i text e r' new' → (r ≡ r') × (new ≡ new')
one_edit edits_so s i text e are r r' new new' does does' =
    at_text (EditsText e r) (EditsText e r') (r ≡ r') s new new' i text (messages_of r) (messages_of r') are
    (ap messages_of)
    (λ t u v is. edits_text edits_so e r r' t u v) does does'

-- an edit by names
pub one_edit_by_names : (s : State) (i text : ℕ) (what : ByNames) (names : List Range) → AreTexts s → (r r' : Reply) (new new' : State)
    → AtText (EditsNames what names r) s i text (messages_of r) new → AtText (EditsNames what names r') s i text (messages_of r') new'
    → (r ≡ r') × (new ≡ new')
one_edit_by_names s i text what names are r r' new new' does does' =
    at_text (EditsNames what names r) (EditsNames what names r') (r ≡ r') s new new' i text (messages_of r) (messages_of r') are
    (ap messages_of) (one_named what names r r') does does'

pub one_edit_by_names_short : (s : State) (i text : ℕ) (what : ByNames) (names : List Range) → AreTexts s → (r r' : Reply)
    (new new' : State) → AtText (EditsNamesShort what names r) s i text (messages_of r) new
    → AtText (EditsNamesShort what names r') s i text (messages_of r') new' → (r ≡ r') × (new ≡ new')
one_edit_by_names_short s i text what names are r r' new new' short short' =
    at_text (EditsNamesShort what names r) (EditsNamesShort what names r') (r ≡ r') s new new' i text (messages_of r) (messages_of r')
    are (ap messages_of) (λ t u v is. one_named_short what names r r' t u v) short short'

-- what is neither a task nor a click
module _ (edits_so : EditsOneWay) (takes_so : TakesOneWay) (drains_so : DrainsOneWay) (merges_so : MergesOneWay)
    (only : NoOtherRuns) (s : State) (are : AreTexts s) (part : Part) (r r' : Reply) (new new' : State) where
  pub one_copy : (i text beg end other pos : ℕ) → Does s (copy i text beg end other pos) part r new
      → Does s (copy i text beg end other pos) part r' new' → (r ≡ r') × (new ≡ new')
  one_copy i text beg end other pos (free, (t, there, does)) (free', (t', there', does')) =
      let same : t' ≡ t = lemma_one_text s i text t' t there' there in
      at_text (CopiesText t beg end pos r) (CopiesText t' beg end pos r') (r ≡ r') s new new' i other (messages_of r)
      (messages_of r') are (ap messages_of)
      (λ u v w is does does'. copies_text edits_so t beg end pos r r' u v w does
      (subst (λ (x : TextState). CopiesText x beg end pos r' u w) same does')) does does'

  pub one_take : (i text : ℕ) (d : Delivery) → Does s (taking i text d) part r new → Does s (taking i text d) part r' new'
      → (r ≡ r') × (new ≡ new')
  one_take i text d does does' = taken takes_so s i text (message_in s d) r r' new new' are does.1 does'.1

  pub one_unpack : OneChunk → (i text : ℕ) (chunk : List ℕ) → Does s (unpack i text chunk) part r new
      → Does s (unpack i text chunk) part r' new' → (r ≡ r') × (new ≡ new')
  one_unpack one i text chunk does does' =
      at_text (UnpacksText chunk r) (UnpacksText chunk r') (r ≡ r') s new new' i text [] [] are (λ same. refl)
      (unpacks_text takes_so one chunk r r') does.1 does'.1

  pub one_settling : (i text : ℕ) → Does s (settle i text) part r new → Does s (settle i text) part r' new'
      → (r ≡ r') × (new ≡ new')
  one_settling i text does does' =
      at_text (SettlesText false r) (SettlesText false r') (r ≡ r') s new new' i text [] [] are (λ same. refl)
      (settles_text drains_so r r') does.1 does'.1

  pub one_merge : (i text j : ℕ) → Does s (merge i text j) part r new → Does s (merge i text j) part r' new'
      → (r ≡ r') × (new ≡ new')
  one_merge i text j (free, (t, there, does)) (free', (t', there', does')) =
      let same : t' ≡ t = lemma_one_text s j text t' t there' there in
      at_text (MergesText t r) (MergesText t' r') (r ≡ r') s new new' i text [] [] are (λ same. refl)
      (λ u v w is does does'. merges_text merges_so t r r' u v w is does
      (subst (λ (x : TextState). MergesText x r' u w) same does')) does does'

  pub one_query : (i text : ℕ) (q : Query) → Does s (query i text q) part r new → Does s (query i text q) part r' new'
      → (r ≡ r') × (new ≡ new')
  one_query i text q (free, stay, (t, there, asks)) (free', stay', (t', there', asks')) =
      let same : t' ≡ t = lemma_one_text s i text t' t there' there in
      (one_answer only q t r r' asks (subst (λ (x : TextState). QueriesText q r' x) same asks'), stay ∙ sym stay')

-- where memory was refused

-- what becomes of an edit then: nothing was done, or its first n operations stand
abbrev pub IsPartOfEdit : TextState → List Operation → Reply → TextState → Type 0
IsPartOfEdit t ops r new =
    ((r ≡ refuses OutOfMemory) × (new ≡ t))
    ⊎ ((n : ℕ) × (r ≡ stops (map spelling (take n ops)) n OutOfMemory) × (new ≡ after t (take n ops)))

of_part : (t : TextState) (ops : List Operation) (result : Result ℕ EditRefusal) (new : TextState)
    (messages : List (List ℕ)) (r : Reply) → EditsShort t ops result new messages
    → r ≡ edit_reply result messages → IsPartOfEdit t ops r new
of_part t ops (Ok n) new messages r short replied = absurd short
of_part t ops (Err (Whole why)) new messages r (is, some, stand) replied = inl (replied ∙ ap refuses is, stand.text)
of_part t ops (Err (Partial n why)) new messages r (is, some, more, stand) replied =
    inr (n, replied ∙ (λ i. stops (stand.told i) n (is i)), stand.text)

pub part_of_edit : (e : Edit) (r : Reply) (t new : TextState) → EditsTextShort e r t new → IsPartOfEdit t (plan t e) r new
part_of_edit e r t new (within, (result, messages, short, shows, replied)) =
    of_part t (plan t e) result new messages r short replied

part_of_copy : (t : TextState) (beg end pos : ℕ) (r : Reply) (u new : TextState) → CopiesTextShort t beg end pos r u new
    → IsPartOfEdit u (plan u (copied t beg end pos)) r new
part_of_copy t beg end pos r u new (positions, few, inl short) = part_of_edit (copied t beg end pos) r u new short
part_of_copy t beg end pos r u new (positions, few, inr (some, replied, stayed)) = inl (replied, stayed)

shape_of : (q q' r r' : Reply) → r ≡ q → r' ≡ q' → HaveOneShape r r' → HaveOneShape q q'
shape_of q q' r r' is is' shape =
    subst (λ (x : Reply). HaveOneShape x q') is (subst (λ (x : Reply). HaveOneShape r x) is' shape)

one_part : (t : TextState) (ops : List Operation) (r r' : Reply) (u v : TextState) → HaveOneShape r r'
    → IsPartOfEdit t ops r u → IsPartOfEdit t ops r' v → (r ≡ r') × (u ≡ v)
one_part t ops r r' u v shape (inl left) (inl left') = stays t u v (refuses OutOfMemory) r r' left left'
one_part t ops r r' u v shape (inl left) (inr (n, replied, is)) =
    absurd (shape_of (refuses OutOfMemory) (stops (map spelling (take n ops)) n OutOfMemory) r r' left.0 replied shape)
one_part t ops r r' u v shape (inr (n, replied, is)) (inl left) =
    absurd (shape_of (stops (map spelling (take n ops)) n OutOfMemory) (refuses OutOfMemory) r r' replied left.0 shape)
one_part t ops r r' u v shape (inr (n, replied, is)) (inr (n', replied', is')) =
    let same : n ≡ n' = shape_of (stops (map spelling (take n ops)) n OutOfMemory)
    (stops (map spelling (take n' ops)) n' OutOfMemory) r r' replied replied' shape in (
      replied ∙ ap (λ (k : ℕ). stops (map spelling (take k ops)) k OutOfMemory) same ∙ sym replied',
      is ∙ ap
          (λ (k : ℕ). after t (take k ops)) same ∙ sym is',
    )

edits_short : (e : Edit) (r r' : Reply) (t u v : TextState) → HaveOneShape r r' → EditsTextShort e r t u
    → EditsTextShort e r' t v → (r ≡ r') × (u ≡ v)
edits_short e r r' t u v shape short short' =
    one_part t (plan t e) r r' u v shape (part_of_edit e r t u short) (part_of_edit e r' t v short')

-- a message was refused for memory, or its draining was stopped
abbrev IsPartOfTaking : Result Took Refusal → Type 0
IsPartOfTaking result = (result ≡ Err OutOfMemory) ⊎ ((n m : ℕ) × (result ≡ Ok (Taken n m true)))

part_of_taking : (t : TextState) (message : List ℕ) (result : Result Took Refusal) (new : TextState)
    → TakesShort t message result new → IsPartOfTaking result
part_of_taking t message result new (inl (tells, is)) = inl is.0
part_of_taking t message result new (inr (op, tells, fate, (with_op, n, m, has, drains, is))) = inr (n, m, is)

one_taking : (result result' : Result Took Refusal) → HaveOneShape (take_reply result) (take_reply result')
    → IsPartOfTaking result → IsPartOfTaking result' → result ≡ result'
one_taking result result' shape (inl is) (inl is') = is ∙ sym is'
one_taking result result' shape (inl is) (inr (n, m, is')) =
    absurd (shape_of (refuses OutOfMemory) (takes (Taken n m true)) _ _ (ap take_reply is) (ap take_reply is') shape)
one_taking result result' shape (inr (n, m, is)) (inl is') =
    absurd (shape_of (takes (Taken n m true)) (refuses OutOfMemory) _ _ (ap take_reply is) (ap take_reply is') shape)
one_taking result result' shape (inr (n, m, is)) (inr (n', m', is')) =
    let same = shape_of (takes (Taken n m true)) (takes (Taken n' m' true)) (take_reply result) (take_reply result')
    (ap take_reply is) (ap take_reply is') shape in
    is ∙ (λ i. Ok (Taken (same.0 i) (same.1 i) true)) ∙ sym is'

takes_short : TakesOneWay → (message : List ℕ) (r r' : Reply) (t u v : TextState) → HaveOneShape r r' → IsText t
    → TakesTextShort message r t u → TakesTextShort message r' t v → (r ≡ r') × (u ≡ v)
takes_short one message r r' t u v shape is (result, short, replied) (result', short', replied') =
    let same : result ≡ result' = one_taking result result'
    (shape_of (take_reply result) (take_reply result') r r' replied replied' shape)
    (part_of_taking t message result u short) (part_of_taking t message result' v short') in (
      replied ∙ ap take_reply same ∙ sym replied',
      one.short t u v message result' is
          (subst (λ (x : Result Took Refusal). TakesShort t message x u) same short) short',
    )

settles_short : DrainsOneWay → (r r' : Reply) (t u v : TextState) → HaveOneShape r r' → IsText t
    → SettlesText true r t u → SettlesText true r' t v → (r ≡ r') × (u ≡ v)
settles_short one r r' t u v shape is (n, m, drains, replied) (n', m', drains', replied') =
    let same = shape_of (settles n m true) (settles n' m' true) r r' replied replied' shape in (
      replied ∙ (λ i. settles (same.0 i) (same.1 i) true) ∙ sym replied',
      one.stopped t u v n' m' is
          (with_counts n n' m m' same.0 same.1 drains) drains',
    )
  where
    with_counts : (n n' m m' : ℕ) → n ≡ n' → m ≡ m' → Drains t n m true u → Drains t n' m' true u
    with_counts n n' m m' same same' h =
        subst (λ (k : ℕ). Drains t k m' true u) same (subst (λ (k : ℕ). Drains t n k true u) same' h)

-- a merge was stopped after so many operations
part_of_merge : (t other : TextState) (result : Result ℕ MergeRefusal) (new : TextState)
    → MergesShort t other result new → (n : ℕ) × (result ≡ Err (Stopped n))
part_of_merge t other (Ok n) new short = absurd short
part_of_merge t other (Err (MergesNothing why)) new short = absurd short
part_of_merge t other (Err (Stopped n)) new short = (n, refl)

merges_short : MergesOneWay → (other : TextState) (r r' : Reply) (t u v : TextState) → HaveOneShape r r' → IsText t
    → MergesTextShort other r t u → MergesTextShort other r' t v → (r ≡ r') × (u ≡ v)
merges_short one other r r' t u v shape is (result, short, replied) (result', short', replied') =
    let (n, of_n) = part_of_merge t other result u short in
    let (n', of_n') = part_of_merge t other result' v short' in
    let counts : n ≡ n' = shape_of (stops [] n OutOfMemory) (stops [] n' OutOfMemory) r r'
    (replied ∙ ap merge_reply of_n) (replied' ∙ ap merge_reply of_n') shape in
    let same : result ≡ result' = of_n ∙ ap (λ (k : ℕ). Err (Stopped k)) counts ∙ sym of_n' in (
      replied ∙ ap merge_reply same ∙ sym replied',
      one.short t other u v result' is
          (subst (λ (x : Result ℕ MergeRefusal). MergesShort t other x u) same short) short',
    )

-- an edit of a text
pub one_edit_short : (s : State) (i text : ℕ) (e : Edit) → AreTexts s → (r r' : Reply) (new new' : State)
    → HaveOneShape r r' → EditsShortAt s i text e r new → EditsShortAt s i text e r' new' → (r ≡ r') × (new ≡ new')
one_edit_short s i text e are r r' new new' shape short short' =
    at_text (EditsTextShort e r) (EditsTextShort e r') (r ≡ r') s new new' i text (messages_of r) (messages_of r')
    are (ap messages_of)
    (λ t u v is. edits_short e r r' t u v shape) short short'

module _ (takes_so : TakesOneWay) (drains_so : DrainsOneWay) (merges_so : MergesOneWay) (s : State) (are : AreTexts s)
    (part : Part) (r r' : Reply) (new new' : State) (shape : HaveOneShape r r') where
  pub one_copy_short : (i text beg end other pos : ℕ) → Short s (copy i text beg end other pos) part r new
      → Short s (copy i text beg end other pos) part r' new' → (r ≡ r') × (new ≡ new')
  one_copy_short i text beg end other pos (free, (t, there, short)) (free', (t', there', short')) =
      let same : t' ≡ t = lemma_one_text s i text t' t there' there in
      at_text (CopiesTextShort t beg end pos r) (CopiesTextShort t' beg end pos r') (r ≡ r') s new new' i other
      (messages_of r) (messages_of r') are (ap messages_of)
      (λ u v w is short short'. one_part u (plan u (copied t beg end pos)) r r' v w shape (part_of_copy t beg end pos r u v short)
      (part_of_copy t beg end pos r' u w (subst (λ (x : TextState). CopiesTextShort x beg end pos r' u w) same short'))) short short'

  pub one_take_short : (i text : ℕ) (d : Delivery) → Short s (taking i text d) part r new
      → Short s (taking i text d) part r' new' → (r ≡ r') × (new ≡ new')
  one_take_short i text d (free, (message, told, short)) (free', (message', told', short')) =
      let same : message' ≡ message = one_element (message_in s d) message' message told' told in
      at_text (TakesTextShort message r) (TakesTextShort message' r') (r ≡ r') s new new' i text [] [] are (λ p. refl)
      (λ t u v is short short'. takes_short takes_so message r r' t u v shape is short
      (subst (λ (x : List ℕ). TakesTextShort x r' t v) same short')) short short'

  pub one_unpack_short : (i text : ℕ) (chunk : List ℕ) → Short s (unpack i text chunk) part r new
      → Short s (unpack i text chunk) part r' new' → (r ≡ r') × (new ≡ new')
  one_unpack_short i text chunk short short' =
      at_text (UnpacksTextShort chunk r) (UnpacksTextShort chunk r') (r ≡ r') s new new' i text [] [] are (λ p. refl)
      (λ t u v is. unpacks_text_short chunk r r' t u v shape) short.1 short'.1

  pub one_settling_short : (i text : ℕ) → Short s (settle i text) part r new → Short s (settle i text) part r' new'
      → (r ≡ r') × (new ≡ new')
  one_settling_short i text short short' =
      at_text (SettlesText true r) (SettlesText true r') (r ≡ r') s new new' i text [] [] are (λ p. refl)
      (λ t u v. settles_short drains_so r r' t u v shape) short.1 short'.1

  pub one_merge_short : (i text j : ℕ) → Short s (merge i text j) part r new → Short s (merge i text j) part r' new'
      → (r ≡ r') × (new ≡ new')
  one_merge_short i text j (free, (t, there, short)) (free', (t', there', short')) =
      let same : t' ≡ t = lemma_one_text s j text t' t there' there in
      at_text (MergesTextShort t r) (MergesTextShort t' r') (r ≡ r') s new new' i text [] [] are (λ p. refl)
      (λ u v w is short short'. merges_short merges_so t r r' u v w shape is short
      (subst (λ (x : TextState). MergesTextShort x r' u w) same short')) short short'
