-- The laws of what replicas show: the operations taken in tell it, whatever their order.
use Rattle.std.specs.Prelude.{◌≡◌, ℕ, ◌<◌, ◌≤◌, ◌↔◌, ◌||◌, not, List, [], ◌∷◌, ◌++◌, length, filter, map}
use Rattle.std.specs.Prelude.{Contains, IsTrue, min, slice_range, take, Ok}
use Rattle.looks.specs.Sel.{Selection}
use Rattle.looks.specs.declared.looks.Looks.{Looks}
use Rattle.char_files.specs.CharName.{CharName}
use Rattle.char_files.specs.declared.character.Char.{Char}
use Rattle.operations.specs.NameSet.{Range, IsAmong}
use Rattle.operations.specs.Operation.{Operation, OpKind, delete, restore, change_looks}
use Rattle.list_changes.specs.Changes.{Leads}
use Rattle.list_changes.specs.declared.change.Change.{Change}
use Rattle.tree_order.specs.Laws.{AreSameSet}
use Rattle.tree_order.specs.Order.{IsBeforeIn}
use Rattle.tree_order.specs.Shown.{IsShown, is_visible}
use Rattle.set_laws.specs.Sets.{AreIdentified, HaveEqualFronts, IsPartOf}
use Rattle.set_laws.specs.Verdict.{HasVerdict, IsNew, ready}
use Rattle.set_laws.specs.Fronts.{file_len, front_of}
use Rattle.taken_text.specs.Noted.{AreChangesSince, SameChar}
use Rattle.texts.specs.Edit.{Edit, after, first_part, is_in_text, names_shown, own_insert, own_op, plan}
use Rattle.texts.specs.Edit.{shown_after, stretch_named, with_operation}
use Rattle.texts.specs.Fronts.{front_in}
use Rattle.texts.specs.Merge.{IsUnionOf, Merges}
use Rattle.texts.specs.Named.{EditsByNames, are_here, shown_by_names}
use Rattle.texts.specs.Order.{cut, dress, is_named, with_inserted, with_looks}
use Rattle.taken_text.specs.Rows.{chars_from}
use Rattle.texts.specs.Past.{IsPastOf}
use Rattle.texts.specs.Text.{AreCharNames, IsText}
use Rattle.texts.specs.TextState.{TextState, shown_items, shown_of}
use Rattle.texts.specs.declared.by_names.ByNames.{ByNames}
use Rattle.texts.specs.declared.front.Front.{Front}

-- the same characters in one order, with the same bytes and looks, and the same of them shown
pub record AreTextsAlike (t u : TextState) : Type 0 where
  pub order : t.order ≡ u.order
  pub shown : shown_of t ≡ shown_of u

-- what is shown is what the definition gives from the operations taken in
abbrev pub ShowsTheDefinition : Type 0
ShowsTheDefinition = (t : TextState) → IsText t → IsShown t.operations (shown_of t)

-- two texts that have taken in the same operations, in whatever order, are alike
abbrev pub OperationsDetermineTheText : Type 0
OperationsDetermineTheText = (t u : TextState) → IsText t → IsText u → AreSameSet t.operations u.operations
    → AreTextsAlike t u

-- the characters of t stand in u in the order in which they stand in t
abbrev pub KeepsTheOrder : TextState → TextState → Type 0
KeepsTheOrder t u = (c d : CharName)
    → IsBeforeIn (map (λ s. s.name) t.order) c d → IsBeforeIn (map (λ s. s.name) u.order) c d

-- they do so in every text that has taken in what t has, and more
abbrev pub GrownTextsKeepTheOrder : Type 0
GrownTextsKeepTheOrder = (t u : TextState) → IsText t → IsText u → IsPartOf t.operations u.operations
    → KeepsTheOrder t u

-- what tells the changes by the operations after the first so many leads from what these show to what is shown
abbrev pub ChangesLead : Type 0
ChangesLead = (asked : ℕ) (ops : List Operation) (changes : List Change) (now : List Char)
    → AreChangesSince asked ops changes now
    → (was : List Char) × IsShown (take asked ops) was × Leads SameChar changes was now

-- two texts of equal fronts are alike, if no identity is used twice
abbrev pub FrontsDetermineTheText : Type 0
FrontsDetermineTheText = (t u : TextState) → IsText t → IsText u → AreIdentified (t.operations ++ u.operations)
    → HaveEqualFronts t.operations u.operations → AreTextsAlike t u

-- what is shown with a run of the site's after the first pos characters
abbrev pub shown_with_run : TextState → ℕ → Looks → List ℕ → List Char
shown_with_run t pos looks bytes =
    with_inserted (shown_of t) pos (chars_from t.site (file_len t.operations t.site) looks bytes)

-- an own Insert is new and ready; the text after it is what its operations define, and it shows its run where
-- it was typed
pub record IsPlainEdit (t : TextState) (pos : ℕ) (looks : Looks) (bytes : List ℕ) : Type 0 where
  pub new : IsNew t.operations (own_insert t pos looks bytes)
  pub ready : HasVerdict t.operations (own_insert t pos looks bytes) ready
  pub text : IsText (with_operation t (own_insert t pos looks bytes))
  pub shown : shown_of (with_operation t (own_insert t pos looks bytes)) ≡ shown_with_run t pos looks bytes

-- an own Insert is a plain edit
abbrev pub OwnInsertIsPlain : Type 0
OwnInsertIsPlain = (t : TextState) (pos : ℕ) (looks : Looks) (bytes : List ℕ) → IsText t
    → pos ≤ length (shown_of t) → IsPlainEdit t pos looks bytes

-- an own operation of this kind is new and ready; the text after it is what its operations define, and it
-- shows these characters
pub record IsOwnEdit (t : TextState) (kind : OpKind) (chars : List Char) : Type 0 where
  pub new : IsNew t.operations (own_op t kind)
  pub ready : HasVerdict t.operations (own_op t kind) ready
  pub text : IsText (with_operation t (own_op t kind))
  pub shown : shown_of (with_operation t (own_op t kind)) ≡ chars

-- an own Delete takes those that it names out of what is shown, and leaves all others as they were
abbrev pub OwnDeleteHides : Type 0
OwnDeleteHides = (t : TextState) (names : List Range) → IsText t → AreCharNames t.operations names
    → IsOwnEdit t (delete names) (filter (λ c. not (is_named names c)) (shown_of t))

-- an own Restore shows those that it names beside those that were shown, each at its place among all
abbrev pub OwnRestoreShows : Type 0
OwnRestoreShows = (t : TextState) (names : List Range) → IsText t → AreCharNames t.operations names
    → IsOwnEdit t (restore names)
    (filter (λ c. is_named names c || is_visible t.operations c.name) t.order)

-- an own ChangeLooks gives looks to those that it names, and moves, hides and shows none
abbrev pub OwnLooksAreGiven : Type 0
OwnLooksAreGiven = (t : TextState) (sel : Selection) (looks : Looks) (names : List Range) → IsText t
    → AreCharNames t.operations names
    → IsOwnEdit t (change_looks sel looks names) (map (with_looks sel looks names) (shown_of t))

-- the set has the names of the characters shown from beg to end, and no others
abbrev pub NamesStretch : TextState → List Range → (beg end : ℕ) → Type 0
NamesStretch t names beg end = (c : CharName)
    → IsAmong names c ↔ Contains (map (λ s. s.name) (slice_range (shown_of t) beg end)) c

-- an own Delete of what is shown from beg to end is an edit of a plain list
abbrev pub OwnDeleteIsPlain : Type 0
OwnDeleteIsPlain = (t : TextState) (names : List Range) (beg end : ℕ) → IsText t → beg ≤ end
    → NamesStretch t names beg end → IsOwnEdit t (delete names) (cut (shown_of t) beg end)

-- so is an own ChangeLooks
abbrev pub OwnLooksArePlain : Type 0
OwnLooksArePlain = (t : TextState) (sel : Selection) (looks : Looks) (names : List Range) (beg end : ℕ)
    → IsText t → beg ≤ end → NamesStretch t names beg end
    → IsOwnEdit t (change_looks sel looks names) (dress sel looks (shown_of t) beg end)

-- the set of the names shown from beg to end names this stretch, and no others
abbrev pub ADeleteKeepsItsStretch : Type 0
ADeleteKeepsItsStretch = (t : TextState) (beg end : ℕ) → IsText t
    → NamesStretch t (names_shown t beg end) beg end
    × (stretch_named t (names_shown t beg end) ≡ slice_range (shown_items t) beg end)

-- the text after an edit's first n operations
abbrev pub after_part : TextState → Edit → ℕ → TextState
after_part t e n = after t (take n (plan t e))

-- However many of its operations stand, an own edit leaves a text that its operations define; with all of them
-- it shows what it is to show, and with a part of them what that part is to show.
pub record IsPlainPart (t : TextState) (e : Edit) (n : ℕ) : Type 0 where
  pub text : IsText (after_part t e n)
  pub whole : n ≡ length (plan t e) → shown_of (after_part t e n) ≡ shown_after t e
  pub part : 0 < n → shown_of (after_part t e n) ≡ shown_after t (first_part t n e)

-- own edits are plain edits
abbrev pub OwnEditsArePlain : Type 0
OwnEditsArePlain = (t : TextState) (e : Edit) (n : ℕ) → IsText t → IsTrue (is_in_text t e)
    → n ≤ length (plan t e) → IsPlainPart t e n

-- one operation more of which the set with it is good leaves one text, and no other
pub record HasOneTextWith (t : TextState) (op : Operation) : Type 0 where
  pub new : TextState
  pub is : IsText new
  pub grown : new ≡ record t { operations = t.operations ++ op ∷ []; order = new.order }
  pub only : (other : TextState) → IsText other
      → other ≡ record t { operations = t.operations ++ op ∷ []; order = other.order } → other ≡ new

-- a merge shows the text of the union
abbrev pub MergesShowTheUnion : Type 0
MergesShowTheUnion = (t other new : TextState) (count : ℕ) → IsText t → IsText other
    → Merges t other (Ok count) new → IsUnionOf t other new

-- a text that has taken in a part of what t has, each site as far as the fronts say, or as far as t where they say more
pub record StoodAt (fronts : List Front) (t was : TextState) : Type 0 where
  pub is : IsText was
  pub part : IsPartOf was.operations t.operations
  pub reach :
      (site : ℕ) → front_of was.operations site ≡ min (front_in fronts site) (front_of t.operations site)

-- the past of a text up to fronts is alike with the text that stood there
abbrev pub ThePastIsTheTextOfThen : Type 0
ThePastIsTheTextOfThen = (t was p : TextState) (fronts : List Front) → IsText t → StoodAt fronts t was
    → IsPastOf t fronts p → AreTextsAlike p was

-- an edit by names that was done shows what it is to show: those that it names are hidden, or shown, and all others are as they
-- were; what the site cut last stays that
abbrev pub EditsByNamesArePlain : Type 0
EditsByNamesArePlain = (t new : TextState) (what : ByNames) (names : List Range) (count : ℕ) (messages : List (List ℕ)) → IsText t
    → IsTrue (are_here t names) → EditsByNames what names t (Ok count) new messages
    → (shown_of new ≡ shown_by_names t what names) × (new.last_stretch ≡ t.last_stretch) × (new.last_set ≡ t.last_set)
