-- An own Insert is the latest of all, and so stands directly after its cause.
use Rattle.std.proofs.Common.{◌≡◌, ℕ, ◌<◌, ◌≤◌, inl, inr, Bool}
use Rattle.std.proofs.Common.{List, [], ◌∷◌, ◌++◌, length, take, drop, map, refl, sym, subst, ◌∙◌}
use Rattle.std.proofs.Common.{arith}
use Rattle.std.specs.Prelude.{All}
use Rattle.std.proofs.lemmas.List.{take-map, drop-map, take-append-drop, map-append}
use Rattle.std.proofs.lemmas.List.Elements.{All-append, All-drop, All-map}
use Rattle.std.proofs.lemmas.List.Elements.{All-take, All-weaker}
use Rattle.std.proofs.lemmas.List.Elements.{Contains-push}
use Rattle.looks.specs.Sel.{Selection}
use Rattle.looks.specs.declared.looks.Looks.{Looks}
use Rattle.char_files.specs.CharName.{CharName}
use Rattle.char_files.specs.declared.character.Char.{Char}
use Rattle.char_files.specs.declared.name.Anchor.{Anchor}
use Rattle.operations.specs.Operation.{Operation, Inserts, insert}
use Rattle.tree_order.specs.Insertion.{IsJustAfter, run_of}
use Rattle.tree_order.specs.Looks.{HasLooks, Sets}
use Rattle.tree_order.specs.Order.{IsOrder}
use Rattle.tree_order.specs.RegisterLaws.{first_atom}
use Rattle.tree_order.specs.Sequential.{char_by}
use Rattle.tree_order.specs.Shown.{AreChars, IsShown}
use Rattle.tree_order.specs.Tree.{HasByte, IsChar}
use Rattle.set_laws.specs.Fronts.{file_len}
use Rattle.texts.specs.Edit.{anchor_before, own_insert, with_operation}
use Rattle.texts.specs.Laws.{OwnInsertIsPlain, shown_with_run}
use Rattle.texts.specs.Order.{count_to, with_inserted}
use Rattle.taken_text.specs.Rows.{chars_from}
use Rattle.texts.specs.Text.{IsAnchor, IsText}
use Rattle.texts.specs.TextState.{TextState, shown_of}
use Rattle.tree_order.proofs.Latest.{after_cause}
use Rattle.tree_order.proofs.OneText.{shows_one_text}
use Rattle.tree_order.proofs.PlaceOfShown.{plain_edit}
use Rattle.tree_order.proofs.RegisterLists.{offers_its_values}
use Rattle.tree_order.proofs.RegistersDetermine.{tell}
use Rattle.texts.proofs.Causes.{anchor_is_after, ends_at, old_if_after, old_if_mentioned}
use Rattle.texts.proofs.Chars.{shown_are_chars, shows_the_definition}
use Rattle.texts.proofs.OwnStep.{byte_stays, looks_stay, own_step, IsOwnStep}
use Rattle.texts.proofs.RunChars.{names_in_run, names_of_chars, run_is_chars}

-- what holds of each character of both holds of each where a run was put in
All-insert_at : (P : Char → Type 0) (order run : List Char) (n : ℕ) → All P order → All P run
    → All P (with_inserted order n run)
All-insert_at P order run n old new =
    All-append P (take n order ++ run) (drop n order)
    (All-append P (take n order) run (All-take P n order old) new) (All-drop P n order old)

names_of_put : (order run : List Char) (n : ℕ) (names : List CharName) → map (λ c. c.name) run ≡ names
    → map (λ c. c.name) (with_inserted order n run) ≡ with_inserted (map (λ c. c.name) order) n names
names_of_put order run n names e = simp (map-append, take-map, drop-map, e)

module _ (t : TextState) (pos : ℕ) (looks : Looks) (bytes : List ℕ) (is : IsText t)
    (in_text : pos ≤ length (shown_of t)) where
  abbrev ops : List Operation
  ops = t.operations

  abbrev own : Operation
  own = own_insert t pos looks bytes

  abbrev with_own : List Operation
  with_own = ops ++ own ∷ []

  abbrev cause : Anchor
  cause = anchor_before (shown_of t) pos

  abbrev at : ℕ
  at = file_len ops t.site

  abbrev run : List Char
  run = chars_from t.site at looks bytes

  -- the cause is the root or a character
  after : IsJustAfter (map (λ s. s.name) (shown_of t)) cause pos
  after = anchor_is_after (shown_of t) pos in_text

  old : IsAnchor ops cause
  old = old_if_after ops (map (λ (s : Char). s.name) (shown_of t)) cause pos (shown_are_chars t is) after

  -- so the Insert is ready
  step : IsOwnStep t own
  step = own_step t (insert cause at looks bytes) is refl (old_if_mentioned ops cause at looks bytes old)

  -- its run stands directly after its cause
  order : IsOrder with_own (map (λ c. c.name) (with_inserted t.order (count_to t.order cause) run))
  order =
      let names : List CharName = map (λ (c : Char). c.name) t.order in
      let k = count_to t.order cause in
      let parts : IsOrder ops (take k names ++ drop k names) =
      subst (IsOrder ops) (sym (take-append-drop k names)) is.chars.order in
      let put_in = after_cause ops own cause (take k names) (drop k names) step.one step.latest refl parts
      (ends_at ops t.order cause is.chars.order old) in
      subst (IsOrder with_own)
      (sym (names_of_put t.order run k (run_of own) (names_of_chars t.site looks at bytes))) put_in

  -- with its bytes and looks
  run_bytes : All (λ c. HasByte with_own c.name c.byte) run
  run_bytes =
      let P : Char → Type 0 = λ c. HasByte with_own c.name c.byte in
      let by : CharName → Char = char_by own.kind in
      subst (λ (chars : List Char). All P chars) (run_is_chars t.site looks cause at bytes)
      (All-map P by (run_of own) (All-weaker (Inserts own) (λ (c : CharName). P (by c))
      (λ c h. (own, record { held = Contains-push ops own; inserts = h }, refl)) (run_of own)
      (names_in_run t.site looks cause at bytes)))

  run_looks : All (λ c. HasLooks with_own c.name c.looks) run
  run_looks =
      let P : Char → Type 0 = λ c. HasLooks with_own c.name c.looks in
      let by : CharName → Char = char_by own.kind in
      let offers = offers_its_values ops own is.good step.one.larger step.one.new in
      subst (λ (chars : List Char). All P chars) (run_is_chars t.site looks cause at bytes)
      (All-map P by (run_of own) (All-weaker (Inserts own) (λ (c : CharName). P (by c))
      (λ c h. (tell with_own step.one.larger (first_atom own c) (offers.new c h)).looks) (run_of own)
      (names_in_run t.site looks cause at bytes)))

  -- and the old ones have theirs
  sets_none : (c : CharName) → IsChar ops c → (selects : Selection → Bool) → Sets own selects c → ⊥
  sets_none c char selects (inl inserts) =
      let here : c.off < file_len ops c.site = (step.told.here c).1 char in
      let there : c.off < file_len ops t.site = subst (λ (s : ℕ). c.off < file_len ops s) inserts.0 here in
      omega (arith, inserts.1)
  sets_none c char selects (inr changes) = absurd changes

  chars : AreChars with_own (with_inserted t.order (count_to t.order cause) run)
  chars = record {
    order = order;
    bytes = All-insert_at (λ c. HasByte with_own c.name c.byte) t.order run (count_to t.order cause)
        (All-weaker (λ c. HasByte ops c.name c.byte) (λ c. HasByte with_own c.name c.byte)
        (λ c h. byte_stays ops own c.name c.byte h) t.order is.chars.bytes) run_bytes;
    looks = All-insert_at (λ c. HasLooks with_own c.name c.looks) t.order run (count_to t.order cause) old_looks
        run_looks;
  } where
    old_looks : All (λ c. HasLooks with_own c.name c.looks) t.order
    old_looks k d lt =
        let (i, h, e) = is.chars.bytes k d lt in
        looks_stay ops own _ (sets_none _ (i, h)) _ (is.chars.looks k d lt)

  text : IsText (with_operation t own)
  text = step.text chars

  -- and it is shown where it was typed
  shown : shown_of (with_operation t own) ≡ shown_with_run t pos looks bytes
  shown =
      let was = shows_the_definition t is in
      let plain = plain_edit ops own cause (shown_of t) pos step.one step.latest refl was after in
      let is_plain : IsShown with_own (with_inserted (shown_of t) pos run) = subst
      (λ (chars : List Char). IsShown with_own (with_inserted (shown_of t) pos chars))
      (run_is_chars t.site looks cause at bytes) plain in
      let shows = shows_one_text with_own step.one.larger in
      shows.only (shown_of (with_operation t own)) (shows_the_definition (with_operation t own) text)
      ∙ sym (shows.only (with_inserted (shown_of t) pos run) is_plain)

-- an own Insert is an edit of a plain list
pub insert_is_plain : OwnInsertIsPlain
insert_is_plain t pos looks bytes is in_text =
    let s = step t pos looks bytes is in_text in
    record {
      new = s.new;
      ready = s.ready;
      text = text t pos looks bytes is in_text;
      shown = shown t pos looks bytes is in_text;
    }
