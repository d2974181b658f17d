-- What is shown with one Insert more.
use Rattle.std.proofs.Common.{◌≡◌, ℕ, Bool, true, List, [], ◌∷◌, ◌++◌, length, take, drop, map, refl, sym, ap}
use Rattle.std.proofs.Common.{◌∙◌, All, Contains}
use Rattle.std.specs.List.{filter}
use Rattle.std.proofs.lemmas.Bool.{cond-true}
use Rattle.std.proofs.lemmas.List.{map-append, take-map, drop-map, take_at, drop_at}
use Rattle.std.proofs.lemmas.List.Elements.{filter-append, filter_agree, All-append, All-take, All-drop}
use Rattle.std.proofs.lemmas.List.Elements.{All-map}
use Rattle.std.proofs.lemmas.List.Elements.{Contains-get_or}
use Rattle.std.proofs.lemmas.List.Sums.{length-filter}
use Rattle.char_files.specs.CharName.{CharName}
use Rattle.char_files.specs.declared.character.Char.{Char}
use Rattle.char_files.specs.declared.name.Anchor.{Anchor}
use Rattle.operations.specs.Operation.{Operation}
use Rattle.tree_order.specs.Insertion.{IsOneMore, IsInsertAt, run_of}
use Rattle.tree_order.specs.Sequential.{ShownGainsRun, char_by, inserted_chars}
use Rattle.tree_order.specs.Tree.{HasByte}
use Rattle.tree_order.specs.Looks.{HasLooks}
use Rattle.tree_order.specs.Shown.{is_visible}
use Rattle.tree_order.proofs.Gap.{into_gap}
use Rattle.tree_order.proofs.NewVisible.{visible_as_before, new_is_visible, looks_as_before, new_looks}
use Rattle.tree_order.proofs.OneText.{one_order}
use Rattle.tree_order.proofs.OneMore.{old_insert, new_insert}
use Rattle.tree_order.proofs.RunNames.{run_inserts}
use Rattle.tree_order.proofs.Sorted.{Contains-head, Contains-tail}

-- a filter that all elements pass
filter_all : (p : CharName → Bool) (xs : List CharName) → ((c : CharName) → Contains xs c → p c ≡ true)
    → filter p xs ≡ xs
filter_all p [] pass = refl
filter_all p (c ∷ xs) pass =
    cond-true (p c) (c ∷ filter p xs) (filter p xs) (pass c (Contains-head c xs))
    ∙ ap (λ (ys : List CharName). c ∷ ys) (filter_all p xs (λ d h. pass d (Contains-tail c xs d h)))

-- the names of the run's characters
names_of_chars : (op : Operation) (run : List CharName)
    → map (λ (s : Char). s.name)
    (map (char_by op.kind) run) ≡ run
names_of_chars op [] = refl
names_of_chars op (c ∷ run) = ap (λ (xs : List CharName). c ∷ xs) (names_of_chars op run)

-- a character with its own byte, and with its own looks

abbrev HasOwnByte : List Operation → Char → Type 0
HasOwnByte ops s = HasByte ops s.name s.byte

abbrev HasOwnLooks : List Operation → Char → Type 0
HasOwnLooks ops s = HasLooks ops s.name s.looks

module _ (ops : List Operation) (i : Operation) (one : IsOneMore ops i) where
  -- the old characters with their bytes and looks
  old_bytes : (shown : List Char) → All (HasOwnByte ops) shown → All (HasOwnByte (ops ++ i ∷ [])) shown
  old_bytes shown bytes k d lt =
      let (j, is, e) = bytes k d lt in
      (j, old_insert ops i one _ j is, e)

  old_looks : (cause : Anchor) → IsInsertAt i cause → (shown : List Char) → All (HasOwnByte ops) shown
      → All (HasOwnLooks ops) shown → All (HasOwnLooks (ops ++ i ∷ [])) shown
  old_looks cause at shown bytes looks k d lt =
      let (j, is, e) = bytes k d lt in
      looks_as_before ops i one cause at _ (j, is) _ (looks k d lt)

  -- the new ones
  new_bytes : All (HasOwnByte (ops ++ i ∷ [])) (inserted_chars i)
  new_bytes =
      All-map (HasOwnByte (ops ++ i ∷ []))
      (char_by i.kind) (run_of i)
      (λ k d lt. (i, new_insert ops i one _ ((run_inserts i _).0 (Contains-get_or (run_of i) k d lt)), refl))

  new_chars_looks : All (HasOwnLooks (ops ++ i ∷ [])) (inserted_chars i)
  new_chars_looks =
      All-map (HasOwnLooks (ops ++ i ∷ []))
      (char_by i.kind) (run_of i)
      (λ k d lt. new_looks ops i one _ ((run_inserts i _).0 (Contains-get_or (run_of i) k d lt)))

  -- old characters around the new ones
  with_run : (P : Char → Type 0) (shown : List Char) (n : ℕ) → All P shown → All P (inserted_chars i)
      → All P (take n shown ++ inserted_chars i ++ drop n shown)
  with_run P shown n old new =
      All-append P (take n shown ++ inserted_chars i) (drop n shown)
      (All-append P (take n shown) (inserted_chars i) (All-take P n shown old) new) (All-drop P n shown old)

  -- what is visible of the order with the run
  visible_with_run : (cause : Anchor) → IsInsertAt i cause → (front after : List CharName)
      → filter (is_visible (ops ++ i ∷ [])) (front ++ run_of i ++ after)
      ≡ filter (is_visible ops) front ++ run_of i ++ filter (is_visible ops) after
  visible_with_run cause at front after =
      let p : CharName → Bool = is_visible ops in
      let run : filter p (run_of i) ≡ run_of i =
      filter_all p (run_of i) (λ c h. new_is_visible ops i one c ((run_inserts i c).0 h)) in
      filter_agree (is_visible (ops ++ i ∷ [])) p (visible_as_before ops i one cause at)
      (front ++ run_of i ++ after)
      ∙ filter-append p (front ++ run_of i) after
      ∙ ap (λ (xs : List CharName). xs ++ filter p after) (filter-append p front (run_of i)
      ∙ ap (λ (xs : List CharName). filter p front ++ xs) run)

-- the names of the first n characters shown, and of the rest
names_with_run : (i : Operation) (shown : List Char) (n : ℕ) (front rest : List CharName)
    → map (λ (s : Char). s.name) shown ≡ front ++ rest → length front ≡ n
    → map (λ (s : Char). s.name) (take n shown ++ inserted_chars i ++ drop n shown) ≡ front ++ run_of i ++ rest
names_with_run i shown n front rest e len =
    let name : Char → CharName = λ (s : Char). s.name in
    let first : map name (take n shown) ≡ front =
    sym (take-map name n shown) ∙ ap (take n) e ∙ take_at front rest n len in
    let last : map name (drop n shown) ≡ rest =
    sym (drop-map name n shown) ∙ ap (drop n) e ∙ drop_at front rest n len in
    map-append name (take n shown ++ inserted_chars i) (drop n shown)
    ∙ ap (λ (xs : List CharName). xs ++ map name (drop n shown))
    (map-append name (take n shown) (inserted_chars i))
    ∙ ap (λ (xs : List CharName). xs ++ map name (inserted_chars i) ++ map name (drop n shown)) first
    ∙ ap (λ (xs : List CharName). front ++ xs ++ map name (drop n shown)) (names_of_chars i (run_of i))
    ∙ ap (λ (xs : List CharName). front ++ run_of i ++ xs) last

pub shown_gains_run : ShownGainsRun
shown_gains_run ops i before skipped after shown n one is gap was count =
    let p : CharName → Bool = is_visible ops in
    let front : List CharName = before ++ skipped in
    let names : map (λ (s : Char). s.name) shown ≡ filter p front ++ filter p after =
    was.visible ∙ ap (filter p) (one_order ops one.good was.order (front ++ after) was.in_order is)
    ∙ filter-append p front after in
    let len : length (filter p front) ≡ n = length-filter p front ∙ sym count in
    record {
      order = front ++ run_of i ++ after;
      in_order = into_gap ops i before skipped after one is gap;
      visible =
          names_with_run i shown n (filter p front) (filter p after) names len
          ∙ sym (visible_with_run ops i one gap.cause gap.of_insert front after);
      bytes =
          with_run ops i one (HasOwnByte (ops ++ i ∷ [])) shown n (old_bytes ops i one shown was.bytes)
          (new_bytes ops i one);
      looks =
          with_run ops i one (HasOwnLooks (ops ++ i ∷ [])) shown n
          (old_looks ops i one gap.cause gap.of_insert shown was.bytes was.looks) (new_chars_looks ops i one);
    }
