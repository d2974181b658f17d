-- What a text has taken in beyond fronts is cut into chunks, operation by operation.
use Rattle.std.proofs.Common.{◌≡◌, ◌≢◌, ℕ, zero, suc, ◌+◌, true, false, ◌<◌, ◌≤◌, List, [], ◌∷◌, ◌++◌, length, take, Some, None}
use Rattle.std.proofs.Common.{ap, sym, subst, refl, ◌∙◌, append_assoc, append-nil, arith}
use Rattle.std.specs.Prelude.{All, AllPairs, Contains, IfSome, slice_get}
use Rattle.std.proofs.lemmas.Bool.{cond-true, cond-false}
use Rattle.std.proofs.lemmas.List.{take_all}
use Rattle.std.proofs.lemmas.List.Elements.{All-contains, filter-append}
use Rattle.std.proofs.lemmas.Option.{get_or_from_slice_get, slice_get_within}
use Rattle.operations.specs.Operation.{Operation}
use Rattle.operations.specs.Spelling.{HasSpelling}
use Rattle.tree_order.specs.Good.{file_before}
use Rattle.packed.specs.Laws.{CanFollow, IsHistory}
use Rattle.packed.specs.Told.{Told, expected, nothing_begun, nothing_told, told, told_after, told_on}
use Rattle.kept_file.proofs.Following.{first_parts, is_history, len_before}
use Rattle.chunks.specs.Chunks.{Placed, CanCome, CanAllCome, chunks, placed_from}
use Rattle.chunks.specs.Laws.{above_fronts}
use Rattle.chunks.specs.Parts.{placed}
use Rattle.chunks.proofs.Histories.{what_is_beyond_can_come}
use Rattle.texts.specs.Fronts.{front_in, is_beyond}
use Rattle.texts.specs.Text.{IsText}
use Rattle.texts.specs.TextState.{TextState}
use Rattle.texts.specs.declared.front.Front.{Front}
use Rattle.text_chunks.specs.Packing.{chunks_beyond}
use Rattle.text_chunks.specs.Parts.{Cut, IsCutOn, cut_on, told_in}

-- the first of the operations, those beyond the fronts, each with the length of its site's file
abbrev pub placed_first : List Front → List Operation → ℕ → List Placed
placed_first fronts ops n = above_fronts (front_in fronts) (placed_from nothing_told (take n ops))

placed_more : (t : Told) (xs ys : List Operation)
    → placed_from t (xs ++ ys) ≡ placed_from t xs ++ placed_from (told_after t xs) ys
placed_more t [] ys = refl
placed_more t (x ∷ xs) ys =
    ap (λ (l : List Placed). placed x (expected t x.site).len ∷ l) (placed_more (told_on t x) xs ys)

-- the first of a history are one
follow_first : (t : Told) (text : ℕ) (ops : List Operation) (n : ℕ) → CanFollow t text ops → CanFollow t text (take n ops)
follow_first t text ops zero follow = tt
follow_first t text [] (suc n) follow = tt
follow_first t text (op ∷ ops) (suc n) follow = (follow.0, follow_first (told_on t op) text ops n follow.1)

-- so many of them were passed, and those beyond the fronts cut
pub record IsPackedTo (fronts : List Front) (ops : List Operation) (number n : ℕ) (c : Cut) : Type 0 where
  pub text : c.text ≡ number
  pub cut : (ps : List Placed) → cut_on c ps ≡ chunks number (placed_first fronts ops n ++ ps)
  pub come : (ps : List Placed) → CanAllCome nothing_begun number (placed_first fronts ops n ++ ps)
      → CanAllCome (told_in c.current) number ps

-- where none of them is beyond the fronts, none was cut
none_placed : (fronts : List Front) (t : Told) (ops : List Operation) (n : ℕ)
    → ((k : ℕ) → k < n → IfSome (slice_get ops k) (λ op. is_beyond fronts op ≡ false))
    → above_fronts (front_in fronts) (placed_from t (take n ops)) ≡ []
none_placed fronts t ops zero none = refl
none_placed fronts t [] (suc n) none = refl
none_placed fronts t (op ∷ ops) (suc n) none =
    cond-false (is_beyond fronts op) _ _ (none 0 (omega arith))
    ∙ none_placed fronts (told_on t op) ops n (λ k less. none (suc k) (omega arith))

pub none_yet : (fronts : List Front) (ops : List Operation) (number n : ℕ)
    → ((k : ℕ) → k < n → IfSome (slice_get ops k) (λ op. is_beyond fronts op ≡ false))
    → IsPackedTo fronts ops number n (record { text = number; full = []; current = None })
none_yet fronts ops number n none =
    let empty : placed_first fronts ops n ≡ [] = none_placed fronts nothing_told ops n none in
    record {
      text = refl;
      cut = λ ps. ap (λ (l : List Placed). chunks number (l ++ ps)) (sym empty);
      come = λ ps come. subst (λ (l : List Placed). CanAllCome nothing_begun number (l ++ ps)) empty come;
    }

-- all were
pub all_packed : (fronts : List Front) (t : TextState) (n : ℕ) (c : Cut) → length t.operations ≤ n
    → IsPackedTo fronts t.operations t.text n c → cut_on c [] ≡ chunks_beyond fronts t
all_packed fronts t n c all s =
    s.cut [] ∙ ap (chunks t.text) (append-nil (placed_first fronts t.operations n))
    ∙ ap (λ (l : List Operation). chunks t.text (above_fronts (front_in fronts) (placed_from nothing_told l)))
    (take_all n t.operations all)

module _ (fronts : List Front) (t : TextState) (is : IsText t) (once : AllPairs (λ a b. a ≢ b) t.operations)
    (spelled : All HasSpelling t.operations) (n : ℕ) (op : Operation) (at : slice_get t.operations n ≡ Some op) (c : Cut)
    (s : IsPackedTo fronts t.operations t.text n c) where
  abbrev first : List Operation
  first = take n t.operations

  history_more : IsHistory t.text (take (n + 1) t.operations)
  history_more =
      follow_first nothing_told t.text t.operations (n + 1)
      (is_history t.text t.operations is.in_order is.identified once spelled is.of_text)

  abbrev pub here : Placed
  here = placed op (file_before t.operations op.site op.seq)

  len_here : (expected (told first) op.site).len ≡ file_before t.operations op.site op.seq
  len_here =
      let held : Contains t.operations op =
      (n, slice_get_within t.operations n op at, get_or_from_slice_get t.operations n op op at) in
      len_before t.operations is.in_order is.identified once n op at (All-contains HasSpelling t.operations op spelled held)

  placed_one : placed_first fronts t.operations (n + 1)
      ≡ placed_first fronts t.operations n ++ above_fronts (front_in fronts) (here ∷ [])
  placed_one =
      ap (λ (l : List Operation). above_fronts (front_in fronts) (placed_from nothing_told l)) (first_parts t.operations n op at)
      ∙ ap (above_fronts (front_in fronts)) (placed_more nothing_told first (op ∷ []))
      ∙ filter-append _ (placed_from nothing_told first) (placed op (expected (told first) op.site).len ∷ [])
      ∙ ap (λ (len : ℕ). placed_first fronts t.operations n ++ above_fronts (front_in fronts) (placed op len ∷ [])) len_here

  placed_beyond : is_beyond fronts op ≡ true
      → placed_first fronts t.operations (n + 1) ≡ placed_first fronts t.operations n ++ here ∷ []
  placed_beyond b =
      placed_one ∙ ap (λ (l : List Placed). placed_first fronts t.operations n ++ l) (cond-true (is_beyond fronts op) (here ∷ []) [] b)

  placed_up_to : is_beyond fronts op ≡ false
      → placed_first fronts t.operations (n + 1) ≡ placed_first fronts t.operations n
  placed_up_to b =
      placed_one ∙ ap (λ (l : List Placed). placed_first fronts t.operations n ++ l) (cond-false (is_beyond fronts op) (here ∷ []) [] b)
      ∙ append-nil _

  -- the operation can come in the chunk that is being written
  pub can_come : is_beyond fronts op ≡ true → CanCome (told_in c.current) c.text here
  can_come b =
      let all : CanAllCome nothing_begun t.text (placed_first fronts t.operations (n + 1)) =
      (what_is_beyond_can_come t.text (take (n + 1) t.operations) (front_in fronts) history_more).0 in
      subst (λ (x : ℕ). CanCome (told_in c.current) x here) (sym s.text)
      (s.come (here ∷ []) (subst (CanAllCome nothing_begun t.text) (placed_beyond b) all)).0

  -- it was added
  pub one_beyond : (new : Cut) → is_beyond fronts op ≡ true → IsCutOn c here new
      → IsPackedTo fronts t.operations t.text (n + 1) new
  one_beyond new b on = record {
    text = on.text ∙ s.text;
    cut = λ ps. on.cut ps ∙ s.cut (here ∷ ps) ∙ ap (chunks t.text) (seam ps);
    come = λ ps all. subst (λ (x : ℕ). CanAllCome (told_in new.current) x ps) s.text
        (on.come ps (subst (λ (x : ℕ). CanAllCome (told_in c.current) x (here ∷ ps)) (sym s.text)
        (s.come (here ∷ ps) (subst (CanAllCome nothing_begun t.text) (sym (seam ps)) all))));
  }
    where
      seam : (ps : List Placed) → placed_first fronts t.operations n ++ here ∷ ps
          ≡ placed_first fronts t.operations (n + 1) ++ ps
      seam ps =
          sym (append_assoc (placed_first fronts t.operations n) (here ∷ []) ps)
          ∙ ap (λ (l : List Placed). l ++ ps) (sym (placed_beyond b))

  -- it was left out
  pub one_up_to : (new : Cut) → is_beyond fronts op ≡ false → new ≡ c
      → IsPackedTo fronts t.operations t.text (n + 1) new
  one_up_to new b same = record {
    text = ap (λ (x : Cut). x.text) same ∙ s.text;
    cut = λ ps. ap (λ (x : Cut). cut_on x ps) same ∙ s.cut ps
        ∙ ap (λ (l : List Placed). chunks t.text (l ++ ps)) (sym (placed_up_to b));
    come = λ ps all. subst (λ (x : Cut). CanAllCome (told_in x.current) t.text ps) (sym same)
        (s.come ps (subst (λ (l : List Placed). CanAllCome nothing_begun t.text (l ++ ps)) (placed_up_to b) all));
  }
