-- What is read one after the other.
use Rattle.std.proofs.Common.{◌≡◌, ℕ, suc, ◌+◌, ◌<◌, ◌≤◌, List, [], ◌∷◌, ◌++◌, length, drop, slice_index_or, true, false, Option, Some, None, refl, sym, ap, ◌∙◌}
use Rattle.std.specs.Prelude.{option_map}
use Rattle.std.proofs.lemmas.List.{append-nil, append_assoc, drop_all, drop_more}
use Rattle.operations.specs.Operation.{Operation}
use Rattle.note_laws.specs.Note.{Saying}
use Rattle.note_hashes.specs.Hashes.{said_by}
use Rattle.byte_fields.specs.Fields.{◌>>=◌}
use Rattle.note_bodies.specs.Bodies.{is_of_head, on_at, on_here, ons_after, ons_at, said_in_turn}
use Rattle.note_bodies.specs.declared.messages.Head.{Head}
use Rattle.note_bodies.specs.declared.ons.On.{On}

-- one more of those that stand before all others
with_one : {A : Type 0} (xs : List A) (x : A) (o : Option (List A))
    → option_map (λ more. xs ++ more) (option_map (λ more. x ∷ more) o) ≡ option_map (λ more. (xs ++ x ∷ []) ++ more) o
with_one xs x None = refl
with_one xs x (Some more) = ap Some (sym (append_assoc xs (x ∷ []) more))

module _ (key : List ℕ) (head : Head) (ons : List On) (ops : List Operation) where
  -- these were said by the operations before this index, and what is left is as if it began here
  abbrev pub SaidSoFar : List Saying → List On → (index before : ℕ) → Type 0
  SaidSoFar sayings left index before =
      said_in_turn key head ons 0 head.before ops
      ≡ option_map (λ (more : List Saying). sayings ++ more) (said_in_turn key head left index before (drop index ops))

  module _ (sayings : List Saying) (left : List On) (index before : ℕ) (so : SaidSoFar sayings left index before) where
    pub one_said : (op : Operation) → index < length ops → is_of_head head index (slice_index_or ops index op) ≡ true
        → SaidSoFar (sayings ++ said_by key head.author before (slice_index_or ops index op) (on_here left index) ∷ [])
        (ons_after left index) (index + 1)
        (said_by key head.author before (slice_index_or ops index op) (on_here left index)).hash
    one_said op lt is =
        let here = slice_index_or ops index op in
        let s = said_by key head.author before here (on_here left index) in
        so
        ∙ (ap (λ (rest : List Operation). option_map (λ (more : List Saying). sayings ++ more) (said_in_turn key head left index before rest))
        (drop_more ops index op lt)
        ∙ (rw is refl
        ∙ with_one sayings s (said_in_turn key head (ons_after left index) (index + 1) s.hash (drop (index + 1) ops))))

    pub none_said : (op : Operation) → index < length ops → is_of_head head index (slice_index_or ops index op) ≡ false
        → said_in_turn key head ons 0 head.before ops ≡ None
    none_said op lt not =
        so
        ∙ (ap (λ (rest : List Operation). option_map (λ (more : List Saying). sayings ++ more) (said_in_turn key head left index before rest))
        (drop_more ops index op lt)
        ∙ rw not refl)

    pub all_said : length ops ≤ index → said_in_turn key head ons 0 head.before ops ≡ Some sayings
    all_said past =
        so
        ∙ (ap (λ (rest : List Operation). option_map (λ (more : List Saying). sayings ++ more) (said_in_turn key head left index before rest))
        (drop_all index ops past)
        ∙ ap Some (append-nil sayings))

-- these before what was read
abbrev pub put_before : List On → List On × List ℕ → List On × List ℕ
put_before ons x = (ons ++ x.0, x.1)

and_one : (ons : List On) (on : On) (o : Option (List On × List ℕ))
    → option_map (put_before ons) (o >>= (λ (rest : List On × List ℕ). Some (on ∷ rest.0, rest.1)))
    ≡ option_map (put_before (ons ++ on ∷ [])) o
and_one ons on None = refl
and_one ons on (Some x) = ap (λ (all : List On). Some (all, x.1)) (sym (append_assoc ons (on ∷ []) x.0))

module _ (count bound : ℕ) (bytes : List ℕ) where
  -- these were read, and so many are left
  abbrev pub OnsSoFar : List On → (left least : ℕ) → List ℕ → Type 0
  OnsSoFar ons left least rest = ons_at count 0 bound bytes ≡ option_map (put_before ons) (ons_at left least bound rest)

  module _ (ons : List On) (left least : ℕ) (rest : List ℕ) where
    pub one_on : (on : On) (after : List ℕ) → OnsSoFar ons (suc left) least rest → on_at least bound rest ≡ Some (on, after)
        → OnsSoFar (ons ++ on ∷ []) left (on.index + 1) after
    one_on on after so is = so ∙ (rw is (and_one ons on (ons_at left (on.index + 1) bound after)))

    pub no_on : OnsSoFar ons (suc left) least rest → on_at least bound rest ≡ None → ons_at count 0 bound bytes ≡ None
    no_on so none = so ∙ rw none refl

    pub all_ons : OnsSoFar ons 0 least rest → ons_at count 0 bound bytes ≡ Some (ons, rest)
    all_ons so = so ∙ ap (λ (all : List On). Some (all, rest)) (append-nil ons)
