-- What a contract sees of a ring.
use Rattle.std.specs.List.{AllByRecursion, IsDistinct}
use Rattle.std.specs.Prelude.{◌≡◌, ℕ, ◌<◌, ◌==◌, length, cond, List, [], ◌∷◌, ◌++◌, map, Option, Some, None}
use Rattle.std.specs.Prelude.{refl}
use Rattle.std.specs.Coded.{Coded, code_by, coded×, coded_list, coded_ℕ, coded_option}

-- the members in order, each with its tag; the tag of the one that the cursor stands on (none on the
-- trailer);
-- and how many pushes take no memory
pub record Ring (T : Type 0) : Type 0 where
  pub items : List (ℕ × T)
  pub cursor : Option ℕ
  pub room : ℕ

module _ {T : Type 0} where
  abbrev pub ring : List (ℕ × T) → Option ℕ → ℕ → Ring T
  ring items cursor room = record { items = items; cursor = cursor; room = room }

  abbrev pub ring_code : Coded T → Coded (Ring T)
  ring_code t = code_by (List (ℕ × T) × (Option ℕ × ℕ)) (coded× (coded_list (coded× coded_ℕ t))
      (coded× (coded_option coded_ℕ) coded_ℕ)) (λ r. (r.items, (r.cursor, r.room))) (λ p. ring p.0 p.1.0 p.1.1)
      (λ _. refl)

  abbrev pub tags : List (ℕ × T) → List ℕ
  tags = map (λ m. m.0)

  -- where a cursor can stand, from the trailer around to the trailer
  abbrev pub stops : List (ℕ × T) → List (Option ℕ)
  stops items = None ∷ (map Some (tags items) ++ None ∷ [])

  -- d comes directly after c
  abbrev pub Follows : List (ℕ × T) → Option ℕ → Option ℕ → Type 0
  Follows items c d = (xs : List (Option ℕ)) × (ys : List (Option ℕ)) × (stops items ≡ xs ++ c ∷ d ∷ ys)

  -- a member has this tag and this value
  abbrev pub IsMember : List (ℕ × T) → ℕ → T → Type 0
  IsMember items tag value = (xs : List (ℕ × T)) × (ys : List (ℕ × T)) × (items ≡ xs ++ (tag, value) ∷ ys)

  -- a member has this tag
  abbrev pub HasTag : List (ℕ × T) → ℕ → Type 0
  HasTag items tag = (value : T) × IsMember items tag value

  -- the last of xs has this tag; none where there is no member
  abbrev pub last_tag : List (ℕ × T) → Option ℕ
  last_tag [] = None
  last_tag (m ∷ []) = Some m.0
  last_tag (m ∷ n ∷ xs) = last_tag (n ∷ xs)

  -- the first of xs has this tag; none where there is no member
  abbrev pub first_tag : List (ℕ × T) → Option ℕ
  first_tag [] = None
  first_tag (m ∷ xs) = Some m.0

  -- new is old with one more member, directly after the cursor
  abbrev pub IsPushed : List (ℕ × T) → Option ℕ → ℕ → T → List (ℕ × T) → Type 0
  IsPushed old cursor tag value new = (xs : List (ℕ × T)) × (ys : List (ℕ × T)) × (old ≡ xs ++ ys)
      × (last_tag xs ≡ cursor) × (new ≡ xs ++ (tag, value) ∷ ys)

  -- the members, with w as the value of the one of this tag
  abbrev pub with_value : ℕ → T → List (ℕ × T) → List (ℕ × T)
  with_value tag w = map (λ m. (m.0, cond (m.0 == tag) w m.1))

  -- the members, with w as the value of the one that the cursor stands on
  abbrev pub with_value_at : Option ℕ → T → List (ℕ × T) → List (ℕ × T)
  with_value_at None w items = items
  with_value_at (Some tag) w items = with_value tag w items

  -- the member that the cursor stands on has this value
  abbrev pub IsAtCursor : Ring T → T → Type 0
  IsAtCursor r value = (tag : ℕ) × (r.cursor ≡ Some tag) × IsMember r.items tag value

  -- no tag is used twice, and each is below the number of members
  abbrev pub AreTags : List (ℕ × T) → Type 0
  AreTags items = IsDistinct ◌==◌ (tags items) × AllByRecursion (λ tag. tag < length items) (tags items)
