-- A good set shows a text: each of its characters has a byte and looks.
use Rattle.std.proofs.Common.{◌≡◌, ◌↔◌, ◌⊎◌, ℕ, inl, inr, Bool, true, false, List, [], ◌∷◌, map, All, suc}
use Rattle.std.proofs.Common.{refl, sym, ap, subst}
use Rattle.std.proofs.Common.{◌∙◌, Contains, arith}
use Rattle.std.proofs.lemmas.Bool.{cases_Bool, false≢true}
use Rattle.std.proofs.lemmas.Bool.Decides.{nat_tests}
use Rattle.std.proofs.lemmas.List.Elements.{All-cons, All-nil, All-filter, Contains-get_or}
use Rattle.std.specs.List.{filter}
use Rattle.looks.specs.Key.{is_below}
use Rattle.looks.specs.Sel.{Selection}
use Rattle.looks.specs.declared.key.Key.{Key}
use Rattle.looks.specs.declared.looks.Looks.{Looks}
use Rattle.char_files.specs.CharName.{CharName}
use Rattle.char_files.specs.declared.character.Char.{Char}
use Rattle.operations.specs.NameSet.{IsAmong}
use Rattle.operations.specs.Operation.{Operation, OpKind, insert, delete, restore, change_looks, InsertsBy, key_of}
use Rattle.tree_order.specs.Good.{Good}
use Rattle.tree_order.specs.Tree.{IsChar, HasByte, byte_by}
use Rattle.tree_order.specs.Last.{IsLast}
use Rattle.tree_order.specs.Looks.{HasLooks, IsLastToSet, Sets, ChangesBy, looks_by}
use Rattle.tree_order.specs.Shown.{IsShown, is_visible}
use Rattle.tree_order.proofs.Before.{has_order}
use Rattle.tree_order.proofs.LastLemmas.{irreflexive}
use Rattle.tree_order.proofs.ShownLemmas.{among_is, range_contains_is}
use Rattle.tree_order.proofs.Sorted.{Contains-head, Contains-tail, Contains-cons_cases}

-- what a test tells is so, or isn't
pub so_or_not : (b : Bool) (P : Type 0) → ((b ≡ true) ↔ P) → P ⊎ ¬ P
so_or_not b P tells =
    elim (cases_Bool b) [
      | inl e ↦ inl (tells.0 e)
      | inr e ↦ inr
          (λ h. absurd (false≢true (sym e ∙ tells.1 h)))
    ]

pub inserts_or_not : (site : ℕ) (kind : OpKind) (c : CharName)
    → InsertsBy site kind c ⊎ ¬ InsertsBy site kind c
inserts_or_not site (insert cause at looks bytes) c = let t = range_contains_is _ c in so_or_not _ _ t
inserts_or_not site (delete names) c = inr (λ h. h)
inserts_or_not site (restore names) c = inr (λ h. h)
inserts_or_not site (change_looks sel looks names) c = inr (λ h. h)

changes_or_not : (kind : OpKind) (selects : Selection → Bool) (c : CharName)
    → ChangesBy kind selects c ⊎ ¬ ChangesBy kind selects c
changes_or_not (insert cause at looks bytes) selects c = inr (λ h. h)
changes_or_not (delete names) selects c = inr (λ h. h)
changes_or_not (restore names) selects c = inr (λ h. h)
changes_or_not (change_looks sel looks names) selects c =
    elim (cases_Bool (selects sel)) [
      | inl e ↦ elim (so_or_not _ (IsAmong names c) (among_is names c)) [
        | inl among ↦ inl (e, among)
        | inr out ↦ inr (λ h. out h.1)
      ]
      | inr e ↦ inr (λ h. absurd (false≢true (sym e ∙ h.0)))
    ]

sets_or_not : (op : Operation) (selects : Selection → Bool) (c : CharName) → Sets op selects c
    ⊎ ¬ Sets op selects c
sets_or_not op selects c =
    elim (inserts_or_not op.site op.kind c) [
      | inl inserts ↦ inl (inl inserts)
      | inr not_inserts ↦ elim (changes_or_not op.kind selects c) [
        | inl changes ↦ inl (inr changes)
        | inr not_changes ↦ inr (λ h. elim h [
          | inl inserts ↦ not_inserts inserts
          | inr changes ↦ not_changes
              changes
        ])
      ]
    ]

-- what isn't below the greater key isn't below the lesser one
above_lesser : (a b c : Key) → is_below a b ≡ true → is_below c b ≡ false → is_below c a ≡ false
above_lesser a b c e f = grind (arith, nat_tests)

above_through : (a b c : Key) → is_below c a ≡ false → is_below a b ≡ false → is_below c b ≡ false
above_through a b c e f = grind (arith, nat_tests)

-- of an operation and those of a list that set it, this one has the greatest key
record IsBest (Sets : Operation → Type 0) (ops xs : List Operation) (op best : Operation) : Type 0 where
  held : Contains ops best
  sets : Sets best
  above : is_below (key_of best) (key_of op) ≡ false
  greatest : (other : Operation) → Contains xs other → Sets other
      → is_below (key_of best) (key_of other) ≡ false

module _ (Sets : Operation → Type 0) (sets_or_not : (op : Operation) → Sets op ⊎ ¬ Sets op)
    (ops : List Operation) where
  best_of : (xs : List Operation) (op : Operation)
      → ((other : Operation) → Contains xs other → Contains ops other) → Contains ops op → Sets op
      → (best : Operation) × IsBest Sets ops xs op best
  best_of [] op within held sets = (
    op,
    record {
      held = held;
      sets = sets;
      above = irreflexive (key_of op);
      greatest = λ other h s. absurd (omega arith);
    },
  )
  best_of (x ∷ xs) op within held sets =
      let after : (other : Operation) → Contains xs other → Contains ops other =
      λ other h. within other (Contains-tail x xs other h) in
      elim (sets_or_not x) [
        | inl sets_x ↦ elim (cases_Bool (is_below (key_of op) (key_of x))) [
          | inl more ↦
              let (best, is) = best_of xs x after (within x (Contains-head x xs)) sets_x in (
                best,
                record {
                  held = is.held;
                  sets = is.sets;
                  above = above_lesser (key_of op) (key_of x) (key_of best) more is.above;
                  greatest = λ other h s. elim (Contains-cons_cases x xs other h) [
                    | inl e ↦ subst (λ (o : Operation). is_below (key_of best) (key_of o) ≡ false) (sym e)
                        is.above
                    | inr k ↦ is.greatest other k s
                  ];
                },
              )
          | inr not_more ↦
              let (best, is) = best_of xs op after held sets in (
                best,
                record {
                  held = is.held;
                  sets = is.sets;
                  above = is.above;
                  greatest = λ other h s. elim (Contains-cons_cases x xs other h) [
                    | inl e ↦ subst (λ (o : Operation). is_below (key_of best) (key_of o) ≡ false) (sym e)
                        (above_through (key_of op) (key_of x) (key_of best) is.above not_more)
                    | inr k ↦ is.greatest other k s
                  ];
                },
              )
        ]
        | inr out ↦
            let (best, is) = best_of xs op after held sets in (
              best,
              record {
                held = is.held;
                sets = is.sets;
                above = is.above;
                greatest = λ other h s. elim (Contains-cons_cases x xs other h) [
                  | inl e ↦ absurd (out (subst Sets e s))
                  | inr k ↦ is.greatest other k s
                ];
              },
            )
      ]

  -- where one of the operations sets it, one of them is the last to set it
  pub last_of : (op : Operation) → Contains ops op → Sets op → (last : Operation) × IsLast Sets ops last
  last_of op held sets =
      let (best, h) = best_of ops op (λ other held. held) held sets in
      (best, record { held = h.held; sets = h.sets; greatest = h.greatest })

-- one of the operations is the last to set an attribute of a character
pub has_last : (ops : List Operation) (selects : Selection → Bool) (c : CharName) → IsChar ops c
    → (op : Operation) × IsLastToSet ops selects c op
has_last ops selects c (i, is) =
    last_of (λ op. Sets op selects c) (λ op. sets_or_not op selects c) ops i is.held (inl is.inserts)

-- a character has looks
has_looks : (ops : List Operation) (c : CharName) → IsChar ops c → (looks : Looks) × HasLooks ops c looks
has_looks ops c is =
    let (f, font) = has_last ops (λ s. s.font) c is in
    let (g, colour) = has_last ops (λ s. s.colour) c is in
    let (h, offset) = has_last ops (λ s. s.offset) c is in
    let looks : Looks = record {
      font = (looks_by f.kind).font;
      colour = (looks_by g.kind).colour;
      offset =
          (looks_by h.kind).offset;
    } in
    (looks, record { font = (f, font, refl); colour = (g, colour, refl); offset = (h, offset, refl) })

-- characters of these names, each with its byte and its looks
pub record HasChars (ops : List Operation) (names : List CharName) : Type 0 where
  pub chars : List Char
  pub named : map (λ s. s.name) chars ≡ names
  pub bytes : All (λ s. HasByte ops s.name s.byte) chars
  pub looks : All (λ s. HasLooks ops s.name s.looks) chars

pub has_chars : (ops : List Operation) (names : List CharName) → All (IsChar ops) names → HasChars ops names
has_chars ops [] all = record { chars = []; named = refl; bytes = All-nil _; looks = All-nil _ }
has_chars ops (c ∷ names) all =
    let is : IsChar ops c = all 0 c (omega arith) in
    let (looks, has) = has_looks ops c is in
    let s : Char = record { name = c; byte = byte_by is.0.kind c; looks = looks } in
    let rest = has_chars ops names (λ k d lt. all (suc k) d (omega arith)) in
    record {
      chars = s ∷ rest.chars;
      named = ap (λ (ns : List CharName). c ∷ ns) rest.named;
      bytes = All-cons (λ (x : Char). HasByte ops x.name x.byte) s rest.chars (is.0, is.1, refl) rest.bytes;
      looks = All-cons (λ (x : Char). HasLooks ops x.name x.looks) s rest.chars has rest.looks;
    }

-- what a good set shows
pub has_shown : (ops : List Operation) → Good ops → (shown : List Char) × IsShown ops shown
has_shown ops good =
    let one = has_order ops good in
    let all : All (IsChar ops) one.order = λ k d lt. (one.is.each _).0 (Contains-get_or one.order k d lt) in
    let visible =
    has_chars ops (filter (is_visible ops) one.order) (All-filter (is_visible ops) (IsChar ops)
    one.order all) in (
      visible.chars,
      record {
        order = one.order;
        in_order = one.is;
        visible = visible.named;
        bytes =
            visible.bytes;
        looks = visible.looks;
      },
    )
