-- The last names of the ranges of a set.
use Rattle.std.proofs.Common.{◌≡◌, zero, suc, ◌+◌, ◌-◌, ◌<◌, ◌≤◌, ◌⊎◌, ◌↔◌, inl, inr, Bool, true, false, ◌&&◌, not, eqb, List, [], ◌∷◌}
use Rattle.std.proofs.Common.{length, AllPairs, Contains, get_or, refl, sym, ap, subst, ◌∙◌, arith, eq-eqb}
use Rattle.std.proofs.lemmas.Bool.{and_parts, and_from, cases_Bool, cases_eq, cond-true, cond-false, eqb-true, false≢true}
use Rattle.std.proofs.lemmas.List.Elements.{Contains-get_or}
use Rattle.std.proofs.lemmas.List.Kept.{AllPairs-cons}
use Rattle.char_files.specs.CharName.{CharName}
use Rattle.char_files.specs.declared.name.Anchor.TheVariants.{Root, At}
use Rattle.operations.specs.NameSet.{Range, IsAmong, IsBefore, IsIn, IsRange, IsSet, of_name}
use Rattle.operations.specs.Operation.{OpKind, insert, delete, restore, change_looks, MentionsBy}
use Rattle.operations.proofs.WithName.{same_name}
use Rattle.set_laws.proofs.Picking.{Contains-head, Contains-tail, Contains-cases, Contains-none}
use Rattle.waiting_room.specs.Judged.{last_of}
use Rattle.note_admission.specs.Ranges.{ends_site, lasts_of, mentioned_ranges_by}

among_head : (r : Range) (rest : List Range) (name : CharName) → IsIn r name → IsAmong (r ∷ rest) name
among_head r rest name is = (zero, r, omega arith, refl, is)

among_tail : (r : Range) (rest : List Range) (name : CharName) → IsAmong rest name → IsAmong (r ∷ rest) name
among_tail r rest name (k, s, lt, at, is) = (suc k, s, omega arith, at, is)

among_cases : (r : Range) (rest : List Range) (name : CharName) → IsAmong (r ∷ rest) name
    → IsIn r name ⊎ IsAmong rest name
among_cases r rest name (zero, s, lt, at, is) = inl (subst (λ (x : Range). IsIn x name) (sym at) is)
among_cases r rest name (suc k, s, lt, at, is) = inr (k, s, omega arith, at, is)

none_among : (name : CharName) → IsAmong [] name → ⊥
none_among name (k, s, lt, at, is) = omega arith

-- what an operation mentions are the names of its ranges
pub mentions_ranges : (kind : OpKind) (name : CharName) → MentionsBy kind name ↔ IsAmong (mentioned_ranges_by kind) name
mentions_ranges (insert Root at looks bytes) name = (λ m. absurd m, λ h. absurd (none_among name h))
mentions_ranges (insert (At cause) at looks bytes) name = (
  λ is.
      let site = ap (λ (n : CharName). n.site) is in
      let off = ap (λ (n : CharName). n.off) is in
      among_head (of_name cause) [] name (site, omega arith, omega arith),
  λ h. elim (among_cases (of_name cause) [] name h) [
    | inl is ↦ let from = is.1 in let to = is.2 in same_name name cause is.0 (omega arith)
    | inr none ↦ absurd (none_among name none)
  ],
)
mentions_ranges (delete names) name = (λ m. m, λ h. h)
mentions_ranges (restore names) name = (λ m. m, λ h. h)
mentions_ranges (change_looks sel looks names) name = (λ m. m, λ h. h)

rest_set : (r : Range) (rest : List Range) → IsSet (r ∷ rest) → IsSet rest
rest_set r rest set = record {
  ranges = λ k d lt. set.ranges (suc k) d (omega arith);
  rising = λ i j d lt within. set.rising (suc i) (suc j) d (omega arith) (omega arith);
}

first_is : (r : Range) (rest : List Range) → IsSet (r ∷ rest) → IsRange r
first_is r rest set = set.ranges zero r (omega arith)

stands_before : (r : Range) (rest : List Range) → IsSet (r ∷ rest) → (s : Range) → Contains rest s → IsBefore r s
stands_before r rest set s (k, lt, is) =
    subst (IsBefore r) is (set.rising zero (suc k) s (omega arith) (omega arith))

sites_rise : (r s : Range) → IsBefore r s → r.site ≤ s.site
sites_rise r s (inl less) = omega arith
sites_rise r s (inr (same, apart)) = omega arith

-- of one number, one ends before the other
ends_before : (r s : Range) → IsBefore r s → r.site ≡ s.site → r.at + r.len < s.at
ends_before r s (inl less) same = absurd (omega arith)
ends_before r s (inr (_, apart)) same = apart

-- what follows is of greater numbers
later : (r : Range) (rest : List Range) → IsSet (r ∷ rest) → ends_site r rest ≡ true → (s : Range)
    → Contains rest s → r.site < s.site
later r [] set e s held = absurd (Contains-none s held)
later r (t ∷ more) set e s held =
    let before = stands_before r (t ∷ more) set t (Contains-head t more) in
    let rise = sites_rise r t before in
    let apart : t.site ≡ r.site → ⊥ = λ same. not_both (eqb t.site r.site) e (eq-eqb t.site r.site same) in
    let less : r.site < t.site = elim (cases_eq t.site r.site) [
      | inl same ↦ absurd (apart same)
      | inr other ↦ omega arith
    ] in
    elim (Contains-cases t more s held) [
      | inl is ↦ let same = ap (λ (x : Range). x.site) is in omega arith
      | inr after ↦
          let on = sites_rise t s (stands_before t more (rest_set r (t ∷ more) set) s after) in omega arith
    ]
  where
    not_both : (b : Bool) → not b ≡ true → b ≡ true → ⊥
    not_both true e f = false≢true e
    not_both false e f = false≢true f

-- the next one is of the same number
goes_on : (r : Range) (rest : List Range) → ends_site r rest ≡ false
    → (t : Range) × Contains rest t × (t.site ≡ r.site)
goes_on r [] e = absurd (false≢true (sym e))
goes_on r (t ∷ more) e = (t, Contains-head t more, eqb-true t.site r.site (was (eqb t.site r.site) e))
  where
    was : (b : Bool) → not b ≡ false → b ≡ true
    was true e = refl
    was false e = absurd (false≢true (sym e))

not_after_last : (r : Range) (name : CharName) → IsIn r name → name.off ≤ r.at + (r.len - 1)
not_after_last r name is =
    let from = is.1 in
    let below = is.2 in
    omega arith

has_its_last : (r : Range) → IsRange r → IsIn r (last_of r)
has_its_last r is = let some = is.2 in (refl, omega arith, omega arith)

-- the name is so, and the last one of its number among the ranges
pub record IsLastSo (so : CharName → Bool) (ranges : List Range) (name : CharName) : Type 0 where
  pub among : IsAmong ranges name
  pub is : so name ≡ true
  pub last : (other : CharName) → IsAmong ranges other → other.site ≡ name.site → other.off ≤ name.off

module _ (so : CharName → Bool) where
  with_first : (r : Range) (rest : List Range) (name : CharName) → IsSet (r ∷ rest) → IsLastSo so rest name
      → IsLastSo so (r ∷ rest) name
  with_first r rest name set is = record {
    among = among_tail r rest name is.among;
    is = is.is;
    last = λ other among on. elim (among_cases r rest other among) [
      | inr after ↦ is.last other after on
      | inl first ↦
          let (k, s, lt, at, in_s) = is.among in
          let before = stands_before r rest set s (k, lt, at) in
          let same : r.site ≡ s.site = sym first.0 ∙ (on ∙ in_s.0) in
          let ends = ends_before r s before same in
          let below = first.2 in
          let from = in_s.1 in
          omega arith
    ];
  }

  head_last : (r : Range) (rest : List Range) → IsSet (r ∷ rest) → ends_site r rest ≡ true
      → so (last_of r) ≡ true → IsLastSo so (r ∷ rest) (last_of r)
  head_last r rest set ends is = record {
    among = among_head r rest (last_of r) (has_its_last r (first_is r rest set));
    is = is;
    last = λ other among on. elim (among_cases r rest other among) [
      | inl first ↦ not_after_last r other first
      | inr after ↦
          let (k, s, lt, at, in_s) = after in
          let less = later r rest set ends s (k, lt, at) in
          let site = in_s.0 in
          absurd (omega arith)
    ];
  }

  is_last : (ranges : List Range) → IsSet ranges → (name : CharName) → Contains (lasts_of so ranges) name
      → IsLastSo so ranges name
  is_last [] set name held = absurd (Contains-none name held)
  is_last (r ∷ rest) set name held =
      let on : Contains (lasts_of so rest) name → IsLastSo so (r ∷ rest) name =
      λ after. with_first r rest name set (is_last rest (rest_set r rest set) name after) in
      elim (cases_Bool (ends_site r rest && so (last_of r))) [
        | inl e ↦
            let both = and_parts (ends_site r rest) (so (last_of r)) e in
            elim (Contains-cases (last_of r) (lasts_of so rest) name
            (subst (λ (xs : List CharName). Contains xs name) (cond-true _ _ _ e) held)) [
              | inl is ↦ subst (IsLastSo so (r ∷ rest)) is (head_last r rest set both.0 both.1)
              | inr after ↦ on after
            ]
        | inr e ↦ on (subst (λ (xs : List CharName). Contains xs name) (cond-false _ _ _ e) held)
      ]

  of_rest : (r : Range) (rest : List Range) (name : CharName) → IsLastSo so (r ∷ rest) name → IsAmong rest name
      → IsLastSo so rest name
  of_rest r rest name is among = record {
    among = among;
    is = is.is;
    last = λ other h. is.last other (among_tail r rest other h);
  }

  -- the first range's name that is the last one of its number is its last one, and no range of the number follows
  first_last : (r : Range) (rest : List Range) (name : CharName) → IsSet (r ∷ rest)
      → IsLastSo so (r ∷ rest) name → IsIn r name → (ends_site r rest ≡ true) × (last_of r ≡ name)
  first_last r rest name set is first =
      let upto = not_after_last r name first in
      let own = has_its_last r (first_is r rest set) in
      let least = is.last (last_of r) (among_head r rest (last_of r) own) (sym first.0) in (
        elim (cases_Bool (ends_site r rest)) [
          | inl e ↦ e
          | inr e ↦
              let (t, held, on) = goes_on r rest e in
              let (k, lt, at) = held in
              let range : IsRange t = subst IsRange at ((rest_set r rest set).ranges k t lt) in
              let its = has_its_last t range in
              let le = is.last (last_of t) (among_tail r rest (last_of t) (k, t, lt, at, its)) (on ∙ sym first.0) in
              let apart = ends_before r t (stands_before r rest set t held) (sym on) in
              let some = range.2 in
              absurd (omega arith)
        ],
        same_name (last_of r) name (sym first.0) (omega arith),
      )

  has_last : (ranges : List Range) → IsSet ranges → (name : CharName) → IsLastSo so ranges name
      → Contains (lasts_of so ranges) name
  has_last [] set name is = absurd (none_among name is.among)
  has_last (r ∷ rest) set name is =
      let test : Bool = ends_site r rest && so (last_of r) in
      elim (among_cases r rest name is.among) [
        | inl first ↦
            let (ends, same) = first_last r rest name set is first in
            let yes : test ≡ true = and_from _ _ ends (ap so same ∙ is.is) in
            subst (λ (xs : List CharName). Contains xs name) (sym (cond-true _ _ _ yes))
            (subst (Contains (last_of r ∷ lasts_of so rest)) same (Contains-head (last_of r) (lasts_of so rest)))
        | inr after ↦
            let held = has_last rest (rest_set r rest set) name (of_rest r rest name is after) in
            elim (cases_Bool test) [
              | inl e ↦ subst (λ (xs : List CharName). Contains xs name) (sym (cond-true _ _ _ e))
                  (Contains-tail (last_of r) (lasts_of so rest) name held)
              | inr e ↦ subst (λ (xs : List CharName). Contains xs name) (sym (cond-false _ _ _ e)) held
            ]
      ]

  -- they are these
  pub are_lasts : (ranges : List Range) → IsSet ranges → (name : CharName)
      → Contains (lasts_of so ranges) name ↔ IsLastSo so ranges name
  are_lasts ranges set name = (is_last ranges set name, has_last ranges set name)

  -- rising
  pub lasts_rise : (ranges : List Range) → IsSet ranges → AllPairs (λ a b. a.site < b.site) (lasts_of so ranges)
  lasts_rise [] set = λ i j d lt within. absurd (omega arith)
  lasts_rise (r ∷ rest) set =
      let rises : AllPairs (λ (a b : CharName). a.site < b.site) (lasts_of so rest) =
      lasts_rise rest (rest_set r rest set) in
      elim (cases_Bool (ends_site r rest && so (last_of r))) [
        | inl e ↦
            let both = and_parts (ends_site r rest) (so (last_of r)) e in
            subst (AllPairs (λ (a b : CharName). a.site < b.site)) (sym (cond-true _ _ _ e))
            (AllPairs-cons (λ (a b : CharName). a.site < b.site) (last_of r) (lasts_of so rest) (λ k d lt.
            let is = is_last rest (rest_set r rest set) (get_or (lasts_of so rest) k d)
            (Contains-get_or (lasts_of so rest) k d lt) in
            let (n, s, less, at, in_s) = is.among in
            let more = later r rest set both.0 s (n, less, at) in
            let site = in_s.0 in
            omega arith) rises)
        | inr e ↦ subst (AllPairs (λ (a b : CharName). a.site < b.site)) (sym (cond-false _ _ _ e)) rises
      ]

  -- what is so of a name is so of the later ones of its number
  pub record IsUpward : Type 0 where
    pub up : (a b : CharName) → a.site ≡ b.site → a.off ≤ b.off → so a ≡ true → so b ≡ true

  more_than_rest : (r : Range) (rest : List Range) → 0 < length (lasts_of so rest)
      → 0 < length (lasts_of so (r ∷ rest))
  more_than_rest r rest some =
      elim (cases_Bool (ends_site r rest && so (last_of r))) [
        | inl e ↦ subst (λ (xs : List CharName). 0 < length xs) (sym (cond-true _ _ _ e)) (omega arith)
        | inr e ↦ subst (λ (xs : List CharName). 0 < length xs) (sym (cond-false _ _ _ e)) some
      ]

  -- where one name is so, a last one is
  pub some_last : IsUpward → (ranges : List Range) → IsSet ranges → (name : CharName) → IsAmong ranges name
      → so name ≡ true → 0 < length (lasts_of so ranges)
  some_last upward [] set name among is = absurd (none_among name among)
  some_last upward (r ∷ rest) set name among is =
      let on : (other : CharName) → IsAmong rest other → so other ≡ true → 0 < length (lasts_of so (r ∷ rest)) =
      λ other after too. more_than_rest r rest
      (some_last upward rest (rest_set r rest set) other after too) in
      elim (among_cases r rest name among) [
        | inr after ↦ on name after is
        | inl first ↦ elim (cases_Bool (ends_site r rest)) [
          | inl e ↦
              let too = upward.up name (last_of r) first.0 (not_after_last r name first) is in
              subst (λ (xs : List CharName). 0 < length xs) (sym (cond-true _ _ _ (and_from _ _ e too))) (omega arith)
          | inr e ↦
              let (t, held, same) = goes_on r rest e in
              let (k, lt, at) = held in
              let range : IsRange t = subst IsRange at ((rest_set r rest set).ranges k t lt) in
              let upto = not_after_last r name first in
              let apart = ends_before r t (stands_before r rest set t held) (sym same) in
              on (last_of t) (k, t, lt, at, has_its_last t range)
              (upward.up name (last_of t) (first.0 ∙ sym same) (omega arith) is)
        ]
      ]
