-- The ranges of names: they have these names, none goes on with the next, and none is empty.
use Rattle.std.proofs.Common.{◌≡◌, ℕ, suc, ◌+◌, ◌<◌, ◌==◌, ◌&&◌, Bool, true, false, if◌then◌else◌, List, [], ◌∷◌, ◌++◌, refl, ap, ◌∙◌, arith}
use Rattle.std.proofs.lemmas.Bool.{and_parts, eqb-true}
use Rattle.char_files.specs.CharName.{CharName}
use Rattle.operations.specs.NameSet.{Range, names_in, names_of, of_name, touches, with_first}
use Rattle.machine.specs.NamesShown.{ranges_of}
use Rattle.desk_texts.specs.Laws.{AreApart}

-- what touching comes to
module _ (r s : Range) (touching : touches r s ≡ true) where
  abbrev parts : ((r.site == s.site) ≡ true) × ((r.at + r.len == s.at) ≡ true)
  parts = and_parts (r.site == s.site) (r.at + r.len == s.at) touching

  one_site : r.site ≡ s.site
  one_site = eqb-true r.site s.site parts.0

  goes_on : r.at + r.len ≡ s.at
  goes_on = eqb-true (r.at + r.len) s.at parts.1

-- a range that ends where another one does touches what that touches
ends_alike : (r s u : Range) → r.site ≡ s.site → r.at + r.len ≡ s.at + s.len → touches r u ≡ touches s u
ends_alike r s u site end = λ k. (site k == u.site) && (end k == u.at)

-- the names of a range that a name goes before
names_before : (name : CharName) (s : Range) → touches (of_name name) s ≡ true
    → names_of (record (of_name name) { len = 1 + s.len }) ≡ name ∷ names_of s
names_before name s touching =
    let more : 1 + s.len ≡ suc s.len = omega arith in
    ap (λ (n : ℕ). names_of (record { site = name.site; at = name.off; len = n })) more
    ∙ (λ k. name ∷ names_of (record { site = one_site (of_name name) s touching k; at = goes_on (of_name name) s touching k; len = s.len }))

-- the ranges with a name before them have that name and theirs
with_name_before : (name : CharName) (ranges : List Range)
    → names_in (with_first (of_name name) ranges) ≡ name ∷ names_in ranges
with_name_before name [] = refl
with_name_before name (s ∷ ranges) = go (touches (of_name name) s) refl
  where
    go : (b : Bool) → touches (of_name name) s ≡ b
        → names_in (if b then record (of_name name) { len = 1 + s.len } ∷ ranges else of_name name ∷ s ∷ ranges)
        ≡ name ∷ names_in (s ∷ ranges)
    go true is = ap (λ (names : List CharName). names ++ names_in ranges) (names_before name s is)
    go false is = refl

-- so names make ranges that have them
pub ranges_have_the_names : (names : List CharName) → names_in (ranges_of names) ≡ names
ranges_have_the_names [] = refl
ranges_have_the_names (name ∷ names) =
    with_name_before name (ranges_of names) ∙ ap (λ (others : List CharName). name ∷ others) (ranges_have_the_names names)

-- none of which goes on with the next
longer_apart : (name : CharName) (s : Range) (ranges : List Range) → touches (of_name name) s ≡ true → AreApart (s ∷ ranges)
    → AreApart (record (of_name name) { len = 1 + s.len } ∷ ranges)
longer_apart name s [] touching are = tt
longer_apart name s (u ∷ ranges) touching are =
    let same : touches (record (of_name name) { len = 1 + s.len }) u ≡ touches s u =
    ends_alike (record (of_name name) { len = 1 + s.len }) s u (one_site (of_name name) s touching)
    (omega (arith, goes_on (of_name name) s touching)) in
    (same ∙ are.0, are.1)

apart_with : (name : CharName) (ranges : List Range) → AreApart ranges → AreApart (with_first (of_name name) ranges)
apart_with name [] are = tt
apart_with name (s ∷ ranges) are = go (touches (of_name name) s) refl
  where
    go : (b : Bool) → touches (of_name name) s ≡ b
        → AreApart (if b then record (of_name name) { len = 1 + s.len } ∷ ranges else of_name name ∷ s ∷ ranges)
    go true is = longer_apart name s ranges is are
    go false is = (is, are)

pub ranges_are_apart : (names : List CharName) → AreApart (ranges_of names)
ranges_are_apart [] = tt
ranges_are_apart (name ∷ names) = apart_with name (ranges_of names) (ranges_are_apart names)

-- and none is empty
abbrev pub HaveNames : List Range → Type 0
HaveNames [] = Unit {0}
HaveNames (r ∷ ranges) = (0 < r.len) × HaveNames ranges

have_names_with : (name : CharName) (ranges : List Range) → HaveNames ranges → HaveNames (with_first (of_name name) ranges)
have_names_with name [] some = (omega arith, tt)
have_names_with name (s ∷ ranges) some = go (touches (of_name name) s)
  where
    go : (b : Bool)
        → HaveNames (if b then record (of_name name) { len = 1 + s.len } ∷ ranges else of_name name ∷ s ∷ ranges)
    go true = (omega arith, some.1)
    go false = (omega arith, some)

pub ranges_have_names : (names : List CharName) → HaveNames (ranges_of names)
ranges_have_names [] = tt
ranges_have_names (name ∷ names) = have_names_with name (ranges_of names) (ranges_have_names names)
