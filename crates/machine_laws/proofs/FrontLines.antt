-- Lines of fronts are told apart, so they tell the fronts.
use Rattle.std.proofs.Common.{◌≡◌, ℕ, zero, suc, ◌<◌, ◌≤◌, ◌^◌, List, [], ◌∷◌, ◌++◌, drop, length, get_or, Bool, true}
use Rattle.std.proofs.Common.{false, inl, inr, refl, sym, ap, subst, ◌∙◌, append_assoc, arith}
use Rattle.std.specs.Prelude.{Contains, codes, if◌then◌else◌, ◌==◌}
use Rattle.std.specs.Fmt.{decimal}
use Rattle.std.specs.List.{flat_map}
use Rattle.std.specs.Str.{all_ascii_digits}
use Rattle.std.proofs.lemmas.Bool.{cases_lt}
use Rattle.std.proofs.lemmas.List.{append_cancel_right}
use Rattle.std.proofs.lemmas.Fmt.{decimal_injective, digits_decimal}
use Rattle.std.proofs.lemmas.Str.Parse.{numerals_by_value, tells_all_ascii_digits}
use Rattle.operations.specs.Operation.{Operation}
use Rattle.set_laws.specs.Fronts.{AreSites, front_of, of_site}
use Rattle.texts.specs.TextState.{TextState}
use Rattle.machine_laws.specs.Laws.{FrontLinesDetermineFronts, HaveMessageNumbers}
use Rattle.machine_laws.proofs.RisingSites.{here, there}
use Rattle.machine.specs.Printing.{front_line, front_lines, waiting_line}

-- digits as tests see them
abbrev AreDigits : List ℕ → Type 0
AreDigits ds = all_ascii_digits ds ≡ true

digits_of_decimal : (n : ℕ) → n < 2 ^ 64 → AreDigits (decimal n)
digits_of_decimal n small = digits_decimal (numerals_by_value AreDigits tells_all_ascii_digits) n small

same_first : (x y : ℕ) (xs ys : List ℕ) → x ∷ xs ≡ y ∷ ys → x ≡ y
same_first x y xs ys e = ap (λ (l : List ℕ). get_or l 0 0) e

same_rest : (x y : ℕ) (xs ys : List ℕ) → x ∷ xs ≡ y ∷ ys → xs ≡ ys
same_rest x y xs ys e = ap (λ (l : List ℕ). drop 1 l) e

-- digits end at the first byte that is none
split : (c : ℕ) (ds es rest rest' : List ℕ) → c < 48 → AreDigits ds → AreDigits es → ds ++ c ∷ rest ≡ es ++ c ∷ rest'
    → (ds ≡ es) × (rest ≡ rest')
split c [] [] rest rest' below digits digits' same = (refl, same_rest c c rest rest' same)
split c [] (e ∷ es) rest rest' below digits digits' same =
    absurd (omega (
      arith,
      same_first c e rest (es ++ c ∷ rest') same,
      (tells_all_ascii_digits.parts e es digits').0.0,
      below,
    ))
split c (d ∷ ds) [] rest rest' below digits digits' same =
    absurd (omega (
      arith,
      same_first d c (ds ++ c ∷ rest) rest' same,
      (tells_all_ascii_digits.parts d ds digits).0.0,
      below,
    ))
split c (d ∷ ds) (e ∷ es) rest rest' below digits digits' same =
    let first : d ≡ e = same_first d e (ds ++ c ∷ rest) (es ++ c ∷ rest') same in
    let both = split c ds es rest rest' below (tells_all_ascii_digits.parts d ds digits).1
    (tells_all_ascii_digits.parts e es digits').1
    (same_rest d e (ds ++ c ∷ rest) (es ++ c ∷ rest') same) in
    ((λ i. first i ∷ both.0 i), both.1)

-- a number that ends in such a byte is told
same_number : (c m n : ℕ) (rest rest' : List ℕ) → c < 48 → m < 2 ^ 64 → n < 2 ^ 64
    → decimal m ++ c ∷ rest ≡ decimal n ++ c ∷ rest' → (m ≡ n) × (rest ≡ rest')
same_number c m n rest rest' below small small' same =
    let both = split c (decimal m) (decimal n) rest rest' below (digits_of_decimal m small)
    (digits_of_decimal n small') same in
    (decimal_injective m n small small' both.0, both.1)

-- a line, with what comes after it
put_line : (word a b rest : List ℕ)
    → ((word ++ (a ++ 32 ∷ b)) ++ 10 ∷ []) ++ rest ≡ word ++ (a ++ 32 ∷ (b ++ 10 ∷ rest))
put_line word a b rest =
    append_assoc (word ++ (a ++ 32 ∷ b)) (10 ∷ []) rest ∙ append_assoc word (a ++ 32 ∷ b) (10 ∷ rest)
    ∙ ap (λ (l : List ℕ). word ++ l) (append_assoc a (32 ∷ b) (10 ∷ rest))

abbrev lines : (ℕ → ℕ) → List ℕ → List ℕ → List ℕ
lines f sites rest = flat_map (λ site. front_line site (f site)) sites ++ rest

first_line : (f : ℕ → ℕ) (x : ℕ) (xs rest : List ℕ)
    → lines f (x ∷ xs) rest ≡ codes "front " ++ (decimal x ++ 32 ∷ (decimal (f x) ++ 10 ∷ lines f xs rest))
first_line f x xs rest =
    append_assoc (front_line x (f x)) (flat_map (λ site. front_line site (f site)) xs) rest
    ∙ put_line (codes "front ") (decimal x) (decimal (f x)) (lines f xs rest)

-- the sites of a list, and all fronts, are numbers of 64 bits
abbrev AreSmall : (ℕ → ℕ) → List ℕ → Type 0
AreSmall f xs = (s : ℕ) → Contains xs s → (s < 2 ^ 64) × (f s < 2 ^ 64)

-- the same lines tell of each site of the first the same front
told : (f g : ℕ → ℕ) (xs ys : List ℕ) (v w : ℕ) → AreSmall f xs → AreSmall g ys
    → lines f xs (waiting_line v) ≡ lines g ys (waiting_line w) → (s : ℕ) → Contains xs s → f s ≡ g s
told f g [] ys v w small small' same s (k, within, is) = absurd (omega (arith, within))
told f g (x ∷ xs) [] v w small small' same s at =
    let word = sym (first_line f x xs (waiting_line v)) ∙ same in
    let first : 102 ≡ 119 = ap (λ (l : List ℕ). get_or l 0 0) word in
    absurd (omega (arith, first))
told f g (x ∷ xs) (y ∷ ys) v w small small' same s at =
    let both = sym (first_line f x xs (waiting_line v)) ∙ same ∙ first_line g y ys (waiting_line w) in
    let after : decimal x ++ 32 ∷ (decimal (f x) ++ 10 ∷ lines f xs (waiting_line v))
    ≡ decimal y ++ 32 ∷ (decimal (g y) ++ 10 ∷ lines g ys (waiting_line w))
    = ap (λ (l : List ℕ). drop 6 l) both in
    let of_x = small x (here x xs) in
    let of_y = small' y (here y ys) in
    let site = same_number 32 x y (decimal (f x) ++ 10 ∷ lines f xs (waiting_line v))
    (decimal (g y) ++ 10 ∷ lines g ys (waiting_line w)) (omega arith) of_x.0 of_y.0 after in
    let front = same_number 10 (f x) (g y) (lines f xs (waiting_line v)) (lines g ys (waiting_line w)) (omega arith)
    of_x.1 of_y.1 site.1 in
    at_place s at (front.0 ∙ ap g (sym site.0))
    (λ before. told f g xs ys v w (λ s at. small s (there x xs s at)) (λ s at. small' s (there y ys s at))
    front.1 s before)
  where
    at_place : (s : ℕ) → Contains (x ∷ xs) s → f x ≡ g x → (Contains xs s → f s ≡ g s) → f s ≡ g s
    at_place s (zero, within, is) one rest = subst (λ (z : ℕ). f z ≡ g z) is one
    at_place s (suc k, within, is) one rest = rest (k, omega arith, is)

-- an operation's number, where it is of the site
of_test : (b : Bool) (n bound : ℕ) → n < bound → 0 < bound → (if b then n else 0) < bound
of_test true n bound small some = small
of_test false n bound small some = some

numbered_rest : (op : Operation) (ops : List Operation) → HaveMessageNumbers (op ∷ ops) → HaveMessageNumbers ops
numbered_rest op ops are k d within = are (suc k) d (omega arith)

pub small_front : (ops : List Operation) (site : ℕ) → HaveMessageNumbers ops → front_of ops site < 2 ^ 32
small_front [] site are = omega arith
small_front (op ∷ ops) site are =
    let own = of_test (op.site == site) op.seq (2 ^ 32) (are 0 op (omega arith)).1 (omega arith) in
    omega (arith, own, small_front ops site (numbered_rest op ops are))

-- a site that has operations is one of theirs
small_site : (ops : List Operation) (site : ℕ) → HaveMessageNumbers ops → 0 < front_of ops site → site < 2 ^ 16
small_site [] site are some = absurd (omega (arith, some))
small_site (op ∷ ops) site are some = elim (cases_lt 0 (front_of ops site)) [
  | inl more ↦ small_site ops site (numbered_rest op ops are) more
  | inr none ↦ by_test (op.site == site) refl none
]
  where
    by_test : (b : Bool) → (op.site == site) ≡ b → front_of ops site ≤ 0 → site < 2 ^ 16
    by_test true test none = grind (arith, test, (are 0 op (omega arith)).0)
    by_test false test none =
        let of_other : of_site site (λ op. op.seq) op ≡ 0 = rw test refl in
        absurd (omega (arith, some, none, of_other))

small_sites : (ops : List Operation) (sites : List ℕ) → HaveMessageNumbers ops → AreSites ops sites
    → AreSmall (front_of ops) sites
small_sites ops sites numbered are s at =
    let site : s < 2 ^ 16 = small_site ops s numbered ((are.all s).0 at) in
    let front : front_of ops s < 2 ^ 32 = small_front ops s numbered in
    (omega (arith, site), omega (arith, front))

-- what is printed before how many wait are the lines of the fronts
before : (t : TextState) (text sites : List ℕ) → text ++ waiting_line (length t.waiting_room) ≡ front_lines t sites
    → text ≡ flat_map (λ site. front_line site (front_of t.operations site)) sites
before t text sites is =
    append_cancel_right text (flat_map (λ site. front_line site (front_of t.operations site)) sites)
    (waiting_line (length t.waiting_room)) is

pub fronts-lines : FrontLinesDetermineFronts
fronts-lines t u text numbered numbered' (sites, are, is) (sites', are', is') s =
    let small = small_sites t.operations sites numbered are in
    let small' = small_sites u.operations sites' numbered' are' in
    let same : lines (front_of t.operations) sites (waiting_line 0) ≡ lines (front_of u.operations) sites' (waiting_line 0)
    = ap (λ (l : List ℕ). l ++ waiting_line 0) (sym (before t text sites is) ∙ before u text sites' is') in
    elim (cases_lt 0 (front_of t.operations s)) [
      | inl more ↦ told (front_of t.operations) (front_of u.operations) sites sites' 0 0 small small' same s
          ((are.all s).1 more)
      | inr none ↦ elim (cases_lt 0 (front_of u.operations s)) [
        | inl more ↦ sym (told (front_of u.operations) (front_of t.operations) sites' sites 0 0 small' small
            (sym same) s ((are'.all s).1 more))
        | inr none' ↦ omega (arith, none, none')
      ]
    ]
