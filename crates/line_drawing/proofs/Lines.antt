-- Lines of lists of bytes.
use Rattle.std.proofs.Common.{◌≡◌, ℕ, zero, suc, ◌+◌, ◌<◌, ◌≤◌, List, [], ◌∷◌, ◌++◌, length, take, get_or, ◌==◌}
use Rattle.std.proofs.Common.{ap, ◌∙◌, ◌≢◌, refl, arith, length-append, Bool, true, false, if◌then◌else◌, eq-eqb, ne_eqb}
use Rattle.std.proofs.lemmas.List.{take-append-le}
use Rattle.line_drawing.specs.declared.drawing.TheConstants.{LINE_END}
use Rattle.line_drawing.specs.Lines.{lines, onto_first, ends_in, line_at, extent, beg_of}
use Rattle.line_drawing.specs.Rows.{Row, cells_of}
use Rattle.line_drawing.specs.Laws.{AreJoined, HasOneLineMore, IsOfItsOwnLine, BegsRise}

pub lines-end : (bytes : List ℕ) (b : ℕ) → b ≡ LINE_END → lines (b ∷ bytes) ≡ [] ∷ lines bytes
lines-end bytes b is = let h : (b == LINE_END) ≡ true = eq-eqb b LINE_END is in
    ap (λ (v : Bool). if v then [] ∷ lines bytes else onto_first b (lines bytes)) h

pub lines-other : (bytes : List ℕ) (b : ℕ) → b ≢ LINE_END → lines (b ∷ bytes) ≡ onto_first b (lines bytes)
lines-other bytes b differs = let h : (b == LINE_END) ≡ false = ne_eqb b LINE_END differs in
    ap (λ (v : Bool). if v then [] ∷ lines bytes else onto_first b (lines bytes)) h

onto-length : (b : ℕ) (ls : List (List ℕ)) → 0 < length ls → length (onto_first b ls) ≡ length ls
onto-length b [] some = absurd (omega (arith, some))
onto-length b (l ∷ ls) some = refl

onto-append : (b : ℕ) (ls ms : List (List ℕ)) → 0 < length ls
    → onto_first b (ls ++ ms) ≡ onto_first b ls ++ ms
onto-append b [] ms some = absurd (omega (arith, some))
onto-append b (l ∷ ls) ms some = refl

onto-extent : (b : ℕ) (ls : List (List ℕ)) → 0 < length ls → extent (onto_first b ls) ≡ suc (extent ls)
onto-extent b [] some = absurd (omega (arith, some))
onto-extent b (l ∷ ls) some = omega arith

pub one_more : (bytes : List ℕ) → HasOneLineMore bytes
one_more [] = refl
one_more (b ∷ bytes) =
    let more : length (lines bytes) ≡ suc (ends_in bytes) = one_more bytes in
    elim (b == LINE_END) as (λ v. length (if v then [] ∷ lines bytes else onto_first b (lines bytes))
    ≡ suc (if v then suc (ends_in bytes) else ends_in bytes)) [
      | true ↦ ap suc more
      | false ↦ onto-length b (lines bytes) (omega (arith, more)) ∙ more
    ]

pub some_line : (bytes : List ℕ) → 0 < length (lines bytes)
some_line bytes = let more : length (lines bytes) ≡ suc (ends_in bytes) = one_more bytes in omega (arith, more)

pub joined : (a b : List ℕ) → AreJoined a b
joined [] b = refl
joined (x ∷ a) b =
    let more : lines (a ++ LINE_END ∷ b) ≡ lines a ++ lines b = joined a b in
    elim (x == LINE_END) as (λ v. (if v then [] ∷ lines (a ++ LINE_END ∷ b) else onto_first x (lines (a ++ LINE_END ∷ b)))
    ≡ (if v then [] ∷ lines a else onto_first x (lines a)) ++ lines b) [
      | true ↦ ap (λ (l : List (List ℕ)). [] ∷ l) more
      | false ↦ ap (onto_first x) more ∙ onto-append x (lines a) (lines b) (some_line a)
    ]

pub extent-lines : (bytes : List ℕ) → extent (lines bytes) ≡ suc (length bytes)
extent-lines [] = refl
extent-lines (b ∷ bytes) =
    let more : extent (lines bytes) ≡ suc (length bytes) = extent-lines bytes in
    elim (b == LINE_END) as (λ v. extent (if v then [] ∷ lines bytes else onto_first b (lines bytes))
    ≡ suc (suc (length bytes))) [
      | true ↦ omega (arith, more)
      | false ↦ onto-extent b (lines bytes) (some_line bytes) ∙ ap suc more
    ]

pub extent-next : (ls : List (List ℕ)) (k : ℕ) → k < length ls
    → extent (take (suc k) ls) ≡ extent (take k ls) + suc (length (get_or ls k []))
extent-next [] k lt = absurd (omega (arith, lt))
extent-next (l ∷ ls) zero lt = omega arith
extent-next (l ∷ ls) (suc k) lt =
    let next : extent (take (suc k) ls) ≡ extent (take k ls) + suc (length (get_or ls k [])) =
    extent-next ls k (omega (arith, lt)) in
    omega (arith, next)

pub extent-take : (ls : List (List ℕ)) (k : ℕ) → extent (take k ls) ≤ extent ls
extent-take [] zero = omega arith
extent-take [] (suc k) = omega arith
extent-take (l ∷ ls) zero = omega arith
extent-take (l ∷ ls) (suc k) = omega (arith, extent-take ls k)

-- a line that there is begins after those before it
pub beg_is : (bytes : List ℕ) (k : ℕ) → k < length (lines bytes)
    → extent (take k (lines bytes)) ≤ length bytes
beg_is bytes k lt =
    omega (
      arith,
      extent-lines bytes,
      extent-next (lines bytes) k lt,
      extent-take (lines bytes) (suc k),
    )

pub begs_rise : (bytes : List ℕ) (k : ℕ) → BegsRise bytes k
begs_rise bytes k lt =
    omega (
      arith,
      beg_is bytes k (omega (arith, lt)),
      beg_is bytes (suc k) lt,
      extent-next (lines bytes) k (omega (arith, lt)),
    )

get_or-front : (xs ys : List (List ℕ)) (k : ℕ) → k < length xs → get_or (xs ++ ys) k [] ≡ get_or xs k []
get_or-front [] ys k lt = absurd (omega (arith, lt))
get_or-front (x ∷ xs) ys zero lt = refl
get_or-front (x ∷ xs) ys (suc k) lt = get_or-front xs ys k (omega (arith, lt))

pub own_line : (a b : List ℕ) (width k : ℕ) → IsOfItsOwnLine a b width k
own_line a b width k lt =
    let all : lines (a ++ LINE_END ∷ b) ≡ lines a ++ lines b = joined a b in
    let front : take k (lines (a ++ LINE_END ∷ b)) ≡ take k (lines a) =
    ap (take k) all ∙ take-append-le k (lines a) (lines b) (omega (arith, lt)) in
    let beg : beg_of (a ++ LINE_END ∷ b) k ≡ beg_of a k =
    omega (arith, ap extent front, beg_is a k lt, length-append a (LINE_END ∷ b)) in
    let line : line_at (a ++ LINE_END ∷ b) k ≡ line_at a k =
    ap (λ (l : List (List ℕ)). get_or l k []) all ∙ get_or-front (lines a) (lines b) k lt in
    let of : ℕ → List ℕ → Row =
    λ (n : ℕ) (l : List ℕ). record { beg = n; end = n + length l; cells = cells_of width l } in
    ap (λ (n : ℕ). of n (line_at (a ++ LINE_END ∷ b) k)) beg ∙ ap (of (beg_of a k)) line
