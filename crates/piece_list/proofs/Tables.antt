-- Tables that grow, and tables in which a piece is entered.
use Rattle.std.proofs.Common.{◌≡◌, ℕ, zero, suc, ◌+◌, ◌-◌, ◌<◌, ◌≤◌, Bool, ne_eqb, List, [], ◌∷◌, ◌++◌, Option, None, Some}
use Rattle.std.proofs.Common.{get_or, map, length, take, drop, replicate}
use Rattle.std.proofs.Common.{refl, sym, ap, ◌∙◌, arith, if◌then◌else◌}
use Rattle.std.proofs.lemmas.List.{length-map, length-replicate, length-take-le}
use Rattle.std.proofs.lemmas.List.{get_or_append_left, get_or-append_right, get_or-take, get_or-drop, get_or-replicate}
use Rattle.piece_list.specs.declared.tags.TheConstants.{NO_TAG}
use Rattle.piece_list.specs.Tables.{tag_in, tag_of, written}

-- a table that gains an empty entry says the same
pub pushed_none : {X : Type 0} (tags : List X) (none : X) (off : ℕ)
    → get_or (tags ++ none ∷ []) off none ≡ get_or tags off none
pushed_none [] none zero = refl
pushed_none [] none (suc off) = refl
pushed_none (t ∷ tags) none zero = refl
pushed_none (t ∷ tags) none (suc off) = pushed_none tags none off

-- what an entry of four bytes says
pub tag_read : (tags : List ℕ) (off : ℕ) → tag_in (map tag_of tags) off ≡ tag_of (get_or tags off NO_TAG)
tag_read [] off = refl
tag_read (t ∷ tags) zero = refl
tag_read (t ∷ tags) (suc off) = tag_read tags off

pub tag_is : (tag : ℕ) → tag < NO_TAG → tag_of tag ≡ Some tag
tag_is tag lt =
    ap (λ (b : Bool). if b then None else Some tag) (ne_eqb tag NO_TAG (λ is. absurd (omega (arith, lt, is))))

-- entries that are the same say the same
pub same_tag : (old new : List ℕ) (off : ℕ) → get_or new off NO_TAG ≡ get_or old off NO_TAG
    → tag_in (map tag_of new) off ≡ tag_in (map tag_of old) off
same_tag old new off is = tag_read new off ∙ ap tag_of is ∙ sym (tag_read old off)

-- a table is as long as what it is seen as
pub long_enough : (tags : List ℕ) (seen : List (Option ℕ)) (n : ℕ) → map tag_of tags ≡ seen → n ≤ length seen → n ≤ length tags
long_enough tags seen n is le = omega (arith, ap length is, length-map tags tag_of, le)

pub written_inside : (old : List ℕ) (off len tag at none : ℕ) → off + len ≤ length old → off ≤ at → at < off + len
    → get_or (written old off len tag) at none ≡ tag
written_inside old off len tag at none fits from to =
    let front : length (take off old) ≡ off = length-take-le off old (omega arith) in
    let here : at - off < len = omega arith in
    let row : at - off < length (replicate len tag) = rw length-replicate here in
    get_or-append_right (take off old) (replicate len tag ++ drop (off + len) old) off at none front from
    ∙ get_or_append_left (replicate len tag) (drop (off + len) old) none (at - off) row
    ∙ get_or-replicate len (at - off) tag none here

pub written_before : (old : List ℕ) (off len tag at none : ℕ) → off + len ≤ length old → at < off
    → get_or (written old off len tag) at none ≡ get_or old at none
written_before old off len tag at none fits lt =
    let front : length (take off old) ≡ off = length-take-le off old (omega arith) in
    get_or_append_left (take off old) (replicate len tag ++ drop (off + len) old) none at (omega arith)
    ∙ get_or-take off old at none lt

pub written_after : (old : List ℕ) (off len tag at none : ℕ) → off + len ≤ length old → off + len ≤ at
    → get_or (written old off len tag) at none ≡ get_or old at none
written_after old off len tag at none fits from =
    let front : length (take off old) ≡ off = length-take-le off old (omega arith) in
    let back : off + len + (at - off - len) ≡ at = omega arith in
    get_or-append_right (take off old) (replicate len tag ++ drop (off + len) old) off at none front (omega arith)
    ∙ get_or-append_right (replicate len tag) (drop (off + len) old) len (at - off) none (length-replicate len tag) (omega arith)
    ∙ get_or-drop (off + len) old (at - off - len) none
    ∙ ap (λ (k : ℕ). get_or old k none) back
