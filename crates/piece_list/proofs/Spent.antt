-- How many pieces a switch has yet to switch.
use Rattle.std.proofs.Common.{◌≡◌, ℕ, ◌+◌, ◌*◌, ◌≤◌, Bool, true, false, if◌then◌else◌, not, Some, List, [], ◌∷◌, ◌++◌}
use Rattle.std.proofs.Common.{length, refl, sym, ap, subst, ◌∙◌, arith}
use Rattle.std.proofs.lemmas.List.Sums.{sum_by-append, sum_by-cons}
use Rattle.std.specs.Prelude.{Vec, vec_len}
use Rattle.std.specs.declared.alloc.Global.{Global}
use Rattle.looks.specs.declared.key.Key.{Key}
use Rattle.list_changes.specs.declared.change.Change.{Change}
use Rattle.piece_raw.specs.Ring.{AreTags, IsMember, with_value}
use Rattle.piece_list.specs.declared.setting.Setting.{Setting}
use Rattle.piece_list.specs.declared.setting.Setting.TheVariants.{Switch, Relook}
use Rattle.piece_list.specs.Changing.{changed_piece, differs, unlike}
use Rattle.piece_list.specs.Held.{IsSplit}
use Rattle.piece_list.specs.Noted.{IsSpent, ShowsOther}
use Rattle.piece_list.specs.Piece.{Piece, PieceRegister}
use Rattle.piece_list.specs.Pieces.{gives_way, piece_front, rest_of}
use Rattle.piece_list.proofs.Splitting.{written}

abbrev Items : Type 0
Items = List (ℕ × Piece)

abbrev pub Note : Type 0
Note = Vec Change Global

abbrev each : Bool → ℕ × Piece → ℕ
each hidden m = differs hidden m.1.hidden.value

at_most_one : (hidden value : Bool) → differs hidden value ≤ 1
at_most_one true true = omega arith
at_most_one true false = omega arith
at_most_one false true = omega arith
at_most_one false false = omega arith

differs_not : (hidden : Bool) → differs hidden (not hidden) ≡ 1
differs_not true = refl
differs_not false = refl

differs_same : (hidden : Bool) → differs hidden hidden ≡ 0
differs_same true = refl
differs_same false = refl

-- no more pieces than there are
pub no_more_unlike : (hidden : Bool) (items : Items) → unlike hidden items ≤ length items
no_more_unlike hidden [] = omega arith
no_more_unlike hidden (m ∷ items) =
    omega (arith, sum_by-cons (each hidden) m items, at_most_one hidden m.1.hidden.value, no_more_unlike hidden items)

-- a piece among others
parts : (hidden : Bool) (xs ys : Items) (tag : ℕ) (p : Piece)
    → unlike hidden (xs ++ (tag, p) ∷ ys) ≡ unlike hidden xs + (differs hidden p.hidden.value + unlike hidden ys)
parts hidden xs ys tag p =
    sum_by-append (each hidden) xs ((tag, p) ∷ ys)
    ∙ ap (λ (n : ℕ). unlike hidden xs + n) (sum_by-cons (each hidden) (tag, p) ys)

-- a split makes one more at most
pub unlike_after_split : (old new : Items) (tag n u : ℕ) → IsSplit tag n u old new → (hidden : Bool)
    → unlike hidden new ≤ unlike hidden old + 1
unlike_after_split old new tag n u split hidden =
    let p : Piece = split.piece in
    omega (
      arith,
      at_most_one hidden p.hidden.value,
      ap (unlike hidden) split.whole ∙ parts hidden split.before split.after tag p,
      ap (unlike hidden) split.parts ∙ parts hidden split.before ((u, rest_of n p) ∷ split.after) tag (piece_front n p),
      sum_by-cons (each hidden) (u, rest_of n p) split.after,
    )

-- what a switch offers to a register
offered : (hidden gives : Bool) (key : Key) (r : PieceRegister Bool)
    → differs hidden (if gives then record { by = Some key; value = hidden } else r).value ≤ differs hidden r.value
offered true true key r = omega arith
offered false true key r = omega arith
offered hidden false key r = omega arith

pub spent_none : (setting : Setting) (splits : ℕ) (note : Note) (items : Items) → IsSpent setting splits note note items items
spent_none (Switch hidden key) splits note items = omega arith
spent_none (Relook sel looks key) splits note items = tt

pub spent_on : (setting : Setting) (old mid new : Note) (was between now : Items)
    → IsSpent setting 0 old mid was between → IsSpent setting 0 mid new between now → IsSpent setting 0 old new was now
spent_on (Switch hidden key) old mid new was between now one two = omega (arith, one, two)
spent_on (Relook sel looks key) old mid new was between now one two = tt

pub spent_more : (setting : Setting) (i : ℕ) (old mid new : Note) (was between split now : Items)
    → ((hidden : Bool) → unlike hidden split ≤ unlike hidden between + 2)
    → IsSpent setting (2 * i) old mid was between → IsSpent setting 0 mid new split now
    → IsSpent setting (2 * (i + 1)) old new was now
spent_more (Switch hidden key) i old mid new was between split now cut one two = omega (arith, cut hidden, one, two)
spent_more (Relook sel looks key) i old mid new was between split now cut one two = tt

-- of a piece of a list, before and after it is set
module _ (items : Items) (tag : ℕ) (p w : Piece) (are : AreTags items) where
  counted : (hidden : Bool) → IsMember items tag p → (rest : ℕ)
      × (unlike hidden items ≡ rest + differs hidden p.hidden.value)
      × (unlike hidden (with_value tag w items) ≡ rest + differs hidden w.hidden.value)
  counted hidden (xs, ys, is) =
      let set : with_value tag w items ≡ xs ++ (tag, w) ∷ ys =
      ap (with_value tag w) is ∙ written xs ys tag p w (subst AreTags is are) in (
        unlike hidden xs + unlike hidden ys,
        omega (arith, ap (unlike hidden) is ∙ parts hidden xs ys tag p),
        omega (arith, ap (unlike hidden) set ∙ parts hidden xs ys tag w),
      )

  -- an entry is of a piece that is switched
  pub spent_turn : (setting : Setting) (old new : Note) → IsMember items tag p → ShowsOther setting p w
      → vec_len new ≡ vec_len old + 1 → IsSpent setting 0 old new items (with_value tag w items)
  spent_turn (Switch hidden key) old new member (was, now) more =
      let (rest, before, after) = counted hidden member in
      omega (arith, more, before, after, ap (differs hidden) was ∙ differs_not hidden, ap (differs hidden) now ∙ differs_same hidden)
  spent_turn (Relook sel looks key) old new member other more = tt

  -- none is of one that stays
  pub spent_still : (setting : Setting) (note : Note) → IsMember items tag p → w ≡ changed_piece setting p
      → IsSpent setting 0 note note items (with_value tag w items)
  spent_still (Switch hidden key) note member is =
      let (rest, before, after) = counted hidden member in
      let less : differs hidden w.hidden.value ≤ differs hidden p.hidden.value =
      subst (λ (q : Piece). differs hidden q.hidden.value ≤ differs hidden p.hidden.value) (sym is)
      (offered hidden (gives_way p.hidden.by key) key p.hidden) in
      omega (arith, before, after, less)
  spent_still (Relook sel looks key) note member is = tt
