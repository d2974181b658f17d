use Rattle.std.proofs.Common.{◌≡◌, ◌+◌, ◌-◌, ◌++◌, ℕ, List, filter, append-nil, append_assoc, sym, ap, ◌∙◌, arith}
use Rattle.char_files.specs.CharName.{CharName}
use Rattle.operations.specs.NameSet.{Range, IsIn, names_in, names_of}
use Rattle.tree_order.specs.Shown.{is_visible}
use Rattle.taken_text.specs.Named.{has_visibility}
use Rattle.taken_text.proofs.Alike.{kept_here, kept_later, none_left, range, same_len}
use Rattle.taken_text.proofs.taken_text.TakenText.gather_from.Goals as goal
use Rattle.taken_text.proofs.taken_text.TakenText.gather_from.Goals.{After-first_alike-shown, then-shown-visible+in_ok-push_joined, else-shown-visible}

pub loop-at-init : goal.loop-at-init
loop-at-init c = record {
  after = omega (arith, c.at.ensures, c.len.ensures.value);
  low = omega (arith, c.at-at.ensures);
  high = omega (arith, c.at-at.ensures, c.at.ensures);
  left = ap (λ (names : List CharName). names_in c.args.found.now.items ++ filter (has_visibility c.args.self.now.operations c.args.visible) names)
      (sym (same_len c.args.range c.at-at.result (c.at.result + c.len.result) c.at-at.ensures (omega (arith, c.at.ensures, c.len.ensures.value))));
}

pub first_alike-shown-requires : goal.first_alike-shown-requires
first_alike-shown-requires c = λ name held. c.requires name (
  held.0 ∙ ap (λ (r : Range). r.site) c.new.ensures ∙ c.site.ensures,
  omega (arith, held.1, ap (λ (r : Range). r.at) c.new.ensures, c.loop-at.invariant.low),
  omega (arith, held.2, ap (λ (r : Range). r.at) c.new.ensures, ap (λ (r : Range). r.len) c.new.ensures, c.loop-at.invariant.after),
)

-- the first names are alike, as many as were found, and the others come after them
abbrev alike : (c : After-first_alike-shown) → (name : CharName)
    → IsIn (range c.args.range.site c.loop-at.at c.first_alike-shown.result.1) name → is_visible c.args.self.now.operations name ≡ c.first_alike-shown.result.0
alike c name held = c.first_alike-shown.ensures.alike name (
  held.0 ∙ sym (ap (λ (r : Range). r.site) c.new.ensures ∙ c.site.ensures),
  omega (arith, held.1, ap (λ (r : Range). r.at) c.new.ensures),
  omega (arith, held.2, ap (λ (r : Range). r.at) c.new.ensures),
)

parted : (c : After-first_alike-shown) → c.at.result + c.len.result - c.loop-at.at
    ≡ c.first_alike-shown.result.1 + (c.at.result + c.len.result - (c.loop-at.at + c.first_alike-shown.result.1))
parted c = omega (arith, c.loop-at.invariant.high, c.first_alike-shown.ensures.within, ap (λ (r : Range). r.len) c.new.ensures)

pub loop-at-preserved : goal.loop-at-preserved
loop-at-preserved c =
    let at = (goal.at.loop-at-preserved c).After-first_alike-shown in
    let test = has_visibility c.args.self.now.operations c.args.visible in
    let before : List Range = c.loop-at.found.items in
    let n : ℕ = c.first_alike-shown.result.1 in
    let m : ℕ = c.at.result + c.len.result - (c.loop-at.at + n) in
    let later : List CharName = names_of (range c.args.range.site (c.loop-at.at + n) m) in
    let left =
    ap (λ (len : ℕ). names_in before ++ filter test (names_of (range c.args.range.site c.loop-at.at len))) (sym (parted at))
    ∙ c.loop-at.invariant.left in
    record {
      after = c.loop-at.invariant.after;
      low = omega (arith, c.loop-at.invariant.low);
      high = omega (arith, c.loop-at.invariant.high, c.first_alike-shown.ensures.within, ap (λ (r : Range). r.len) c.new.ensures);
      left = elim c.if-shown-visible.branch [
        | then-shown-visible+in_ok-push_joined w ↦
            let r : Range = w.new-then-shown-visible.result in
            let is : r ≡ range c.args.range.site c.loop-at.at n =
            w.new-then-shown-visible.ensures ∙ ap (λ (site : ℕ). range site c.loop-at.at n) w.site-then-shown-visible.ensures in
            ap (λ (names : List CharName). names ++ filter test later)
            (ap (λ v. names_in v.items) w.found-is ∙ w.in_ok-push_joined.ensures.ok)
            ∙ append_assoc (names_in before) (names_of r) (filter test later)
            ∙ ap (λ (names : List CharName). names_in before ++ names) (
            ap (λ (s : Range). names_of s ++ filter test later) is
            ∙ sym (kept_here c.args.self.now.operations c.args.visible c.first_alike-shown.result.0 c.args.range.site c.loop-at.at n m
            (alike at) w.if-shown-visible.true))
            ∙ left
        | else-shown-visible w ↦
            ap (λ v. names_in v.items ++ filter test later) w.found-is
            ∙ ap (λ (names : List CharName). names_in before ++ names)
            (sym (kept_later c.args.self.now.operations c.args.visible c.first_alike-shown.result.0 c.args.range.site c.loop-at.at n m
            (alike at) w.if-shown-visible.false))
            ∙ left
      ];
    }

pub returns-clause-ok : goal.returns-clause-ok
returns-clause-ok c =
    let test = has_visibility c.args.self.now.operations c.args.visible in
    sym (append-nil (names_in c.loop-at.found.items))
    ∙ ap (λ (names : List CharName). names_in c.loop-at.found.items ++ filter test names)
    (sym (none_left c.args.range.site c.loop-at.at (c.at.result + c.len.result - c.loop-at.at) (omega (arith, c.loop-at-test.false))))
    ∙ c.loop-at.invariant.left
