use Rattle.std.proofs.Common.{◌≡◌, ◌+◌, ◌-◌, ℕ, sym, ap, ◌∙◌, arith}
use Rattle.std.specs.List.{list_any}
use Rattle.char_files.specs.CharName.{CharName}
use Rattle.operations.specs.NameSet.{Range, IsIn, names_of}
use Rattle.tree_order.specs.Shown.{is_visible}
use Rattle.taken_text.specs.Named.{has_visibility}
use Rattle.taken_text.proofs.Alike.{any_here, any_later, none_left, range, same_len}
use Rattle.taken_text.proofs.taken_text.TakenText.has_in.Goals as goal
use Rattle.taken_text.proofs.taken_text.TakenText.has_in.Goals.{After-first_alike-shown}

pub loop-at-init : goal.loop-at-init
loop-at-init c = record {
  after = omega (arith, c.at.ensures, c.len.ensures.value);
  low = omega (arith, c.at-at.ensures);
  high = omega (arith, c.at-at.ensures, c.at.ensures);
  left = ap (list_any (has_visibility c.args.self.now.operations c.args.visible))
      (same_len c.args.range c.at-at.result (c.at.result + c.len.result) c.at-at.ensures (omega (arith, c.at.ensures, c.len.ensures.value)));
}

pub first_alike-shown-requires : goal.first_alike-shown-requires
first_alike-shown-requires c = λ name held. c.requires name (
  held.0 ∙ ap (λ (r : Range). r.site) c.new.ensures ∙ c.site.ensures,
  omega (arith, held.1, ap (λ (r : Range). r.at) c.new.ensures, c.loop-at.invariant.low),
  omega (arith, held.2, ap (λ (r : Range). r.at) c.new.ensures, ap (λ (r : Range). r.len) c.new.ensures, c.loop-at.invariant.after),
)

-- the first names are alike, as many as were found, and the others come after them
abbrev alike : (c : goal.After-first_alike-shown) → (name : CharName)
    → IsIn (range c.args.range.site c.loop-at.at c.first_alike-shown.result.1) name → is_visible c.args.self.now.operations name ≡ c.first_alike-shown.result.0
alike c name held = c.first_alike-shown.ensures.alike name (
  held.0 ∙ sym (ap (λ (r : Range). r.site) c.new.ensures ∙ c.site.ensures),
  omega (arith, held.1, ap (λ (r : Range). r.at) c.new.ensures),
  omega (arith, held.2, ap (λ (r : Range). r.at) c.new.ensures),
)

parted : (c : goal.After-first_alike-shown) → c.at.result + c.len.result - c.loop-at.at
    ≡ c.first_alike-shown.result.1 + (c.at.result + c.len.result - (c.loop-at.at + c.first_alike-shown.result.1))
parted c = omega (arith, c.loop-at.invariant.high, c.first_alike-shown.ensures.within, ap (λ (r : Range). r.len) c.new.ensures)

pub returns-then-shown-visible : goal.returns-then-shown-visible
returns-then-shown-visible c =
    let at = (goal.at.returns-then-shown-visible c).After-first_alike-shown in
    sym (any_here c.args.self.now.operations c.args.visible c.first_alike-shown.result.0 c.args.range.site c.loop-at.at
    c.first_alike-shown.result.1 (c.at.result + c.len.result - (c.loop-at.at + c.first_alike-shown.result.1)) (alike at)
    c.first_alike-shown.ensures.some c.if-shown-visible.true)
    ∙ ap (λ (n : ℕ). list_any (has_visibility c.args.self.now.operations c.args.visible) (names_of (range c.args.range.site c.loop-at.at n))) (sym (parted at))
    ∙ sym c.loop-at.invariant.left

pub loop-at-preserved : goal.loop-at-preserved
loop-at-preserved c =
    let at = (goal.at.loop-at-preserved c).After-first_alike-shown in
    record {
      after = c.loop-at.invariant.after;
      low = omega (arith, c.loop-at.invariant.low);
      high = omega (arith, c.loop-at.invariant.high, c.first_alike-shown.ensures.within, ap (λ (r : Range). r.len) c.new.ensures);
      left =
          c.loop-at.invariant.left
          ∙ ap (λ (n : ℕ). list_any (has_visibility c.args.self.now.operations c.args.visible) (names_of (range c.args.range.site c.loop-at.at n))) (parted at)
          ∙ any_later c.args.self.now.operations c.args.visible c.first_alike-shown.result.0 c.args.range.site c.loop-at.at
          c.first_alike-shown.result.1 (c.at.result + c.len.result - (c.loop-at.at + c.first_alike-shown.result.1)) (alike at)
          c.first_alike-shown.ensures.some c.if-shown-visible.false;
    }

pub returns : goal.returns
returns c =
    ap (list_any (has_visibility c.args.self.now.operations c.args.visible))
    (sym (none_left c.args.range.site c.loop-at.at (c.at.result + c.len.result - c.loop-at.at) (omega (arith, c.loop-at-test.false))))
    ∙ sym c.loop-at.invariant.left
