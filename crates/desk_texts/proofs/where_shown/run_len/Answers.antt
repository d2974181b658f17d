use Rattle.std.proofs.Common.{◌+◌, ◌-◌, sym, ap, ◌∙◌, arith}
use Rattle.std.proofs.lemmas.Bool.{true≢false}
use Rattle.char_files.specs.CharName.{CharName}
use Rattle.operations.proofs.WithName.{same_name}
use Rattle.texts.specs.TextState.{shown_of}
use Rattle.desk_texts.proofs.Longest.{ends_at_another, ends_at_the_end, has_begun, left_after, longest, one_more, shown_within, walk_within}
use Rattle.desk_texts.proofs.Standing.{StandsAt}
use Rattle.desk_texts.proofs.where_shown.run_len.Goals as goal

pub loop-char-preserved : goal.loop-char-preserved
loop-char-preserved c =
    let shown = shown_of c.args.replica.now in
    let most = (c.args.pos + c.min-most.result) - c.args.pos in
    let at = sym c.loop-char.invariant.left ∙ c.in-Some.ensures.steps in
    let same = c.are_same.ensures.0 c.if-not-are_same.false in
    record {
      left = left_after shown c.args.names c.args.pos most c.loop-char.len c.in-Some.char c.next.new.self at;
      few =
          omega (
            arith,
            walk_within shown c.args.names c.args.pos most c.loop-char.len c.in-Some.char c.next.new.self at,
            c.min-most.ensures,
            c.from.ensures,
            c.len.ensures.value,
          );
      shown = one_more shown c.args.names c.args.pos most c.loop-char.len c.loop-char.invariant.shown c.in-Some.char
          c.next.new.self at (same_name c.in-Some.char.name c.name_in.result same.0 same.1 ∙ c.name_in.ensures);
    }

-- the stretch doesn't go on where it is left
left_at_its_end : (c : goal.Then-not-are_same)
    → StandsAt (shown_of c.args.replica.now) (record { site = c.args.names.site; off = c.args.names.at + c.loop-char.len })
    (c.args.pos + c.loop-char.len) → ⊥
left_at_its_end c =
    let shown = shown_of c.args.replica.now in
    let most = (c.args.pos + c.min-most.result) - c.args.pos in
    let at = sym c.loop-char.invariant.left ∙ c.in-Some.ensures.steps in
    ends_at_another shown c.args.names c.args.pos most c.loop-char.len c.in-Some.char c.next.new.self at (λ e.
    let same = e ∙ sym c.name_in.ensures in
    let told = c.are_same.ensures.1 (ap (λ (n : CharName). n.site) same, ap (λ (n : CharName). n.off) same) in
    absurd (true≢false (sym told ∙ c.if-not-are_same.true)))

pub returns-then-not-are_same-clause-some : goal.returns-then-not-are_same-clause-some
returns-then-not-are_same-clause-some c =
    has_begun (shown_of c.args.replica.now) c.args.names c.args.pos 0 c.loop-char.len c.len.ensures.range.2 c.requires
    (λ more. left_at_its_end c)

pub returns-then-not-are_same-clause-in_text : goal.returns-then-not-are_same-clause-in_text
returns-then-not-are_same-clause-in_text c =
    shown_within (shown_of c.args.replica.now) c.args.names c.args.pos c.loop-char.len c.requires
    c.loop-char.invariant.shown

pub returns-then-not-are_same-clause-longest : goal.returns-then-not-are_same-clause-longest
returns-then-not-are_same-clause-longest c =
    longest c.args.replica.now c.lemma_is_text.ensures c.args.names c.args.pos c.loop-char.len c.loop-char.invariant.shown
    (returns-then-not-are_same-clause-some c) c.loop-char.invariant.few (λ more. left_at_its_end c)

pub returns-clause-in_text : goal.returns-clause-in_text
returns-clause-in_text c =
    shown_within (shown_of c.args.replica.now) c.args.names c.args.pos c.loop-char.len c.requires
    c.loop-char.invariant.shown

pub returns-clause-longest : goal.returns-clause-longest
returns-clause-longest c =
    let shown = shown_of c.args.replica.now in
    let most = (c.args.pos + c.min-most.result) - c.args.pos in
    let ends = ends_at_the_end shown c.args.names c.args.pos most c.loop-char.len
    (sym c.loop-char.invariant.left ∙ c.in-None.ensures.steps.0)
    (λ more within. omega (arith, more, within, c.min-most.ensures, c.from.ensures, c.len.ensures.value, c.shown_len.ensures)) in
    longest c.args.replica.now c.lemma_is_text.ensures c.args.names c.args.pos c.loop-char.len c.loop-char.invariant.shown
    (has_begun shown c.args.names c.args.pos most c.loop-char.len c.len.ensures.range.2 c.requires ends)
    c.loop-char.invariant.few ends
