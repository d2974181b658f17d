use Rattle.std.proofs.Common.{◌≡◌, ◌≢◌, ℕ, List, ◌∷◌, [], ◌++◌, inr, refl, ap, ◌∙◌, arith, rules, length, length-append}
use Rattle.std.proofs.KnownBytes.{Consumes-trans}
use Rattle.std.proofs.lemmas.List.Elements.{All-append}
use Rattle.std.specs.Prelude.{◌-◌, vec_len}
use Rattle.script_io.specs.Lines.{IsTooLong}
use Rattle.script_io.specs.Wires.{line_front}
use Rattle.script_io.specs.declared.lines.TheConstants.{MAX_LINE}
use Rattle.script_io.proofs.Held.{line_front-none, line_front-few}
use Rattle.script_io.proofs.lines.next_line.Goals as goal

pub returns-in-Some-2-clause-taken : goal.returns-in-Some-2-clause-taken
returns-in-Some-2-clause-taken g c =
    let part = c.loop-line.line.items ++ c.in-Some.byte ∷ [] in
    let too_long : IsTooLong part = record {
      one_line = All-append (λ b. b ≢ 10) c.loop-line.line.items (c.in-Some.byte ∷ []) c.loop-line.invariant.raw.one_line (search rules);
      long = omega (arith, length-append c.loop-line.line.items (c.in-Some.byte ∷ []), c.loop-line.invariant.raw.short);
    } in (
      refl,
      (
        part,
        inr too_long,
        Consumes-trans c.args.input.now.left c.loop-line.input.left c.byte.new.self.left c.loop-line.line.items (c.in-Some.byte ∷ []) c.loop-line.invariant.consumed (search rules),
      ),
    )

pub loop-line-preserved : goal.loop-line-preserved
loop-line-preserved g c =
    let before = c.loop-line.line.items in
    let byte = c.in-Some.byte in
    let pushed = before ++ byte ∷ [] in
    let room = MAX_LINE - vec_len c.push_reserved.new.self in
    let held = c.byte.new.self.held in
    let part = line_front room held in
    let line : c.move_held.new.line.items ≡ pushed ++ part = c.move_held.ensures.moved ∙ ap (λ (front : List ℕ). front ++ part) c.push_reserved.ensures.items in
    let one_line = All-append (λ b. b ≢ 10) before (byte ∷ []) c.loop-line.invariant.raw.one_line (search rules) in
    let consumed = Consumes-trans c.args.input.now.left c.loop-line.input.left c.byte.new.self.left before (byte ∷ []) c.loop-line.invariant.consumed (search rules) in
    record {
      consumed = rw line (Consumes-trans c.args.input.now.left c.byte.new.self.left c.move_held.new.self.left pushed part consumed c.move_held.ensures.left);
      raw = record {
        one_line = rw line (All-append (λ b. b ≢ 10) pushed part one_line (line_front-none room held));
        short = omega (arith, ap length line, length-append pushed part, length-append before (byte ∷ []), line_front-few room held, c.if-len-lt-MAX_LINE.true, c.len.ensures, c.push_reserved.ensures.len, c.loop-line.line.ok);
      };
      whole = search rules;
      room = search rules;
    }
