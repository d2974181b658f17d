use Rattle.std.proofs.Common.{◌≡◌, ◌-◌, ◌∙◌, ◌++◌, ℕ, List, Option, length, take, drop, subst, ap, arith, length-take}
use Rattle.std.specs.Prelude.{vec_len}
use Rattle.std.specs.Io.Buffered.{reader_buffer, reader_remaining}
use Rattle.std.specs.Io.KnownBytes.{Consumes}
use Rattle.script_io.specs.Wires.{InputState, line_front}
use Rattle.script_io.proofs.Held.{extended, front_consumed, line_front-few, line_front-of, line_front-take}
use Rattle.script_io.proofs.input.Input.move_held.Goals as goal

pub returns-clause-moved : goal.returns-clause-moved
returns-clause-moved g c =
    let before = c.args.line.now.items in
    let part = c.front_of_line-front.result.now in
    let room = c.args.most - vec_len c.args.line.now in
    let held = c.args.self.now.held in
    let same = c.buffer.ensures ∙ ap (λ (s : InputState). s.held) c.self.view_is in
    let front : part ≡ line_front room held = line_front-of c.args.most c.front_of_line-front.ensures c.len.ensures same in
    extended c.extend_from_slice.result before c.extend_from_slice.new.self.items part c.extend_from_slice.ensures.items
    (c.extend_from_slice.ensures.succeeds
    (omega (arith, ap length front, line_front-few room held, c.requires.short, c.requires.room)))
    ∙ ap (λ (l : List ℕ). before ++ l) front

pub returns-clause-left : goal.returns-clause-left
returns-clause-left g c =
    let reader = c.self.inside.reader in
    let left = reader_remaining g.R.Read.remaining c.consume.new.self in
    let room = c.args.most - vec_len c.args.line.now in
    let held = c.args.self.now.held in
    let same = ap (λ (s : InputState). s.held) c.self.view_is in
    let front = line_front-of c.args.most c.front_of_line-front.ensures c.len.ensures (c.buffer.ensures ∙ same) in
    let count = length c.front_of_line-front.result.now in
    let taken : take count (reader_buffer reader) ≡ line_front room held =
    ap (λ (l : List ℕ). take (length l) (reader_buffer reader)) front ∙ ap (take (length (line_front room held))) same
    ∙ line_front-take room held in
    let consumed = front_consumed g.R.Read.remaining reader left count
    (omega (arith, ap length front, ap length taken, length-take count (reader_buffer reader)))
    c.consume.ensures.bytes in
    subst (λ (o : Option (List ℕ)). Consumes o left (line_front room held)) (ap (λ (s : InputState). s.left) c.self.view_is)
    (subst (Consumes (reader_remaining g.R.Read.remaining reader) left) taken consumed)

pub returns-clause-held : goal.returns-clause-held
returns-clause-held g c =
    let held = c.args.self.now.held in
    let same = ap (λ (s : InputState). s.held) c.self.view_is in
    let front = line_front-of c.args.most c.front_of_line-front.ensures c.len.ensures (c.buffer.ensures ∙ same) in
    c.consume.ensures.buffer ∙ ap (drop (length c.front_of_line-front.result.now)) same
    ∙ ap (λ (l : List ℕ). drop (length l) held) front
