use Rattle.std.proofs.Common.{◌∷◌, [], length-append, ◌∙◌, refl, arith}
use Rattle.script_events.specs.Script.{bytes_in, split_byte}
use Rattle.script_events.proofs.Spelling.{IsDecoded-none, IsDecoded-cuts, IsDecoded-more, IsDecoded-within, IsDecoded-all, bytes_in-cut, bytes_in-end, bytes_in-some, bytes_in-wrong}
use Rattle.script_events.proofs.escaped.Escaped.decode.Goals as goal

pub loop-first-init : goal.loop-first-init
loop-first-init c = (IsDecoded-none c.args.out.now.items c.args.self.now (bytes_in c.self.inside.raw.now) (bytes_in-some (bytes_in c.self.inside.raw.now) c.self.invariant) c.self.view_is, refl)

pub unwrap-byte-requires : goal.unwrap-byte-requires
unwrap-byte-requires c =
    let first = c.in-Some.first.now in
    let after = c.in-Some.after.now in
    IsDecoded-cuts _ c.split_byte.result _ (split_byte first after) c.loop-first.invariant.0 (bytes_in-wrong _ first after c.in-Some.ensures.cases.0) c.split_byte.ensures.value

pub push_reserved-requires : goal.push_reserved-requires
push_reserved-requires c =
    let cut_is = rw c.unwrap-byte.ensures at c.split_byte.ensures.value in
    let more = IsDecoded-more c.unwrap-byte.result.0 (bytes_in c.unwrap-byte.result.1.now) c.loop-first.invariant.0 (bytes_in-cut _ c.in-Some.first.now c.in-Some.after.now _ _ c.in-Some.ensures.cases.0 cut_is) in
    omega (arith, IsDecoded-within more, length-append c.loop-first.out.items (c.unwrap-byte.result.0 ∷ []), length-append c.args.out.now.items c.args.self.now)

pub loop-first-preserved : goal.loop-first-preserved
loop-first-preserved c =
    let cut_is = rw c.unwrap-byte.ensures at c.split_byte.ensures.value in
    let more = IsDecoded-more c.unwrap-byte.result.0 (bytes_in c.unwrap-byte.result.1.now) c.loop-first.invariant.0 (bytes_in-cut _ c.in-Some.first.now c.in-Some.after.now _ _ c.in-Some.ensures.cases.0 cut_is) in
    rw c.push_reserved.ensures.items (more, c.push_reserved.ensures.capacity ∙ c.loop-first.invariant.1)

pub returns-clause-bytes : goal.returns-clause-bytes
returns-clause-bytes c = IsDecoded-all c.loop-first.invariant.0 (bytes_in-end _ c.in_default.ensures.cases)
