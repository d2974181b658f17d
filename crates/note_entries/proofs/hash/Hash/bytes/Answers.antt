use Rattle.std.proofs.Common.{◌≡◌, ◌/◌, ◌%◌, ◌^◌, refl, ap, subst, ◌∙◌, arith}
use Rattle.std.specs.Int.{w128, to_be_bytes}
use Rattle.note_entries.specs.Bytes.{IsHash}
use Rattle.note_entries.proofs.HashBytes.{is_hash}
use Rattle.note_entries.proofs.hash.Hash.bytes.Goals as goal

pub returns-clause-value : goal.returns-clause-value
returns-clause-value c =
    let low_fits = c.self.invariant.1 in
    let view = c.self.view_is in
    let high : c.self.inside.high ≡ c.args.self / 2 ^ 128 = omega (arith, view, low_fits) in
    let low : c.self.inside.low ≡ c.args.self % 2 ^ 128 = omega (arith, view, low_fits) in
    let first = c.copy_from_slice.ensures.after ∙ c.to_be_bytes.ensures ∙ ap (to_be_bytes w128) high in
    let second = c.copy_from_slice-2.ensures.after ∙ c.to_be_bytes-2.ensures ∙ ap (to_be_bytes w128) low in
    rw (first, second) refl

pub returns-clause-back : goal.returns-clause-back
returns-clause-back c =
    subst IsHash c.self.view_is (is_hash c.self.inside.high c.self.inside.low c.self.invariant.0 c.self.invariant.1)
