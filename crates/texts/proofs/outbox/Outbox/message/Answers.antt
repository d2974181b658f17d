use Rattle.std.proofs.Common.{◌≡◌, ℕ, List, Some, length, sym, ap, arith, ◌∙◌, slice_range}
use Rattle.texts.specs.Parts.{part_beg}
use Rattle.texts.proofs.Parts.{length-parts, read_part}
use Rattle.texts.proofs.outbox.Outbox.message.Goals as goal

pub beg_of-requires : goal.beg_of-requires
beg_of-requires c =
    let v = c.self.inside in
    omega (
      arith,
      c.requires,
      ap length c.self.view_is,
      length-parts v.bytes.items v.ends.items 0,
      ap (length {A = ℕ}) c.deref-2.ensures.value,
    )

pub index-requires : goal.index-requires
index-requires c =
    let v = c.self.inside in
    omega (arith, c.requires, ap length c.self.view_is, length-parts v.bytes.items v.ends.items 0, v.ends.ok.0)

pub part-requires-clause-beg : goal.part-requires-clause-beg
part-requires-clause-beg c =
    let v = c.self.inside in
    let begins = c.beg_of.ensures ∙ ap (λ (ends : List ℕ). part_beg ends c.args.index) c.deref-2.ensures.value in
    let read = read_part v.bytes.items v.ends.items _ c.args.index _ _ c.self.invariant c.self.view_is c.requires begins c.index.ensures in
    read.0

pub part-requires-clause-end : goal.part-requires-clause-end
part-requires-clause-end c =
    let v = c.self.inside in
    let begins = c.beg_of.ensures ∙ ap (λ (ends : List ℕ). part_beg ends c.args.index) c.deref-2.ensures.value in
    let read = read_part v.bytes.items v.ends.items _ c.args.index _ _ c.self.invariant c.self.view_is c.requires begins c.index.ensures in
    omega (arith, read.1, ap (length {A = ℕ}) c.deref.ensures.value)

pub returns : goal.returns
returns c =
    let v = c.self.inside in
    let begins = c.beg_of.ensures ∙ ap (λ (ends : List ℕ). part_beg ends c.args.index) c.deref-2.ensures.value in
    let read = read_part v.bytes.items v.ends.items _ c.args.index _ _ c.self.invariant c.self.view_is c.requires begins c.index.ensures in
    let part : c.part.result.now ≡ slice_range v.bytes.items c.beg_of.result c.index.result.now =
    c.part.ensures ∙ ap (λ (bytes : List ℕ). slice_range bytes c.beg_of.result c.index.result.now) c.deref.ensures.value in
    read.2 ∙ ap Some (sym part)
