use Rattle.std.proofs.Common.{◌≡◌, ℕ, suc, ◌+◌, ◌-◌, ◌/◌, ◌<◌, inl, inr, ap, ◌∙◌, arith}
use Rattle.std.proofs.lemmas.Bool.{cases_lt}
use Rattle.tree_order.specs.Good.{file_before}
use Rattle.set_laws.specs.Fronts.{file_len, front_of}
use Rattle.op_log.proofs.Files.{starts_empty}
use Rattle.note_admission.proofs.inserter.inserter.Goals as goal

pub loop-from-init : goal.loop-from-init
loop-from-init c =
    let ops = c.args.log.now.ops in
    let name = c.args.name in
    let front : c.front-to.result ≡ front_of ops name.site = c.front-to.ensures ∙ ap (front_of ops) c.site-site.ensures in
    let none = starts_empty ops c.lemma_are_held_to_the_front.ensures.identified name.site in
    let here = c.requires.here in
    let some : 0 < front_of ops name.site = elim (cases_lt 0 (front_of ops name.site)) [
      | inl some ↦ some
      | inr past ↦
          let zero : front_of ops name.site ≡ 0 = omega arith in
          let len : file_len ops name.site ≡ file_before ops name.site 1 =
          ap (λ (n : ℕ). file_before ops name.site (suc n)) zero in
          absurd (omega arith)
    ] in
    let next : c.front-to.result + 1 ≡ suc (front_of ops name.site) = omega arith in
    let same : file_before ops name.site (c.front-to.result + 1) ≡ file_len ops name.site =
    ap (file_before ops name.site) next in
    record {
      first = omega arith;
      order = omega arith;
      last = omega arith;
      from = omega arith;
      to = omega arith;
    }

pub file_before-requires : goal.file_before-requires
file_before-requires c =
    let ops = c.args.log.now.ops in
    let from = c.loop-from.from in
    let to = c.loop-from.to in
    let front = ap (front_of ops) c.site-site.ensures in
    let first = c.loop-from.invariant.first in
    let last = c.loop-from.invariant.last in
    let less = c.loop-from-test.true in
    (c.lemma_are_held_to_the_front.ensures.held c.site-site.result (to - (to - from) / 2)).1
    (omega arith, omega arith)
