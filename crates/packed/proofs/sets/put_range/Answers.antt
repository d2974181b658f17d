use Rattle.std.proofs.Common.{◌≡◌, ◌++◌, ◌-◌, ℕ, subst}
use Rattle.byte_fields.specs.Fields.{Appends}
use Rattle.byte_fields.proofs.Appended.{Appends-after, append_both}
use Rattle.packed.specs.Numbers.{sevens}
use Rattle.packed.specs.Sets.{gap_before, range_after}
use Rattle.packed.proofs.sets.put_range.Goals as goal

pub returns : goal.returns
unfolding range_after
returns c =
    let old = c.args.out.now.items in
    let r = c.args.range in
    let site = sevens (r.site - c.args.site) in
    let gap = sevens (gap_before c.args.site c.args.end r) in
    let one : c.put_number.new.out.items ≡ old ++ site = cc (c.in_ok-put_number.ensures, c.site.ensures, c.get.ensures.value) in
    let next : c.put_number-2.new.out.items ≡ c.put_number.new.out.items ++ gap = cc (c.in_ok-put_number-2.ensures) in
    let two = append_both old c.put_number.new.out.items c.put_number-2.new.out.items site gap one next in
    let len : c.from-3.result ≡ r.len - 1 = cc (c.len.ensures.value) in
    Appends-after c.put_number-3.result old c.put_number-2.new.out.items c.put_number-3.new.out.items (site ++ gap)
    (sevens (r.len - 1)) two
    (subst (λ (n : ℕ). Appends c.put_number-3.result c.put_number-2.new.out.items c.put_number-3.new.out.items (sevens n)) len
    c.put_number-3.ensures)
