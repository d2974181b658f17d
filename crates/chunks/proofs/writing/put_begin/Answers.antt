use Rattle.std.proofs.Common.{◌≡◌, ℕ, [], ◌∷◌, ◌++◌, ap, subst, ◌∙◌, arith}
use Rattle.byte_fields.specs.Fields.{Appends}
use Rattle.byte_fields.proofs.Appended.{Appends-after, append_both}
use Rattle.packed.specs.Numbers.{sevens}
use Rattle.chunks.proofs.writing.put_begin.Goals as goal

pub returns : goal.returns
returns c =
    let old = c.args.out.now.items in
    let op = c.args.op.now in
    let a = c.push.new.self.items in
    let b = c.put_number.new.out.items in
    let d = c.put_number-2.new.out.items in
    let e = c.put_number-3.new.out.items in
    let site : c.from.result ≡ op.site = omega (arith, c.from.ensures, c.get.ensures.value, c.site.ensures) in
    let seq : c.from-2.result ≡ op.seq = omega (arith, c.from-2.ensures, c.seq.ensures) in
    let stamp : c.stamp.result ≡ op.stamp = c.stamp.ensures in
    let one : a ≡ old ++ 15 ∷ [] = c.in_ok-push.ensures.items in
    let two : b ≡ old ++ (15 ∷ sevens op.site) =
    append_both old a b (15 ∷ []) (sevens op.site) one
    (c.in_ok-put_number.ensures ∙ ap (λ (n : ℕ). a ++ sevens n) site) in
    let three : d ≡ old ++ (15 ∷ sevens op.site ++ sevens op.seq) =
    append_both old b d (15 ∷ sevens op.site) (sevens op.seq) two
    (c.in_ok-put_number-2.ensures ∙ ap (λ (n : ℕ). b ++ sevens n) seq) in
    let four : e ≡ old ++ (15 ∷ sevens op.site ++ sevens op.seq ++ sevens op.stamp) =
    append_both old d e (15 ∷ sevens op.site ++ sevens op.seq) (sevens op.stamp) three
    (c.in_ok-put_number-3.ensures ∙ ap (λ (n : ℕ). d ++ sevens n) stamp) in
    Appends-after c.put_number-4.result old e c.put_number-4.new.out.items
    (15 ∷ sevens op.site ++ sevens op.seq ++ sevens op.stamp) (sevens c.args.len) four
    (subst (λ (n : ℕ). Appends c.put_number-4.result e c.put_number-4.new.out.items (sevens n)) c.from-3.ensures
    c.put_number-4.ensures)
