use Rattle.std.proofs.Common.{◌≡◌, ◌+◌, ◌-◌, ◌++◌, ◌∷◌, [], List, map, refl, sym, ap, ◌∙◌, arith}
use Rattle.std.specs.List.{range_with_len}
use Rattle.std.proofs.lemmas.List.{length-map}
use Rattle.std.proofs.lemmas.List.FromFn.{length-range_with_len}
use Rattle.desk_texts.proofs.Counted.{map-range-more}
use Rattle.texts.specs.TextState.{TextState, empty_text}
use Rattle.desk_texts.proofs.site_texts.Texts.new.Goals as goal

pub loop-number-preserved : goal.loop-number-preserved
loop-number-preserved c =
    let n = c.loop-number.number in
    let text_is : c.unwrap.result ≡ n = rw c.unwrap.ensures at c.new.ensures.value in
    let replica_is : c.in_ok-new.field-0 ≡ empty_text n c.args.site = rw text_is at c.in_ok-new.ensures.ok in
    let one_more : n - 1 + 1 ≡ n + 1 - 1 = omega arith in
    let last : 1 + (n - 1) ≡ n = omega arith in
    let more : map (λ number. empty_text number c.args.site) (range_with_len 1 (n + 1 - 1)) ≡ map (λ number. empty_text number c.args.site) (range_with_len 1 (n - 1)) ++ empty_text n c.args.site ∷ [] = rw (one_more, last) at (map-range-more (λ number. empty_text number c.args.site) 1 (n - 1)) in
    c.in_ok-push.ensures.items ∙ ap (λ (x : TextState). c.loop-number.texts.items ++ x ∷ []) replica_is ∙ ap (λ (xs : List TextState). xs ++ empty_text n c.args.site ∷ []) c.loop-number.invariant ∙ sym more

pub invariant_of-result : goal.invariant_of-result
invariant_of-result c = rw c.loop-number.invariant (simp (length-map, length-range_with_len) (omega arith))

pub returns-clause-ok : goal.returns-clause-ok
returns-clause-ok c =
    let all : c.loop-number.number - 1 ≡ 16 = omega arith in
    let texts = rw all at c.loop-number.invariant in
    rw texts refl
