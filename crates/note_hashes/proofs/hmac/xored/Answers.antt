use Rattle.std.proofs.Common.{◌≡◌, ◌++◌, ◌∷◌, [], ℕ, List, arith, refl, sym, ap, ◌∙◌, bit_xor, map, slice_index, take}
use Rattle.std.proofs.lemmas.List.{length-set, map-append, take_all, take_more, take_more_set}
use Rattle.note_hashes.proofs.hmac.xored.Goals as goal

pub loop-i-init : goal.loop-i-init
loop-i-init c = (refl, refl)

pub loop-i-preserved : goal.loop-i-preserved
loop-i-preserved c =
    let len = c.loop-i.invariant.0 in
    let bytes = c.args.bytes in
    let byte = slice_index bytes c.loop-i.i in
    let f : ℕ → ℕ = λ b. bit_xor b c.args.pad in
    let more = ap (map f) (take_more bytes c.loop-i.i 0 (omega (arith, c.well_formed))) ∙ map-append f (take c.loop-i.i bytes) (byte ∷ []) in (
      length-set _ _ _ ∙ len,
      take_more_set c.loop-i.xored c.loop-i.i (f byte) (omega arith)
          ∙ ap (λ (l : List ℕ). l ++ f byte ∷ []) c.loop-i.invariant.1 ∙ sym more,
    )

pub returns : goal.returns
returns c =
    let len = c.loop-i.invariant.0 in
    let done = c.loop-i.auto.i-end in
    let e : c.loop-i.i ≡ 32 = omega arith in
    let bytes = c.args.bytes in
    let f : ℕ → ℕ = λ b. bit_xor b c.args.pad in
    sym (take_all 32 c.loop-i.xored (omega arith)) ∙ rw e at c.loop-i.invariant.1
    ∙ ap (map f) (take_all 32 bytes (omega (arith, c.well_formed)))
