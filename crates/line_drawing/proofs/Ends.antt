-- How many lines end in bytes with one byte more in front.
use Rattle.std.proofs.Common.{◌≡◌, ℕ, suc, ◌≢◌, List, ◌∷◌, ◌==◌, ap, Bool, true, false, if◌then◌else◌, ne_eqb, eq-eqb}
use Rattle.line_drawing.specs.declared.drawing.TheConstants.{LINE_END}
use Rattle.line_drawing.specs.Lines.{ends_in}

pub ends-end : (bytes : List ℕ) (b : ℕ) → b ≡ LINE_END → ends_in (b ∷ bytes) ≡ suc (ends_in bytes)
ends-end bytes b is = let h : (b == LINE_END) ≡ true = eq-eqb b LINE_END is in
    ap (λ (v : Bool). if v then suc (ends_in bytes) else ends_in bytes) h

pub ends-other : (bytes : List ℕ) (b : ℕ) → b ≢ LINE_END → ends_in (b ∷ bytes) ≡ ends_in bytes
ends-other bytes b differs = let h : (b == LINE_END) ≡ false = ne_eqb b LINE_END differs in
    ap (λ (v : Bool). if v then suc (ends_in bytes) else ends_in bytes) h
