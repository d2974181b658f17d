use Rattle.std.proofs.Common.{◌≡◌, bit_xor, length, map, take}
use Rattle.note_hashes.proofs.hmac.xored.Given as goal

abbrev pub invariant-loop-i : goal.invariant-loop-i
invariant-loop-i l = (length l.xored ≡ 32) × (take l.i l.xored ≡ map (λ b. bit_xor b l.pad) (take l.i l.bytes))
