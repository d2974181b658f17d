-- HMAC (RFC 2104) by SHA-256, with keys of a block, 64 bytes, at most.
use Rattle.std.specs.Prelude.{ℕ, ◌-◌, List, ◌++◌, length, map, replicate, bit_xor}
use Rattle.sha2.specs.Sha256.{sha256}

-- the key with zeros up to a block, each byte xored with the pad
abbrev pub padded : ℕ → List ℕ → List ℕ
padded pad key = map (λ b. bit_xor b pad) (key ++ replicate (64 - length key) 0)

abbrev pub hmac : (key message : List ℕ) → List ℕ
hmac key message = sha256 (padded 0x5C key ++ sha256 (padded 0x36 key ++ message))
