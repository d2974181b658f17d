-- Members that are moved from one chunk to another.
use Rattle.std.proofs.Common.{◌≡◌, ℕ, ◌+◌, ◌≤◌, length, take, drop, sym, ap, ◌∙◌}
use Rattle.std.proofs.lemmas.List.{take-append-drop, take_all}
use Rattle.rank_index.specs.Ranked.{weight_of}
use Rattle.rank_index.proofs.ChunkRank.{weight_of-append}
use Rattle.rank_index.proofs.Tagged.{Members}

-- all are moved
pub all_moved : (xs moved rest : Members) (i : ℕ) → length xs ≤ i → moved ≡ take i xs → xs ≡ rest → moved ≡ rest
all_moved xs moved rest i all so_far is = so_far ∙ take_all i xs all ∙ is

-- a part and the rest weigh what the whole does
pub parts_weigh : (xs : Members) (n : ℕ) → weight_of (take n xs) + weight_of (drop n xs) ≡ weight_of xs
parts_weigh xs n = sym (weight_of-append (take n xs) (drop n xs)) ∙ ap weight_of (take-append-drop n xs)
