use Rattle.std.proofs.Common.{◌≡◌, ℕ, ◌≤◌, get_or, length}
use Rattle.piece_list.specs.declared.tags.TheConstants.{NO_TAG}
use Rattle.piece_list.proofs.tags.SiteTags.grow.Given as goal

abbrev pub invariant-loop : goal.invariant-loop
invariant-loop l = (l.counter ≤ length l.self-inside.tags.items)
    × ((i : ℕ) → get_or l.self-inside.tags.items i NO_TAG ≡ get_or l.initial.self-inside.tags.items i NO_TAG)
