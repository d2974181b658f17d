use Rattle.std.proofs.Common.{◌≡◌, ℕ, ◌+◌, IsTrue, List, [], length, drop, inl, inr, ap, subst, sym, ◌∙◌, arith, true≢false}
use Rattle.std.proofs.lemmas.Bool.{cases_Bool, cases_lt}
use Rattle.std.proofs.lemmas.List.{drop_all}
use Rattle.rank_index.specs.Chunks.{ChunkSeen, members_of}
use Rattle.rank_index.specs.Keyed.{IsPassed}
use Rattle.rank_index.proofs.Keyed.{passed_none}
use Rattle.rank_index.proofs.Lows.{group_stops}
use Rattle.rank_index.proofs.passing.pass_on.Goals as goal

pub returns-clause-passed : goal.returns-clause-passed
returns-clause-passed c =
    let chunks : List ChunkSeen = c.args.chunks.now in
    let key : ℕ = c.args.key in
    let at : ℕ = c.pass_groups-last.result.1 in
    let end : ℕ = at + c.min-2.result in
    let mid : ℕ = c.pass_groups-last.result.0 in
    let last : ℕ = c.pass_chunks.result.0 in
    let size = c.min-2.ensures in
    let rest : IsPassed c.args.keys.now key (members_of (drop at chunks)) mid last =
    elim (cases_Bool c.pass_chunks.result.1) [
      | inl stopped ↦ c.pass_chunks.ensures.stops stopped
      | inr on ↦
          let goes : ¬ IsTrue c.pass_chunks.result.1 = λ yes. true≢false (sym yes ∙ on) in
          elim (cases_lt at (length chunks)) [
            | inl lt ↦ absurd (group_stops key chunks at end (ap (λ (n : ℕ). at + n) size) (c.pass_groups-last.ensures.stops lt)
                (c.pass_chunks.ensures.above goes (omega (arith, size, lt))))
            | inr le ↦
                let none : drop end chunks ≡ [] = drop_all end chunks (omega (arith, le)) in
                c.pass_chunks.ensures.on goes last
                (subst (λ (l : List ChunkSeen). IsPassed c.args.keys.now key (members_of l) last last) (sym none)
                (passed_none c.args.keys.now key last))
          ]
    ] in
    c.pass_chunks-last.ensures.on (λ yes. true≢false (sym yes ∙ c.if-stops.false)) last
    (c.pass_groups-last.ensures.on last rest)
