use Rattle.std.proofs.Common.{rules, ℕ, ◌+◌, ◌<◌, ◌≤◌, List, [], ◌∷◌, length, All, arith}
use Rattle.std.proofs.lemmas.List.Elements.{All-head, All-nil}
use Rattle.operations.specs.Letters.{after_letter, letter, letters}
use Rattle.operations.specs.Spelling.{HasSpelling}
use Rattle.operations.proofs.Typed.{HasRoomFor, in_range, letters_spelled}
use Rattle.operations.proofs.typing.Typing.room.Goals as goal
use Rattle.operations.proofs.typing.Typing.room.Goals.{then-self-eq0-via-then-self-eq0}
use Rattle.operations.proofs.typing.Typing.room.Goals.{then-self-eq0-via-else-self-eq0+then-self-eq0-2}
use Rattle.operations.proofs.typing.Typing.room.Goals.{then-self-eq0-via-else-self-eq0+else-self-eq0-2+then-not-is_cause}

pub returns-then-self-eq0-clause-most : goal.returns-then-self-eq0-clause-most
returns-then-self-eq0-clause-most c = by
  where
    by : (bytes : List ℕ) → All HasSpelling (letters c.args.self.now bytes) → length bytes ≤ 0
    by [] spelled = omega arith
    by (b ∷ bytes) spelled =
        let t = c.args.self.now in
        let first = All-head HasSpelling (letter t b) (letters (after_letter t) bytes) spelled in
        absurd (elim c.then-self-eq0.branch [
          | then-self-eq0-via-then-self-eq0 w ↦ omega (arith, first.seq, w.if-self-eq0.true)
          | then-self-eq0-via-else-self-eq0+then-self-eq0-2 w ↦ omega (arith, first.stamp, w.if-self-eq0-2.true)
          | then-self-eq0-via-else-self-eq0+else-self-eq0-2+then-not-is_cause w ↦
              let caused = w.is_cause.ensures.1 first.kind.caused in search (rules, caused, w.if-not-is_cause.true)
        ])

pub returns-clause-some : goal.returns-clause-some
returns-clause-some c = by
  where
    by : (bytes : List ℕ) → length bytes ≤ c.min-2.result → All (λ b. b < 256) bytes
        → All HasSpelling (letters c.args.self.now bytes)
    by [] few valid = All-nil HasSpelling
    by (b ∷ bytes) few valid =
        let n = length bytes + 1 in
        let seqs = c.saturating_sub-numbers.ensures in
        let stamps = c.saturating_sub-stamps.ensures in
        let places = c.saturating_sub-places.ensures in
        let room : HasRoomFor c.args.self.now n = record {
          text = (omega (arith, c.get.ensures.some, c.get.ensures.value), omega arith);
          site = (omega (arith, c.get-2.ensures), omega arith);
          seq = (omega (arith, c.if-self-eq0.false), omega (arith, few, seqs));
          stamp = (omega (arith, c.if-self-eq0-2.false), omega (arith, few, stamps));
          in_file = omega (arith, few, places);
          caused = c.is_cause.ensures.0 (search (rules, c.if-not-is_cause.false));
          valid_looks = c.lemma_are_in_range.ensures;
        } in
        letters_spelled c.args.self.now n (b ∷ bytes) room (omega arith) valid

pub returns-clause-most : goal.returns-clause-most
returns-clause-most c = by
  where
    by : (bytes : List ℕ) → All HasSpelling (letters c.args.self.now bytes) → length bytes ≤ c.min-2.result
    by [] spelled = omega arith
    by (b ∷ bytes) spelled =
        let seqs = c.saturating_sub-numbers.ensures in
        let stamps = c.saturating_sub-stamps.ensures in
        let places = c.saturating_sub-places.ensures in
        let in_it = in_range c.args.self.now (b ∷ bytes) (omega arith) spelled in
        omega (arith, in_it.seq, in_it.stamp, in_it.in_file, seqs, stamps, places, c.min.ensures, c.min-2.ensures)
