use Rattle.std.proofs.Common.{◌≡◌, ◌+◌, ◌-◌, ℕ, List, length, take, true, ap, subst, sym, ◌∙◌, rules}
use Rattle.std.specs.Prelude.{reverse}
use Rattle.operations.specs.Operation.{Operation}
use Rattle.text_chunks.specs.Typed.{AreHandedIn, AreTypedFirst}
use Rattle.text_chunks.proofs.Handed.{rest_left, row_more}
use Rattle.text_chunks.proofs.HandedRows.{with_taken}
use Rattle.text_chunks.proofs.unpacking.hand_in_some.Goals as goal

pub returns-clause-ok : goal.returns-clause-ok
returns-clause-ok c = λ start ops s.
    let so : c.take_row.result ≡ true = search rules in
    let left = c.args.operations.now.items in
    let bytes = c.take_row.new.bytes.items in
    let (typing, rest, typed, taken) = c.take_row.ensures.taken so in
    let first : AreTypedFirst (reverse left) typing bytes rest =
    subst (λ (l : List Operation). AreTypedFirst (reverse l) typing bytes rest) c.deref.ensures.value typed in
    let len : c.len-len.result ≡ length bytes = search rules in
    let many : c.len-2.result ≡ length left = search rules in
    let kept : c.truncate.new.self.items ≡ take (length left - length bytes) left =
    c.truncate.ensures.items ∙ ap (λ (n : ℕ). take n left) (c.saturating_sub-2.ensures ∙ ap (λ (n : ℕ). n - c.len-len.result) many
    ∙ ap (λ (n : ℕ). length left - n) len) in
    subst (λ (l : List Operation). AreHandedIn start ops (c.args.done + c.len-len.result) (with_taken c.args.counts c.len-len.result)
    c.take_row.new.replica l) (sym (ap reverse kept ∙ rest_left left typing bytes rest first))
    (subst (λ (n : ℕ). AreHandedIn start ops (c.args.done + n) (with_taken c.args.counts n) c.take_row.new.replica rest) (sym len)
    (row_more start ops c.args.done c.args.counts c.args.replica.now c.take_row.new.replica (reverse left) typing bytes rest
    c.take_row.ensures.is (c.take_row.ensures.room so) first taken (c.take_row.ensures.once so) s))
