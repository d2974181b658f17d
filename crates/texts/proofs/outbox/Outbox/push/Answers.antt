use Rattle.std.proofs.Common.{◌≡◌, ◌≤◌, ◌++◌, ◌∷◌, [], ℕ, List, length, length-append, refl, sym, ap, subst, arith, ◌∙◌}
use Rattle.operations.specs.Spelling.{spelling}
use Rattle.texts.specs.Parts.{AreEnds, parts}
use Rattle.texts.proofs.Parts.{ends_with, part_more}
use Rattle.texts.proofs.outbox.Outbox.push.Goals as goal

-- the end that is put behind the others is where the bytes end
pushed : (c : goal.After-push_reserved) → c.push_reserved.new.self.items ≡ c.self.inside.ends.items ++ length c.encode.new.out.items ∷ []
pushed c = rw (c.push_reserved.ensures.items, c.reserve.ensures.items, c.len.ensures, c.encode.new.out.ok.0) refl

pub invariant_of-self-2 : goal.invariant_of-self-2
invariant_of-self-2 c =
    let v = c.self.inside in
    let bytes = c.encode.new.out.items in
    let grown : length v.bytes.items ≤ length bytes =
    omega (arith, ap (length {A = ℕ}) c.in_ok-encode.ensures.ok, length-append v.bytes.items (spelling c.args.op.now)) in
    subst (λ (ends : List ℕ). AreEnds 0 ends (length bytes)) (sym (pushed c))
    (ends_with v.ends.items 0 (length v.bytes.items) (length bytes) c.self.invariant grown)

pub returns-clause-ok : goal.returns-clause-ok
returns-clause-ok c =
    let v = c.self.inside in
    let message = spelling c.args.op.now in
    ap (parts c.encode.new.out.items 0) (pushed c)
    ∙ ap (λ (all : List ℕ). parts all 0 (v.ends.items ++ length all ∷ [])) c.in_ok-encode.ensures.ok
    ∙ part_more v.bytes.items message v.ends.items c.self.invariant
    ∙ ap (λ (messages : List (List ℕ)). messages ++ message ∷ []) c.self.view_is
