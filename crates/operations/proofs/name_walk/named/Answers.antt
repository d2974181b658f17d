use Rattle.std.proofs.Common.{◌≡◌, ◌↔◌, inl, inr, ap, ◌∙◌, sym, Contains, subst}
use Rattle.operations.specs.Operation.{OpKind, delete, restore, change_looks, MentionsBy}
use Rattle.operations.specs.NameSet.{names_in}
use Rattle.operations.specs.Seen.{kind_of}
use Rattle.operations.proofs.NamesOf.{Contains-names_in, AllPairs-names_in}
use Rattle.operations.proofs.name_walk.named.Goals as goal

pub returns-in-Delete-clause-all : goal.returns-in-Delete-clause-all
returns-in-Delete-clause-all c = λ name.
    let names = c.in-Delete.names in
    let ranges = c.ranges-in-Delete.result.now in
    let there : Contains (names_in ranges) name ↔ MentionsBy (delete names) name =
    rw c.ranges-in-Delete.ensures.value (Contains-names_in names name) in
    elim c.in-Delete.is [
      | inl e ↦
          let is : delete names ≡ c.args.op.now.kind = sym (ap kind_of e) ∙ c.kind.ensures in
          subst (λ (k : OpKind). Contains (names_in ranges) name ↔ MentionsBy k name) is there
      | inr (inl e) ↦
          let is : restore names ≡ c.args.op.now.kind = sym (ap kind_of e) ∙ c.kind.ensures in
          subst (λ (k : OpKind). Contains (names_in ranges) name ↔ MentionsBy k name) is there
      | inr (inr e) ↦
          let is : change_looks e.0 e.1 names ≡ c.args.op.now.kind = sym (ap kind_of e.2) ∙ c.kind.ensures in
          subst (λ (k : OpKind). Contains (names_in ranges) name ↔ MentionsBy k name) is there
    ]

pub returns-in-Delete-clause-once : goal.returns-in-Delete-clause-once
returns-in-Delete-clause-once c =
    AllPairs-names_in c.ranges-in-Delete.result.now c.ranges-in-Delete.ensures.set
