use Rattle.std.proofs.Common.{◌↔◌, List, sym, subst}
use Rattle.std.proofs.lemmas.List.Sorted.{IsPermutation-sym}
use Rattle.std.proofs.lemmas.Result.{IfOk-weaker}
use Rattle.char_files.specs.CharName.{CharName}
use Rattle.operations.specs.NameSet.{Range, IsAmong}
use Rattle.taken_text.proofs.SameNames.{among_moved}
use Rattle.taken_text.proofs.joining.joined.Goals as goal

pub returns-clause-names : goal.returns-clause-names
returns-clause-names c =
    let told : List Range = c.in_ok-sorted.sorted.items in
    let sorted : List Range = c.sort_unstable_by_key.new.self.items in
    IfOk-weaker c.added.result (λ found. (name : CharName) → IsAmong found.items name ↔ IsAmong c.deref.result.now name)
    (λ found. (name : CharName) → IsAmong found.items name ↔ IsAmong c.args.ranges.now name) (λ found same name. (
      λ held. subst (λ (ranges : List Range). IsAmong ranges name) c.in_ok-sorted.ensures.items
          (among_moved sorted told (IsPermutation-sym told sorted c.sort_unstable_by_key.ensures.permutation) name
          (subst (λ (ranges : List Range). IsAmong ranges name) c.deref.ensures.value ((same name).0 held))),
      λ held. (same name).1 (subst (λ (ranges : List Range). IsAmong ranges name) (sym c.deref.ensures.value)
          (among_moved told sorted c.sort_unstable_by_key.ensures.permutation name
          (subst (λ (ranges : List Range). IsAmong ranges name) (sym c.in_ok-sorted.ensures.items) held))),
    )) c.added.ensures.names
