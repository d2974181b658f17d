use Rattle.std.proofs.Common.{◌≡◌, ◌<◌, ◌++◌, [], ◌∷◌, List, length, sym, ap, subst, ◌∙◌, arith}
use Rattle.std.specs.Map.{values_of}
use Rattle.std.proofs.lemmas.List.{map_push, length-map}
use Rattle.indexmap.specs.IndexMap.{insert_entry}
use Rattle.operations.specs.Operation.{Operation}
use Rattle.set_laws.specs.Fronts.{IsHeld}
use Rattle.waiting_room.specs.Room.{AreInRoom}
use Rattle.waiting_room.specs.declared.room.TheConstants.{MAX_WAITING}
use Rattle.waiting_room.proofs.Entries.{Key, key_of, same_key, new_last, entered}
use Rattle.waiting_room.proofs.room.Room.offer.Goals as goal

-- the map with the new operation as its last entry
last : (c : goal.Joined-branch-2)
    → c.insert.new.self.entries ≡ c.self.inside.ops.entries ++ (key_of c.args.op, c.args.op) ∷ []
last c =
    let op = c.args.op in
    let free = subst (λ (ops : List Operation). ¬ IsHeld ops op.site op.seq) (sym c.self.view_is)
    c.in-None.ensures in
    let key : ◌≡◌ {A = Key} (c.get.result, c.seq.result) (key_of op) =
    λ i. ((c.get.ensures.value ∙ c.site.ensures) i, c.seq.ensures i) in
    c.in_ok-insert.ensures.entries
    ∙ ap (insert_entry same_key c.self.inside.ops.entries (c.get.result, c.seq.result)) c.new.ensures
    ∙ new_last c.self.inside.ops c.self.invariant (c.get.result, c.seq.result) op key free

-- there is a place
few : (c : goal.Joined-branch-2) → length c.self.inside.ops.entries < MAX_WAITING
few c =
    let full = c.if-len-eq-MAX_WAITING.false in
    let most = c.self.invariant.few in
    let len = c.len.ensures.len in
    omega arith

pub invariant_of-self-2 : goal.invariant_of-self-2
invariant_of-self-2 c =
    let seq = c.lemma_has_spelling.ensures.seq in
    subst AreInRoom (sym (last c))
    (entered c.self.inside.ops.entries c.self.invariant c.args.op (omega arith) (few c))

pub returns : goal.returns
returns c =
    let entries = c.self.inside.ops.entries in
    let long : length c.args.self.now ≡ length entries =
    ap length (sym c.self.view_is) ∙ length-map entries (λ (e : Key × Operation). e.1) in
    let few = few c in (
      (c.in-None.ensures, omega arith),
      ap (values_of {K = Key} {X = Operation}) (last c)
          ∙ map_push (λ (e : Key × Operation). e.1) entries (key_of c.args.op, c.args.op)
          ∙ ap (λ (ops : List Operation). ops ++ c.args.op ∷ []) c.self.view_is,
    )
