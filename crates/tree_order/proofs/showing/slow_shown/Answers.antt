use Rattle.std.proofs.Common.{◌≡◌, ◌∙◌, ◌∷◌, [], ◌++◌, sym, ap, subst, List, Contains, take}
use Rattle.std.specs.List.{filter}
use Rattle.std.proofs.lemmas.List.{map_push}
use Rattle.std.proofs.lemmas.List.Elements.{All-push}
use Rattle.char_files.specs.CharName.{CharName}
use Rattle.char_files.specs.declared.character.Char.{Char}
use Rattle.tree_order.specs.Tree.{HasByte}
use Rattle.tree_order.specs.Looks.{HasLooks}
use Rattle.tree_order.specs.Shown.{is_visible}
use Rattle.tree_order.proofs.ShownLemmas.{filter_more_yes, filter_more_no}
use Rattle.tree_order.proofs.showing.slow_shown.Goals as goal
use Rattle.tree_order.proofs.showing.slow_shown.Goals.{then-is_visible+in_ok-push, else-is_visible}

pub char_of-requires : goal.char_of-requires
char_of-requires c =
    let name = c.name-item.result in
    (c.in_ok-order.ensures.ok.each name).0 (subst (λ (order : List CharName). Contains order name)
    c.deref-name-items.ensures.value (
      c.loop-name.name-index,
      c.loop-name-test.true,
      sym
          c.name-item.is,
    ))

pub loop-name-preserved : goal.loop-name-preserved
loop-name-preserved c =
    let ops = c.args.ops.now in
    let order = c.deref-name-items.result.now in
    let n = c.loop-name.name-index in
    let name = c.name-item.result in
    let shown = c.loop-name.shown.items in
    elim c.if-is_visible.branch [
      | then-is_visible+in_ok-push w ↦
          let char = w.char_of.result in
          let items : c.if-is_visible.shown.items ≡ shown ++ char ∷ [] =
          rw w.shown-is w.in_ok-push.ensures.items in
          let more = filter_more_yes (is_visible ops) order n name c.loop-name-test.true c.name-item.is
          (sym c.is_visible.ensures ∙ w.if-is_visible.true) in
          let byte : HasByte ops char.name char.byte = rw w.char_of.ensures.name w.char_of.ensures.byte in
          let looks : HasLooks ops char.name char.looks = rw w.char_of.ensures.name w.char_of.ensures.looks in
          rw items record {
            visible = map_push (λ (s : Char). s.name) shown char ∙ ap (λ (xs : List CharName). xs
                ++ char.name ∷ []) c.loop-name.invariant.visible
                ∙ ap (λ (x : CharName). filter (is_visible ops) (take n order) ++ x ∷ [])
                w.char_of.ensures.name ∙ sym more;
            bytes = All-push (λ (s : Char). HasByte ops s.name s.byte) shown char
                c.loop-name.invariant.bytes byte;
            looks = All-push (λ (s : Char). HasLooks ops s.name s.looks) shown char
                c.loop-name.invariant.looks looks;
          }
      | else-is_visible w ↦
          let same =
          filter_more_no (is_visible ops) order n name c.loop-name-test.true c.name-item.is
          (sym c.is_visible.ensures ∙ w.if-is_visible.false) in
          rw w.shown-is record {
            visible = c.loop-name.invariant.visible ∙ sym same;
            bytes = c.loop-name.invariant.bytes;
            looks = c.loop-name.invariant.looks;
          }
    ]
