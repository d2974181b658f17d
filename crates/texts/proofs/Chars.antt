-- All characters of a good set, hidden ones too, each with its byte and the looks that hold.
use Rattle.std.proofs.Common.{◌≡◌, List, [], ◌∷◌, ◌++◌, map, refl, sym, ap, subst, ◌∙◌}
use Rattle.std.specs.Prelude.{All}
use Rattle.std.proofs.lemmas.List.Elements.{All-filter, All-push, Contains-get_or}
use Rattle.char_files.specs.CharName.{CharName}
use Rattle.char_files.specs.declared.character.Char.{Char}
use Rattle.operations.specs.Operation.{Operation}
use Rattle.tree_order.specs.Good.{Good}
use Rattle.tree_order.specs.Laws.{HasOneOrder}
use Rattle.tree_order.specs.OneEach.{HasOneEach}
use Rattle.tree_order.specs.Order.{IsOrder}
use Rattle.tree_order.specs.Shown.{AreChars, is_visible}
use Rattle.tree_order.specs.Tree.{IsChar}
use Rattle.set_laws.specs.Sets.{AreIdentified}
use Rattle.texts.specs.Laws.{ShowsTheDefinition, OperationsDetermineTheText, FrontsDetermineTheText, HasOneTextWith}
use Rattle.texts.specs.Laws.{GrownTextsKeepTheOrder}
use Rattle.texts.specs.Text.{IsText}
use Rattle.texts.specs.TextState.{TextState, shown_of}
use Rattle.tree_order.proofs.Before.{has_order}
use Rattle.tree_order.proofs.OneText.{one_each, shows_one_text}
use Rattle.tree_order.proofs.SameSet.{before, says_the_same}
use Rattle.set_laws.proofs.Preceding.{causes_kept_with_one}
use Rattle.set_laws.proofs.Covered.{same_by_fronts}
use Rattle.taken_text.proofs.Spelling.{visible_are_shown}
use Rattle.texts.proofs.OwnStep.{char_stays}

pub shows_the_definition : ShowsTheDefinition
shows_the_definition t is = visible_are_shown t.operations t.order is.chars

-- and what it shows are characters
pub shown_are_chars : (t : TextState) → IsText t → All (IsChar t.operations) (map (λ s. s.name) (shown_of t))
shown_are_chars t is =
    let s = shows_the_definition t is in
    subst (λ (names : List CharName). All (IsChar t.operations) names) (sym s.visible)
    (All-filter (is_visible t.operations) (IsChar t.operations) s.order
    (λ k d lt. (s.in_order.each _).0 (Contains-get_or s.order k d lt)))

-- a good set has one order, and names tell characters
module _ (ops : List Operation) (good : Good ops) where
  names : HasOneOrder ops
  names = has_order ops good

  each : HasOneEach ops names.order
  each = one_each ops good names.order (λ k d lt. (names.is.each _).0 (Contains-get_or names.order k d lt))

  -- there is a list of all characters, and no other
  pub has_chars : (chars : List Char) × AreChars ops chars
  has_chars =
      let order = subst (IsOrder ops) (sym each.named) names.is in
      (each.chars, record { order = order; bytes = each.bytes; looks = each.looks })

  is_each : (chars : List Char) → AreChars ops chars → chars ≡ each.chars
  is_each chars are = each.only chars (names.only (map (λ c. c.name) chars) are.order) are.bytes are.looks

  pub one_chars : (a b : List Char) → AreChars ops a → AreChars ops b → a ≡ b
  one_chars a b p q = is_each a p ∙ sym (is_each b q)

-- one operation more, of which the set with it is good, leaves one text
pub one_text_with : (t : TextState) (op : Operation) → IsText t → Good (t.operations ++ op ∷ [])
    → AreIdentified (t.operations ++ op ∷ []) → op.text ≡ t.text → HasOneTextWith t op
one_text_with t op is good known own =
    let with_one : List Operation = t.operations ++ op ∷ [] in
    let (chars, are) = has_chars with_one good in
    record {
      new = record t { operations = with_one; order = chars };
      is = record {
        good = good;
        in_order = causes_kept_with_one t.operations op is.in_order good;
        identified = known;
        of_text = All-push (λ (o : Operation). o.text ≡ t.text) t.operations op is.of_text own;
        chars = are;
        deleted = λ c among. char_stays t.operations op c (is.deleted c among);
        waiting = is.waiting;
      };
      grown = refl;
      only = λ other is' e.
          let are' : AreChars with_one other.order = subst (λ (ops : List Operation). AreChars ops other.order)
          (ap (λ (u : TextState). u.operations) e) is'.chars in
          let same : other.order ≡ chars = one_chars with_one good other.order chars are' are in
          e ∙ ap (λ (order : List Char). record t { operations = with_one; order = order }) same;
    }

-- the order stays in what has grown
pub grown_keeps_the_order : GrownTextsKeepTheOrder
grown_keeps_the_order t u is is' within c d earlier =
    (is'.chars.order.before c d).1 (before t.operations u.operations within c d ((is.chars.order.before c d).0 earlier))

-- what the same operations tell is one text
pub operations_tell : OperationsDetermineTheText
operations_tell t u is is' same =
    let says = says_the_same t.operations u.operations same is.good in
    let moved : AreChars u.operations t.order = record {
      order = says.order (map (λ c. c.name) t.order) is.chars.order;
      bytes = λ k d lt. says.bytes _ _ (is.chars.bytes k d lt);
      looks = λ k d lt. says.looks _ _ (is.chars.looks k d lt);
    } in
    let text = shows_one_text u.operations is'.good in
    record {
      order = one_chars u.operations is'.good t.order u.order moved is'.chars;
      shown =
          text.only (shown_of t) (says.shown (shown_of t) (shows_the_definition t is))
          ∙ sym (text.only (shown_of u) (shows_the_definition u is'));
    }

-- and equal fronts tell the operations
pub fronts_tell : FrontsDetermineTheText
fronts_tell t u is is' known fronts =
    operations_tell t u is is' (same_by_fronts t.operations u.operations is.good is'.good known fronts)
