-- Where all that was cut last is shown, to show it again changes nothing.
use Rattle.std.proofs.Common.{◌≡◌, Bool, true, false, refl}
use Rattle.std.specs.Prelude.{◌||◌}
use Rattle.std.proofs.lemmas.List.Elements.{filter_agree}
use Rattle.char_files.specs.declared.character.Char.{Char}
use Rattle.tree_order.specs.Shown.{is_visible}
use Rattle.texts.specs.Edit.{is_restored, shown_again}
use Rattle.texts.specs.Order.{is_named}
use Rattle.texts.specs.TextState.{TextState, shown_of}
use Rattle.texts.proofs.AllPass.{each_passes}
use Rattle.texts.proofs.OwnChange.{named_is}

module _ (t : TextState) (all : is_restored t ≡ true) where
  agrees : (c : Char) (b : Bool) → is_named t.last_set c ≡ b
      → is_visible t.operations c.name ≡ (b || is_visible t.operations c.name)
  agrees c true named =
      each_passes (is_visible t.operations) t.last_set all c.name ((named_is t.last_set c).0 named)
  agrees c false unnamed = refl

  pub nothing_hidden : shown_of t ≡ shown_again t
  nothing_hidden =
      filter_agree (λ (c : Char). is_visible t.operations c.name)
      (λ (c : Char). is_named t.last_set c || is_visible t.operations c.name)
      (λ c. agrees c (is_named t.last_set c) refl) t.order
