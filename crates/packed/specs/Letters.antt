-- Letters that stand each as one byte: Inserts that the site of the operation before types on with.
use Rattle.std.specs.Prelude.{◌≡◌, ℕ, suc, ◌+◌, ◌<◌, ◌≤◌, List, Some, length, All}
use Rattle.operations.specs.declared.kind.TheConstants.{MAX_INSERT}
use Rattle.operations.specs.declared.typing.Typing.{Typing}
use Rattle.operations.specs.Letters.{letters}
use Rattle.operations.specs.Spelling.{HasSpelling}
use Rattle.packed.specs.Told.{Told, expected}
use Rattle.packed.specs.Spelling.{packed_after}
use Rattle.packed.specs.Laws.{CanFollow}

-- how the site of the operation before types on: at its caret, in its looks, with its next number and stamp
pub record TypesOn (told : Told) (text : ℕ) (typing : Typing) : Type 0 where
  pub last : told.last ≡ Some typing.site
  pub on_text : typing.text ≡ text
  pub seq : typing.seq ≡ suc (expected told typing.site).seq
  pub stamp : typing.stamp ≡ (expected told typing.site).stamp + 1
  pub at : typing.at ≡ (expected told typing.site).len
  pub cause : typing.cause ≡ (expected told typing.site).caret
  pub looks : typing.looks ≡ (expected told typing.site).looks

-- letters that can come next on this text, and these are their bytes
pub record AreTypedNext (told : Told) (text : ℕ) (typing : Typing) (bytes : List ℕ) : Type 0 where
  pub some : 0 < length bytes
  pub few : length bytes ≤ MAX_INSERT
  pub spelled : All HasSpelling (letters typing bytes)
  pub follow : CanFollow told text (letters typing bytes)
  pub packed : packed_after told (letters typing bytes) ≡ bytes
