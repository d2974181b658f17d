use Rattle.std.proofs.Common.{◌≡◌, ℕ, ◌<◌, List, length, map, Some, inl, inr, sym, ap, ◌∙◌, arith}
use Rattle.std.specs.Prelude.{slice_get, IfSome}
use Rattle.std.proofs.lemmas.List.{length-map}
use Rattle.std.proofs.lemmas.Option.{slice_get-map, slice_get_cases}
use Rattle.char_files.specs.Stretch.{Item}
use Rattle.char_files.specs.declared.character.Char.{Char}
use Rattle.texts.specs.TextState.{shown_of}
use Rattle.texts.proofs.source.ReplicaSource.at.Goals as goal

abbrev item_of : Char → Item
item_of c = (c.byte, c.looks)

item_at : (chars : List Char) (pos : ℕ) (item : Item) → pos < length (map item_of chars)
    → IfSome (slice_get chars pos) (λ c. item ≡ item_of c) → slice_get (map item_of chars) pos ≡ Some item
item_at chars pos item inside is =
    slice_get-map item_of chars pos
    ∙ elim ((slice_get_cases chars pos).1) [
      | inl there ↦ rw there.2 (ap Some (sym (rw there.2 at is)))
      | inr past ↦ absurd (omega (arith, length-map chars item_of, past.0))
    ]

pub returns : goal.returns
returns c =
    item_at (shown_of c.args.self.now) c.args.pos c.attributes.result c.requires c.attributes.ensures
