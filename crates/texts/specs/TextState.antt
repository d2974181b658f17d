-- What contracts see of a replica.
use Rattle.std.specs.Prelude.{ℕ, List, [], filter, length, map, Option, Some, None}
use Rattle.char_files.specs.Stretch.{Item}
use Rattle.char_files.specs.declared.character.Char.{Char}
use Rattle.operations.specs.NameSet.{Range}
use Rattle.operations.specs.Operation.{Operation}
use Rattle.tree_order.specs.Shown.{is_visible}

-- The changes are noted, and so many operations had been taken in when they were last asked for; or noting has ended, and so
-- many characters were shown when that was last reported.
pub data Asked : Type 0 where
  noting : ℕ → Asked
  ended : ℕ → Asked

-- The text and the site; the operations taken in, in the order of taking; all characters in order, deleted
-- ones too, each with its byte and the looks that hold; the operations that wait, in order of arrival; the
-- stretch that the site cut last, and the set of its names; when the changes were last asked for.
pub record TextState : Type 0 where
  pub text : ℕ
  pub site : ℕ
  pub operations : List Operation
  pub order : List Char
  pub waiting_room : List Operation
  pub last_stretch : List Item
  pub last_set : List Range
  pub asked : Asked

-- what is kept of the asking for changes, where so many operations were told, and so many characters reported last if noting
-- has ended
abbrev pub asked_of : ℕ → Option ℕ → Asked
asked_of told None = noting told
asked_of told (Some shown) = ended shown

-- a text of these operations and characters, with these that wait, and this cut last, of which the changes were asked for then
abbrev pub text_state_of : (text site : ℕ) → List Operation → List Char → List Operation → List Item → List Range
    → Asked → TextState
text_state_of text site operations order room stretch set asked = record {
  text = text;
  site = site;
  operations = operations;
  order = order;
  waiting_room = room;
  last_stretch = stretch;
  last_set = set;
  asked = asked;
}

-- a text that nothing has changed
abbrev pub empty_text : (text site : ℕ) → TextState
empty_text text site = text_state_of text site [] [] [] [] [] (noting 0)

-- what is shown: the visible ones of all characters, in their order
abbrev pub shown_of : TextState → List Char
shown_of t = filter (λ c. is_visible t.operations c.name) t.order

-- what is shown, as characters outside any text
abbrev pub shown_items : TextState → List Item
shown_items t = map (λ c. (c.byte, c.looks)) (shown_of t)

-- the same text, in which these wait
abbrev pub with_room : TextState → List Operation → TextState
with_room t room = record t { waiting_room = room }

-- so many operations are told, if changes are noted
abbrev pub told_to : ℕ → Asked → Asked
told_to operations (noting told) = noting operations
told_to operations (ended shown) = ended shown

-- the same text, whose changes were told
abbrev pub all_told : TextState → TextState
all_told t = record t { asked = told_to (length t.operations) t.asked }
