-- What an own operation leaves, and what a Delete keeps.
use Rattle.std.proofs.Common.{◌≡◌, ℕ, List, [], ◌∷◌, ◌++◌, map, refl, ap, subst, sym, ◌∙◌}
use Rattle.std.specs.Prelude.{slice_range, All}
use Rattle.std.proofs.lemmas.List.{drop-map, take-map}
use Rattle.std.proofs.lemmas.List.Elements.{All-append, All-cons, All-nil, Contains-append_left}
use Rattle.char_files.specs.Stretch.{Item}
use Rattle.char_files.specs.declared.character.Char.{Char}
use Rattle.operations.specs.NameSet.{Range}
use Rattle.operations.specs.Operation.{Operation}
use Rattle.texts.specs.Edit.{with_operation}
use Rattle.texts.specs.Order.{order_after}
use Rattle.texts.specs.Taking.{HasTaken, HasTakenAll}
use Rattle.texts.specs.Text.{AreCharNames, IsText}
use Rattle.texts.specs.TextState.{Asked, TextState, text_state_of, with_room}
use Rattle.texts.proofs.Taking.{taken_is_one}

-- the items of a stretch are a stretch of the items
pub items_between : (chars : List Char) (beg end : ℕ)
    → ◌≡◌ {A = List Item} (map (λ c. (c.byte, c.looks)) (slice_range chars beg end))
    (slice_range (map (λ c. (c.byte, c.looks)) chars) beg end)
items_between chars beg end = simp (take-map, drop-map)

-- names of characters stay that, with operations more
pub kept_by_more : (ops more : List Operation) (names : List Range) → AreCharNames ops names
    → AreCharNames (ops ++ more) names
kept_by_more ops more names kept c among =
    let (i, is) = kept c among in
    (i, record { held = Contains-append_left ops more i is.held; inserts = is.inserts })

pub kept_grows : (ops : List Operation) (op : Operation) (names : List Range) → AreCharNames ops names
    → AreCharNames (ops ++ op ∷ []) names
kept_grows ops op names kept = kept_by_more ops (op ∷ []) names kept

-- all are of this text, and the names are characters' still, with operations of the text more
pub kept_with_all : (text : ℕ) (ops room : List Operation) (names : List Range) (more : List Operation)
    → All (λ o. o.text ≡ text) more
    → All (λ o. o.text ≡ text) ops × All (λ o. o.text ≡ text) room × AreCharNames ops names
    → All (λ o. o.text ≡ text) (ops ++ more) × All (λ o. o.text ≡ text) room × AreCharNames (ops ++ more) names
kept_with_all text ops room names more own (taken, waiting, kept) =
    (All-append (λ (o : Operation). o.text ≡ text) ops more taken own, waiting, kept_by_more ops more names kept)

pub kept_with : (text : ℕ) (ops room : List Operation) (names : List Range) (op : Operation) → op.text ≡ text
    → All (λ o. o.text ≡ text) ops × All (λ o. o.text ≡ text) room × AreCharNames ops names
    → All (λ o. o.text ≡ text) (ops ++ op ∷ []) × All (λ o. o.text ≡ text) room × AreCharNames (ops ++ op ∷ []) names
kept_with text ops room names op own =
    let of_text : Operation → Type 0 = λ o. o.text ≡ text in
    kept_with_all text ops room names (op ∷ []) (All-cons of_text op [] own (All-nil of_text))

-- what a replica is seen as has taken operations in, where its operations are those more
pub grown_by_more : (text site : ℕ) (ops ops' : List Operation) (chars chars' : List Char) (room : List Operation)
    (stretch : List Item) (names : List Range) (asked asked' : Asked) (more : List Operation) (t : TextState)
    → text_state_of text site ops chars room stretch names asked ≡ t → ops' ≡ ops ++ more → asked' ≡ asked
    → IsText (text_state_of text site ops' chars' room stretch names asked')
    → HasTakenAll t more (text_state_of text site ops' chars' room stretch names asked')
grown_by_more text site ops ops' chars chars' room stretch names asked asked' more t seen grown same is =
    let new : TextState = text_state_of text site ops' chars' room stretch names asked' in
    record {
      is = is;
      grown = subst (λ (u : TextState). new ≡ record u { operations = u.operations ++ more; order = chars' }) seen
          (λ k. record new { operations = grown k; asked = same k });
    }

pub grown_by_one : (text site : ℕ) (ops ops' : List Operation) (chars chars' : List Char) (room : List Operation)
    (stretch : List Item) (names : List Range) (asked asked' : Asked) (op : Operation) (t : TextState)
    → text_state_of text site ops chars room stretch names asked ≡ t → ops' ≡ ops ++ op ∷ [] → asked' ≡ asked
    → IsText (text_state_of text site ops' chars' room stretch names asked')
    → HasTaken t op (text_state_of text site ops' chars' room stretch names asked')
grown_by_one text site ops ops' chars chars' room stretch names asked asked' op =
    grown_by_more text site ops ops' chars chars' room stretch names asked asked' (op ∷ [])

-- so it has where the room is another one then: what was taken in waited, say
pub taken_out_of : (t mid seen : TextState) (op : Operation) (room rest : List Operation) → HasTaken t op mid → seen ≡ mid
    → room ≡ rest → IsText (with_room seen room) → HasTaken (with_room t rest) op (with_room seen room)
taken_out_of t mid seen op room rest taken same left is = record {
  is = is;
  grown = ap (λ (x : TextState). with_room x room) (same ∙ taken.grown)
      ∙ (λ k. record t { operations = t.operations ++ op ∷ []; order = sym (ap (λ (x : TextState). x.order) same) k; waiting_room = left k });
}

-- taking an own operation in leaves its characters as they are defined
pub taken_is_own : (t : TextState) (op : Operation) → IsText t → op.text ≡ t.text
    → IsText (with_operation t op) → (new : TextState) → HasTaken t op new
    → new ≡ record t { operations = t.operations ++ op ∷ []; order = order_after t.order op }
taken_is_own t op is own with_own new taken =
    taken_is_one t op is own (record t { operations = t.operations ++ op ∷ []; order = order_after t.order op })
    refl (record {
      good = with_own.good;
      in_order = with_own.in_order;
      identified = with_own.identified;
      of_text = with_own.of_text;
      chars = with_own.chars;
      deleted = kept_grows t.operations op t.last_set is.deleted;
      waiting = with_own.waiting;
    }) new taken
