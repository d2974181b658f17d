-- The set of the names shown from beg to end names this stretch, whatever beg and end.
use Rattle.std.proofs.Common.{◌≡◌, ◌↔◌, ℕ, ◌+◌, ◌-◌, List, take, drop, map, sym, ap, subst, ◌∙◌, Contains}
use Rattle.std.proofs.Common.{arith}
use Rattle.std.specs.List.{filter, slice_range}
use Rattle.std.proofs.lemmas.List.{drop-map, take-map}
use Rattle.char_files.specs.Stretch.{Item}
use Rattle.char_files.specs.declared.character.Char.{Char}
use Rattle.operations.specs.NameSet.{IsAmong}
use Rattle.texts.specs.Edit.{names_shown, stretch_named}
use Rattle.texts.specs.Laws.{ADeleteKeepsItsStretch, NamesStretch}
use Rattle.texts.specs.Order.{is_named}
use Rattle.texts.specs.Text.{IsText}
use Rattle.texts.specs.TextState.{TextState, shown_items, shown_of}
use Rattle.operations.proofs.SetOf.{IsAmong-set_of}
use Rattle.texts.proofs.OwnStretch.{is_picked, names_differ}

module _ (t : TextState) (beg end : ℕ) (is : IsText t) where
  abbrev item : Char → Item
  item c = (c.byte, c.looks)

  pub names_stretch : NamesStretch t (names_shown t beg end) beg end
  names_stretch c = IsAmong-set_of (map (λ s. s.name) (slice_range (shown_of t) beg end)) c

  -- an end before beg makes a stretch as empty as that from beg to beg
  picked : filter (is_named (names_shown t beg end)) (shown_of t) ≡ slice_range (shown_of t) beg end
  picked =
      let last : ℕ = beg + (end - beg) in
      let as_long : last - beg ≡ end - beg = omega arith in
      let part : ℕ → List Char = λ n. take n (drop beg (shown_of t)) in
      is_picked (shown_of t) (names_shown t beg end) beg last (omega arith) (names_differ t is)
      (λ c. subst (λ (n : ℕ). IsAmong (names_shown t beg end) c ↔ Contains (map (λ s. s.name) (part n)) c)
      (sym as_long) (names_stretch c))
      ∙ ap part as_long

  pub stretch_kept : stretch_named t (names_shown t beg end) ≡ slice_range (shown_items t) beg end
  stretch_kept =
      ap (map item) picked ∙ sym (take-map item (end - beg) (drop beg (shown_of t)))
      ∙ ap (take (end - beg)) (sym (drop-map item beg (shown_of t)))

pub keeps_its_stretch : ADeleteKeepsItsStretch
keeps_its_stretch t beg end is = (names_stretch t beg end is, stretch_kept t beg end is)
