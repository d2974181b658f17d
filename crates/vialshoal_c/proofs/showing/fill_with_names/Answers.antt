use Rattle.std.proofs.Common.{◌≡◌, ◌+◌, ◌++◌, ◌≤◌, List, length, map, drop, set, ap, subst, sym, ◌∙◌, rules}
use Rattle.char_files.specs.declared.character.Char.{Char}
use Rattle.vialshoal_c.specs.declared.outputs.CharName.{CharName}
use Rattle.vialshoal_c.proofs.Filling.{IsFilled, name_of, fill_begins, fill_ends, fill_more, has_room}
use Rattle.vialshoal_c.proofs.showing.fill_with_names.Goals as goal

pub loop-char-init : goal.loop-char-init
loop-char-init c = (
  search rules,
  search rules,
  fill_begins name_of c.into_iter-char-iterator.result c.args.room.now
      (subst (λ (chars : List Char). length chars ≤ length c.args.room.now)
      (sym c.into_iter-char-iterator.ensures.into_iter_gives) c.requires),
)

pub bounds-room-at : goal.bounds-room-at
bounds-room-at c =
    has_room name_of c.into_iter-char-iterator.result c.next.new.self c.in-Some.char c.args.room.now c.loop-char.room
    c.loop-char.at (subst (λ (left : List Char). IsFilled name_of c.into_iter-char-iterator.result left c.args.room.now
    c.loop-char.room c.loop-char.at) c.in-Some.ensures.steps c.loop-char.invariant.2)

pub loop-char-preserved : goal.loop-char-preserved
loop-char-preserved c =
    let more = fill_more name_of c.into_iter-char-iterator.result c.next.new.self c.in-Some.char
    c.args.room.now c.loop-char.room c.loop-char.at (subst (λ (left : List Char). IsFilled name_of
    c.into_iter-char-iterator.result left c.args.room.now c.loop-char.room c.loop-char.at) c.in-Some.ensures.steps
    c.loop-char.invariant.2) in
    let same : name_of c.in-Some.char ≡ record { site = c.get.result; offset = c.off.result } =
    λ i. record {
      site = (sym (c.get.ensures.value ∙ c.site.ensures)) i;
      offset = (sym c.off.ensures.value) i;
    } in (
      search rules,
      search rules,
      subst (λ (n : CharName). IsFilled name_of c.into_iter-char-iterator.result c.next.new.self
          c.args.room.now (set c.loop-char.room c.loop-char.at n) (c.loop-char.at + 1)) same more,
    )

pub returns : goal.returns
returns c =
    fill_ends name_of c.into_iter-char-iterator.result c.args.room.now c.loop-char.room c.loop-char.at
    (subst (λ (left : List Char). IsFilled name_of c.into_iter-char-iterator.result left c.args.room.now c.loop-char.room
    c.loop-char.at) c.in-None.ensures.steps.0 c.loop-char.invariant.2)
    ∙ ap (λ (chars : List Char). map name_of chars ++ drop (length chars) c.args.room.now)
    c.into_iter-char-iterator.ensures.into_iter_gives
