-- What a note gains, piece by piece and range by range.
use Rattle.std.proofs.Common.{◌≡◌, ℕ, ◌+◌, ◌-◌, ◌<◌, ◌≤◌, ◌*◌, Bool, List, [], ◌∷◌, length, get_or, take, refl, arith}
use Rattle.std.specs.Prelude.{vec_len, vec_capacity}
use Rattle.piece_list.specs.declared.setting.Setting.TheVariants.{Switch, Relook}
use Rattle.char_files.specs.CharName.{CharName}
use Rattle.operations.specs.NameSet.{Range}
use Rattle.piece_list.specs.declared.setting.Setting.{Setting}
use Rattle.piece_list.specs.Changing.{unlike}
use Rattle.piece_list.specs.Noted.{AreNoted, IsNoted, entry_room, name_count}
use Rattle.piece_list.specs.Spelled.{spelled}
use Rattle.piece_list.proofs.Noted.{noted_none, noted_on, noted_more, noted_wider, noted_along, one_range_more, range_among}
use Rattle.piece_list.proofs.Positions.{Items}
use Rattle.piece_list.proofs.Spent.{Note, spent_none, spent_on, spent_more, no_more_unlike}

-- nothing at first
pub entries_none : (setting : Setting) (names : List Range) (n splits : ℕ) (note : Note) (items : Items)
    → AreNoted setting names n splits note note items items
entries_none setting names n splits note items = record {
  told = λ room. noted_none setting names note.items items items refl;
  grows = omega arith;
  few = omega arith;
  spent = spent_none setting splits note items;
  capacity = omega arith;
}

-- one piece more of a range
pub entries_on : (setting : Setting) (r : Range) (name : CharName) (to : ℕ) (old mid new : Note)
    (was between now : Items) → name.site ≡ r.site → r.at ≤ name.off → name.off < to → to ≤ r.at + r.len
    → AreNoted setting (r ∷ []) (name.off - r.at) 0 old mid was between
    → AreNoted setting (record { site = name.site; at = name.off; len = to - name.off } ∷ []) 1 0 mid new between now
    → AreNoted setting (r ∷ []) (to - r.at) 0 old new was now
entries_on setting r name to old mid new was between now site from on ends one two = record {
  told = λ room. noted_on setting r name to old.items mid.items new.items was between now site from ends
      (one.told (omega (arith, room, two.grows))) (two.told (omega (arith, room, one.capacity)));
  grows = omega (arith, one.grows, two.grows);
  few = omega (arith, from, on, one.few, two.few);
  spent = spent_on setting old mid new was between now one.spent two.spent;
  capacity = omega (arith, one.capacity, two.capacity);
}

-- one range more of a set, of pieces that are split first
pub entries_more : (setting : Setting) (ranges : List Range) (i : ℕ) (r : Range) (old mid new : Note)
    (was between split now : Items) → i < length ranges → r ≡ get_or ranges i r → spelled split ≡ spelled between
    → ((hidden : Bool) → unlike hidden split ≤ unlike hidden between + 2)
    → AreNoted setting ranges (name_count (take i ranges)) (2 * i) old mid was between
    → AreNoted setting (r ∷ []) r.len 0 mid new split now
    → AreNoted setting ranges (name_count (take (i + 1) ranges)) (2 * (i + 1)) old new was now
entries_more setting ranges i r old mid new was between split now lt at spells cut one two =
    let more : name_count (take (i + 1) ranges) ≡ name_count (take i ranges) + r.len =
    one_range_more ranges i r lt at in
    record {
      told = λ room.
          noted_more setting ranges old.items mid.items new.items was between now
          (one.told (omega (arith, room, two.grows)))
          (noted_wider setting (r ∷ []) ranges mid.items new.items between now
          (λ d. range_among ranges i r d lt at)
          (noted_along setting (r ∷ []) mid.items new.items between split now spells
          (two.told (omega (arith, room, one.capacity)))));
      grows = omega (arith, one.grows, two.grows);
      spent = spent_more setting i old mid new was between split now cut one.spent two.spent;
      few = omega (arith, more, one.few, two.few);
      capacity = omega (arith, one.capacity, two.capacity);
    }

-- what was told by a note that had room for one entry more than it may gain
pub told_with_room : (setting : Setting) (ranges : List Range) (old new : Note) (was now : Items)
    → AreNoted setting ranges (name_count ranges) (2 * length ranges) old new was now
    → vec_len old + entry_room setting ranges was ≤ vec_capacity old
    → IsNoted setting ranges old.items new.items was now
told_with_room (Switch hidden key) ranges old new was now note room =
    note.told (omega (arith, room, note.few, note.spent, no_more_unlike hidden was))
told_with_room (Relook sel looks key) ranges old new was now note room = note.told (omega (arith, room, note.few))
