-- The room that a log has for one operation more.
use Rattle.std.proofs.Common.{◌≡◌, ℕ, ◌<◌, ◌≤◌, nat_eq, Option, Some, None, option_map, refl, ap}
use Rattle.std.proofs.Common.{◌∙◌, arith}
use Rattle.std.specs.Option.{option_map_or}
use Rattle.std.specs.Map.{lookup}
use Rattle.std.proofs.lemmas.Map.Made.{lookup-map_values}
use Rattle.op_log.specs.Seen.{LogSeen, OpsSeen, room_of, HasRoom, HasRoomFor}
use Rattle.op_log.specs.Tables.{SiteSeen, LogTables, log_table, rooms_of, unknown}

room_by : (found : Option SiteSeen)
    → option_map_or (λ (n : ℕ). n) (option_map (λ (t : SiteSeen). t.room) found) 0
    ≡ (option_map_or (λ (t : SiteSeen). t) found unknown).room
room_by None = refl
room_by (Some t) = refl

-- a site's room is that of its table
pub room_told : (tables : LogTables) (site : ℕ) → room_of (rooms_of tables) site ≡ (log_table tables site).room
room_told tables site =
    ap (λ (o : Option ℕ). option_map_or (λ (n : ℕ). n) o 0)
    (lookup-map_values (λ (t : SiteSeen). t.room) (nat_eq site) tables)
    ∙ room_by (lookup (nat_eq site) tables)

-- what a log has room for, by its list and its tables
abbrev pub log_seen : OpsSeen → LogTables → LogSeen
log_seen list tables = record {
  ops = list.items;
  room = list.room;
  runs = list.runs;
  letters = list.letters;
  rooms = rooms_of tables;
}

-- where the list and the site's table have room, a log has room for the site
pub has_room : (list : OpsSeen) (tables : LogTables) (site : ℕ) → 0 < list.room → 0 < (log_table tables site).room
    → HasRoom (log_seen list tables) site
has_room list tables site free ok = (free, omega (arith, room_told tables site, ok))

-- so it has for letters
pub has_room_for : (list : OpsSeen) (tables : LogTables) (site len : ℕ) → (0 < list.runs) × (len ≤ list.letters)
    → len ≤ (log_table tables site).room → HasRoomFor (log_seen list tables) site len
has_room_for list tables site len free ok = (free.0, free.1, omega (arith, room_told tables site, ok))

-- where no table has less room than it had, no site has
pub rooms_kept : (tables tables' : LogTables)
    → ((site : ℕ) → (log_table tables site).room ≤ (log_table tables' site).room)
    → (site : ℕ) → room_of (rooms_of tables) site ≤ room_of (rooms_of tables') site
rooms_kept tables tables' kept site =
    let old = room_told tables site in
    let new = room_told tables' site in
    let le = kept site in
    omega arith
