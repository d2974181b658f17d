-- Pieces as they are kept: what their registers hold stands in tables, each value once, and a piece has its number.
use Rattle.std.specs.Prelude.{◌≡◌, ℕ, zero, suc, ◌<◌, ◌≤◌, ◌++◌, ◌∷◌, [], ℤ, Bool, false, List, length, map, slice_index_or}
use Rattle.std.specs.Prelude.{Some, true, ◌+◌, ◌-◌}
use Rattle.looks.specs.Looks.{plain_looks}
use Rattle.looks.specs.declared.key.Key.{Key}
use Rattle.looks.specs.declared.looks.Looks.{Looks}
use Rattle.looks.specs.declared.register.Register.{Register}
use Rattle.piece_list.specs.declared.record.PieceRecord.{PieceRecord}
use Rattle.piece_list.specs.declared.setting.Setting.{Setting}
use Rattle.piece_list.specs.declared.setting.Setting.TheVariants.{Switch, Relook}
use Rattle.piece_list.specs.Piece.{Piece, PieceRegister}
use Rattle.piece_list.specs.Pieces.{inserted, risen}
use Rattle.piece_list.specs.declared.run.Run.{Run}

-- the looks that runs were inserted with, and what was set in registers since: new looks, and whether hidden
pub record Values : Type 0 where
  pub looks : List Looks
  pub relooks : List (Register Looks)
  pub switches : List (Register Bool)

-- what a contract sees of the tables: the values, and for how many looks more there is room
pub record ValuesSeen : Type 0 where
  pub values : Values
  pub room : ℕ

-- the register as an entry set it
abbrev pub set_by : {V : Type 0} → Register V → PieceRegister V
set_by r = record { by = Some r.key; value = r.value }

-- an entry where there is none
abbrev pub no_entry : {V : Type 0} → V → Register V
no_entry value = record { key = record { stamp = 0; site = 0 }; value = value }

-- the register that was set by the entry of this number, counted from 1; 0 stands for what was inserted
abbrev pub register_by : {V : Type 0} → List (Register V) → ℕ → V → PieceRegister V
register_by entries zero value = inserted value
register_by entries (suc n) value = set_by (slice_index_or entries n (no_entry value))

-- the font, the colour or the offset alone
abbrev pub font_of : PieceRegister Looks → PieceRegister (List ℕ)
font_of r = record { by = r.by; value = r.value.font }

abbrev pub colour_of : PieceRegister Looks → PieceRegister ℕ
colour_of r = record { by = r.by; value = r.value.colour }

abbrev pub offset_of : PieceRegister Looks → PieceRegister ℤ
offset_of r = record { by = r.by; value = r.value.offset }

-- the record of a run, whose looks have this number
abbrev pub record_of : Run → (looks : ℕ) → PieceRecord
record_of run looks = record {
  stamp = run.key.stamp;
  off = run.off;
  looks = looks;
  font_by = 0;
  colour_by = 0;
  offset_by = 0;
  hidden_by = 0;
  len = run.len;
  site = run.site;
  key_site = run.key.site;
  rising = run.rising;
}

-- the key of the first character's Insert
abbrev pub record_key : PieceRecord → Key
record_key r = record { stamp = r.stamp; site = r.key_site }

-- the looks that they were inserted with
abbrev pub inserted_with : Values → PieceRecord → Looks
inserted_with v r = slice_index_or v.looks r.looks plain_looks

-- the looks that the entry of this number gave them
abbrev pub record_looks_by : Values → PieceRecord → ℕ → PieceRegister Looks
record_looks_by v r by = register_by v.relooks by (inserted_with v r)

-- the record of all after its first n characters
abbrev pub rest_in : ℕ → PieceRecord → PieceRecord
rest_in n r = record r { stamp = (risen r.rising n (record_key r)).stamp; off = r.off + n; len = r.len - n }

-- no register was set since the Inserts
pub record IsAsInserted (r : PieceRecord) : Type 0 where
  pub font : r.font_by ≡ 0
  pub colour : r.colour_by ≡ 0
  pub offset : r.offset_by ≡ 0
  pub hidden : r.hidden_by ≡ 0

-- a run, looks aside, goes on with names and keys where a record's characters end, which are as they were inserted
pub record FollowsIn (r : PieceRecord) (run : Run) : Type 0 where
  pub rises : r.rising ≡ true
  pub rising : run.rising ≡ true
  pub untouched : IsAsInserted r
  pub site : r.site ≡ run.site
  pub key_site : r.key_site ≡ run.key.site
  pub off : run.off ≡ r.off + r.len
  pub stamp : run.key.stamp ≡ r.stamp + r.len

-- the piece that a record stands for
abbrev pub piece_in : Values → PieceRecord → Piece
piece_in v r = record {
  site = r.site;
  off = r.off;
  len = r.len;
  key = record_key r;
  rising = r.rising;
  font = font_of (record_looks_by v r r.font_by);
  colour = colour_of (record_looks_by v r r.colour_by);
  offset = offset_of (record_looks_by v r r.offset_by);
  hidden = register_by v.switches r.hidden_by false;
}

-- the pieces that numbered records stand for
abbrev pub pieces_in : Values → List (ℕ × PieceRecord) → List (ℕ × Piece)
pieces_in v records = map (λ m. (m.0, piece_in v m.1)) records

-- a record has numbers of entries that are there
pub record IsWithin (v : Values) (r : PieceRecord) : Type 0 where
  pub looks : r.looks < length v.looks
  pub font : r.font_by ≤ length v.relooks
  pub colour : r.colour_by ≤ length v.relooks
  pub offset : r.offset_by ≤ length v.relooks
  pub hidden : r.hidden_by ≤ length v.switches

-- entries were added, and none was changed
pub record ValuesGrow (old new : Values) : Type 0 where
  pub looks : (more : List Looks) × (new.looks ≡ old.looks ++ more)
  pub relooks : (more : List (Register Looks)) × (new.relooks ≡ old.relooks ++ more)
  pub switches : (more : List (Register Bool)) × (new.switches ≡ old.switches ++ more)

-- a setting is the last one of its kind that was entered
abbrev pub IsEntered : Values → Setting → Type 0
IsEntered v (Switch hidden key) =
    (others : List (Register Bool)) × (v.switches ≡ others ++ record { key = key; value = hidden } ∷ [])
IsEntered v (Relook sel looks key) =
    (others : List (Register Looks)) × (v.relooks ≡ others ++ record { key = key; value = looks } ∷ [])
