use Rattle.std.proofs.Common.{◌≡◌, ℕ, Bool, refl, subst, sym}
use Rattle.looks.specs.Sel.{Selection}
use Rattle.looks.specs.declared.key.Key.{Key}
use Rattle.looks.specs.declared.looks.Looks.{Looks}
use Rattle.piece_list.specs.declared.record.PieceRecord.{PieceRecord}
use Rattle.piece_list.specs.declared.setting.Setting.{Setting}
use Rattle.piece_list.specs.Changing.{changed_piece}
use Rattle.piece_list.specs.Values.{IsEntered, Values, inserted_with, piece_in}
use Rattle.piece_list.proofs.Recorded.{IsLater, relooked_in}
use Rattle.piece_list.proofs.values.ValueTables.set.Goals as goal

pub returns-in-Relook-clause-changed : goal.returns-in-Relook-clause-changed
returns-in-Relook-clause-changed c =
    let v : Values = c.args.self.now.values in
    let r : PieceRecord = c.args.record.now in
    let sel : Selection = c.in-Relook.sel in
    let key : Key = c.in-Relook.key in
    let looks : Looks = c.in-Relook.looks in
    let w : PieceRecord = record r {
      font_by = c.later-record.result;
      colour_by = c.later-record-in-Relook.result;
      offset_by = c.later-record-in-Relook-2.result;
    } in
    let (others, entered) = subst (IsEntered v) c.in-Relook.is c.requires.entered in
    let Later : Bool → (was by : ℕ) → Type 0 = IsLater v r w sel key looks in
    subst (λ (s : Setting). piece_in v w ≡ changed_piece s (piece_in v r)) (sym c.in-Relook.is)
    (relooked_in v r w sel key looks refl
    (subst (λ (s : Bool). Later s r.font_by w.font_by) c.font.ensures
    (c.later-record.ensures.value (inserted_with v r) looks others entered))
    (subst (λ (s : Bool). Later s r.colour_by w.colour_by) c.colour.ensures
    (c.later-record-in-Relook.ensures.value (inserted_with v r) looks others entered))
    (subst (λ (s : Bool). Later s r.offset_by w.offset_by) c.offset.ensures
    (c.later-record-in-Relook-2.ensures.value (inserted_with v r) looks others entered)))
