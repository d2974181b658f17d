use Rattle.std.proofs.Common.{ℕ, List, string_bytes, subst}
use Rattle.std.proofs.lemmas.Result.{IfErr-weaker, err_from_is_err_and, on_ok_weaker}
use Rattle.folder_shelf.specs.Moments.{Anything, Since}
use Rattle.folder_shelf.specs.Whole.{BeforeOrAfter, GivenUp, IsPlacedWhole, Placing, Replaced}
use Rattle.folder_shelf.proofs.Replaced.{at_last, cleared_not, cleared_well, each_moment, either_way, folder_not_synced, folder_synced, made_and, not_begun}
use Rattle.folder_shelf.proofs.Replacing.{PlacingFails}
use Rattle.folder_shelf.proofs.whole_files.replace.Goals as goal

pub returns-in_err-file-clause-any_moment : goal.returns-in_err-file-clause-any_moment
returns-in_err-file-clause-any_moment g c =
    each_moment c.args.name.now c.args.bytes.now (GivenUp c.in_err-file.field-0.0) (g.F.Folder.history c.args.folder.now) (g.F.Folder.history c.new_beside.new.folder) (not_begun c.args.name.now c.args.bytes.now c.in_err-file.field-0.0 (g.F.Folder.history c.args.folder.now) (g.F.Folder.history c.new_beside.new.folder) c.requires c.in_err-file.ensures.err)

pub returns-in_err-file-clause-cause : goal.returns-in_err-file-clause-cause
returns-in_err-file-clause-cause g c =
    let p = err_from_is_err_and c.from_residual.result c.from_residual.ensures.1 in
    let h = at_last c.args.name.now c.args.bytes.now (GivenUp c.in_err-file.field-0.0) (g.F.Folder.history c.args.folder.now) (g.F.Folder.history c.new_beside.new.folder) (not_begun c.args.name.now c.args.bytes.now c.in_err-file.field-0.0 (g.F.Folder.history c.args.folder.now) (g.F.Folder.history c.new_beside.new.folder) c.requires c.in_err-file.ensures.err) in
    rw (p.1, p.2) h

pub returns-in-Ok-clause-any_moment : goal.returns-in-Ok-clause-any_moment
returns-in-Ok-clause-any_moment g c =
    let placed = subst (λ (n : List ℕ). Since (Placing (g.F.Folder.number c.in_ok-file.file) n c.args.name.now c.args.bytes.now) (IsPlacedWhole (g.F.Folder.number c.in_ok-file.file) n c.args.name.now c.args.bytes.now) (g.F.Folder.history c.new_beside.new.folder) (g.F.Folder.history c.write_and_rename.new.folder)) c.as_str.ensures.value c.in-Ok.ensures.ok in
    let write_and_rename = made_and (string_bytes c.in_ok-file.beside) (g.F.Folder.number c.in_ok-file.file) c.args.name.now c.args.bytes.now c.in_ok-file.ensures.beside c.requires (IsPlacedWhole (g.F.Folder.number c.in_ok-file.file) (string_bytes c.in_ok-file.beside) c.args.name.now c.args.bytes.now) (g.F.Folder.history c.args.folder.now) (g.F.Folder.history c.new_beside.new.folder) (g.F.Folder.history c.write_and_rename.new.folder) c.in_ok-file.ensures.ok placed in
    either_way (Since (BeforeOrAfter c.args.name.now c.args.bytes.now) Anything (g.F.Folder.history c.args.folder.now) (g.F.Folder.history c.sync_folder.new.self)) c.sync_folder.result
    (on_ok_weaker c.sync_folder.result (λ goes. each_moment c.args.name.now c.args.bytes.now (Replaced c.args.name.now c.args.bytes.now) (g.F.Folder.history c.args.folder.now) (g.F.Folder.history c.sync_folder.new.self) (folder_synced (string_bytes c.in_ok-file.beside) (g.F.Folder.number c.in_ok-file.file) c.args.name.now c.args.bytes.now c.in_ok-file.ensures.beside c.requires (g.F.Folder.history c.args.folder.now) (g.F.Folder.history c.write_and_rename.new.folder) (g.F.Folder.history c.sync_folder.new.self) write_and_rename goes)) c.sync_folder.ensures.ok)
    (IfErr-weaker c.sync_folder.result _ _ (λ error goes. each_moment c.args.name.now c.args.bytes.now (GivenUp error) (g.F.Folder.history c.args.folder.now) (g.F.Folder.history c.sync_folder.new.self) (folder_not_synced (string_bytes c.in_ok-file.beside) (g.F.Folder.number c.in_ok-file.file) c.args.name.now c.args.bytes.now c.in_ok-file.ensures.beside c.requires error (g.F.Folder.history c.args.folder.now) (g.F.Folder.history c.write_and_rename.new.folder) (g.F.Folder.history c.sync_folder.new.self) write_and_rename goes)) c.sync_folder.ensures.err)

pub returns-in-Ok-clause-done : goal.returns-in-Ok-clause-done
returns-in-Ok-clause-done g c =
    let placed = subst (λ (n : List ℕ). Since (Placing (g.F.Folder.number c.in_ok-file.file) n c.args.name.now c.args.bytes.now) (IsPlacedWhole (g.F.Folder.number c.in_ok-file.file) n c.args.name.now c.args.bytes.now) (g.F.Folder.history c.new_beside.new.folder) (g.F.Folder.history c.write_and_rename.new.folder)) c.as_str.ensures.value c.in-Ok.ensures.ok in
    let write_and_rename = made_and (string_bytes c.in_ok-file.beside) (g.F.Folder.number c.in_ok-file.file) c.args.name.now c.args.bytes.now c.in_ok-file.ensures.beside c.requires (IsPlacedWhole (g.F.Folder.number c.in_ok-file.file) (string_bytes c.in_ok-file.beside) c.args.name.now c.args.bytes.now) (g.F.Folder.history c.args.folder.now) (g.F.Folder.history c.new_beside.new.folder) (g.F.Folder.history c.write_and_rename.new.folder) c.in_ok-file.ensures.ok placed in
    on_ok_weaker c.sync_folder.result (λ goes. at_last c.args.name.now c.args.bytes.now (Replaced c.args.name.now c.args.bytes.now) (g.F.Folder.history c.args.folder.now) (g.F.Folder.history c.sync_folder.new.self) (folder_synced (string_bytes c.in_ok-file.beside) (g.F.Folder.number c.in_ok-file.file) c.args.name.now c.args.bytes.now c.in_ok-file.ensures.beside c.requires (g.F.Folder.history c.args.folder.now) (g.F.Folder.history c.write_and_rename.new.folder) (g.F.Folder.history c.sync_folder.new.self) write_and_rename goes)) c.sync_folder.ensures.ok

pub returns-in-Ok-clause-cause : goal.returns-in-Ok-clause-cause
returns-in-Ok-clause-cause g c =
    let placed = subst (λ (n : List ℕ). Since (Placing (g.F.Folder.number c.in_ok-file.file) n c.args.name.now c.args.bytes.now) (IsPlacedWhole (g.F.Folder.number c.in_ok-file.file) n c.args.name.now c.args.bytes.now) (g.F.Folder.history c.new_beside.new.folder) (g.F.Folder.history c.write_and_rename.new.folder)) c.as_str.ensures.value c.in-Ok.ensures.ok in
    let write_and_rename = made_and (string_bytes c.in_ok-file.beside) (g.F.Folder.number c.in_ok-file.file) c.args.name.now c.args.bytes.now c.in_ok-file.ensures.beside c.requires (IsPlacedWhole (g.F.Folder.number c.in_ok-file.file) (string_bytes c.in_ok-file.beside) c.args.name.now c.args.bytes.now) (g.F.Folder.history c.args.folder.now) (g.F.Folder.history c.new_beside.new.folder) (g.F.Folder.history c.write_and_rename.new.folder) c.in_ok-file.ensures.ok placed in
    IfErr-weaker c.sync_folder.result _ _ (λ error goes. at_last c.args.name.now c.args.bytes.now (GivenUp error) (g.F.Folder.history c.args.folder.now) (g.F.Folder.history c.sync_folder.new.self) (folder_not_synced (string_bytes c.in_ok-file.beside) (g.F.Folder.number c.in_ok-file.file) c.args.name.now c.args.bytes.now c.in_ok-file.ensures.beside c.requires error (g.F.Folder.history c.args.folder.now) (g.F.Folder.history c.write_and_rename.new.folder) (g.F.Folder.history c.sync_folder.new.self) write_and_rename goes)) c.sync_folder.ensures.err

pub returns-clause-any_moment : goal.returns-clause-any_moment
returns-clause-any_moment g c =
    let failed = subst (λ (n : List ℕ). Since (Placing (g.F.Folder.number c.in_ok-file.file) n c.args.name.now c.args.bytes.now) (PlacingFails (g.F.Folder.number c.in_ok-file.file) n c.args.name.now c.args.bytes.now c.in-Err.why) (g.F.Folder.history c.new_beside.new.folder) (g.F.Folder.history c.write_and_rename.new.folder)) c.as_str.ensures.value c.in-Err.ensures.err in
    let write_and_rename = made_and (string_bytes c.in_ok-file.beside) (g.F.Folder.number c.in_ok-file.file) c.args.name.now c.args.bytes.now c.in_ok-file.ensures.beside c.requires (PlacingFails (g.F.Folder.number c.in_ok-file.file) (string_bytes c.in_ok-file.beside) c.args.name.now c.args.bytes.now c.in-Err.why) (g.F.Folder.history c.args.folder.now) (g.F.Folder.history c.new_beside.new.folder) (g.F.Folder.history c.write_and_rename.new.folder) c.in_ok-file.ensures.ok failed in
    either_way (Since (BeforeOrAfter c.args.name.now c.args.bytes.now) Anything (g.F.Folder.history c.args.folder.now) (g.F.Folder.history c.remove.new.self)) c.remove.result
    (on_ok_weaker c.remove.result (λ goes. each_moment c.args.name.now c.args.bytes.now (GivenUp c.in-Err.why) (g.F.Folder.history c.args.folder.now) (g.F.Folder.history c.remove.new.self) (cleared_well (string_bytes c.in_ok-file.beside) (g.F.Folder.number c.in_ok-file.file) c.args.name.now c.args.bytes.now c.in_ok-file.ensures.beside c.requires c.in-Err.why c.as_str-in-Err.result.now c.as_str-in-Err.ensures.value (g.F.Folder.history c.args.folder.now) (g.F.Folder.history c.write_and_rename.new.folder) (g.F.Folder.history c.remove.new.self) write_and_rename goes)) c.remove.ensures.ok)
    (IfErr-weaker c.remove.result _ _ (λ why goes. each_moment c.args.name.now c.args.bytes.now (GivenUp c.in-Err.why) (g.F.Folder.history c.args.folder.now) (g.F.Folder.history c.remove.new.self) (cleared_not (string_bytes c.in_ok-file.beside) (g.F.Folder.number c.in_ok-file.file) c.args.name.now c.args.bytes.now c.in_ok-file.ensures.beside c.requires c.in-Err.why why c.as_str-in-Err.result.now c.as_str-in-Err.ensures.value (g.F.Folder.history c.args.folder.now) (g.F.Folder.history c.write_and_rename.new.folder) (g.F.Folder.history c.remove.new.self) write_and_rename goes)) c.remove.ensures.err)

pub returns-clause-cause : goal.returns-clause-cause
returns-clause-cause g c =
    let failed = subst (λ (n : List ℕ). Since (Placing (g.F.Folder.number c.in_ok-file.file) n c.args.name.now c.args.bytes.now) (PlacingFails (g.F.Folder.number c.in_ok-file.file) n c.args.name.now c.args.bytes.now c.in-Err.why) (g.F.Folder.history c.new_beside.new.folder) (g.F.Folder.history c.write_and_rename.new.folder)) c.as_str.ensures.value c.in-Err.ensures.err in
    let write_and_rename = made_and (string_bytes c.in_ok-file.beside) (g.F.Folder.number c.in_ok-file.file) c.args.name.now c.args.bytes.now c.in_ok-file.ensures.beside c.requires (PlacingFails (g.F.Folder.number c.in_ok-file.file) (string_bytes c.in_ok-file.beside) c.args.name.now c.args.bytes.now c.in-Err.why) (g.F.Folder.history c.args.folder.now) (g.F.Folder.history c.new_beside.new.folder) (g.F.Folder.history c.write_and_rename.new.folder) c.in_ok-file.ensures.ok failed in
    either_way (Since Anything (GivenUp c.in-Err.why) (g.F.Folder.history c.args.folder.now) (g.F.Folder.history c.remove.new.self)) c.remove.result
    (on_ok_weaker c.remove.result (λ goes. at_last c.args.name.now c.args.bytes.now (GivenUp c.in-Err.why) (g.F.Folder.history c.args.folder.now) (g.F.Folder.history c.remove.new.self) (cleared_well (string_bytes c.in_ok-file.beside) (g.F.Folder.number c.in_ok-file.file) c.args.name.now c.args.bytes.now c.in_ok-file.ensures.beside c.requires c.in-Err.why c.as_str-in-Err.result.now c.as_str-in-Err.ensures.value (g.F.Folder.history c.args.folder.now) (g.F.Folder.history c.write_and_rename.new.folder) (g.F.Folder.history c.remove.new.self) write_and_rename goes)) c.remove.ensures.ok)
    (IfErr-weaker c.remove.result _ _ (λ why goes. at_last c.args.name.now c.args.bytes.now (GivenUp c.in-Err.why) (g.F.Folder.history c.args.folder.now) (g.F.Folder.history c.remove.new.self) (cleared_not (string_bytes c.in_ok-file.beside) (g.F.Folder.number c.in_ok-file.file) c.args.name.now c.args.bytes.now c.in_ok-file.ensures.beside c.requires c.in-Err.why why c.as_str-in-Err.result.now c.as_str-in-Err.ensures.value (g.F.Folder.history c.args.folder.now) (g.F.Folder.history c.write_and_rename.new.folder) (g.F.Folder.history c.remove.new.self) write_and_rename goes)) c.remove.ensures.err)
