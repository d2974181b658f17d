use Rattle.std.proofs.Common.{arith, sym, ◌∙◌}
use Rattle.shelf.proofs.FileNames.{name_told}
use Rattle.shelf.proofs.names.is_file_name.Goals as goal

pub returns : goal.returns
returns c =
    name_told c.args.bytes.now c.are_file_bytes.result
    (λ none. grind (arith, none, c.if-is_empty.false, c.is_empty.ensures)) (grind arith)
    (sym c.is_this_folder.ensures ∙ c.if-is_this_folder.false)
    (sym c.is_folder_above.ensures ∙ c.if-is_folder_above.false)
    c.are_file_bytes.ensures
