use Rattle.std.proofs.Common.{◌++◌}
use Rattle.std.specs.Int.{w16}
use Rattle.byte_fields.specs.Fields.{number_spelling}
use Rattle.byte_fields.proofs.Appended.{Appends-after, append_both}
use Rattle.kept_file.specs.PackedFiles.{packed_tag}
use Rattle.kept_file.proofs.packed_file.storing.put_head.Goals as goal

pub returns : goal.returns
returns c =
    let old = c.args.out.now.items in
    let text = number_spelling w16 c.args.text in
    let site = number_spelling w16 c.args.site in
    let one = append_both old c.extend_from_slice.new.self.items c.put_u16.new.out.items packed_tag text
    c.in_ok-extend_from_slice.ensures.items c.in_ok-put_u16.ensures in
    Appends-after c.put_u16-2.result old c.put_u16.new.out.items c.put_u16-2.new.out.items (packed_tag ++ text) site one
    c.put_u16-2.ensures
