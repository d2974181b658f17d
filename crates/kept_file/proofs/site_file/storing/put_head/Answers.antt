use Rattle.std.proofs.Common.{◌++◌}
use Rattle.std.specs.Int.{w16, w32}
use Rattle.byte_fields.specs.Fields.{number_spelling}
use Rattle.byte_fields.proofs.Appended.{Appends-after, append_both}
use Rattle.texts.specs.SiteFiles.{site_tag}
use Rattle.kept_file.proofs.site_file.storing.put_head.Goals as goal

pub returns : goal.returns
returns c =
    let old = c.args.out.now.items in
    let text = number_spelling w16 c.args.text in
    let site = number_spelling w16 c.args.site in
    let count = number_spelling w32 c.args.count in
    let tagged = c.extend_from_slice.new.self.items in
    let one = append_both old tagged c.put_u16.new.out.items site_tag text c.in_ok-extend_from_slice.ensures.items
    c.in_ok-put_u16.ensures in
    let two = append_both old c.put_u16.new.out.items c.put_u16-2.new.out.items (site_tag ++ text) site one
    c.in_ok-put_u16-2.ensures in
    Appends-after c.put_u32.result old c.put_u16-2.new.out.items c.put_u32.new.out.items (site_tag ++ text ++ site) count two
    c.put_u32.ensures
