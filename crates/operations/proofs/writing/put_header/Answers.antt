use Rattle.std.proofs.Common.{◌++◌}
use Rattle.std.specs.Int.{w16, w32, w64}
use Rattle.byte_fields.proofs.Appended.{Appends-after, append_both}
use Rattle.byte_fields.specs.Fields.{number_spelling}
use Rattle.operations.specs.Spelling.{tag_spelling}
use Rattle.operations.proofs.writing.put_header.Goals as goal

pub returns : goal.returns
returns c =
    let old = c.args.out.now.items in
    let tag = tag_spelling c.args.kind in
    let text = number_spelling w16 c.args.text in
    let site = number_spelling w16 c.args.site in
    let seq = number_spelling w32 c.args.seq in
    let stamp = number_spelling w64 c.args.stamp in
    let two =
    append_both old c.put_tag.new.out.items c.put_u16.new.out.items tag text c.in_ok-put_tag.ensures
    c.in_ok-put_u16.ensures in
    let three = append_both old c.put_u16.new.out.items c.put_u16-2.new.out.items (tag ++ text) site two
    c.in_ok-put_u16-2.ensures in
    let four = append_both old c.put_u16-2.new.out.items c.put_u32.new.out.items (tag ++ text ++ site) seq
    three c.in_ok-put_u32.ensures in
    Appends-after c.put_u64.result old c.put_u32.new.out.items c.put_u64.new.out.items (tag ++ text ++ site
    ++ seq) stamp four c.put_u64.ensures
