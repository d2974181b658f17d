use Rattle.std.proofs.Common.{◌≡◌, ◌++◌, ap, ◌∙◌}
use Rattle.byte_fields.proofs.Appended.{Appends-after}
use Rattle.operations.specs.Spelling.{header_spelling, kind_spelling, kind_byte}
use Rattle.operations.proofs.writing.put_op.Goals as goal

pub returns : goal.returns
returns c =
    let op = c.args.op.now in
    let header = header_spelling (kind_byte op.kind) op.text op.site op.seq op.stamp in
    let number : c.number.result ≡ kind_byte op.kind = c.number.ensures ∙ ap kind_byte c.kind.ensures in
    let with_header : c.put_header.new.out.items ≡ c.args.out.now.items ++ header =
    cc (
      c.in_ok-put_header.ensures,
      c.get-text.ensures.value,
      c.get-site.ensures.value,
      c.text.ensures,
      c.site.ensures,
      c.seq.ensures,
      c.stamp.ensures,
    ) in
    Appends-after c.put_kind.result c.args.out.now.items c.put_header.new.out.items c.put_kind.new.out.items
    header (kind_spelling op.kind) with_header c.put_kind.ensures
