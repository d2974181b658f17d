use Rattle.std.proofs.Common.{◌≡◌, ◌++◌, List, ℕ}
use Rattle.std.specs.Int.{w16}
use Rattle.byte_fields.specs.Fields.{number_spelling}
use Rattle.byte_fields.proofs.Appended.{Appends-after}
use Rattle.packed.specs.Spelling.{packed}
use Rattle.kept_file.specs.PackedFiles.{packed_bytes, packed_tag}
use Rattle.kept_file.proofs.packed_file.storing.put_file.Goals as goal

pub returns-clause-bytes : goal.returns-clause-bytes
unfolding packed_bytes
returns-clause-bytes c =
    let r = c.args.replica.now in
    let head : List ℕ = packed_tag ++ number_spelling w16 r.text ++ number_spelling w16 r.site in
    let one : c.put_head.new.out.items ≡ c.args.out.now.items ++ head =
    cc (
      c.in_ok-put_head.ensures,
      c.get-text.ensures.value,
      c.get-site.ensures.value,
      c.text.ensures,
      c.site.ensures,
    ) in
    Appends-after c.put_operations.result c.args.out.now.items c.put_head.new.out.items c.put_operations.new.out.items head
    (packed r.operations) one c.put_operations.ensures.packed
