use Rattle.std.specs.Int.{w16}
use Rattle.byte_fields.specs.Fields.{number_spelling}
use Rattle.byte_fields.proofs.Appended.{Appends-after, extended}
use Rattle.note_entries.specs.Bytes.{hash_bytes}
use Rattle.note_bodies.proofs.writing.put_on.Goals as goal

pub returns-clause-put : goal.returns-clause-put
returns-clause-put c =
    let hash = hash_bytes c.args.on.now.hash in
    Appends-after c.extend_from_slice.result c.args.out.now.items c.put_u16.new.out.items c.extend_from_slice.new.self.items
    (number_spelling w16 c.args.on.now.index) hash c.in_ok-put_u16.ensures
    (extended c.extend_from_slice.result c.put_u16.new.out.items c.extend_from_slice.new.self.items c.bytes.result hash
    c.bytes.ensures.value c.extend_from_slice.ensures.items)
