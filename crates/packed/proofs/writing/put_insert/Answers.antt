use Rattle.std.proofs.Common.{◌++◌}
use Rattle.byte_fields.proofs.Appended.{Appends-after, append_both}
use Rattle.packed.specs.Spelling.{looks_lead, place_lead, bytes_spelling}
use Rattle.packed.proofs.writing.put_insert.Goals as goal

pub returns : goal.returns
returns c =
    let old = c.args.out.now.items in
    let e = c.args.expected.now in
    let looks = looks_lead e.looks c.args.looks.now in
    let place = place_lead e.caret c.args.cause in
    let two =
    append_both old c.put_looks.new.out.items c.put_place.new.out.items looks place c.in_ok-put_looks.ensures
    c.in_ok-put_place.ensures in
    Appends-after c.put_bytes.result old c.put_place.new.out.items c.put_bytes.new.out.items (looks ++ place)
    (bytes_spelling c.args.in_chunk c.args.bytes.now) two c.put_bytes.ensures
