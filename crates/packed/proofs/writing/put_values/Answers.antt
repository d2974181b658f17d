use Rattle.std.proofs.Common.{◌≡◌, ◌∷◌, ◌++◌, []}
use Rattle.looks.specs.Sel.{bits_of}
use Rattle.byte_fields.proofs.Appended.{Appends-after, append_both}
use Rattle.operations.specs.Spelling.{selected_spelling}
use Rattle.packed.specs.Sets.{packed_set}
use Rattle.packed.proofs.writing.put_values.Goals as goal

pub returns : goal.returns
returns c =
    let old = c.args.out.now.items in
    let sel = bits_of c.args.sel ∷ [] in
    let selected = selected_spelling c.args.sel c.args.looks.now in
    let one : c.push.new.self.items ≡ old ++ sel = cc (c.in_ok-push.ensures.items, c.bits.ensures.value) in
    let two =
    append_both old c.push.new.self.items c.put_selected.new.out.items sel selected one
    c.in_ok-put_selected.ensures in
    Appends-after c.put_set.result old c.put_selected.new.out.items c.put_set.new.out.items (sel
    ++ selected) (packed_set c.args.names.now) two c.put_set.ensures
